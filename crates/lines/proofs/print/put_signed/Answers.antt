use mathlib.Core.List.{◌∷◌}
use mathlib.Core.Path.{◌∙◌, ap}
use mir.Facts.{to_z-of_z}
use lib.IntN.{nat_abs}
use Rattle.lines.specs.Print.{digits_of, put}
use Rattle.lines.proofs.Printing.{digits_above, digits-below}
use Rattle.lines.proofs.print.put_signed.Goals as goal

pub returns-then-n-lt0 : goal.returns-then-n-lt0
returns-then-n-lt0 c =
    let h = to_z-of_z c.ranges.n in
    c.put_below.ensures ∙ ap (λ m. put c.args.out.now c.args.at (45 ∷ digits_of m)) (c.unsigned_abs-size.ensures.value ∙ ap nat_abs h) ∙ ap (put c.args.out.now c.args.at) (digits-below _ (rw h at c.if-n-lt0.true))

pub returns : goal.returns
returns c =
    let h = to_z-of_z c.ranges.n in
    c.put_number.ensures ∙ ap (λ m. put c.args.out.now c.args.at (digits_of m)) (c.unsigned_abs-size.ensures.value ∙ ap nat_abs h) ∙ ap (put c.args.out.now c.args.at) (digits_above _ (rw h at c.if-n-lt0.false))
