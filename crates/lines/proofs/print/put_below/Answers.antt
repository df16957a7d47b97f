use mathlib.Core.List.{◌∷◌}
use Prim.Native.Nat.{◌+◌}
use mathlib.Core.Path.{ap, ◌∙◌}
use native.Mathlib.Omega.{arith}
use lib.ListN.{length, set, length-set}
use lib.Seq.{length-sets}
use Rattle.lines.specs.Print.{last_digits, digits_of, put}
use Rattle.lines.proofs.Printing.{length_digits, sign-no-room, sign-filled}
use Rattle.lines.proofs.print.put_below.Goals.{then-out-at-via-then-out-at, then-out-at-via-else-out-at+then-out-at-2}
use Rattle.lines.proofs.print.put_below.Goals as goal

pub returns-then-out-at : goal.returns-then-out-at
unfolding digits_of
returns-then-out-at c = sign-no-room c.args.out.now (last_digits 10 c.places-k.result c.args.n) c.args.at c.places-k.result (length_digits 10 c.places-k.result c.args.n) (elim c.then-out-at.branch [ then-out-at-via-then-out-at w ↦ omega (arith, w.if-out-at.true) | then-out-at-via-else-out-at+then-out-at-2 w ↦ omega (arith, w.if-out-at.false, w.if-out-at-2.true) ]) ∙ ap (λ k. put c.args.out.now c.args.at (45 ∷ last_digits 10 k c.args.n)) c.places-k.ensures.0

pub fill-requires : goal.fill-requires
fill-requires c = (omega arith, omega arith, simp length-set (omega arith))

pub shape_of-out : goal.shape_of-out
shape_of-out c = ap length c.fill.ensures ∙ length-sets (set c.args.out.now c.args.at 45) (c.args.at + 1) (last_digits 10 c.places-k.result c.args.n) ∙ length-set c.args.out.now c.args.at 45

pub returns : goal.returns
unfolding digits_of
returns c = sign-filled c.args.out.now (last_digits 10 c.places-k.result c.args.n) c.args.at c.places-k.result (length_digits 10 c.places-k.result c.args.n) (omega arith) c.fill.ensures ∙ ap (λ k. put c.args.out.now c.args.at (45 ∷ last_digits 10 k c.args.n)) c.places-k.ensures.0
