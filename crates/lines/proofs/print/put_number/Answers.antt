use mathlib.Core.Path.{ap, ◌∙◌}
use Rattle.lines.specs.Print.{last_digits, digits_of, put}
use Rattle.lines.proofs.print.put_number.Goals as goal

pub returns : goal.returns
unfolding digits_of
returns c = c.put_digits.ensures ∙ ap (λ k. put c.args.out.now c.args.at (last_digits 10 k c.args.n)) c.places.ensures.0
