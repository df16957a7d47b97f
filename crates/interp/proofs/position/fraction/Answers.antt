use Rattle.std.proofs.Common.{ap, ◌∙◌, rules}
use lib.Ieee.{Float, binary64, add, sub}
use Rattle.exact.specs.Narrow.{narrowed}
use Rattle.interp.specs.Position.{fraction, first}
use Rattle.interp.proofs.Fraction.{behind}
use Rattle.interp.proofs.position.fraction.Goals as goal

pub returns : goal.returns
unfolding fraction
returns c = let p = c.args.p in
    c.narrow.ensures
    ∙ ap (λ (w : Float). narrowed (sub binary64 (add binary64 p first) w)) c.whole.ensures
    ∙ ap narrowed (behind p (search rules) c.requires)
