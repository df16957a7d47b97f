use Rattle.std.proofs.Common.{ap, ◌∙◌, rules}
use lib.Ieee.{Float, binary64, eq, sub}
use Rattle.interp.specs.Position.{is_whole, first}
use Rattle.interp.proofs.Floor.{whole-by-index}
use Rattle.interp.proofs.position.is_whole.Goals as goal

pub returns : goal.returns
unfolding is_whole
returns c = let p = c.args.p in ap (λ (w : Float). eq (sub binary64 p w) first) c.whole.ensures ∙ whole-by-index p (search rules) c.requires
