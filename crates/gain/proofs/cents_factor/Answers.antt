use Rattle.gain.specs.Gain.{cents_factor}
use Rattle.gain.proofs.cents_factor.Goals as goal

pub returns : goal.returns
unfolding cents_factor
returns c = c.exp2.ensures.0
