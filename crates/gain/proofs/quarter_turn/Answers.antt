use Rattle.gain.specs.Gain.{quarter_turn}
use Rattle.gain.proofs.quarter_turn.Goals as goal

pub returns : goal.returns
unfolding quarter_turn
returns c = rw c.clamp_f32.ensures
