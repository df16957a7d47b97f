use Rattle.player.specs.Start.{gain_of}
use Rattle.player.proofs.start.gain_of.Goals as goal

pub returns : goal.returns
unfolding gain_of
returns c = rw (c.xf_gain.ensures, c.velocity_gain.ensures, c.pow10.ensures.0, c.volume_of-v.ensures)
