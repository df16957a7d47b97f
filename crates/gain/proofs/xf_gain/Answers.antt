use Rattle.gain.specs.Gain.{crossfade_gain}
use Rattle.gain.proofs.xf_gain.Goals as goal

pub returns-in-None : goal.returns-in-None
unfolding crossfade_gain
returns-in-None c = rw c.in-None.is

pub returns-in-Some : goal.returns-in-Some
unfolding crossfade_gain
returns-in-Some c = rw (c.in-Some.is, c.fade_out.ensures, c.fade_in.ensures, c.u32_to_f32-v.ensures)
