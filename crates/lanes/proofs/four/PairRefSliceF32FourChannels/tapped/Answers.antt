use mathlib.Core.Bool.{true, false}
use Rattle.lanes.proofs.four.PairRefSliceF32FourChannels.tapped.Goals as goal

pub frames_of-requires : goal.frames_of-requires
frames_of-requires c = c.requires false

pub frames_of-requires-2 : goal.frames_of-requires-2
frames_of-requires-2 c = c.requires true
