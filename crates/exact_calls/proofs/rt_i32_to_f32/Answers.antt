use mathlib.Core.Path.{ap, ◌∙◌}
use lib.Ieee.{binary32, of_int}
use mir.Facts.{to_z-of_z}
use Rattle.exact_calls.proofs.rt_i32_to_f32.Goals as goal

pub returns : goal.returns
returns c = c.i32_to_f32.ensures ∙ ap (of_int binary32) (to_z-of_z c.ranges.n)
