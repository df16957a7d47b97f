use native.Mathlib.Omega.{arith}
use Prim.Native.Nat.{◌^◌}
use lib.Dec.{le→leb}
use lib.Ieee.{in_float}
use Rattle.segments.proofs.Resting.{is-double}
use borrow.Author.Rules.{rules}
use Rattle.segments.proofs.plain.whole_frame.Goals as goal

pub int_to_float-f : goal.int_to_float-f
unfolding in_float
int_to_float-f c = le→leb c.frame_index-f.result (2 ^ 53) (omega (arith, c.frame_index-f.ensures.1))

pub returns-then-pos-f : goal.returns-then-pos-f
returns-then-pos-f c = (omega arith, c.frame_index-f.ensures.1, is-double _ _ (search rules) (omega arith) c.frame_index-f.ensures.1 c.if-pos-f.true)
