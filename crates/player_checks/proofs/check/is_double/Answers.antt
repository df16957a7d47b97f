use Prim.Native.Nat.{◌^◌}
use native.Mathlib.Omega.{arith}
use lib.Dec.{le→leb}
use lib.Ieee.{in_float}
use Rattle.player_checks.proofs.Fits.{told-double}
use Rattle.player_checks.proofs.check.is_double.Goals as goal

pub int_to_float-result : goal.int_to_float-result
unfolding in_float
int_to_float-result c = le→leb c.args.n (2 ^ 53) (omega arith)

pub returns : goal.returns
returns c = told-double c.args.n c.args.x c.well_formed.1.0.1
