use Rattle.std.proofs.Common.{arith}
use Rattle.elementary.proofs.Log2.{sum_below, sum-above}
use Rattle.elementary.proofs.log.nearest_sum.Goals as goal

pub returns-then-n-lt1023 : goal.returns-then-n-lt1023
returns-then-n-lt1023 c = rw (c.narrow.ensures, c.fixed.ensures) (sum_below c.args.n c.args.k (omega arith) (omega arith))

pub returns-else-n-lt1023 : goal.returns-else-n-lt1023
returns-else-n-lt1023 c = rw (c.narrow-else-n-lt1023.ensures, c.fixed-else-n-lt1023.ensures) (sum-above c.args.n c.args.k (omega arith) (omega arith) (omega arith))
