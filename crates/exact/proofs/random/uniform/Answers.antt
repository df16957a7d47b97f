use Rattle.std.proofs.Common.{◌/◌, arith}
use lib.Ieee.{of_bits}
use Rattle.exact.specs.Random.{uniform_of}
use Rattle.exact.proofs.Draw.{over-24}
use Rattle.exact.proofs.random.uniform.Goals as goal

pub returns : goal.returns
unfolding of_bits uniform_of
returns c = over-24 (c.args.h / 1099511627776) (omega arith)
