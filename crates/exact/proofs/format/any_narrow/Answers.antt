use Rattle.std.proofs.Common.{arith}
use Rattle.exact.proofs.Narrowing.{small-no-nan, done-minus, done-zero}
use Rattle.exact.proofs.format.any_narrow.Goals as goal

pub float_from_bits-result : goal.float_from_bits-result
float_from_bits-result c = small-no-nan c.narrow_bits.result c.narrow_bits.ensures.1

pub float_from_bits-result-else-bits-lt-SIGN : goal.float_from_bits-result-else-bits-lt-SIGN
float_from_bits-result-else-bits-lt-SIGN c = small-no-nan c.narrow_bits-else-bits-lt-SIGN.result c.narrow_bits-else-bits-lt-SIGN.ensures.1

pub returns-else-bits-lt-SIGN : goal.returns-else-bits-lt-SIGN
returns-else-bits-lt-SIGN c = done-minus c.args.bits c.narrow_bits-else-bits-lt-SIGN.result (omega arith) (omega arith) c.narrow_bits-else-bits-lt-SIGN.ensures.0

pub returns-then-bits-lt-LEAST : goal.returns-then-bits-lt-LEAST
returns-then-bits-lt-LEAST c = (done-zero c.args.bits (omega arith)).0
