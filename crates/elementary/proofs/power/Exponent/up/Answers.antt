use Rattle.std.proofs.Common.{le_trans, arith, lit≤}
use lib.Ieee.{binary64}
use Rattle.exact.proofs.Integrals.{whole_float}
use Rattle.elementary.specs.Kernel.{power_up}
use Rattle.elementary.proofs.Whole.{small-requires, trunc-most}
use Rattle.elementary.proofs.power.Exponent.up.Goals as goal

pub truncating_f64_to_u64-n-requires : goal.truncating_f64_to_u64-n-requires
truncating_f64_to_u64-n-requires c = let both = small-requires c.args.self.y c.args.self.small in record { lower_bound = both.0; upper_bound = both.1 }

pub int_to_float-whole : goal.int_to_float-whole
int_to_float-whole c = whole_float binary64 c.truncating_f64_to_u64-n.result (le_trans (trunc-most c.truncating_f64_to_u64-n.result c.args.self.y c.args.self.small c.truncating_f64_to_u64-n.ensures) (lit≤ tt))

pub overflow_add-n : goal.overflow_add-n
overflow_add-n c = omega (arith, trunc-most c.truncating_f64_to_u64-n.result c.args.self.y c.args.self.small c.truncating_f64_to_u64-n.ensures)

pub scale-requires : goal.scale-requires
scale-requires c = record { least = omega (arith, trunc-most c.truncating_f64_to_u64-n.result c.args.self.y c.args.self.small c.truncating_f64_to_u64-n.ensures); most = omega (arith, trunc-most c.truncating_f64_to_u64-n.result c.args.self.y c.args.self.small c.truncating_f64_to_u64-n.ensures) }

pub returns : goal.returns
unfolding power_up
returns c = rw (c.series.ensures, c.scale.ensures, c.truncating_f64_to_u64-n.ensures)
