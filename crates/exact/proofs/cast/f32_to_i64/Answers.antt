use Rattle.std.proofs.Common.{T, sym, subst}
use lib.Ieee.{of_bits, neg}
use Rattle.exact.proofs.Saturate.{signed_high, signed-within, signed-under}
use Rattle.exact.proofs.cast.f32_to_i64.Goals as goal

pub returns-then-x : goal.returns-then-x
unfolding of_bits neg
returns-then-x c = signed_high 63 c.args.x c.if-x.true

pub truncating_f32_to_i64-requires : goal.truncating_f32_to_i64-requires
unfolding of_bits neg
truncating_f32_to_i64-requires c = record { lower_bound = subst T (sym c.if-x-2.true) tt; upper_bound = signed-within 63 c.args.x c.if-x.false c.if-x-2.true }

pub returns-then-x-3 : goal.returns-then-x-3
unfolding of_bits neg
returns-then-x-3 c = signed-under 63 c.args.x c.if-x-3.true
