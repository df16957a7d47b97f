use Rattle.std.proofs.Common.{◌∙◌, arith, lit≤}
use lib.Ieee.{of_bits}
use lib.Ieee.Casts.{to_unsigned-lt}
use Rattle.exact.proofs.Saturate.{unsigned-high, unsigned-within, unsigned-zero}
use Rattle.exact.proofs.cast.f32_to_u8.Goals as goal

pub returns-then-x : goal.returns-then-x
unfolding of_bits
returns-then-x c = unsigned-high 8 c.args.x c.if-x.true

pub truncating_f32_to_u64-requires : goal.truncating_f32_to_u64-requires
unfolding of_bits
truncating_f32_to_u64-requires c = let both = (unsigned-within 8 c.args.x (lit≤ tt) c.if-x.false c.if-x-2.true).1 in record { lower_bound = both.0; upper_bound = both.1 }

pub overflow_cast-result : goal.overflow_cast-result
unfolding of_bits
overflow_cast-result c = let x = c.args.x in
    omega (arith, c.truncating_f32_to_u64.ensures, (unsigned-within 8 x (lit≤ tt) c.if-x.false c.if-x-2.true).0, to_unsigned-lt 8 x)

pub returns-then-x-2 : goal.returns-then-x-2
unfolding of_bits
returns-then-x-2 c = c.truncating_f32_to_u64.ensures ∙ (unsigned-within 8 c.args.x (lit≤ tt) c.if-x.false c.if-x-2.true).0

pub returns : goal.returns
unfolding of_bits
returns c = unsigned-zero 8 c.args.x c.if-x-2.false
