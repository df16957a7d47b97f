use Rattle.std.proofs.Common.{◌∙◌, lit≤}
use lib.Ieee.{of_bits}
use Rattle.exact.proofs.Saturate.{unsigned-none, unsigned-middle}
use Rattle.exact.proofs.cast.f32_to_usize.Goals as goal

pub returns-then-x : goal.returns-then-x
unfolding of_bits
returns-then-x c = unsigned-none 64 c.args.x c.if-x.true

pub truncating_f32_to_u64-requires : goal.truncating_f32_to_u64-requires
unfolding of_bits
truncating_f32_to_u64-requires c = let both = (unsigned-middle 64 c.args.x (lit≤ tt) c.if-x.false c.if-x-2.true).1 in record { lower_bound = both.0; upper_bound = both.1 }

pub returns-then-x-2 : goal.returns-then-x-2
unfolding of_bits
returns-then-x-2 c = c.truncating_f32_to_u64.ensures ∙ (unsigned-middle 64 c.args.x (lit≤ tt) c.if-x.false c.if-x-2.true).0
