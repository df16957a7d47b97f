use Rattle.std.proofs.Common.{arith}
use Rattle.interp.proofs.Ceiling.{far, none, near, rounded-up, is_whole}
use Rattle.interp.proofs.sinc.half_taps.Goals as goal

pub returns-then-x : goal.returns-then-x
returns-then-x c = far _ c.if-x.true

pub truncating_f32_to_u64-n-requires : goal.truncating_f32_to_u64-n-requires
truncating_f32_to_u64-n-requires c = let g = near _ c.if-x.false c.if-x-2.true in record { lower_bound = g.above; upper_bound = g.below }

pub overflow_cast-n : goal.overflow_cast-n
overflow_cast-n c = omega (arith, c.truncating_f32_to_u64-n.ensures, (near _ c.if-x.false c.if-x-2.true).small)

pub overflow_add-result : goal.overflow_add-result
overflow_add-result c = omega (arith, c.truncating_f32_to_u64-n.ensures, (near _ c.if-x.false c.if-x-2.true).small)

pub returns-then-n-x : goal.returns-then-n-x
returns-then-n-x c = rounded-up _ _ c.if-x.false c.if-x-2.true c.truncating_f32_to_u64-n.ensures c.if-n-x.true

pub returns-then-x-2 : goal.returns-then-x-2
returns-then-x-2 c = is_whole _ _ c.if-x.false c.if-x-2.true c.truncating_f32_to_u64-n.ensures c.if-n-x.false

pub returns : goal.returns
returns c = none _ c.if-x.false c.if-x-2.false
