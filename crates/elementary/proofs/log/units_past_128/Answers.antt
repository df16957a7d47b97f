use Rattle.std.proofs.Common.{◌≡◌, true, refl, rules}
use lib.Ieee.{Float, binary64, to_bits, is_nan, ne}
use Rattle.exact.proofs.Narrowing.{differs, no_nan, number, when-nan}
use Rattle.elementary.specs.Logarithm.{units_past128}
use Rattle.elementary.proofs.Root.{past_is, past-none}
use Rattle.elementary.proofs.log.units_past_128.Goals as goal

at-nan : (y : Float) → ne y y ≡ true → 0 ≡ units_past128 y
unfolding units_past128 is_nan
at-nan y h = when-nan (λ (x : Float). 0 ≡ units_past128 x) y h refl

pub returns-then-is_nan : goal.returns-then-is_nan
returns-then-is_nan c = at-nan c.args.y (differs _ c.is_nan.ensures.value c.if-is_nan.true)

pub float_to_bits-y : goal.float_to_bits-y
float_to_bits-y c = no_nan _ (differs _ c.is_nan.ensures.value c.if-is_nan.false)

pub returns-then-k-lt-UNIT : goal.returns-then-k-lt-UNIT
unfolding units_past128
returns-then-k-lt-UNIT c = let y = c.args.y in
    rw (number y (differs _ c.is_nan.ensures.value c.if-is_nan.false)) (past_is (to_bits binary64 y) c.wrapping_sub_u64-k.result c.if-k-lt-UNIT.true c.wrapping_sub_u64-k.ensures.value)

pub returns-else-k-lt-UNIT : goal.returns-else-k-lt-UNIT
unfolding units_past128
returns-else-k-lt-UNIT c = let y = c.args.y in
    rw (number y (differs _ c.is_nan.ensures.value c.if-is_nan.false)) (past-none (to_bits binary64 y) c.wrapping_sub_u64-k.result (search rules) c.if-k-lt-UNIT.false c.wrapping_sub_u64-k.ensures.value)
