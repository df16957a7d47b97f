-- The whole part and the ceiling of a double from 0 to 128, as the program finds them. Assumes nothing.
use Rattle.std.proofs.Common.{◌≡◌, ℕ, ◌*◌, ◌/◌, ◌^◌, ◌<◌, ◌≤◌, true, false, T, pos, sym, ap, ◌∙◌, mul-one, mul-div_cancel, mul-le-mul_right, lit≤, le_trans, le_of_eq, le_of_suc-le-suc, mul_comm, div-lt_iff_lt-mul, arith}
use native.Mathlib.Nat.{div-le_of_le-mul}
use lib.Ieee.{Float, nan, inf, fin, binary64, up, down, to_unsigned, lt}
use lib.Ieee.Positive.{num, den, den_pos, value→cross}
use Rattle.std.specs.Float.{ceil as float_ceil}
use lib.Ieee.Exact.{HasValue}
use lib.Ieee.Back.{round_whole}
use lib.Ieee.Fits.{down_pos}
use Rattle.exact.specs.Integral.{integral, toward_positive}
use Rattle.exact.proofs.Value.{value-plus}
use Rattle.exact.proofs.Library.{ceil_is}
use Rattle.exact.proofs.Integrals.{Short, short-requires, short-trunc, trunc-is}
use Rattle.elementary.specs.Power.{ceil}
use Rattle.elementary.specs.Kernel.{Small}

-- ---- the whole part
quotient-most : (t : ℕ) (y : Float) → Small t y → num y / den y ≤ t
quotient-most t y h = div-le_of_le-mul (den y) (le_trans h.most (le_of_eq (mul_comm t (den y))))

small-short : (y : Float) → Small 128 y → Short binary64 y
small-short y h = record { sign = h.sign; most = lower (num y) (den y) (den_pos y) h.most }
  where
    lower : (n d : ℕ) → 0 < d → n ≤ 128 * d → n < 2 ^ 52 * d
    lower n d D h = omega arith

pub small-requires : (y : Float) → Small 128 y → T (lt (fin true 1 (pos 0)) y) × T (lt y (fin false 1 (pos 64)))
small-requires y h = short-requires binary64 y (small-short y h)

pub small-trunc : (y : Float) → Small 128 y → to_unsigned 64 y ≡ num y / den y
small-trunc y h = short-trunc binary64 y (small-short y h)

pub trunc-most : (n : ℕ) (y : Float) → Small 128 y → n ≡ to_unsigned 64 y → n ≤ 128
trunc-most n y h e = le_trans (le_of_eq (e ∙ small-trunc y h)) (quotient-most 128 y h)

-- ---- the ceiling
pub ceil-le : (t a c : ℕ) → 0 < c → a ≤ t * c → ceil a c ≤ t
ceil-le t a c C h = le_of_suc-le-suc ((div-lt_iff_lt-mul C).1 (omega arith))

counted : (w : Float) (n : ℕ) → HasValue w false n 1 → n ≤ 128 → to_unsigned 64 w ≡ n
counted w n v h =
    let c : num w * 1 ≡ n * den w = value→cross w n 1 v in
    let k : n * den w ≤ 128 * den w = mul-le-mul_right (den w) h in
    trunc-is w (value-plus w n 1 v) (omega (arith, c, k, den_pos w)) ∙ ap (λ (z : ℕ). z / den w) (sym (mul-one (num w)) ∙ c) ∙ mul-div_cancel n (den_pos w)

-- the least whole number from y on, as a double and as an integer
rounded-up : (y : Float) → Small 128 y → to_unsigned 64 (integral binary64 toward_positive y) ≡ ceil (num y) (den y)
unfolding integral
rounded-up nan h = absurd h.sign
rounded-up (inf s) h = absurd h.sign
rounded-up (fin true m e) h = absurd h.sign
rounded-up (fin false m e) h =
    let c : ceil (m * up e) (down e) ≤ 128 = ceil-le 128 (m * up e) (down e) (down_pos e) h.most in
    counted _ (ceil (m * up e) (down e)) (round_whole binary64 false (ceil (m * up e) (down e)) (le_trans c (lit≤ tt))) c

pub ceiling-is : (y : Float) → Small 128 y → to_unsigned 64 (float_ceil binary64 y) ≡ ceil (num y) (den y)
ceiling-is y h = ap (to_unsigned 64) (ceil_is binary64 y) ∙ rounded-up y h
