-- What 01, "The seven float functions", demands of log2, each sentence beside its clause, and what the program computes. Definitions only.
use Rattle.std.specs.Prelude.{◌≡◌, ℕ, zero, suc, ◌+◌, ◌-◌, ◌*◌, ◌/◌, ◌%◌, ◌^◌, ◌<◌, ◌≤◌, true, false, cond, ◌||◌, T, List, [], ◌∷◌, from_bits, is_nan, nat_le, nat_lt, to_bits, Float}
use Rattle.std.specs.Float.{nan, inf, fin, binary32, binary64}
use Rattle.std.specs.Float.Ieee.{round, add, sub, mul, div, neg, lt, up, down}
use Rattle.std.specs.Float.Ieee.Positive.{num, den}
use Rattle.exact.specs.Value.{plus}
use Rattle.elementary.specs.Fraction.{Frac}
use Rattle.elementary.specs.Power.{E}
use Rattle.elementary.specs.Kernel.{horner_f, kernel, one}

-- "one part in 131,072"
abbrev pub log2_parts : ℕ
log2_parts = 131072

-- q "is within one part" of x = a / c: q ≤ x + x / 131072 and q ≥ x - x / 131072
pub record PartOf (q : Frac) (a c : ℕ) : Type 0 where
  pub most : q.top * c * log2_parts ≤ a * q.bot * (log2_parts + 1)
  pub least : a * q.bot * (log2_parts - 1) ≤ q.top * c * log2_parts

-- r is finite, and "E of it is within one part" of a / c. The rules leave r open there, so this limits it.
abbrev pub Inverts : ℕ → ℕ → Float → Type 0
Inverts a c nan = ⊥
Inverts a c (inf s) = ⊥
Inverts a c (fin s m e) = PartOf (E s (m * up e) (down e)) a c

abbrev pub Log2 : Float → Float → Type 0
-- "`log2` of a finite positive x"
Log2 (fin false (suc m) e) r = Inverts (suc m * up e) (down e) r
-- "of 0, minus infinity": of both zeros
Log2 (fin s zero e) r = r ≡ inf true
-- "All seven turn not-a-number into itself."
Log2 nan r = r ≡ nan
-- "Arguments named nowhere here give not-a-number": the negative numbers and both infinities
Log2 (fin true (suc m) e) r = r ≡ nan
Log2 (inf s) r = r ≡ nan

-- ---- What the program computes: log2 of the digits of x, a number from 1 to 2, in units of 2 ^ -45, to which the exponent of x is added.
abbrev pub unit : ℕ
unit = 35184372088832

-- 2 / (k * ln 2), to the nearest double, for k = 1 and for the odd k from 3 to 13
abbrev pub twice_log2e : Float
twice_log2e = from_bits binary64 0x40071547652b82fe

abbrev pub log_floats : List Float
log_floats = from_bits binary64 0x3feec709dc3a03fd ∷ from_bits binary64 0x3fe2776c50ef9bfe ∷ from_bits binary64 0x3fda61762a7aded9 ∷ from_bits binary64 0x3fd484b13d7c02a9 ∷ from_bits binary64 0x3fd0c9a84994022d ∷ from_bits binary64 0x3fcc68f568d31760 ∷ []

-- about 128 + log2 m, for an o of 1 or 2: the series of log2 (m / o) in (m - o) / (m + o), and o + 127, which is 128 + log2 o
unfoldable pub log_series : Float → Float → Float
log_series o m = let s = div binary64 (sub binary64 m o) (add binary64 m o) in add binary64 (mul binary64 s (horner_f (mul binary64 s s) twice_log2e log_floats)) (add binary64 o (from_bits binary64 0x405fc00000000000))

-- the units of y past 128, for a y from 128 to 129, where the last digit of a double is one unit: its pattern less that of 128. Every other y has 0.
unfoldable pub units_past128 : Float → ℕ
units_past128 y = let k = to_bits binary64 y - 0x4060000000000000 in cond (is_nan y) 0 (cond (nat_lt k unit) k 0)

-- o is 1 below the square root of 2, and 2 from there on
unfoldable pub guess_of : Float → ℕ
guess_of m = units_past128 (log_series (cond (lt m (from_bits binary64 0x3ff6a09e667f3bcd)) one (from_bits binary64 0x4000000000000000)) m)

-- k / 2 ^ 45, and what the program has for 2 to that power
abbrev pub fixed_at : ℕ → Float
fixed_at k = round binary64 false k unit

abbrev pub power_at : ℕ → Float
power_at k = kernel (fixed_at k)

-- n halvings of the 2 ^ (25 + n) units from k on
unfoldable pub halving : Float → ℕ → ℕ → ℕ
halving m zero k = k
halving m (suc n) k = let i = k + 33554432 * 2 ^ n in halving m n (cond (lt m (power_at i)) k i)

abbrev pub root_of : Float → ℕ
root_of m = halving m 20 0

-- 1 + 2 ^ -26
abbrev pub slack : Float
slack = from_bits binary64 0x3ff0000004000000

-- the guess, where the power there is near m, and else what the halving finds
unfoldable pub fraction_of : Float → ℕ
fraction_of m = let k = guess_of m in cond (lt (mul binary64 m slack) (power_at k) || lt (mul binary64 (power_at k) slack) m) (root_of m) k

-- the single nearest to n - 1023 + k / 2 ^ 45
unfoldable pub nearest_sum : ℕ → ℕ → Float
unfolding round neg
nearest_sum n k = cond (nat_le 1023 n) (round binary32 false ((n - 1023) * unit + k) unit) (neg (round binary32 false ((1023 - n) * unit - k) unit))

-- the exponent's field of a pattern, and the number from 1 to 2 with its digits
abbrev pub exponent_of : ℕ → ℕ
exponent_of b = b / 4503599627370496

abbrev pub mantissa_of : ℕ → Float
mantissa_of b = from_bits binary64 (0x3ff0000000000000 + b % 4503599627370496)

-- log2 of a positive number
unfoldable pub positive_of : Float → Float
positive_of x = let b = to_bits binary64 x in nearest_sum (exponent_of b) (fraction_of (mantissa_of b))

-- from 2 ^ -149 to below 2 ^ 128: the positive numbers that an `f32` holds
pub record Ranged (x : Float) : Type 0 where
  pub sign : T (plus x)
  pub least : den x ≤ num x * 2 ^ 149
  pub most : num x < den x * 2 ^ 128
