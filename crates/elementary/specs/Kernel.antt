-- What the program computes, in doubles: the series of 2 ^ r through the 12th power by Horner's rule, and from it 2 ^ y. Definitions only.
use Rattle.std.specs.Prelude.{ℕ, ◌+◌, ◌-◌, ◌*◌, ◌^◌, ◌≤◌, false, cond, T, List, [], ◌∷◌, pos, from_bits, is_nan, Float}
use Rattle.std.specs.Float.{nan, inf, fin, binary64}
use Rattle.std.specs.Float.Ieee.{of_int, to_unsigned, add, sub, mul, neg, lt}
use Rattle.std.specs.Float.Ieee.Positive.{num, den}
use Rattle.exact.specs.Value.{plus}
use Rattle.exact.specs.Narrow.{narrowed}
use Rattle.elementary.specs.Power.{ceil}

unfoldable pub horner_f : Float → Float → List Float → Float
horner_f x p [] = p
horner_f x p (q ∷ qs) = add binary64 p (mul binary64 x (horner_f x q qs))

abbrev pub one : Float
one = from_bits binary64 0x3ff0000000000000

-- (ln 2) ^ k / k! for k from 1 to 12, each to the nearest double
abbrev pub floats : List Float
floats = from_bits binary64 0x3fe62e42fefa39ef ∷ from_bits binary64 0x3fcebfbdff82c58f ∷ from_bits binary64 0x3fac6b08d704a0c0 ∷ from_bits binary64 0x3f83b2ab6fba4e77 ∷ from_bits binary64 0x3f55d87fe78a6731 ∷ from_bits binary64 0x3f2430912f86c787 ∷ from_bits binary64 0x3eeffcbfc588b0c6 ∷ from_bits binary64 0x3eb62c0223a5c824 ∷ from_bits binary64 0x3e7b5253d395e7c4 ∷ from_bits binary64 0x3e3e4cf5158b8eca ∷ from_bits binary64 0x3dfe8cac7351bb25 ∷ from_bits binary64 0x3dbc3bd650fc2986 ∷ []

abbrev pub kernel : Float → Float
kernel x = horner_f x one floats

-- 2 ^ y for a y that is not negative: n is the whole part, and the bits make 2 ^ n
unfoldable pub power_up : Float → Float
power_up y = let n = to_unsigned 64 y in mul binary64 (kernel (sub binary64 y (of_int binary64 (pos n)))) (from_bits binary64 ((n + 1023) * 4503599627370496))

-- 2 ^ -y: n is the least whole number that is not below y, and the bits make 2 ^ -n
unfoldable pub power_down : Float → Float
power_down y = let n = ceil (num y) (den y) in mul binary64 (kernel (sub binary64 (of_int binary64 (pos n)) y)) (from_bits binary64 ((1023 - n) * 4503599627370496))

abbrev pub zero : Float
zero = fin false 0 (pos 0)

-- 2 ^ (factor * x) as a single, with the ends of its range
unfoldable pub power_by : Float → Float → Float → Float → Float
unfolding power_up power_down
power_by factor least most x =
    cond (is_nan x) nan
    (cond (lt x least) zero
    (cond (lt most x) (inf false)
    (cond (lt x zero) (narrowed (power_down (mul binary64 (neg x) factor)))
    (cond (lt zero x) (narrowed (power_up (mul binary64 x factor))) one))))

-- from 0 to t, with no digit below 2 ^ -250
pub record Small (t : ℕ) (y : Float) : Type 0 where
  pub sign : T (plus y)
  pub digits : den y ≤ 2 ^ 250
  pub most : num y ≤ t * den y

-- a factor from 1 to 4, a least argument of -126 and a greatest of 127 at most, each times the factor
pub record Ranged (factor least most : Float) : Type 0 where
  pub sign : T (plus factor)
  pub from : den factor ≤ num factor
  pub to : num factor ≤ 4 * den factor
  pub negative : T (plus (neg least))
  pub bottom : num least * num factor ≤ 126 * (den least * den factor)
  pub positive : T (plus most)
  pub top : num most * num factor ≤ 127 * (den most * den factor)
