-- Sine and cosine: the power series of 01, through the powers 31 and 30, and what `sin` and `cos` promise. Definitions only.
use Rattle.std.specs.Prelude.{◌≡◌, ℕ, zero, suc, ◌+◌, ◌*◌, ◌^◌, ◌≤◌, true, false, List, [], ◌∷◌, from_bits, Float}
use Rattle.std.specs.Float.{nan, inf, fin, binary64}
use Rattle.std.specs.Float.Ieee.{up, down, sub, mul}
use Rattle.std.specs.Float.Ieee.Positive.{num, den}
use Rattle.elementary.specs.Fraction.{Frac, over, plus_q, times_q, LeQ}
use Rattle.elementary.specs.Power.{fact}
use Rattle.elementary.specs.Kernel.{horner_f, one}

-- x ^ k / k!
unfoldable pub term : ℕ → Frac → Frac
unfolding fact
term k x = over (x.top ^ k) (x.bot ^ k * fact k)

-- the sum of n terms from the k-th on, every fourth one
unfoldable pub terms : ℕ → ℕ → Frac → Frac
unfolding term
terms k zero x = over 0 1
terms k (suc n) x = plus_q (term k x) (terms (k + 4) n x)

-- The series x ^ k / k! - x ^ (k + 2) / (k + 2)! + x ^ (k + 4) / (k + 4)! - .. - x ^ (k + 30) / (k + 30)!: the sum of the terms with a plus, less
-- the sum of those with a minus. With k = 1 it is the sine's, through the power 31, and with k = 0 the cosine's, through the power 30.
abbrev pub plus_terms : ℕ → Frac → Frac
plus_terms k x = terms k 8 x

abbrev pub minus_terms : ℕ → Frac → Frac
minus_terms k x = terms (k + 2) 8 x

-- the float r, of either sign, is not above p - n
abbrev pub NotAbove : Frac → Frac → Float → Type 0
NotAbove p n nan = ⊥
NotAbove p n (inf s) = ⊥
NotAbove p n (fin false m e) = LeQ (plus_q (over (m * up e) (down e)) n) p
NotAbove p n (fin true m e) = LeQ n (plus_q (over (m * up e) (down e)) p)

-- and not below it
abbrev pub NotBelow : Frac → Frac → Float → Type 0
NotBelow p n nan = ⊥
NotBelow p n (inf s) = ⊥
NotBelow p n (fin false m e) = LeQ p (plus_q (over (m * up e) (down e)) n)
NotBelow p n (fin true m e) = LeQ (plus_q (over (m * up e) (down e)) p) n

abbrev pub bound : Frac
bound = over 1 4194304

-- r is within the bound of p - n
pub record Absolute (p n : Frac) (r : Float) : Type 0 where
  pub most : NotAbove (plus_q p bound) n r
  pub least : NotBelow p (plus_q n bound) r

-- 1 and the bound more, 1 and the bound less
abbrev pub more : Frac
more = over 4194305 4194304

abbrev pub less : Frac
less = over 4194303 4194304

-- r is within that part of p - n itself
pub record Relative (p n : Frac) (r : Float) : Type 0 where
  pub most : NotAbove (times_q more p) (times_q more n) r
  pub least : NotBelow (times_q less p) (times_q less n) r

-- x is a number from 0 to a / c. Minus zero is one.
abbrev pub FromZero : ℕ → ℕ → Float → Type 0
FromZero a c nan = ⊥
FromZero a c (inf s) = ⊥
FromZero a c (fin false m e) = c * (m * up e) ≤ a * down e
FromZero a c (fin true m e) = m ≡ 0

abbrev pub value : Float → Frac
value x = over (num x) (den x)

-- From 0 to 3.2 the result is within the bound of the series that starts with the k-th power: the rules leave it open there. For every other
-- argument, a NaN among them, it is a NaN.
pub record Trigonometric (k : ℕ) (x r : Float) : Type 0 where
  pub inside : FromZero 16 5 x → Absolute (plus_terms k (value x)) (minus_terms k (value x)) r
  pub outside : (FromZero 16 5 x → ⊥) → r ≡ nan

-- up to 1.5 the sine is within that part of itself
pub record Sine (x r : Float) : Type 0 where
  pub series : Trigonometric 1 x r
  pub part : FromZero 3 2 x → Relative (plus_terms 1 (value x)) (minus_terms 1 (value x)) r

abbrev pub Cosine : Float → Float → Type 0
Cosine x r = Trigonometric 0 x r

-- ---- The coefficients of what the program sums in doubles, by Horner's rule in x ^ 4: 1 / k! of the first terms of each sum, without the very
-- first, which is 1 for a sum with a plus, 1 / 3! for the sine's with a minus and 1 / 2! for the cosine's.
abbrev pub over_six : Float
over_six = from_bits binary64 0x3fc5555555555555

abbrev pub over_two : Float
over_two = from_bits binary64 0x3fe0000000000000

abbrev pub sine_plus : List Float
sine_plus = from_bits binary64 0x3f81111111111111 ∷ from_bits binary64 0x3ec71de3a556c734 ∷ from_bits binary64 0x3de6124613a86d09 ∷ from_bits binary64 0x3ce952c77030ad4a ∷ []

abbrev pub sine_minus : List Float
sine_minus = from_bits binary64 0x3f2a01a01a01a01a ∷ from_bits binary64 0x3e5ae64567f544e4 ∷ from_bits binary64 0x3d6ae7f3e733b81f ∷ []

abbrev pub cosine_plus : List Float
cosine_plus = from_bits binary64 0x3fa5555555555555 ∷ from_bits binary64 0x3efa01a01a01a01a ∷ from_bits binary64 0x3e21eed8eff8d898 ∷ from_bits binary64 0x3d2ae7f3e733b81f ∷ []

abbrev pub cosine_minus : List Float
cosine_minus = from_bits binary64 0x3f56c16c16c16c17 ∷ from_bits binary64 0x3e927e4fb7789f5c ∷ from_bits binary64 0x3da93974a8c07c9d ∷ from_bits binary64 0x3ca6827863b97d97 ∷ []

abbrev pub second : Float → Float
second x = mul binary64 x x

abbrev pub fourth : Float → Float
fourth x = mul binary64 (second x) (second x)

-- the sine divided by x, and the cosine: the sum with a plus, less that with a minus times x ^ 2
abbrev pub sine_sum : Float → Float
sine_sum x = sub binary64 (horner_f (fourth x) one sine_plus) (mul binary64 (second x) (horner_f (fourth x) over_six sine_minus))

abbrev pub cosine_sum : Float → Float
cosine_sum x = sub binary64 (horner_f (fourth x) one cosine_plus) (mul binary64 (second x) (horner_f (fourth x) over_two cosine_minus))
