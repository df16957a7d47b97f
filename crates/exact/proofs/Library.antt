-- What std's methods of floats compute is what the specs here say. Assumes nothing.
use Rattle.std.proofs.Common.{◌≡◌, ℕ, ◌+◌, ◌-◌, ◌/◌, ◌*◌, ◌<◌, true, false, T, refl, ap, ◌∙◌, arith}
use lib.Ieee.{Float, nan, inf, fin, Format, fits, up, down, round, sub}
use lib.Ieee.Fits.{down_pos}
use lib.Ieee.Scale.{finite}
use Rattle.std.specs.Float.{float_is_finite, round_with, trunc, floor, ceil, float_round, fract, ratio_ceil}
use Rattle.exact.specs.Integral.{ceiling, toward_zero, toward_negative, toward_positive, ties_to_away, integral, fraction}
use Rattle.exact.proofs.Integrals.{fraction-done}

pub finite_is : (x : Float) → float_is_finite x ≡ finite x
unfolding float_is_finite
finite_is nan = refl
finite_is (inf s) = refl
finite_is (fin s m e) = refl

-- ---- rounding to a whole number
ceiling_is : (n d : ℕ) → 0 < d → ratio_ceil n d ≡ ceiling n d
ceiling_is n d h = ap (λ (z : ℕ). z / d) (less n d h)
  where
    less : (n d : ℕ) → 0 < d → n + d - 1 ≡ n + (d - 1)
    less n d h = omega arith

pub cut_is : (f : Format) (x : Float) → trunc f x ≡ integral f toward_zero x
unfolding round_with integral
cut_is f nan = refl
cut_is f (inf s) = refl
cut_is f (fin true m e) = refl
cut_is f (fin false m e) = refl

pub floor_is : (f : Format) (x : Float) → floor f x ≡ integral f toward_negative x
unfolding round_with integral
floor_is f nan = refl
floor_is f (inf s) = refl
floor_is f (fin true m e) = ap (λ (n : ℕ). round f true n 1) (ceiling_is (m * up e) (down e) (down_pos e))
floor_is f (fin false m e) = refl

pub ceil_is : (f : Format) (x : Float) → ceil f x ≡ integral f toward_positive x
unfolding round_with integral
ceil_is f nan = refl
ceil_is f (inf s) = refl
ceil_is f (fin true m e) = refl
ceil_is f (fin false m e) = ap (λ (n : ℕ). round f false n 1) (ceiling_is (m * up e) (down e) (down_pos e))

pub round_is : (f : Format) (x : Float) → float_round f x ≡ integral f ties_to_away x
unfolding round_with integral
round_is f nan = refl
round_is f (inf s) = refl
round_is f (fin true m e) = refl
round_is f (fin false m e) = refl

pub fract_is : (f : Format) (x : Float) → T (fits f x) → fract f x ≡ fraction f x
fract_is f x t = ap (λ (v : Float). sub f x v) (cut_is f x) ∙ fraction-done f x t
