-- A number rounded to a whole number, by the test of its size: below one, and where every float is a whole number. Assumes nothing.
use Rattle.std.proofs.Common.{◌≡◌, ℕ, suc, ◌-◌, ◌^◌, ◌+◌, ◌*◌, ◌/◌, ◌<◌, ◌≤◌, Bool, true, false, not, T, ltb, pos, negsuc, sym, refl, ap, ◌∙◌, subst, true≢false, le_of_eq, lt_of_lt_of_le, pow-suc, div-one, mul-le-mul_right, arith, ltb→lt, nltb→le, pow_pos}
use Rattle.std.proofs.Math.Nat.{div-eq_of_lt, div-eq_of_lt-le}
use Rattle.std.specs.Float.{float_with_sign, is_sign_negative}
use lib.Ieee.{Float, nan, inf, fin, Format, binary32, binary64, prec, up, down, round, lt, is_nan, fits, sub}
use lib.Ieee.Fits.{down_pos, round-fits}
use lib.Ieee.Back.{whole_unique}
use Rattle.exact.specs.Integral.{Direction, ceiling, toward_zero, toward_negative, toward_positive, ties_to_away, integral, fraction}
use Rattle.exact.proofs.Integrals.{no, yes, many, held, whole-value, fraction-done}

abbrev pub nought : Float
nought = fin false 0 (pos 0)

abbrev pub one : Float
one = fin false 1 (pos 0)

-- 2^-8
abbrev pub few : Float
few = fin false 1 (negsuc 7)

-- ---- whole numbers next to a fraction below one
under : (n d : ℕ) → ltb (n * 1) (1 * 1 * d) ≡ true → n < d
under n d h = plain n d (ltb→lt (n * 1) (1 * 1 * d) (yes h))
  where
    plain : (n d : ℕ) → n * 1 < 1 * 1 * d → n < d
    plain n d h = omega arith

ceiling-first : (n d : ℕ) → 0 < n → n < d → ceiling n d ≡ 1
ceiling-first n d h k = div-eq_of_lt-le {k = 1} d (omega arith) (omega arith)

ceiling-none : (n d : ℕ) → n ≤ 0 → 0 < d → ceiling n d ≡ 0
ceiling-none n d h k = div-eq_of_lt (omega arith)

far : (n d : ℕ) → n * 256 < 1 * 1 * d → 2 * n + d < 2 * d
far n d h = omega arith

-- ---- as floats
round-none : (f : Format) (s : Bool) → round f s 0 1 ≡ fin s 0 (pos 0)
unfolding round
round-none binary32 true = refl
round-none binary32 false = refl
round-none binary64 true = refl
round-none binary64 false = refl

round-one : (f : Format) (s : Bool) → round f s 1 1 ≡ fin s 1 (pos 0)
unfolding round
round-one binary32 true = refl
round-one binary32 false = refl
round-one binary64 true = refl
round-one binary64 false = refl

to-none : (f : Format) (s t : Bool) (n : ℕ) → t ≡ s → n ≡ 0 → fin s 0 (pos 0) ≡ round f t n 1
to-none f s t n e z = ap (λ (b : Bool). fin b 0 (pos 0)) (sym e) ∙ sym (ap (λ (k : ℕ). round f t k 1) z ∙ round-none f t)

to-one : (f : Format) (s t : Bool) (n : ℕ) → t ≡ s → n ≡ 1 → fin s 1 (pos 0) ≡ round f t n 1
to-one f s t n e z = ap (λ (b : Bool). fin b 1 (pos 0)) (sym e) ∙ sym (ap (λ (k : ℕ). round f t k 1) z ∙ round-one f t)

-- ---- by the tests of the code
pub sized-no-nan : (x b : Float) → lt (float_with_sign false x) b ≡ true → T (not (is_nan x))
unfolding lt float_with_sign is_nan
sized-no-nan nan b h = absurd (true≢false (sym h))
sized-no-nan (inf s) b h = tt
sized-no-nan (fin s m e) b h = tt

-- the test of what `x.abs()` gave
pub sized : (x b v : Float) {t : Bool} → v ≡ float_with_sign false x → lt v b ≡ t → lt (float_with_sign false x) b ≡ t
sized x b v {t} e h = subst (λ (w : Float). lt w b ≡ t) e h

pub small-cut : (f : Format) (x : Float) (s : Bool) → lt (float_with_sign false x) one ≡ true → is_sign_negative x ≡ s → fin s 0 (pos 0) ≡ integral f toward_zero x
unfolding lt float_with_sign is_sign_negative integral
small-cut f nan s h n = absurd (true≢false (sym h))
small-cut f (inf t) s h n = absurd (true≢false (sym h))
small-cut f (fin t m e) s h n = to-none f s t (m * up e / down e) n (div-eq_of_lt (under (m * up e) (down e) h))

pub small-fraction : (f : Format) (x : Float) (s : Bool) → T (fits f x) → lt (float_with_sign false x) one ≡ true → is_sign_negative x ≡ s → sub f x (fin s 0 (pos 0)) ≡ fraction f x
small-fraction f x s t h n = ap (λ (v : Float). sub f x v) (small-cut f x s h n) ∙ fraction-done f x t

pub floor-plus : (f : Format) (x : Float) → lt (float_with_sign false x) one ≡ true → is_sign_negative x ≡ false → nought ≡ integral f toward_negative x
unfolding lt float_with_sign is_sign_negative integral
floor-plus f nan h n = absurd (true≢false (sym h))
floor-plus f (inf t) h n = absurd (true≢false (sym h))
floor-plus f (fin true m e) h n = absurd (true≢false n)
floor-plus f (fin false m e) h n = to-none f false false (m * up e / down e) refl (div-eq_of_lt (under (m * up e) (down e) h))

pub floor-minus : (f : Format) (x : Float) → lt (float_with_sign false x) one ≡ true → is_sign_negative x ≡ true → lt x nought ≡ true → fin true 1 (pos 0) ≡ integral f toward_negative x
unfolding lt float_with_sign is_sign_negative integral
floor-minus f nan h n l = absurd (true≢false (sym h))
floor-minus f (inf t) h n l = absurd (true≢false (sym h))
floor-minus f (fin false m e) h n l = absurd (true≢false (sym n))
floor-minus f (fin true m e) h n l = to-one f true true (ceiling (m * up e) (down e)) refl (ceiling-first (m * up e) (down e) (some (m * up e) (down e) (ltb→lt 0 (m * up e * 1 + 0 * 1 * down e) (yes l))) (under (m * up e) (down e) h))
  where
    some : (a d : ℕ) → 0 < a * 1 + 0 * 1 * d → 0 < a
    some a d h = omega arith

pub floor-none : (f : Format) (x : Float) → lt (float_with_sign false x) one ≡ true → is_sign_negative x ≡ true → lt x nought ≡ false → fin true 0 (pos 0) ≡ integral f toward_negative x
unfolding lt float_with_sign is_sign_negative integral
floor-none f nan h n l = absurd (true≢false (sym h))
floor-none f (inf t) h n l = absurd (true≢false (sym h))
floor-none f (fin false m e) h n l = absurd (true≢false (sym n))
floor-none f (fin true m e) h n l = to-none f true true (ceiling (m * up e) (down e)) refl (ceiling-none (m * up e) (down e) (least (m * up e) (down e) (nltb→le 0 (m * up e * 1 + 0 * 1 * down e) (no l))) (down_pos e))
  where
    least : (a d : ℕ) → a * 1 + 0 * 1 * d ≤ 0 → a ≤ 0
    least a d h = omega arith

pub ceil-minus : (f : Format) (x : Float) → lt (float_with_sign false x) one ≡ true → is_sign_negative x ≡ true → fin true 0 (pos 0) ≡ integral f toward_positive x
unfolding lt float_with_sign is_sign_negative integral
ceil-minus f nan h n = absurd (true≢false (sym h))
ceil-minus f (inf t) h n = absurd (true≢false (sym h))
ceil-minus f (fin false m e) h n = absurd (true≢false (sym n))
ceil-minus f (fin true m e) h n = to-none f true true (m * up e / down e) refl (div-eq_of_lt (under (m * up e) (down e) h))

pub ceil-plus : (f : Format) (x : Float) → lt (float_with_sign false x) one ≡ true → is_sign_negative x ≡ false → lt nought x ≡ true → one ≡ integral f toward_positive x
unfolding lt float_with_sign is_sign_negative integral
ceil-plus f nan h n l = absurd (true≢false (sym h))
ceil-plus f (inf t) h n l = absurd (true≢false (sym h))
ceil-plus f (fin true m e) h n l = absurd (true≢false n)
ceil-plus f (fin false m e) h n l = to-one f false false (ceiling (m * up e) (down e)) refl (ceiling-first (m * up e) (down e) (some (m * up e) (down e) (ltb→lt (0 * 1 * down e) (m * up e * 1) (yes l))) (under (m * up e) (down e) h))
  where
    some : (a d : ℕ) → 0 * 1 * d < a * 1 → 0 < a
    some a d h = omega arith

pub ceil-none : (f : Format) (x : Float) → lt (float_with_sign false x) one ≡ true → is_sign_negative x ≡ false → lt nought x ≡ false → nought ≡ integral f toward_positive x
unfolding lt float_with_sign is_sign_negative integral
ceil-none f nan h n l = absurd (true≢false (sym h))
ceil-none f (inf t) h n l = absurd (true≢false (sym h))
ceil-none f (fin true m e) h n l = absurd (true≢false n)
ceil-none f (fin false m e) h n l = to-none f false false (ceiling (m * up e) (down e)) refl (ceiling-none (m * up e) (down e) (least (m * up e) (down e) (nltb→le (0 * 1 * down e) (m * up e * 1) (no l))) (down_pos e))
  where
    least : (a d : ℕ) → a * 1 ≤ 0 * 1 * d → a ≤ 0
    least a d h = omega arith

pub small-round : (f : Format) (x : Float) (s : Bool) → lt (float_with_sign false x) few ≡ true → is_sign_negative x ≡ s → fin s 0 (pos 0) ≡ integral f ties_to_away x
unfolding lt float_with_sign is_sign_negative integral
small-round f nan s h n = absurd (true≢false (sym h))
small-round f (inf t) s h n = absurd (true≢false (sym h))
small-round f (fin t m e) s h n = to-none f s t ((2 * (m * up e) + down e) / (2 * down e)) n (div-eq_of_lt (far (m * up e) (down e) (ltb→lt (m * up e * 256) (1 * 1 * down e) (yes h))))

-- ---- a whole number stays as it is
abbrev pub Keeps : Direction → Type 0
Keeps how = (s : Bool) (n : ℕ) → how s n 1 ≡ n

ceiling-one : (n : ℕ) → ceiling n 1 ≡ n
ceiling-one n = omega arith

pub keeps-zero : Keeps toward_zero
keeps-zero s n = div-one n

pub keeps-positive : Keeps toward_positive
keeps-positive true n = div-one n
keeps-positive false n = ceiling-one n

pub keeps-negative : Keeps toward_negative
keeps-negative true n = ceiling-one n
keeps-negative false n = div-one n

pub keeps-away : Keeps ties_to_away
keeps-away s n = omega arith

whole-self : (f : Format) (s : Bool) (m k : ℕ) → T (fits f (fin s m (pos k))) → round f s (m * 2 ^ k) 1 ≡ fin s m (pos k)
whole-self f s m k t = whole_unique f (round f s (m * 2 ^ k) 1) (fin s m (pos k)) s (m * 2 ^ k) (round-fits f s (m * 2 ^ k) 1) t (whole-value f s m k t) (refl, refl)

integral-self : (f : Format) (how : Direction) → Keeps how → (s : Bool) (m k : ℕ) → T (fits f (fin s m (pos k))) → fin s m (pos k) ≡ integral f how (fin s m (pos k))
unfolding integral
integral-self f how keeps s m k t = sym (ap (λ (n : ℕ). round f s n 1) (keeps s (m * 2 ^ k)) ∙ whole-self f s m k t)

-- ---- from 2 ^ (prec - 1) on a float is a whole number
abbrev pub end : Format → Float
end f = fin false 1 (pos (prec f - 1))

few-digits : (p m q : ℕ) → 1 ≤ q → 1 * p * (q * 2) ≤ m * 1 * 1 → m < p * 2 → ⊥
few-digits p m q Q h l = omega (arith, mul-le-mul_right p Q)

pub large : (f : Format) (how : Direction) → Keeps how → (x : Float) → T (fits f x) → lt (float_with_sign false x) (end f) ≡ false → x ≡ integral f how x
unfolding lt float_with_sign
large f how keeps nan t b = unfold integral in refl
large f how keeps (inf s) t b = unfold integral in refl
large f how keeps (fin s m (pos k)) t b = integral-self f how keeps s m k t
large f how keeps (fin s m (negsuc k)) t b =
    absurd (few-digits (2 ^ (prec f - 1)) m (2 ^ k) (pow_pos k) (subst (λ (z : ℕ). 1 * 2 ^ (prec f - 1) * z ≤ m * 1 * 1) (pow-suc 2 k) (nltb→le (m * 1 * 1) (1 * 2 ^ (prec f - 1) * 2 ^ suc k) (no b))) (lt_of_lt_of_le (held f s m (negsuc k) t).digits (le_of_eq (sym (many f)))))
