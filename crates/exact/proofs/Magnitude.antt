-- The pattern of an `f32` without its sign, and zeros. Assumes nothing.
use Rattle.std.proofs.Common.{◌≡◌, ℕ, zero, suc, ◌+◌, ◌*◌, ◌/◌, ◌%◌, ◌<◌, Bool, true, false, cond, not, T, eqb, leb, ℤ, pos, sym, refl, ap, ◌∙◌, ap₂, zero-mul, arith, true≢false, subst}
use native.Mathlib.Nat.{eq_of_mul-eq-mul_right}
use borrow.Author.Tests.{lt-leb}
use lib.Ieee.{Float, nan, inf, fin, Format, binary32, hid, ones, prec, low, up, down, odd, of_fields, of_bits, to_bits, nan_bits, is_nan, fits, eq, level}
use lib.Ieee.Bits.{of_bits-to_bits, nan_bits_is}
use lib.Ieee.Back.{whole_unique}
use Rattle.exact.specs.Order.{magnitude}

-- ---- the pattern without the sign's bit is that of the value without its sign
magnitude-odd : (d : ℕ) (s : Bool) (q k l : ℕ) → odd d false q k l ≡ magnitude (odd d s q k l)
unfolding odd magnitude
magnitude-odd d s zero k l = refl
magnitude-odd d s (suc q) k l = refl

magnitude-cond : (b : Bool) (x y x' y' : Float) → x ≡ magnitude x' → y ≡ magnitude y' → cond b x y ≡ magnitude (cond b x' y')
magnitude-cond true x y x' y' p q = p
magnitude-cond false x y x' y' p q = q

magnitude-fields : (f : Format) (s : Bool) (x t : ℕ) → of_fields f false x t ≡ magnitude (of_fields f s x t)
unfolding of_fields magnitude
magnitude-fields f s zero t = magnitude-odd (prec f) s t 0 (low f)
magnitude-fields f s (suc x) t =
    magnitude-cond (eqb (suc x) (ones f)) (cond (eqb t 0) (inf false) nan) (odd (prec f) false (hid f + t) x (low f)) (cond (eqb t 0) (inf s) nan) (odd (prec f) s (hid f + t) x (low f))
    (magnitude-cond (eqb t 0) (inf false) nan (inf s) nan refl refl)
    (magnitude-odd (prec f) s (hid f + t) x (low f))

module _ (b : ℕ) where
  no_sign : leb 2147483648 (b % 2147483648) ≡ false
  no_sign = lt-leb 2147483648 (b % 2147483648) (omega arith)

  high : b % 2147483648 % 2147483648 ≡ b % 2147483648
  high = omega arith

  low_bits : b % 2147483648 % 8388608 ≡ b % 8388608
  low_bits = omega arith

  clear : of_bits binary32 (b % 2147483648) ≡ magnitude (of_bits binary32 b)
  unfolding of_bits
  clear = rw (no_sign, high, low_bits) (magnitude-fields binary32 (leb 2147483648 b) (b % 2147483648 / 8388608) (b % 8388608))

  same-nan : nan_bits binary32 (b % 2147483648) ≡ nan_bits binary32 b
  unfolding nan_bits
  same-nan = rw (high, low_bits)

pub cleared : (x : Float) → T (fits binary32 x) → of_bits binary32 (to_bits binary32 x % 2147483648) ≡ magnitude x
cleared x h = clear (to_bits binary32 x) ∙ ap magnitude (of_bits-to_bits binary32 x h)

pub cleared-no-nan : (x : Float) → T (fits binary32 x) → T (not (is_nan x)) → T (not (nan_bits binary32 (to_bits binary32 x % 2147483648)))
cleared-no-nan x h n = rw (same-nan (to_bits binary32 x), nan_bits_is binary32 (to_bits binary32 x), of_bits-to_bits binary32 x h) n

pub magnitude-nan : (x : Float) → is_nan x ≡ true → x ≡ magnitude x
unfolding is_nan magnitude
magnitude-nan nan h = refl
magnitude-nan (inf s) h = absurd (true≢false (sym h))
magnitude-nan (fin s m e) h = absurd (true≢false (sym h))

pub not-nan : (x : Float) → is_nan x ≡ false → T (not (is_nan x))
not-nan x h = subst (λ (b : Bool). T (not b)) (sym h) tt

-- ---- zeros
zero-times : (a c : ℕ) → 0 < c → a * c ≡ 0 → a ≡ 0
zero-times a c C h = eq_of_mul-eq-mul_right c C a 0 (h ∙ sym (zero-mul c))

no-units : (t : Bool) (a d : ℕ) → a ≡ 0 → level t (a * 1) false (0 * d) ≡ true
no-units true a d h = ap₂ (λ (x y : ℕ). level true (x * 1) false y) h (zero-mul d)
no-units false a d h = ap₂ (λ (x y : ℕ). level false (x * 1) false y) h (zero-mul d)

pub equals-zero : (s : Bool) (m : ℕ) (e : ℤ) (c : ℕ) → 0 < c → m * up e * c ≡ 0 → eq (fin s m e) (fin false 0 (pos 0)) ≡ true
unfolding eq
equals-zero s m e c C h = no-units s (m * up e) (down e) (zero-times (m * up e) c C h)

pub zero-form : (s : Bool) (m : ℕ) (e : ℤ) (c : ℕ) → 0 < c → T (fits binary32 (fin s m e)) → m * up e * c ≡ 0 → fin s m e ≡ fin s 0 (pos 0)
unfolding fits
zero-form s m e c C f h =
    let z : m * up e ≡ 0 = zero-times (m * up e) c C h in
    whole_unique binary32 (fin s m e) (fin s 0 (pos 0)) s 0 f tt (refl, ap (λ (x : ℕ). x * 1) z ∙ sym (zero-mul (down e))) (refl, refl)
