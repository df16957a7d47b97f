-- The exponent and the digits of a number, from the pattern of its `f64`. Assumes nothing.
use Rattle.std.proofs.Common.{◌≡◌, ℕ, zero, suc, ◌+◌, ◌-◌, ◌*◌, ◌/◌, ◌%◌, ◌^◌, ◌<◌, ◌≤◌, Bool, true, false, cond, not, T, eqb, leb, sym, refl, ap, ◌∙◌, subst, inl, inr, le_trans, le_of_eq, lt_of_lt_of_le, le_of_suc-le-suc, le_of_lt, mul-le-mul_right, mod-lt, mod-eq_of_lt, mul_assoc, mul_comm, mul-le-mul, eq-or-lt_of_le, mul-le-mul_left, mul-lt-mul_of_pos_right, lt_of_not-le, div-add-mod', not-le_of_lt, le_of_mul-le-mul_right, arith, lit<, lit≤, pow_pos, pow_mono, pow-add}
use lib.Dec.{nleb→lt}
use lib.Arith.{lt→nleb, le→nltb}
use lib.Ieee.{Float, nan, inf, binary64, of_bits, to_bits, of_fields, odd, fits, nan_bits}
use lib.Ieee.Exact.{HasValue}
use lib.Ieee.Bits.{is_false, of_bits-to_bits, nan_bits_above}
use lib.Ieee.Positive.{num, den, den_pos, value→cross}
use Rattle.exact.specs.Value.{plus}
use Rattle.exact.proofs.Value.{value-plus}
use Rattle.exact.proofs.Narrowing.{bits-value, bits-value0}
use Rattle.elementary.specs.Logarithm.{Ranged}
use Rattle.elementary.proofs.Root.{Mantissa}
use Rattle.elementary.proofs.Scale.{rescale}

-- ---- a finite pattern without a sign
odd-sign-clear : (d q k l : ℕ) → T (plus (odd d true q k l)) → ⊥
unfolding odd
odd-sign-clear d zero k l h = absurd h
odd-sign-clear d (suc q) k l h = absurd h

cond-none : (b : Bool) (x y : Float) → (T (plus x) → ⊥) → (T (plus y) → ⊥) → T (plus (cond b x y)) → ⊥
cond-none true x y p q h = p h
cond-none false x y p q h = q h

no_sign : (x t : ℕ) → T (plus (of_fields binary64 true x t)) → ⊥
unfolding of_fields
no_sign zero t h = odd-sign-clear 53 t 0 1074 h
no_sign (suc x) t h = cond-none (eqb (suc x) 2047) (cond (eqb t 0) (inf true) nan) (odd 53 true (4503599627370496 + t) x 1074) (cond-none (eqb t 0) (inf true) nan (λ (f : ⊥). f) (λ (f : ⊥). f)) (odd-sign-clear 53 (4503599627370496 + t) x 1074) h

no_ones : (t : ℕ) → T (plus (of_fields binary64 false 2047 t)) → ⊥
unfolding of_fields
no_ones t h = cond-none (eqb t 0) (inf false) nan (λ (f : ⊥). f) (λ (f : ⊥). f) h

sign_clear : (b : ℕ) → T (plus (of_bits binary64 b)) → b < 9223372036854775808
unfolding of_bits
sign_clear b h = go (leb 9223372036854775808 b) (nleb→lt 9223372036854775808 b) h
  where
    go : (s : Bool) → (T (not s) → b < 9223372036854775808) → T (plus (of_fields binary64 s (b % 9223372036854775808 / 4503599627370496) (b % 4503599627370496))) → b < 9223372036854775808
    go true k h = absurd (no_sign (b % 9223372036854775808 / 4503599627370496) (b % 4503599627370496) h)
    go false k h = k tt

by-fields : (b : ℕ) → b < 9223372036854775808 → of_bits binary64 b ≡ of_fields binary64 false (b / 4503599627370496) (b % 4503599627370496)
unfolding of_bits
by-fields b h =
    ap (λ (s : Bool). of_fields binary64 s (b % 9223372036854775808 / 4503599627370496) (b % 4503599627370496)) (is_false (leb 9223372036854775808 b) (lt→nleb 9223372036854775808 b h))
    ∙ ap (λ (y : ℕ). of_fields binary64 false (y / 4503599627370496) (b % 4503599627370496)) (mod-eq_of_lt h)

field-most : (b : ℕ) → T (plus (of_bits binary64 b)) → b / 4503599627370496 ≤ 2046
field-most b h =
    let l = sign_clear b h in
    let m : b / 4503599627370496 ≤ 2047 = omega arith in
    elim (eq-or-lt_of_le m) [
      | inl e ↦ absurd (no_ones (b % 4503599627370496) (subst (λ (n : ℕ). T (plus (of_fields binary64 false n (b % 4503599627370496)))) e (subst (λ (v : Float). T (plus v)) (by-fields b l) h)))
      | inr g ↦ le_of_suc-le-suc g
    ]

-- the digits of x, as a whole number of 53 digits
abbrev pub digits_of : ℕ → ℕ
digits_of b = 4503599627370496 + b % 4503599627370496

low-exponent : (N d M n : ℕ) → 0 < d → M < 2 ^ 53 → N * 2 ^ 1074 ≡ M * 2 ^ n * d → d ≤ N * 2 ^ 149 → 873 ≤ n
low-exponent N d M n D m e h = lt_of_not-le (λ (g : n ≤ 872). bad g)
  where
    reach : (N d a p q : ℕ) → N * p ≡ a * d → d ≤ N * q → p * d ≤ a * q * d
    reach N d a p q e h = omega (arith, mul-le-mul_right p h, ap (λ (z : ℕ). z * q) e)

    bad : n ≤ 872 → ⊥
    bad g =
        let a : 2 ^ 1074 ≤ M * 2 ^ n * 2 ^ 149 = le_of_mul-le-mul_right (reach N d (M * 2 ^ n) (2 ^ 1074) (2 ^ 149) e h) D in
        let b : M * 2 ^ n * 2 ^ 149 < 2 ^ 53 * 2 ^ n * 2 ^ 149 = mul-lt-mul_of_pos_right (mul-lt-mul_of_pos_right m (pow_pos n)) (pow_pos 149) in
        let c : 2 ^ 53 * 2 ^ n * 2 ^ 149 ≤ 2 ^ 53 * 2 ^ 872 * 2 ^ 149 = mul-le-mul_right (2 ^ 149) (mul-le-mul_left (2 ^ 53) (pow_mono g)) in
        not-le_of_lt (lt_of_lt_of_le b c) a

high-exponent : (N d M n : ℕ) → 0 < d → 2 ^ 52 ≤ M → N * 2 ^ 1074 ≡ M * 2 ^ n * d → N < d * 2 ^ 128 → n ≤ 1149
high-exponent N d M n D m e h = le_of_suc-le-suc (lt_of_not-le (λ (g : 1150 ≤ n). bad g))
  where
    bad : 1150 ≤ n → ⊥
    bad g =
        let a : N * 2 ^ 1074 < d * 2 ^ 128 * 2 ^ 1074 = mul-lt-mul_of_pos_right h (pow_pos 1074) in
        let b : 2 ^ 52 * 2 ^ 1150 * d ≤ M * 2 ^ n * d = mul-le-mul_right d (mul-le-mul m (pow_mono g)) in
        let c : d * 2 ^ 128 * 2 ^ 1074 ≤ 2 ^ 52 * 2 ^ 1150 * d = le_of_eq (mul_assoc d (2 ^ 128) (2 ^ 1074) ∙ mul_comm d (2 ^ 1202)) in
        not-le_of_lt (lt_of_lt_of_le a c) (le_trans b (le_of_eq (sym e)))

-- the exponent's field of x and its digits
pub record Parts (x : Float) (b : ℕ) : Type 0 where
  pub low_end : 874 ≤ b / 4503599627370496
  pub high_end : b / 4503599627370496 ≤ 1150
  pub value : HasValue x false (digits_of b * 2 ^ (b / 4503599627370496 - 873)) (2 ^ 202)

module _ (x : Float) (f : T (fits binary64 x)) (r : Ranged x) where
  abbrev b : ℕ
  b = to_bits binary64 x

  back : of_bits binary64 b ≡ x
  back = of_bits-to_bits binary64 x f

  digit : b % 4503599627370496 < 4503599627370496
  digit = mod-lt b (lit< tt)

  at : (n : ℕ) → b / 4503599627370496 ≡ n → of_bits binary64 (n * 4503599627370496 + b % 4503599627370496) ≡ x
  at n e = ap (λ (y : ℕ). of_bits binary64 (y * 4503599627370496 + b % 4503599627370496)) (sym e) ∙ ap (λ (y : ℕ). of_bits binary64 y) (div-add-mod' b 4503599627370496) ∙ back

  field_lt : b / 4503599627370496 ≤ 2046
  field_lt = field-most b (subst (λ (v : Float). T (plus v)) (sym back) r.sign)

  by_field : (n : ℕ) → b / 4503599627370496 ≡ n → Parts x b
  by_field zero e = absurd (no_value (value→cross x (b % 4503599627370496 * 2 ^ 0) (2 ^ 1074) (subst (λ (v : Float). HasValue v false (b % 4503599627370496 * 2 ^ 0) (2 ^ 1074)) (at zero e) (bits-value0 (b % 4503599627370496) digit))))
    where
      no_value : num x * 2 ^ 1074 ≡ b % 4503599627370496 * 2 ^ 0 * den x → ⊥
      no_value e = not-le_of_lt (lit< {m = 0} {n = 873} tt) (low-exponent (num x) (den x) (b % 4503599627370496) 0 (den_pos x) (lt_of_lt_of_le digit (lit≤ tt)) e r.least)
  by_field (suc n) e =
      let M = digits_of b in
      let v : HasValue x false (M * 2 ^ n) (2 ^ 1074) = subst (λ (v : Float). HasValue v false (M * 2 ^ n) (2 ^ 1074)) (at (suc n) e) (bits-value n (b % 4503599627370496) (subst (λ (y : ℕ). y ≤ 2046) e field_lt) digit) in
      let c = value→cross x (M * 2 ^ n) (2 ^ 1074) v in
      let l : 873 ≤ n = low-exponent (num x) (den x) M n (den_pos x) (omega (arith, digit)) c r.least in
      let h : n ≤ 1149 = high-exponent (num x) (den x) M n (den_pos x) (omega arith) c r.most in
      let i : n - 872 + 872 ≡ n = omega arith in
      let p : 2 ^ (n - 872) * 2 ^ 872 ≡ 2 ^ n = sym (pow-add 2 (n - 872) 872) ∙ ap (λ (y : ℕ). 2 ^ y) i in
      let j : n - 872 ≡ b / 4503599627370496 - 873 = omega arith in
      record {
        low_end = omega arith;
        high_end = omega arith;
        value = subst (λ (y : ℕ). HasValue x false (M * 2 ^ y) (2 ^ 202)) j
            (rescale x false (M * 2 ^ n) (2 ^ 1074) (M * 2 ^ (n - 872)) (2 ^ 202) (pow_pos 1074) (turn M (2 ^ (n - 872)) ∙ ap (λ (y : ℕ). M * y * 2 ^ 202) p) v);
      }
    where
      turn : (M q : ℕ) → M * q * 2 ^ 1074 ≡ M * (q * 2 ^ 872) * 2 ^ 202
      turn M q = sym (ap (λ (y : ℕ). y * 2 ^ 202) (sym (mul_assoc M q (2 ^ 872))) ∙ mul_assoc (M * q) (2 ^ 872) (2 ^ 202))

  pub parts : Parts x b
  parts = by_field (b / 4503599627370496) refl

-- the number from 1 to 2 with the digits t
pub mantissa-value : (t : ℕ) → t < 4503599627370496 → HasValue (of_bits binary64 (4607182418800017408 + t)) false (4503599627370496 + t) (2 ^ 52)
mantissa-value t h = rescale (of_bits binary64 (4607182418800017408 + t)) false ((4503599627370496 + t) * 2 ^ 1022) (2 ^ 1074) (4503599627370496 + t) (2 ^ 52) (pow_pos 1074) (sym (mul_assoc (4503599627370496 + t) (2 ^ 1022) (2 ^ 52))) (bits-value 1022 t (lit≤ tt) h)

pub mantissa : (t : ℕ) → t < 4503599627370496 → Mantissa (of_bits binary64 (4607182418800017408 + t))
mantissa t h =
    let m = of_bits binary64 (4607182418800017408 + t) in
    let v = mantissa-value t h in
    let e = value→cross m (4503599627370496 + t) (2 ^ 52) v in
    record { sign = value-plus m (4503599627370496 + t) (2 ^ 52) v; least = low-side (num m) (den m) t e; most = high-side (num m) (den m) t h e }
  where
    low-side : (n d t : ℕ) → n * 4503599627370496 ≡ (4503599627370496 + t) * d → d ≤ n
    low-side n d t e = omega arith

    high-side : (n d t : ℕ) → t < 4503599627370496 → n * 4503599627370496 ≡ (4503599627370496 + t) * d → n ≤ 2 * d
    high-side n d t h e = omega (arith, mul-le-mul_right d (le_of_lt h))

pub mantissa-no-nan : (t : ℕ) → t < 4503599627370496 → T (not (nan_bits binary64 (4607182418800017408 + t)))
mantissa-no-nan t h = subst (λ (b : Bool). T (not b)) (sym (nan_bits_above binary64 (4607182418800017408 + t))) (le→nltb 9218868437227405312 ((4607182418800017408 + t) % 9223372036854775808) (omega arith))
