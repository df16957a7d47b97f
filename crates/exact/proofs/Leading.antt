-- A whole number's digits, from the leading one on, are the digits of the nearest `f32`'s pattern. Assumes nothing.
use Rattle.std.proofs.Common.{◌≡◌, ℕ, suc, ◌+◌, ◌-◌, ◌*◌, ◌/◌, ◌%◌, ◌^◌, ◌<◌, ◌≤◌, Bool, false, cond, ltb, pos, sym, refl, ap, ◌∙◌, subst, le_trans, le_of_eq, lt_of_lt_of_le, mul-le-mul_right, mod-eq_of_lt, mul-lt-mul_of_pos_right, arith, lit<, lt→ltb, pow_pos, pow-add}
use Prim.Native.Nat.{compare, Ordering}
use lib.Count.{count_leading_zeros, leading_top}
use lib.Ieee.{Float, binary32, of_bits, to_bits, round, nearest, of_int}
use lib.Ieee.Bits.{of_bits-to_bits, is_true}
use lib.Ieee.Fits.{round-fits, nearest-le}
use lib.Ieee.Nearest.{closest}
use lib.Ieee.Scale.{round_same}
use Rattle.exact.proofs.Rounding.{Cmp, cmp}
use Rattle.exact.proofs.Narrowing.{narrow-normal}

-- ---- 40 digits dropped without a branch
dropped : (m : ℕ) (o : Ordering) → Cmp o (m % 1099511627776 * 2) 1099511627776 → m / 1099511627776 + (m % 1099511627776 + 549755813887 + m / 1099511627776 % 2) / 1099511627776 ≡ nearest (m / 1099511627776) o
dropped m Ordering.lt h = omega arith
dropped m Ordering.eq h = omega arith
dropped m Ordering.gt h = omega arith

pub drop-40 : (m : ℕ) → m / 1099511627776 + (m % 1099511627776 + 549755813887 + m / 1099511627776 % 2) / 1099511627776 ≡ closest m 1099511627776
drop-40 m = dropped m (compare (m % 1099511627776 * 2) 1099511627776) (cmp (m % 1099511627776 * 2) 1099511627776)

-- ---- n with its z leading zeros shifted out
pub record Shifted (n z : ℕ) : Type 0 where
  pub few : z < 64
  pub least : 9223372036854775808 ≤ n * 2 ^ z
  pub most : n * 2 ^ z < 18446744073709551616

pub shifted : (n : ℕ) → 0 < n → n < 18446744073709551616 → Shifted n (count_leading_zeros 64 n)
shifted n p h =
    let z = count_leading_zeros 64 n in
    let t = leading_top 64 n p h in
    let j = t.0 in
    let lo : 2 ^ (j + z) ≤ n * 2 ^ z = le_trans (le_of_eq (pow-add 2 j z)) (mul-le-mul_right (2 ^ z) t.2) in
    let hi : n * 2 ^ z < 2 ^ (suc j + z) = lt_of_lt_of_le (mul-lt-mul_of_pos_right t.3 (pow_pos z)) (le_of_eq (sym (pow-add 2 (suc j) z))) in
    record {
      few = omega (arith, t.1);
      least = subst (λ (k : ℕ). 2 ^ k ≤ n * 2 ^ z) (63-places j z t.1) lo;
      most = subst (λ (k : ℕ). n * 2 ^ z < 2 ^ k) (64-places j z t.1) hi;
    }
  where
    63-places : (j z : ℕ) → z + suc j ≡ 64 → j + z ≡ 63
    63-places j z e = omega arith

    64-places : (j z : ℕ) → z + suc j ≡ 64 → suc j + z ≡ 64
    64-places j z e = omega arith

pub digits-most : (m : ℕ) → m < 18446744073709551616 → closest m 1099511627776 ≤ 16777216
digits-most m h = le_trans (nearest-le (m / 1099511627776) (compare (m % 1099511627776 * 2) 1099511627776)) (omega arith)

module _ (n z : ℕ) (S : Shifted n z) where
  abbrev m : ℕ
  m = n * 2 ^ z

  abbrev j : ℕ
  j = 189 - z

  abbrev g : ℕ
  g = 1 * 2 ^ 149 * 2 ^ 40

  same-value : round binary32 false (m * (1 * 2 ^ j)) g ≡ round binary32 false n 1
  same-value = round_same binary32 false (m * (1 * 2 ^ j)) g n 1 (lit< tt) (lit< tt) (go n (2 ^ z) (2 ^ j) g (sym (pow-add 2 z j) ∙ ap (λ (x : ℕ). 2 ^ x) (total z S.few)))
    where
      total : (z : ℕ) → z < 64 → z + (189 - z) ≡ 189
      total z h = omega arith

      go : (n p q t : ℕ) → p * q ≡ t → n * p * (1 * q) * 1 ≡ n * t
      go n p q t e = omega (arith, ap (λ (x : ℕ). n * x) e)

  below_inf : j * 8388608 + closest m 1099511627776 < 2139095040
  below_inf = omega (arith, digits-most m S.most)

  pattern : to_bits binary32 (round binary32 false n 1) ≡ j * 8388608 + closest m 1099511627776
  pattern =
      let b = j * 8388608 + closest m 1099511627776 in
      ap (λ (v : Float). to_bits binary32 v) (sym same-value)
      ∙ narrow-normal m 1 1099511627776 g j (lit< tt) (lit< tt) refl S.least S.most
      ∙ ap (λ (t : Bool). cond t b 2139095040) (is_true (ltb b 2139095040) (lt→ltb b 2139095040 below_inf))

  pub from-digits : of_bits binary32 (j * 8388608 + closest m 1099511627776) ≡ of_int binary32 (pos n)
  unfolding of_int
  from-digits = ap (λ (b : ℕ). of_bits binary32 b) (sym pattern) ∙ of_bits-to_bits binary32 (round binary32 false n 1) (round-fits binary32 false n 1)

-- ---- in the words of the code, whose shift drops what passes 64 bits
pub whole-pattern : (n d : ℕ) → 0 < n → n < 18446744073709551616 → d ≡ closest (n * 2 ^ count_leading_zeros 64 n % 18446744073709551616) 1099511627776
    → (d ≤ 16777216) × (of_bits binary32 ((189 - count_leading_zeros 64 n) * 8388608 + d) ≡ of_int binary32 (pos n))
whole-pattern n d p h e =
    let z = count_leading_zeros 64 n in
    let S = shifted n p h in
    let e' : d ≡ closest (n * 2 ^ z) 1099511627776 = e ∙ ap (λ (x : ℕ). closest x 1099511627776) (mod-eq_of_lt S.most) in
    (le_trans (le_of_eq e') (digits-most (n * 2 ^ z) S.most), ap (λ (x : ℕ). of_bits binary32 ((189 - z) * 8388608 + x)) e' ∙ from-digits n z S)
