-- The least whole number from a float on, up to 40, by the float's whole part. Assumes nothing.
use Rattle.std.proofs.Common.{◌≡◌, ℕ, suc, ◌+◌, ◌-◌, ◌*◌, ◌/◌, ◌^◌, ◌<◌, ◌≤◌, min, Bool, true, false, not, T, ℤ, pos, sym, refl, ap, ◌∙◌, subst, true≢false, div-lt_iff_lt-mul, le_antisymm, lt_of_mul-lt-mul_right, le-div_iff_mul-le, mul-one, mul_right_comm, div-mul-le_self, le_of_mul-le-mul_right, add-one, arith, ltb→lt, nltb→le}
use lib.Ieee.Back.{round_whole}
use lib.Ieee.Exact.{HasValue}
use lib.Ieee.Fits.{down_pos}
use lib.Ieee.{Float, nan, inf, fin, binary32, up, down, lt, of_int, of_bits, to_unsigned}
use Rattle.exact.specs.Single.{single, f0}
use Rattle.interp.specs.Span.{ceiling}
use Rattle.interp.proofs.Range.{Within, plain}

-- 39.0
abbrev pub f39 : Float
f39 = of_bits binary32 0x421c_0000

yes : {b : Bool} → b ≡ true → T b
yes e = subst T (sym e) tt

no : {b : Bool} → b ≡ false → T (not b)
no e = subst (λ (x : Bool). T (not x)) (sym e) tt

-- ---- the order of a whole number and m * 2 ^ e
module _ (n m : ℕ) (e : ℤ) where
  below-is : (y : Float) → HasValue y false n 1 → T (lt y (fin false m e)) → n * down e < m * up e
  unfolding lt
  below-is nan v t = absurd v
  below-is (inf s) v t = absurd v
  below-is (fin true q g) v t = absurd (true≢false v.0)
  below-is (fin false q g) v t =
      let h : q * up g * down e < m * up e * down g = ltb→lt _ _ t in
      let k : q * up g ≡ n * down g = sym (mul-one (q * up g)) ∙ v.1 in
      lt_of_mul-lt-mul_right (down g) (subst (λ (z : ℕ). z < m * up e * down g) (ap (λ (z : ℕ). z * down e) k ∙ mul_right_comm n (down g) (down e)) h)

  above-is : (y : Float) → HasValue y false n 1 → T (not (lt y (fin false m e))) → m * up e ≤ n * down e
  unfolding lt
  above-is nan v t = absurd v
  above-is (inf s) v t = absurd v
  above-is (fin true q g) v t = absurd (true≢false v.0)
  above-is (fin false q g) v t =
      let h : m * up e * down g ≤ q * up g * down e = nltb→le _ _ t in
      let k : q * up g ≡ n * down g = sym (mul-one (q * up g)) ∙ v.1 in
      le_of_mul-le-mul_right (subst (λ (z : ℕ). m * up e * down g ≤ z) (ap (λ (z : ℕ). z * down e) k ∙ mul_right_comm n (down g) (down e)) h) (down_pos g)

-- ---- (a + (d - 1)) / d is the least whole number from a / d on
ceil-is : (a d n : ℕ) → 0 < d → a ≤ n * d → n * d < a + d → (a + (d - 1)) / d ≡ n
ceil-is a d n D h k =
    le_antisymm
    (let z : (a + (d - 1)) / d < suc n = (div-lt_iff_lt-mul D).1 (omega arith) in omega arith)
    ((le-div_iff_mul-le D).1 (omega arith))

-- ---- the four answers
pub far : (x : Float) → lt f39 x ≡ true → 40 ≡ min (ceiling x) 40
unfolding ceiling lt of_bits
far nan t = absurd (true≢false (sym t))
far (inf true) t = absurd (true≢false (sym t))
far (inf false) t = refl
far (fin true m e) t = absurd (true≢false (sym t))
far (fin false m e) t =
    let d : 0 < down e = down_pos e in
    let h : 39 * down e < m * up e = below-is 39 m e (fin false 39 (pos 0)) (refl, refl) (yes t) in
    let k : 40 ≤ (m * up e + (down e - 1)) / down e = (le-div_iff_mul-le d).1 (omega arith) in
    omega arith

pub none : (x : Float) → lt f39 x ≡ false → lt f0 x ≡ false → 0 ≡ min (ceiling x) 40
unfolding ceiling lt of_bits
none nan g t = refl
none (inf true) g t = refl
none (inf false) g t = absurd (true≢false g)
none (fin true m e) g t = refl
none (fin false m e) g t =
    let d : 0 < down e = down_pos e in
    let h : m * up e ≤ 0 * down e = above-is 0 m e (fin false 0 (pos 0)) (refl, refl) (no t) in
    let k : (m * up e + (down e - 1)) / down e ≡ 0 = ceil-is (m * up e) (down e) 0 d h (omega arith) in
    omega arith

pub near : (x : Float) → lt f39 x ≡ false → lt f0 x ≡ true → Within 39 x
unfolding lt of_bits
near nan g t = absurd (true≢false (sym t))
near (inf true) g t = absurd (true≢false (sym t))
near (inf false) g t = absurd (true≢false g)
near (fin true m e) g t = absurd (true≢false (sym t))
near (fin false m e) g t = plain m e 39 (above-is 39 m e (fin false 39 (pos 0)) (refl, refl) (no g)) (omega arith)

-- a / d is between its whole part and one more
cut : (a d : ℕ) → 0 < d → (a / d * d ≤ a) × (a < (a / d + 1) * d)
cut a d D =
    (div-mul-le_self a d, subst (λ (z : ℕ). a < z * d) (sym (add-one (a / d))) ((div-lt_iff_lt-mul D).0 (omega arith)))

module _ (m : ℕ) (e : ℤ) (n : ℕ) (w : Within 39 (fin false m e)) (q : n ≡ to_unsigned 64 (fin false m e)) where
  whole_part : (n ≡ m * up e / down e) × (n ≤ 39)
  unfolding to_unsigned
  whole_part =
      let s : min (m * up e / down e) (2 ^ 64 - 1) ≤ 39 = w.small in
      (omega arith, omega arith)

  value : HasValue (single n) false n 1
  unfolding of_int
  value = round_whole binary32 false n (omega (arith, whole_part.1))

  pub one_more : lt (single n) (fin false m e) ≡ true → n + 1 ≡ min (ceiling (fin false m e)) 40
  unfolding ceiling
  one_more t =
      let d : 0 < down e = down_pos e in
      let h : n * down e < m * up e = below-is n m e (single n) value (yes t) in
      let k : m * up e < (n + 1) * down e = subst (λ (z : ℕ). m * up e < (z + 1) * down e) (sym whole_part.0) (cut (m * up e) (down e) d).1 in
      let c : (m * up e + (down e - 1)) / down e ≡ n + 1 = ceil-is (m * up e) (down e) (n + 1) d (omega arith) (omega arith) in
      omega (arith, whole_part.1)

  pub itself : lt (single n) (fin false m e) ≡ false → n ≡ min (ceiling (fin false m e)) 40
  unfolding ceiling
  itself t =
      let d : 0 < down e = down_pos e in
      let h : m * up e ≤ n * down e = above-is n m e (single n) value (no t) in
      let k : n * down e ≤ m * up e = subst (λ (z : ℕ). z * down e ≤ m * up e) (sym whole_part.0) (cut (m * up e) (down e) d).0 in
      let c : (m * up e + (down e - 1)) / down e ≡ n = ceil-is (m * up e) (down e) n d h (omega arith) in
      omega (arith, whole_part.1)

-- with the float still whole
pub rounded-up : (x : Float) (n : ℕ) → lt f39 x ≡ false → lt f0 x ≡ true → n ≡ to_unsigned 64 x → lt (single n) x ≡ true → n + 1 ≡ min (ceiling x) 40
unfolding lt of_bits
rounded-up nan n g z q t = absurd (true≢false (sym z))
rounded-up (inf true) n g z q t = absurd (true≢false (sym z))
rounded-up (inf false) n g z q t = absurd (true≢false g)
rounded-up (fin true m e) n g z q t = absurd (true≢false (sym z))
rounded-up (fin false m e) n g z q t = one_more m e n (near (fin false m e) g z) q t

pub is_whole : (x : Float) (n : ℕ) → lt f39 x ≡ false → lt f0 x ≡ true → n ≡ to_unsigned 64 x → lt (single n) x ≡ false → n ≡ min (ceiling x) 40
unfolding lt of_bits
is_whole nan n g z q t = absurd (true≢false (sym z))
is_whole (inf true) n g z q t = absurd (true≢false (sym z))
is_whole (inf false) n g z q t = absurd (true≢false g)
is_whole (fin true m e) n g z q t = absurd (true≢false (sym z))
is_whole (fin false m e) n g z q t = itself m e n (near (fin false m e) g z) q t
