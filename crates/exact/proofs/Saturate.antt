-- Rust's `as` from a float to an integer of any width, by tests and a truncation: at the ends of the range, within it, and at a NaN. Assumes nothing.
use Rattle.std.proofs.Common.{◌≡◌, ℕ, ◌+◌, ◌-◌, ◌*◌, ◌/◌, ◌^◌, ◌<◌, ◌≤◌, min, Bool, true, false, not, ◌&&◌, ◌||◌, T, eqb, ltb, pos, sym, refl, ap, ◌∙◌, subst, true≢false, le_of_eq, lt_of_lt_of_le, le_of_lt, mul-le-mul_right, div-lt_iff_lt-mul, mul-pos, le-div_iff_mul-le, le-add_left, arith, eqb→eq, ltb→lt, lt→ltb, nltb→le, pow_pos, pow_mono, neg_ℤ}
use native.Mathlib.Nat.{div-eq_of_lt}
use lib.Dec.{eqb_refl}
use lib.Arith.{lt_of_le-ne}
use lib.Ieee.{Float, nan, inf, fin, up, down, to_unsigned, to_signed, lt, le}
use lib.Ieee.Fits.{down_pos, and_r}

-- ---- tests of two magnitudes, as `le` makes them
at_most : (a b : ℕ) → (ltb a b || (eqb a b && true)) ≡ true → a ≤ b
at_most a b = go (ltb a b) (eqb a b) (ltb→lt a b) (eqb→eq a b)
  where
    go : (p q : Bool) → (T p → a < b) → (T q → a ≡ b) → (p || (q && true)) ≡ true → a ≤ b
    go true q f g h = le_of_lt (f tt)
    go false true f g h = le_of_eq (g tt)
    go false false f g h = absurd (true≢false (sym h))

above : (a b : ℕ) → (ltb a b || (eqb a b && true)) ≡ false → b < a
above a b = go (ltb a b) (eqb a b) (nltb→le a b) (λ (e : b ≡ a). subst (λ (x : ℕ). T (eqb a x)) (sym e) (eqb_refl a))
  where
    go : (p q : Bool) → (T (not p) → b ≤ a) → (b ≡ a → T q) → (p || (q && true)) ≡ false → b < a
    go true q f g h = absurd (true≢false h)
    go false true f g h = absurd (true≢false h)
    go false false f g h = lt_of_le-ne (f tt) g

no : {b : Bool} → b ≡ false → T (not b)
no e = subst (λ (x : Bool). T (not x)) (sym e) tt

yes : {b : Bool} → b ≡ true → T b
yes e = subst T (sym e) tt

-- ---- a numerator a over d against 2 ^ w
module _ (w a d : ℕ) (D : 0 < d) where
  reaches : 1 * 2 ^ w * d ≤ a * 1 → 2 ^ w ≤ a / d
  reaches h = (le-div_iff_mul-le D).1 (plain (2 ^ w) a d h)
    where
      plain : (p a d : ℕ) → 1 * p * d ≤ a * 1 → p * d ≤ a
      plain p a d h = omega arith

  stays : a * 1 < 1 * 2 ^ w * d → a / d < 2 ^ w
  stays h = (div-lt_iff_lt-mul D).1 (plain (2 ^ w) a d h)
    where
      plain : (p a d : ℕ) → a * 1 < 1 * p * d → a < p * d
      plain p a d h = omega arith

  wider : (v : ℕ) → w ≤ v → a * 1 < 1 * 2 ^ w * d → a * 1 < 1 * 2 ^ v * d
  wider v k h = go (2 ^ w) (2 ^ v) a d (mul-le-mul_right d (pow_mono {i = w} {j = v} k)) h
    where
      go : (p q a d : ℕ) → p * d ≤ q * d → a * 1 < 1 * p * d → a * 1 < 1 * q * d
      go p q a d k h = omega arith

  nothing : a * 1 ≤ 0 * d → a / d ≡ 0
  nothing h = div-eq_of_lt (omega arith)

below-some : (a d : ℕ) → 0 < d → 0 < 1 * 1 * d + a * 1
below-some a d D = omega arith

capped : (q c : ℕ) → c ≤ q → min q (c - 1) ≡ c - 1
capped q c h = omega arith

capped-all : (q c : ℕ) → c ≤ q → min q c ≡ c
capped-all q c h = omega arith

uncapped : (q c e : ℕ) → q < c → c ≤ e → min q (e - 1) ≡ min q (c - 1)
uncapped q c e h k = omega arith

-- ---- 2 ^ w is no number with a minus sign
unit-pos : (w d : ℕ) → 0 < d → 0 < 1 * 2 ^ w * d
unit-pos w d D = go (2 ^ w) d (mul-pos (pow_pos w) D)
  where
    go : (p d : ℕ) → 0 < p * d → 0 < 1 * p * d
    go p d h = omega arith

not-level : (a b : ℕ) → 0 < a → (eqb a b && eqb a 0) ≡ true → ⊥
not-level a b A h = let z : a ≡ 0 = eqb→eq a 0 (and_r (eqb a b) (eqb a 0) (yes h)) in omega arith

-- ---- to w bits without a sign
pub unsigned-high : (w : ℕ) (x : Float) → le (fin false 1 (pos w)) x ≡ true → 2 ^ w - 1 ≡ to_unsigned w x
unfolding le to_unsigned
unsigned-high w nan h = absurd (true≢false (sym h))
unsigned-high w (inf true) h = absurd (true≢false (sym h))
unsigned-high w (inf false) h = refl
unsigned-high w (fin true m e) h = absurd (not-level (1 * 2 ^ w * down e) (m * up e * 1) (unit-pos w (down e) (down_pos e)) h)
unsigned-high w (fin false m e) h =
    let a = m * up e in
    sym (capped (a / down e) (2 ^ w) (reaches w a (down e) (down_pos e) (at_most (1 * 2 ^ w * down e) (a * 1) h)))

pub unsigned-zero : (w : ℕ) (x : Float) → lt (fin false 0 (pos 0)) x ≡ false → 0 ≡ to_unsigned w x
unfolding lt to_unsigned
unsigned-zero w nan h = refl
unsigned-zero w (inf true) h = refl
unsigned-zero w (inf false) h = absurd (true≢false h)
unsigned-zero w (fin true m e) h = refl
unsigned-zero w (fin false m e) h =
    let a = m * up e in
    sym (ap (λ (q : ℕ). min q (2 ^ w - 1)) (nothing w a (down e) (down_pos e) (nltb→le (0 * down e) (a * 1) (no h))) ∙ least (2 ^ w - 1))
  where
    least : (c : ℕ) → min 0 c ≡ 0
    least c = omega arith

pub unsigned-within : (w : ℕ) (x : Float) → w ≤ 64 → le (fin false 1 (pos w)) x ≡ false → lt (fin false 0 (pos 0)) x ≡ true
    → (to_unsigned 64 x ≡ to_unsigned w x) × (T (lt (fin true 1 (pos 0)) x) × T (lt x (fin false 1 (pos 64))))
unfolding le to_unsigned
unsigned-within w nan k h g = absurd (true≢false (sym g))
unsigned-within w (inf true) k h g = absurd (true≢false (sym g))
unsigned-within w (inf false) k h g = absurd (true≢false h)
unsigned-within w (fin true m e) k h g = absurd (true≢false (sym g))
unsigned-within w (fin false m e) k h g =
    let a = m * up e in
    let d = down e in
    let D = down_pos e in
    let u : a * 1 < 1 * 2 ^ w * d = above (1 * 2 ^ w * d) (a * 1) h in (
      uncapped (a / d) (2 ^ w) (2 ^ 64) (stays w a d D u) (pow_mono {i = w} {j = 64} k),
      (lt→ltb 0 (1 * 1 * d + a * 1) (below-some a d D), lt→ltb (a * 1) (1 * 2 ^ 64 * d) (wider w a d D 64 k u)),
    )

pub unsigned-none : (w : ℕ) (x : Float) → lt x (fin false 1 (pos 0)) ≡ true → 0 ≡ to_unsigned w x
unfolding lt to_unsigned
unsigned-none w nan h = absurd (true≢false (sym h))
unsigned-none w (inf true) h = refl
unsigned-none w (inf false) h = absurd (true≢false (sym h))
unsigned-none w (fin true m e) h = refl
unsigned-none w (fin false m e) h =
    let a = m * up e in
    sym (ap (λ (q : ℕ). min q (2 ^ w - 1)) (div-eq_of_lt (under a (down e) (ltb→lt (a * 1) (1 * 1 * down e) (yes h)))) ∙ least (2 ^ w - 1))
  where
    under : (a d : ℕ) → a * 1 < 1 * 1 * d → a < d
    under a d h = omega arith

    least : (c : ℕ) → min 0 c ≡ 0
    least c = omega arith

pub unsigned-middle : (w : ℕ) (x : Float) → w ≤ 64 → lt x (fin false 1 (pos 0)) ≡ false → lt x (fin false 1 (pos w)) ≡ true
    → (to_unsigned 64 x ≡ to_unsigned w x) × (T (lt (fin true 1 (pos 0)) x) × T (lt x (fin false 1 (pos 64))))
unfolding lt to_unsigned
unsigned-middle w nan k h g = absurd (true≢false (sym g))
unsigned-middle w (inf true) k h g = absurd (true≢false h)
unsigned-middle w (inf false) k h g = absurd (true≢false (sym g))
unsigned-middle w (fin true m e) k h g = absurd (never (m * up e) (down e) (down_pos e) (nltb→le 0 (m * up e * 1 + 1 * 1 * down e) (no h)))
  where
    never : (a d : ℕ) → 0 < d → a * 1 + 1 * 1 * d ≤ 0 → ⊥
    never a d h k = omega arith
unsigned-middle w (fin false m e) k h g =
    let a = m * up e in
    let d = down e in
    let D = down_pos e in
    let u : a * 1 < 1 * 2 ^ w * d = ltb→lt (a * 1) (1 * 2 ^ w * d) (yes g) in (
      uncapped (a / d) (2 ^ w) (2 ^ 64) (stays w a d D u) (pow_mono {i = w} {j = 64} k),
      (lt→ltb 0 (1 * 1 * d + a * 1) (below-some a d D), lt→ltb (a * 1) (1 * 2 ^ 64 * d) (wider w a d D 64 k u)),
    )

-- ---- to h bits and a sign
pub signed_high : (h : ℕ) (x : Float) → le (fin false 1 (pos h)) x ≡ true → pos (2 ^ h - 1) ≡ to_signed h x
unfolding le to_signed
signed_high h nan g = absurd (true≢false (sym g))
signed_high h (inf true) g = absurd (true≢false (sym g))
signed_high h (inf false) g = refl
signed_high h (fin true m e) g = absurd (not-level (1 * 2 ^ h * down e) (m * up e * 1) (unit-pos h (down e) (down_pos e)) g)
signed_high h (fin false m e) g =
    let a = m * up e in
    ap pos (sym (capped (a / down e) (2 ^ h) (reaches h a (down e) (down_pos e) (at_most (1 * 2 ^ h * down e) (a * 1) g))))

pub signed-within : (h : ℕ) (x : Float) → le (fin false 1 (pos h)) x ≡ false → le (fin true 1 (pos h)) x ≡ true → T (lt x (fin false 1 (pos h)))
unfolding le
signed-within h nan g k = absurd (true≢false (sym k))
signed-within h (inf true) g k = tt
signed-within h (inf false) g k = absurd (true≢false g)
signed-within h (fin true m e) g k = lt→ltb 0 (m * up e * 1 + 1 * 2 ^ h * down e) (lt_of_lt_of_le (unit-pos h (down e) (down_pos e)) (le-add_left (1 * 2 ^ h * down e) (m * up e * 1)))
signed-within h (fin false m e) g k = lt→ltb (m * up e * 1) (1 * 2 ^ h * down e) (above (1 * 2 ^ h * down e) (m * up e * 1) g)

pub signed-under : (h : ℕ) (x : Float) → lt x (fin true 1 (pos h)) ≡ true → neg_ℤ (pos (2 ^ h)) ≡ to_signed h x
unfolding lt to_signed
signed-under h nan g = absurd (true≢false (sym g))
signed-under h (inf true) g = refl
signed-under h (inf false) g = absurd (true≢false (sym g))
signed-under h (fin false m e) g = absurd (true≢false (sym g))
signed-under h (fin true m e) g =
    let a = m * up e in
    let d = down e in
    let q : 2 ^ h ≤ a / d = reaches h a d (down_pos e) (le_of_lt (ltb→lt (1 * 2 ^ h * d) (a * 1) (yes g))) in
    ap (λ (z : ℕ). neg_ℤ (pos z)) (sym (capped-all (a / d) (2 ^ h) q))
