-- From an `f64`'s bit pattern to the pattern of the nearest `f32`. Assumes nothing.
use Rattle.std.proofs.Common.{◌≡◌, ℕ, zero, suc, ◌+◌, ◌-◌, ◌*◌, ◌/◌, ◌%◌, ◌^◌, ◌<◌, ◌≤◌, Bool, true, false, cond, not, ◌&&◌, T, eqb, ltb, leb, ◌⊎◌, sym, refl, ap, ◌∙◌, subst, ap₂, inl, inr, true≢false, le_trans, le_of_eq, le_refl, lt_of_lt_of_le, le_of_suc-le-suc, lt_of_le_of_lt, mul-le-mul_right, mod-lt, mod-eq_of_lt, div-lt_iff_lt-mul, mul-le-mul, add_comm, le_antisymm, eq-or-lt_of_le, mul-le-mul_left, mul-lt-mul_of_pos_right, mul-pos, one-mul, pow-suc, lt_of_not-le, div-add-mod', le-div_iff_mul-le, zero-add, mul-one, not-le_of_lt, div-mul-le_self, div-one, mul-div_cancel, arith, lit<, lit≤, le→leb, eqb→eq, ltb→lt, lt→ltb, nltb→le, pow_pos, pow_mono, pow-add}
use Prim.Native.Nat.{compare, Ordering}
use native.Mathlib.Nat.{add-mul-div_right, mul-add-mod_self_right}
use lib.Dec.{not_T}
use lib.Ieee.{Float, nan, inf, fin, Format, binary32, binary64, prec, low, hid, of_bits, to_bits, of_fields, odd, units, round, nearest, size, up, down, neg, ne, div, fits, is_nan, nan_bits}
use lib.Ieee.Compare.{differs_from_itself, nan_differs}
use lib.Ieee.Digits.{size-lt, size-le}
use lib.Ieee.Fits.{round_is, round-fits, down_pos, nearest-le, fits_widens, and_i}
use lib.Arith.{le→nltb, lt→nleb, digits_div, digits_mod}
use lib.Ieee.Bits.{of_bits-to_bits, cond_no, is_false, is_true, nan_bits_above, nan_bits_is}
use lib.Ieee.Exact.{HasValue, units_val, odd_sign}
use lib.Ieee.Nearest.{closest, closest_same, nearest-ge}
use Rattle.exact.proofs.Rounding.{closest-hi, Cmp, cmp}
use Rattle.exact.specs.Narrow.{narrowed}
use Rattle.exact.specs.Value.{plus}
use Rattle.exact.proofs.Value.{value-plus}
use Rattle.exact.proofs.Negation.{neg-odd, inf-neg, neg-round}
use lib.Ieee.Scale.{round_same}
use lib.Ieee.Positive.{num, den, den_pos, value→cross}

-- ---- an even number of units more
even-more : (m q : ℕ) (o : Ordering) → nearest (2 * m + q) o ≡ 2 * m + nearest q o
even-more m q Ordering.lt = refl
even-more m q Ordering.eq = omega arith
even-more m q Ordering.gt = omega arith

pub closest-shift : (m v u : ℕ) → 0 < u → closest (2 * m * u + v) u ≡ 2 * m + closest v u
closest-shift m v u U =
    let q : (2 * m * u + v) / u ≡ 2 * m + v / u = ap (λ (z : ℕ). z / u) (add_comm (2 * m * u) v) ∙ add-mul-div_right v (2 * m) U ∙ add_comm (v / u) (2 * m) in
    let r : (2 * m * u + v) % u ≡ v % u = mul-add-mod_self_right (2 * m) u v in
    ap₂ (λ (x y : ℕ). nearest x (compare (y * 2) u)) q r ∙ even-more m (v / u) (compare (v % u * 2) u)

-- ---- digits
pub size_is : (n j : ℕ) → 2 ^ j ≤ n → n < 2 ^ suc j → size n ≡ suc j
size_is n j l h = le_antisymm (size-le n (suc j) h) (lt_of_not-le (λ (g : size n ≤ j). not-le_of_lt (lt_of_lt_of_le (size-lt n) (pow_mono g)) l))

-- ---- the pattern of a value that is n units
pub to_bits-value : (f : Format) (v : Float) (n : ℕ) → HasValue v false n (2 ^ low f) → to_bits f v ≡ (size n - prec f) * hid f + n / 2 ^ (size n - prec f)
unfolding to_bits
to_bits-value f nan n h = absurd h
to_bits-value f (inf s) n h = absurd h
to_bits-value f (fin true m e) n h = absurd (true≢false h.0)
to_bits-value f (fin false m e) n h =
    ap (λ (q : ℕ). 0 + (size q - prec f) * hid f + q / 2 ^ (size q - prec f)) (ap (λ (q : ℕ). q / down e) h.1 ∙ mul-div_cancel n (down_pos e)) ∙ ap (λ (q : ℕ). q + n / 2 ^ (size n - prec f)) (zero-add ((size n - prec f) * hid f))

-- K units of 2 ^ j smallest values: K has 24 digits, or is 2 ^ 24, or j is 0
by_size : (K j z : ℕ) → size (K * 2 ^ j) ≡ z → z ≡ 24 + j → (size (K * 2 ^ j) - 24) * 8388608 + K * 2 ^ j / 2 ^ (size (K * 2 ^ j) - 24) ≡ j * 8388608 + K
by_size K j z e h =
    let d : size (K * 2 ^ j) - 24 ≡ j = ap (λ (x : ℕ). x - 24) (e ∙ h) ∙ omega arith in
    ap (λ (x : ℕ). x * 8388608 + K * 2 ^ j / 2 ^ x) d ∙ ap (λ (x : ℕ). j * 8388608 + x) (mul-div_cancel K (pow_pos j))

full : (K j : ℕ) → 8388608 ≤ K → K < 16777216 → size (K * 2 ^ j) ≡ 24 + j
full K j l h =
    let a : 2 ^ (23 + j) ≤ K * 2 ^ j = le_trans (le_of_eq (pow-add 2 23 j)) (mul-le-mul_right (2 ^ j) l) in
    let b : K * 2 ^ j < 2 ^ (24 + j) = lt_of_lt_of_le (mul-lt-mul_of_pos_right h (pow_pos j)) (le_of_eq (sym (pow-add 2 24 j))) in
    size_is (K * 2 ^ j) (23 + j) a (subst (λ (x : ℕ). K * 2 ^ j < 2 ^ x) (omega arith) b) ∙ omega arith

at_top : (j : ℕ) → (size (16777216 * 2 ^ j) - 24) * 8388608 + 16777216 * 2 ^ j / 2 ^ (size (16777216 * 2 ^ j) - 24) ≡ j * 8388608 + 16777216
at_top j =
    let e : 16777216 * 2 ^ j ≡ 8388608 * 2 ^ suc j = sym (ap (λ (x : ℕ). 8388608 * x) (pow-suc 2 j) ∙ omega arith) in
    ap (λ (x : ℕ). (size x - 24) * 8388608 + x / 2 ^ (size x - 24)) e ∙ by_size 8388608 (suc j) (24 + suc j) (full 8388608 (suc j) (le_refl 8388608) (lit< tt)) refl ∙ omega arith

few : (K : ℕ) → K < 16777216 → (size (K * 2 ^ 0) - 24) * 8388608 + K * 2 ^ 0 / 2 ^ (size (K * 2 ^ 0) - 24) ≡ 0 * 8388608 + K
few K h =
    let s : size (K * 1) ≤ 24 = size-le (K * 1) 24 (subst (λ (x : ℕ). x < 16777216) (sym (mul-one K)) h) in
    let d : size (K * 1) - 24 ≡ 0 = omega arith in
    ap (λ (x : ℕ). x * 8388608 + K * 1 / 2 ^ x) d ∙ ap (λ (x : ℕ). 0 * 8388608 + x) (div-one (K * 1) ∙ mul-one K)

pub pattern : (K j : ℕ) → K ≤ 16777216 → (j ≡ 0) ⊎ (8388608 ≤ K) → (size (K * 2 ^ j) - 24) * 8388608 + K * 2 ^ j / 2 ^ (size (K * 2 ^ j) - 24) ≡ j * 8388608 + K
pattern K j h c = elim (eq-or-lt_of_le h) [
  | inl e ↦ subst (λ (x : ℕ). (size (x * 2 ^ j) - 24) * 8388608 + x * 2 ^ j / 2 ^ (size (x * 2 ^ j) - 24) ≡ j * 8388608 + x) (sym e) (at_top j)
  | inr l ↦ elim c [
    | inl z ↦ subst (λ (x : ℕ). (size (K * 2 ^ x) - 24) * 8388608 + K * 2 ^ x / 2 ^ (size (K * 2 ^ x) - 24) ≡ x * 8388608 + K) (sym z) (few K l)
    | inr g ↦ by_size K j (24 + j) (full K j g l) refl
  ]
]

-- ---- what `round` keeps and drops of s * a / g, with a * b * D = g, b the units
module _ (s a b D g P j : ℕ) (A : 0 < a) (B : 0 < b) (DD : 0 < D) (pow : P ≡ 2 ^ j) (e : a * b * D ≡ g) where
  kept-is : closest (s * (a * P) * b) (g * P) ≡ closest s D
  kept-is = closest_same (s * (a * P) * b) (g * P) s D (mul-pos (subst (λ (x : ℕ). 0 < x) e (mul-pos (mul-pos A B) DD)) (subst (λ (x : ℕ). 0 < x) (sym pow) (pow_pos j))) DD (omega (arith, ap (λ (x : ℕ). x * (s * P)) e))

  size-normal : 8388608 * D ≤ s → s < 16777216 * D → size (s * (a * P) * b / g) ≡ 24 + j
  size-normal l h =
      let G : 0 < g = subst (λ (x : ℕ). 0 < x) e (mul-pos (mul-pos A B) DD) in
      let lo : 8388608 * P * g ≤ s * (a * P) * b = omega (arith, mul-le-mul_right (a * P * b) l, ap (λ (x : ℕ). x * P) e) in
      let ABP : 0 < a * P * b = mul-pos (mul-pos A (subst (λ (x : ℕ). 0 < x) (sym pow) (pow_pos j))) B in
      let hi : s * (a * P) * b < 16777216 * P * g = omega (arith, mul-lt-mul_of_pos_right h ABP, ap (λ (x : ℕ). x * P) e) in
      let lo' : 2 ^ (23 + j) ≤ s * (a * P) * b / g = (le-div_iff_mul-le G).1 (subst (λ (x : ℕ). x * g ≤ s * (a * P) * b) (ap (λ (x : ℕ). 8388608 * x) pow ∙ sym (pow-add 2 23 j)) lo) in
      let hi' : s * (a * P) * b / g < 2 ^ (24 + j) = (div-lt_iff_lt-mul G).1 (subst (λ (x : ℕ). s * (a * P) * b < x * g) (ap (λ (x : ℕ). 16777216 * x) pow ∙ sym (pow-add 2 24 j)) hi) in
      size_is (s * (a * P) * b / g) (23 + j) lo' (subst (λ (x : ℕ). s * (a * P) * b / g < 2 ^ x) (omega arith) hi') ∙ omega arith

  size_small : s < 16777216 * D → P ≡ 1 → size (s * (a * P) * b / g) ≤ 24
  size_small h p =
      let G : 0 < g = subst (λ (x : ℕ). 0 < x) e (mul-pos (mul-pos A B) DD) in
      let hi : s * (a * 1) * b < 16777216 * g = omega (arith, mul-lt-mul_of_pos_right h (mul-pos A B), e) in
      size-le (s * (a * P) * b / g) 24 ((div-lt_iff_lt-mul G).1 (subst (λ (x : ℕ). s * (a * x) * b < 16777216 * g) (sym p) hi))

-- ---- the pattern of the rounded value
K-least : (s D : ℕ) → 0 < D → 8388608 * D ≤ s → 8388608 ≤ closest s D
K-least s D C h = le_trans ((le-div_iff_mul-le C).1 h) (nearest-ge (s / D) (compare (s % D * 2) D))

K-most : (s D : ℕ) → 0 < D → s < 16777216 * D → closest s D ≤ 16777216
K-most s D C h = le_trans (nearest-le (s / D) (compare (s % D * 2) D)) ((div-lt_iff_lt-mul C).1 h)

fits-277 : (K j : ℕ) → K ≤ 16777216 → j * 8388608 + K < 2139095040 → 8388608 ≤ K → K * 2 ^ j < 2 ^ 277
fits-277 K j m h l = elim (eq-or-lt_of_le low-j) [
  | inl e ↦ subst (λ (x : ℕ). K * 2 ^ x < 2 ^ 277) (sym e) (lt_of_lt_of_le (mul-lt-mul_of_pos_right (below e) (pow_pos 253)) (lit≤ {m = 16777216 * 2 ^ 253} {n = 2 ^ 277} tt))
  | inr g ↦ lt_of_le_of_lt (mul-le-mul m (pow_mono {i = j} {j = 252} (le_of_suc-le-suc g))) (lit< {m = 16777216 * 2 ^ 252} {n = 2 ^ 277} tt)
]
  where
    low-j : j ≤ 253
    low-j = omega arith

    below : j ≡ 253 → K < 16777216
    below e = omega arith

over-277 : (K j : ℕ) → 8388608 ≤ K → K ≤ 16777216 → 2139095040 ≤ j * 8388608 + K → 2 ^ 277 ≤ K * 2 ^ j
over-277 K j l m h = elim (eq-or-lt_of_le low-j) [
  | inl e ↦ subst (λ (x : ℕ). 2 ^ 277 ≤ K * 2 ^ x) e (le_trans (lit≤ {m = 2 ^ 277} {n = 16777216 * 2 ^ 253} tt) (mul-le-mul_right (2 ^ 253) (enough e)))
  | inr g ↦ le_trans (lit≤ {m = 2 ^ 277} {n = 8388608 * 2 ^ 254} tt) (mul-le-mul l (pow_mono {i = 254} {j = j} g))
]
  where
    low-j : 253 ≤ j
    low-j = omega arith

    enough : 253 ≡ j → 16777216 ≤ K
    enough e = omega arith

infinite : (K j : ℕ) → 2 ^ 277 ≤ K * 2 ^ j → units binary32 false K j ≡ inf false
unfolding units
infinite K j h = cond_no (ltb (K * 2 ^ j) (2 ^ 277)) (odd 25 false K j 149) (inf false) (le→nltb (K * 2 ^ j) (2 ^ 277) h)

inf_bits : to_bits binary32 (inf false) ≡ 2139095040
unfolding to_bits
inf_bits = refl

units-bits : (K j : ℕ) → 8388608 ≤ K → K ≤ 16777216 → to_bits binary32 (units binary32 false K j) ≡ cond (ltb (j * 8388608 + K) 2139095040) (j * 8388608 + K) 2139095040
units-bits K j l m = go (ltb (j * 8388608 + K) 2139095040) (ltb→lt (j * 8388608 + K) 2139095040) (nltb→le (j * 8388608 + K) 2139095040)
  where
    go : (t : Bool) → (T t → j * 8388608 + K < 2139095040) → (T (not t) → 2139095040 ≤ j * 8388608 + K) → to_bits binary32 (units binary32 false K j) ≡ cond t (j * 8388608 + K) 2139095040
    go true h g = to_bits-value binary32 (units binary32 false K j) (K * 2 ^ j) (units_val binary32 false K j (fits-277 K j m (h tt) l)) ∙ pattern K j m (inr l)
    go false h g = ap (λ (v : Float). to_bits binary32 v) (infinite K j (over-277 K j l m (g tt))) ∙ inf_bits

small-bits : (K : ℕ) → K ≤ 16777216 → to_bits binary32 (units binary32 false K 0) ≡ K
small-bits K m = to_bits-value binary32 (units binary32 false K 0) (K * 2 ^ 0) (units_val binary32 false K 0 (lt_of_le_of_lt (mul-le-mul_right 1 m) (lit< {m = 16777216 * 1} {n = 2 ^ 277} tt))) ∙ pattern K 0 m (inl refl) ∙ omega arith

pub narrow-normal : (s a D g j : ℕ) → 0 < a → 0 < D → a * 2 ^ 149 * D ≡ g → 8388608 * D ≤ s → s < 16777216 * D
    → to_bits binary32 (round binary32 false (s * (a * 2 ^ j)) g) ≡ cond (ltb (j * 8388608 + closest s D) 2139095040) (j * 8388608 + closest s D) 2139095040
narrow-normal s a D g j A DD e l h =
    let n = s * (a * 2 ^ j) * 2 ^ 149 in
    let z : size (n / g) - 24 ≡ j = ap (λ (x : ℕ). x - 24) (size-normal s a (2 ^ 149) D g (2 ^ j) j A (pow_pos 149) DD refl e l h) ∙ omega arith in
    ap (λ (v : Float). to_bits binary32 v) (round_is binary32 false (s * (a * 2 ^ j)) g
    ∙ ap (λ (k : ℕ). units binary32 false (closest n (g * 2 ^ k)) k) z
    ∙ ap (λ (q : ℕ). units binary32 false q j) (kept-is s a (2 ^ 149) D g (2 ^ j) j A (pow_pos 149) DD refl e))
    ∙ units-bits (closest s D) j (K-least s D DD l) (K-most s D DD h)

pub narrow-small : (s a D g : ℕ) → 0 < a → 0 < D → a * 2 ^ 149 * D ≡ g → s < 16777216 * D → to_bits binary32 (round binary32 false (s * (a * 1)) g) ≡ closest s D
narrow-small s a D g A DD e h =
    let n = s * (a * 1) * 2 ^ 149 in
    let q : size (n / g) ≤ 24 = size_small s a (2 ^ 149) D g 1 0 A (pow_pos 149) DD refl e h refl in
    let z : size (n / g) - 24 ≡ 0 = omega arith in
    ap (λ (v : Float). to_bits binary32 v) (round_is binary32 false (s * (a * 1)) g
    ∙ ap (λ (k : ℕ). units binary32 false (closest n (g * 2 ^ k)) k) z
    ∙ ap (λ (x : ℕ). units binary32 false x 0) (kept-is s a (2 ^ 149) D g 1 0 A (pow_pos 149) DD refl e))
    ∙ small-bits (closest s D) (K-most s D DD h)

none : (K s D : ℕ) → s * 2 < D → 2 * (K * D) ≤ 2 * s + D → K ≡ 0
none zero s D h k = refl
none (suc K) s D h k = absurd (bad k)
  where
    bad : 2 * (suc K * D) ≤ 2 * s + D → ⊥
    bad k = omega arith

pub closest-none : (s D : ℕ) → s * 2 < D → closest s D ≡ 0
closest-none s D h = none (closest s D) s D h (closest-hi s D (omega arith))

-- ---- the value of an `f64`'s pattern that is finite and has no sign
not-ones : (x : ℕ) → suc x ≤ 2046 → T (not (eqb (suc x) 2047))
not-ones x h = not_T (eqb (suc x) 2047) (λ t. bad (eqb→eq (suc x) 2047 t))
  where
    bad : suc x ≡ 2047 → ⊥
    bad e = omega arith

fields : (x t : ℕ) → x ≤ 2047 → t < 4503599627370496 → of_bits binary64 (x * 4503599627370496 + t) ≡ of_fields binary64 false x t
unfolding of_bits
fields x t h k =
    let b = x * 4503599627370496 + t in
    let lt : b < 9223372036854775808 = omega arith in
    ap (λ (s : Bool). of_fields binary64 s (b % 9223372036854775808 / 4503599627370496) (b % 4503599627370496)) (is_false (leb 9223372036854775808 b) (lt→nleb 9223372036854775808 b lt))
    ∙ ap (λ (y : ℕ). of_fields binary64 false (y / 4503599627370496) (b % 4503599627370496)) (mod-eq_of_lt lt)
    ∙ ap (λ (y : ℕ). of_fields binary64 false y (b % 4503599627370496)) (digits_div x k)
    ∙ ap (λ (y : ℕ). of_fields binary64 false x y) (digits_mod x k)

fields-odd : (x t : ℕ) → suc x ≤ 2046 → of_fields binary64 false (suc x) t ≡ odd 53 false (4503599627370496 + t) x 1074
unfolding of_fields
fields-odd x t h = cond_no (eqb (suc x) 2047) (cond (eqb t 0) (inf false) nan) (odd 53 false (4503599627370496 + t) x 1074) (not-ones x h)

fields-odd0 : (t : ℕ) → of_fields binary64 false 0 t ≡ odd 53 false t 0 1074
unfolding of_fields
fields-odd0 t = refl

pub bits-value : (x t : ℕ) → suc x ≤ 2046 → t < 4503599627370496 → HasValue (of_bits binary64 (suc x * 4503599627370496 + t)) false ((4503599627370496 + t) * 2 ^ x) (2 ^ 1074)
bits-value x t h k = subst (λ (v : Float). HasValue v false ((4503599627370496 + t) * 2 ^ x) (2 ^ 1074)) (sym (fields (suc x) t (omega arith) k ∙ fields-odd x t h)) (odd_sign 53 false (4503599627370496 + t) x 1074)

pub bits-value0 : (t : ℕ) → t < 4503599627370496 → HasValue (of_bits binary64 (0 * 4503599627370496 + t)) false (t * 2 ^ 0) (2 ^ 1074)
bits-value0 t k = subst (λ (v : Float). HasValue v false (t * 2 ^ 0) (2 ^ 1074)) (sym (fields 0 t (lit≤ tt) k ∙ fields-odd0 t)) (odd_sign 53 false t 0 1074)

-- the nearest `f32` to a value, by any fraction that it equals
abbrev pub narrowed+ : Float → Float
narrowed+ x = round binary32 false (num x) (den x)

round-at : (x : Float) (a c : ℕ) → 0 < c → HasValue x false a c → narrowed+ x ≡ round binary32 false a c
round-at x a c C h = round_same binary32 false (num x) (den x) a c (den_pos x) C (value→cross x a c h)

-- ---- the three ranges of the exponent's field
abbrev pub wide : ℕ → ℕ
wide b = to_bits binary32 (narrowed+ (of_bits binary64 b))

normal-at : (j t : ℕ) → j ≤ 1149 → t < 4503599627370496
    → wide ((897 + j) * 4503599627370496 + t) ≡ cond (ltb (j * 8388608 + closest (4503599627370496 + t) 536870912) 2139095040) (j * 8388608 + closest (4503599627370496 + t) 536870912) 2139095040
normal-at j t h k =
    let sg = 4503599627370496 + t in
    let e : 897 + j ≡ suc (896 + j) = omega arith in
    let v : HasValue (of_bits binary64 ((897 + j) * 4503599627370496 + t)) false (sg * 2 ^ (896 + j)) (2 ^ 1074) =
    subst (λ (y : ℕ). HasValue (of_bits binary64 (y * 4503599627370496 + t)) false (sg * 2 ^ (896 + j)) (2 ^ 1074)) (sym e) (bits-value (896 + j) t (omega arith) k) in
    ap (λ (y : Float). to_bits binary32 y) (round-at (of_bits binary64 ((897 + j) * 4503599627370496 + t)) (sg * 2 ^ (896 + j)) (2 ^ 1074) (pow_pos 1074) v
    ∙ ap (λ (y : ℕ). round binary32 false (sg * y) (2 ^ 1074)) (pow-add 2 896 j))
    ∙ narrow-normal sg (2 ^ 896) 536870912 (2 ^ 1074) j (pow_pos 896) (lit< tt) refl (omega arith) (omega arith)

small_at : (x t : ℕ) → x ≤ 895 → t < 4503599627370496 → wide (suc x * 4503599627370496 + t) ≡ closest (4503599627370496 + t) (2 ^ (925 - x))
small_at x t h k =
    let sg = 4503599627370496 + t in
    let o : x + 149 + (925 - x) ≡ 1074 = omega arith in
    let d : 2 ^ x * 2 ^ 149 * 2 ^ (925 - x) ≡ 2 ^ 1074 = ap (λ (y : ℕ). y * 2 ^ (925 - x)) (sym (pow-add 2 x 149)) ∙ sym (pow-add 2 (x + 149) (925 - x)) ∙ ap (λ (y : ℕ). 2 ^ y) o in
    let i : 30 ≤ 925 - x = omega arith in
    let w : 2 ^ 30 ≤ 2 ^ (925 - x) = pow_mono {i = 30} {j = 925 - x} i in
    ap (λ (y : Float). to_bits binary32 y) (round-at (of_bits binary64 (suc x * 4503599627370496 + t)) (sg * 2 ^ x) (2 ^ 1074) (pow_pos 1074) (bits-value x t (omega arith) k)
    ∙ ap (λ (y : ℕ). round binary32 false (sg * y) (2 ^ 1074)) (sym (mul-one (2 ^ x))))
    ∙ narrow-small sg (2 ^ x) (2 ^ (925 - x)) (2 ^ 1074) (pow_pos x) (pow_pos (925 - x)) d (omega arith)

zero-at : (t : ℕ) → t < 4503599627370496 → wide (0 * 4503599627370496 + t) ≡ 0
zero-at t k =
    ap (λ (y : Float). to_bits binary32 y) (round-at (of_bits binary64 (0 * 4503599627370496 + t)) (t * 2 ^ 0) (2 ^ 1074) (pow_pos 1074) (bits-value0 t k))
    ∙ narrow-small t 1 (2 ^ 925) (2 ^ 1074) (lit< tt) (pow_pos 925) refl (lt_of_lt_of_le k (lit≤ tt))
    ∙ closest-none t (2 ^ 925) (lt_of_lt_of_le (mul-lt-mul_of_pos_right k (lit< tt)) (lit≤ tt))

-- ---- by the whole pattern
by_digits : (b : ℕ) → b / 4503599627370496 * 4503599627370496 + b % 4503599627370496 ≡ b
by_digits b = div-add-mod' b 4503599627370496

digit : (b : ℕ) → b % 4503599627370496 < 4503599627370496
digit b = mod-lt b (lit< tt)

pub wide-normal : (b : ℕ) → 4039728865751334912 ≤ b → b < 9218868437227405312
    → wide b ≡ cond (ltb (closest b 536870912 - 7516192768) 2139095040) (closest b 536870912 - 7516192768) 2139095040
wide-normal b l h =
    let t = b % 4503599627370496 in
    let j = b / 4503599627370496 - 897 in
    let sg = 4503599627370496 + t in
    let e : (897 + j) * 4503599627370496 + t ≡ b = ap (λ (x : ℕ). x * 4503599627370496 + t) (omega arith) ∙ by_digits b in
    let s : 2 * ((896 + j) * 4194304) * 536870912 + sg ≡ b = omega arith in
    let c : closest b 536870912 ≡ 2 * ((896 + j) * 4194304) + closest sg 536870912 = ap (λ (x : ℕ). closest x 536870912) (sym s) ∙ closest-shift ((896 + j) * 4194304) sg 536870912 (lit< tt) in
    let m : closest b 536870912 - 7516192768 ≡ j * 8388608 + closest sg 536870912 = shifted (closest b 536870912) (closest sg 536870912) j c in
    ap wide (sym e) ∙ normal-at j t (omega arith) (digit b) ∙ ap (λ (x : ℕ). cond (ltb x 2139095040) x 2139095040) (sym m)
  where
    shifted : (x y j : ℕ) → x ≡ 2 * ((896 + j) * 4194304) + y → x - 7516192768 ≡ j * 8388608 + y
    shifted x y j e = omega arith

pub wide-small : (b : ℕ) → 4503599627370496 ≤ b → b < 4039728865751334912 → wide b ≡ closest (4503599627370496 + b % 4503599627370496) (2 ^ (926 - b / 4503599627370496))
wide-small b l h =
    let t = b % 4503599627370496 in
    let x = b / 4503599627370496 - 1 in
    let e : suc x * 4503599627370496 + t ≡ b = omega arith in
    let d : 925 - x ≡ 926 - b / 4503599627370496 = omega arith in
    ap wide (sym e) ∙ small_at x t (omega arith) (digit b) ∙ ap (λ (y : ℕ). closest (4503599627370496 + t) (2 ^ y)) d

pub wide-tiny : (b : ℕ) → b < 3927138875067072512 → wide b ≡ 0
wide-tiny b h = go (ltb b 4503599627370496) (ltb→lt b 4503599627370496) (nltb→le b 4503599627370496)
  where
    below : (q : ℕ) → q ≤ 871 → 55 ≤ 926 - q
    below q h = omega arith

    go : (t : Bool) → (T t → b < 4503599627370496) → (T (not t) → 4503599627370496 ≤ b) → wide b ≡ 0
    go true k g =
        let k' : b < 4503599627370496 = k tt in
        let e : 0 * 4503599627370496 + b ≡ b = omega arith in
        ap wide (sym e) ∙ zero-at b k'
    go false k g =
        let g' : 4503599627370496 ≤ b = g tt in
        let h' : b < 4039728865751334912 = omega arith in
        let q : b / 4503599627370496 ≤ 871 = omega arith in
        let w : 2 ^ 55 ≤ 2 ^ (926 - b / 4503599627370496) = pow_mono {i = 55} {j = 926 - b / 4503599627370496} (below (b / 4503599627370496) q) in
        wide-small b g' h' ∙ closest-none (4503599627370496 + b % 4503599627370496) (2 ^ (926 - b / 4503599627370496)) (omega (arith, digit b))

abbrev pub unsigned : Float → Bool
unsigned nan = true
unsigned (inf s) = not s
unsigned (fin s m e) = not s

-- ---- the sign goes through
neg-cond : (b : Bool) (x y x' y' : Float) → x ≡ neg x' → y ≡ neg y' → cond b x y ≡ neg (cond b x' y')
neg-cond true x y x' y' p q = p
neg-cond false x y x' y' p q = q

nan-neg : nan ≡ neg nan
unfolding neg
nan-neg = refl

pub narrowed-neg : (x : Float) → T (unsigned x) → narrowed (neg x) ≡ neg (narrowed x)
unfolding narrowed neg
narrowed-neg nan u = refl
narrowed-neg (inf false) u = refl
narrowed-neg (inf true) u = absurd u
narrowed-neg (fin false m e) u = neg-round binary32 (m * up e) (down e)
narrowed-neg (fin true m e) u = absurd u

-- ---- what `nearest_quotient` computes
by_order : (q a u : ℕ) (o : Ordering) → Cmp o a u → (a < u → nearest q o ≡ q) × (u < a → nearest q o ≡ q + 1) × (a ≡ u → nearest q o ≡ q + q % 2)
by_order q a u Ordering.lt h = (λ k. refl, λ k. absurd (bad1 k), λ k. absurd (bad2 k))
  where
    bad1 : u < a → ⊥
    bad1 k = omega arith

    bad2 : a ≡ u → ⊥
    bad2 k = omega arith
by_order q a u Ordering.eq h = (λ k. absurd (bad1 k), λ k. absurd (bad2 k), λ k. refl)
  where
    bad1 : a < u → ⊥
    bad1 k = omega arith

    bad2 : u < a → ⊥
    bad2 k = omega arith
by_order q a u Ordering.gt h = (λ k. absurd (bad1 k), λ k. omega arith, λ k. absurd (bad2 k))
  where
    bad1 : a < u → ⊥
    bad1 k = omega arith

    bad2 : a ≡ u → ⊥
    bad2 k = omega arith

pub closest-down : (v u : ℕ) → v % u * 2 < u → v / u ≡ closest v u
closest-down v u h = sym ((by_order (v / u) (v % u * 2) u (compare (v % u * 2) u) (cmp (v % u * 2) u)).0 h)

pub closest-up : (v u : ℕ) → u < v % u * 2 → v / u + 1 ≡ closest v u
closest-up v u h = sym ((by_order (v / u) (v % u * 2) u (compare (v % u * 2) u) (cmp (v % u * 2) u)).1 h)

pub closest-tie : (v u : ℕ) → v % u * 2 ≡ u → v / u + v / u % 2 ≡ closest v u
closest-tie v u h = sym ((by_order (v / u) (v % u * 2) u (compare (v % u * 2) u) (cmp (v % u * 2) u)).2 h)

pub half-quotient : (v u : ℕ) → 2 ≤ u → v / u * 2 ≤ v
half-quotient v u h = le_trans (mul-le-mul_left (v / u) h) (div-mul-le_self v u)

-- ---- what `narrow_bits` and `normal_bits` return
finite-plus : (b : ℕ) → b < 9218868437227405312 → T (plus (of_bits binary64 b))
finite-plus b h = go (b / 4503599627370496) refl
  where
    at : (x : ℕ) → b / 4503599627370496 ≡ x → x * 4503599627370496 + b % 4503599627370496 ≡ b
    at x e = ap (λ (y : ℕ). y * 4503599627370496 + b % 4503599627370496) (sym e) ∙ by_digits b

    go : (x : ℕ) → b / 4503599627370496 ≡ x → T (plus (of_bits binary64 b))
    go zero e = subst (λ (y : ℕ). T (plus (of_bits binary64 y))) (at zero e) (value-plus (of_bits binary64 (0 * 4503599627370496 + b % 4503599627370496)) (b % 4503599627370496 * 2 ^ 0) (2 ^ 1074) (bits-value0 (b % 4503599627370496) (digit b)))
    go (suc x) e = subst (λ (y : ℕ). T (plus (of_bits binary64 y))) (at (suc x) e) (value-plus (of_bits binary64 (suc x * 4503599627370496 + b % 4503599627370496)) ((4503599627370496 + b % 4503599627370496) * 2 ^ x) (2 ^ 1074) (bits-value x (b % 4503599627370496) (omega arith) (digit b)))

pub narrowed-plus : (x : Float) → T (plus x) → narrowed x ≡ narrowed+ x
unfolding narrowed
narrowed-plus nan p = absurd p
narrowed-plus (inf s) p = absurd p
narrowed-plus (fin true m e) p = absurd p
narrowed-plus (fin false m e) p = refl

from-wide : (b r : ℕ) → b < 9218868437227405312 → wide b ≡ r → of_bits binary32 r ≡ narrowed (of_bits binary64 b)
from-wide b r h e =
    let x = of_bits binary64 b in
    ap (λ (y : ℕ). of_bits binary32 y) (sym e) ∙ of_bits-to_bits binary32 (narrowed+ x) (round-fits binary32 false (num x) (den x)) ∙ sym (narrowed-plus x (finite-plus b h))

cond-is : (x y : ℕ) → x < y → cond (ltb x y) x y ≡ x
cond-is x y h = go (ltb x y) (lt→ltb x y h)
  where
    go : (t : Bool) → T t → cond t x y ≡ x
    go true t = refl
    go false t = absurd t

-- the quotient is no less than b / 2 ^ 29
quotient-least : (b : ℕ) → b / 536870912 ≤ closest b 536870912
quotient-least b = nearest-ge (b / 536870912) (compare (b % 536870912 * 2) 536870912)

pub narrow-sub : (b : ℕ) → 4039728865751334912 ≤ b → 7516192768 ≤ closest b 536870912
narrow-sub b h = omega (arith, quotient-least b)

pub done-normal : (b q : ℕ) → 4039728865751334912 ≤ b → q ≡ closest b 536870912 → q < 9655287808
    → (of_bits binary32 (q - 7516192768) ≡ narrowed (of_bits binary64 b)) × (q - 7516192768 ≤ 2139095040)
done-normal b q l e h =
    let f : b < 9218868437227405312 = omega (arith, quotient-least b) in
    let m : closest b 536870912 - 7516192768 < 2139095040 = omega (arith, narrow-sub b l) in
    let s : q - 7516192768 ≡ closest b 536870912 - 7516192768 = ap (λ (x : ℕ). x - 7516192768) e in
    (ap (λ (y : ℕ). of_bits binary32 y) s ∙ from-wide b (closest b 536870912 - 7516192768) f (wide-normal b l f ∙ cond-is (closest b 536870912 - 7516192768) 2139095040 m), omega arith)

inf-bits64 : narrowed (of_bits binary64 9218868437227405312) ≡ inf false
unfolding narrowed of_bits
inf-bits64 = refl

inf-bits32 : of_bits binary32 2139095040 ≡ inf false
unfolding of_bits
inf-bits32 = refl

pub done-inf : (b q : ℕ) → 4039728865751334912 ≤ b → b ≤ 9218868437227405312 → q ≡ closest b 536870912 → 9655287808 ≤ q
    → (of_bits binary32 2139095040 ≡ narrowed (of_bits binary64 b)) × (2139095040 ≤ 2139095040)
done-inf b q l u e h = elim (eq-or-lt_of_le u) [
  | inl i ↦ (inf-bits32 ∙ sym inf-bits64 ∙ ap (λ (y : ℕ). narrowed (of_bits binary64 y)) (sym i), le_refl 2139095040)
  | inr f ↦ (from-wide b 2139095040 f (wide-normal b l f ∙ cond_no (ltb (closest b 536870912 - 7516192768) 2139095040) (closest b 536870912 - 7516192768) 2139095040 (le→nltb (closest b 536870912 - 7516192768) 2139095040 (enough (closest b 536870912) q e h))), le_refl 2139095040)
]
  where
    enough : (x q : ℕ) → q ≡ x → 9655287808 ≤ q → 2139095040 ≤ x - 7516192768
    enough x q e h = omega arith

-- the unit of a subnormal `f32`
pub shifted_one : (e : ℕ) → 872 ≤ e → e ≤ 896 → (1 * 2 ^ (926 - e) % 18446744073709551616 ≡ 2 ^ (926 - e)) × (2 ≤ 2 ^ (926 - e)) × (2 ^ (926 - e) ≤ 4611686018427387904) × (1073741824 ≤ 2 ^ (926 - e))
shifted_one e l h =
    let p : 30 ≤ 926 - e = omega arith in
    let q : 926 - e ≤ 54 = omega arith in
    let P : 2 ^ 30 ≤ 2 ^ (926 - e) = pow_mono {i = 30} {j = 926 - e} p in
    let Q : 2 ^ (926 - e) ≤ 2 ^ 54 = pow_mono {i = 926 - e} {j = 54} q in
    (ap (λ (x : ℕ). x % 18446744073709551616) (one-mul (2 ^ (926 - e))) ∙ mod-eq_of_lt (omega arith), omega arith, omega arith, omega arith)

pub done-small : (b q u : ℕ) → 3927138875067072512 ≤ b → b < 4039728865751334912 → u ≡ 2 ^ (926 - b / 4503599627370496) → 1073741824 ≤ u → q ≡ closest (b % 4503599627370496 + 4503599627370496) u
    → (of_bits binary32 q ≡ narrowed (of_bits binary64 b)) × (q ≤ 2139095040)
done-small b q u l h e w c =
    let s = b % 4503599627370496 + 4503599627370496 in
    let f : b < 9218868437227405312 = omega arith in
    let f' : 4503599627370496 ≤ b = omega arith in
    let k : s < 16777216 * u = omega (arith, digit b) in
    let U : 0 < u = omega arith in
    let d : wide b ≡ q = wide-small b f' h ∙ ap₂ (λ (x y : ℕ). closest x y) (add_comm 4503599627370496 (b % 4503599627370496)) (sym e) ∙ sym c in
    (from-wide b q f d, le_trans (le_of_eq c) (le_trans (K-most s u U k) (lit≤ tt)))

pub done-zero : (b : ℕ) → b < 3927138875067072512 → (of_bits binary32 0 ≡ narrowed (of_bits binary64 b)) × (0 ≤ 2139095040)
done-zero b h = (from-wide b 0 (omega arith) (wide-tiny b h), omega arith)

-- ---- the sign's place of an `f64`'s pattern
fields_neg : (x t : ℕ) → of_fields binary64 true x t ≡ neg (of_fields binary64 false x t)
unfolding of_fields
fields_neg zero t = neg-odd 53 t 0 1074
fields_neg (suc x) t =
    neg-cond (eqb (suc x) 2047) (cond (eqb t 0) (inf true) nan) (odd 53 true (4503599627370496 + t) x 1074) (cond (eqb t 0) (inf false) nan) (odd 53 false (4503599627370496 + t) x 1074)
    (neg-cond (eqb t 0) (inf true) nan (inf false) nan inf-neg nan-neg) (neg-odd 53 (4503599627370496 + t) x 1074)

odd-unsigned : (d q k l : ℕ) → T (unsigned (odd d false q k l))
unfolding odd
odd-unsigned d zero k l = tt
odd-unsigned d (suc q) k l = tt

cond-unsigned : (b : Bool) (x y : Float) → T (unsigned x) → T (unsigned y) → T (unsigned (cond b x y))
cond-unsigned true x y p q = p
cond-unsigned false x y p q = q

fields-unsigned : (x t : ℕ) → T (unsigned (of_fields binary64 false x t))
unfolding of_fields
fields-unsigned zero t = odd-unsigned 53 t 0 1074
fields-unsigned (suc x) t = cond-unsigned (eqb (suc x) 2047) (cond (eqb t 0) (inf false) nan) (odd 53 false (4503599627370496 + t) x 1074) (cond-unsigned (eqb t 0) (inf false) nan tt tt) (odd-unsigned 53 (4503599627370496 + t) x 1074)

upper-bits : (b : ℕ) → b < 9223372036854775808 → (of_bits binary64 (9223372036854775808 + b) ≡ neg (of_bits binary64 b)) × T (unsigned (of_bits binary64 b))
unfolding of_bits
upper-bits b h =
    let B = 9223372036854775808 + b in
    let x = b % 9223372036854775808 / 4503599627370496 in
    let t = b % 4503599627370496 in
    let p : B % 9223372036854775808 / 4503599627370496 ≡ x = omega arith in
    let q : B % 4503599627370496 ≡ t = omega arith in
    let s : leb 9223372036854775808 b ≡ false = is_false (leb 9223372036854775808 b) (lt→nleb 9223372036854775808 b h) in
    let u : leb 9223372036854775808 B ≡ true = is_true (leb 9223372036854775808 B) (le→leb 9223372036854775808 B (omega arith)) in (
      ap (λ (z : Bool). of_fields binary64 z (B % 9223372036854775808 / 4503599627370496) (B % 4503599627370496)) u
          ∙ ap₂ (λ (y z : ℕ). of_fields binary64 true y z) p q
          ∙ fields_neg x t
          ∙ ap (λ (z : Bool). neg (of_fields binary64 z x t)) (sym s),
      subst (λ (z : Bool). T (unsigned (of_fields binary64 z x t))) (sym s) (fields-unsigned x t),
    )

-- ---- what `narrow` returns
pub no_nan : (x : Float) → ne x x ≡ false → T (not (is_nan x))
unfolding is_nan
no_nan nan h = absurd (true≢false (sym nan_differs ∙ h))
no_nan (inf s) h = tt
no_nan (fin s m e) h = tt

pub number : (x : Float) → ne x x ≡ false → is_nan x ≡ false
number x h = is_false (is_nan x) (no_nan x h)

-- what holds of a NaN holds of what differs from itself
pub when-nan : (P : Float → Type 0) (x : Float) → ne x x ≡ true → P nan → P x
when-nan P x h p = subst P (sym (differs_from_itself x (subst T (sym h) tt))) p

-- `x.is_nan()` tests whether x differs from itself
pub differs : (x : Float) {b c : Bool} → b ≡ is_nan x → b ≡ c → ne x x ≡ c
unfolding is_nan
differs x e h = go (ne x x) refl ∙ sym e ∙ h
  where
    go : (t : Bool) → ne x x ≡ t → t ≡ is_nan x
    go true k = when-nan (λ (y : Float). true ≡ is_nan y) x k refl
    go false k = sym (number x k)

-- what `x as f64` asks of an `f32`
pub to-double : (x : Float) → T (fits binary32 x) → T (not (is_nan x)) → T (fits binary64 x && not (is_nan x))
to-double x f n = and_i (fits binary64 x) (not (is_nan x)) (fits_widens x f) n

pub magnitude-most : (x : Float) → T (fits binary64 x) → T (not (is_nan x)) → to_bits binary64 x % 9223372036854775808 ≤ 9218868437227405312
magnitude-most x f n = nltb→le 9218868437227405312 (to_bits binary64 x % 9223372036854775808)
    (subst (λ (b : Bool). T (not b)) (nan_bits_above binary64 (to_bits binary64 x))
    (subst (λ (b : Bool). T (not b)) (sym (nan_bits_is binary64 (to_bits binary64 x))) (subst (λ (y : Float). T (not (is_nan y))) (sym (of_bits-to_bits binary64 x f)) n)))

pub small-no-nan : (r : ℕ) → r ≤ 2139095040 → T (not (nan_bits binary32 r))
small-no-nan r h = subst (λ (b : Bool). T (not b)) (sym (nan_bits_above binary32 r)) (le→nltb 2139095040 (r % 2147483648) (omega arith))

pub done-plus : (x : Float) (r : ℕ) → T (fits binary64 x) → of_bits binary32 r ≡ narrowed (of_bits binary64 (to_bits binary64 x)) → of_bits binary32 r ≡ narrowed x
done-plus x r f h = h ∙ ap narrowed (of_bits-to_bits binary64 x f)

pub done-minus : (b r : ℕ) → 9223372036854775808 ≤ b → b < 18446744073709551616 → of_bits binary32 r ≡ narrowed (of_bits binary64 (b - 9223372036854775808)) → neg (of_bits binary32 r) ≡ narrowed (of_bits binary64 b)
done-minus b r g k h =
    let low = b - 9223372036854775808 in
    let l : low < 9223372036854775808 = omega arith in
    let e : 9223372036854775808 + low ≡ b = omega arith in
    let u = upper-bits low l in
    ap neg h ∙ sym (narrowed-neg (of_bits binary64 low) u.1) ∙ ap narrowed (sym u.0 ∙ ap (λ (y : ℕ). of_bits binary64 y) e)

pub done-pattern : (x y : Float) → T (fits binary64 x) → y ≡ narrowed (of_bits binary64 (to_bits binary64 x)) → y ≡ narrowed x
done-pattern x y f h = h ∙ ap narrowed (of_bits-to_bits binary64 x f)

pub done-nan : (x : Float) → ne x x ≡ true → div binary32 (of_bits binary32 0) (of_bits binary32 0) ≡ narrowed x
unfolding div of_bits narrowed
done-nan x h = when-nan (λ (y : Float). nan ≡ narrowed y) x h refl

-- ---- 29 digits dropped without a branch
dropped : (b : ℕ) (o : Ordering) → Cmp o (b % 536870912 * 2) 536870912 → (b + 268435455 + b / 536870912 % 2) / 536870912 ≡ nearest (b / 536870912) o
dropped b Ordering.lt h = omega arith
dropped b Ordering.eq h = omega arith
dropped b Ordering.gt h = omega arith

pub drop-29 : (b : ℕ) → (b + 268435455 + b / 536870912 % 2) / 536870912 ≡ closest b 536870912
drop-29 b = dropped b (compare (b % 536870912 * 2) 536870912) (cmp (b % 536870912 * 2) 536870912)
