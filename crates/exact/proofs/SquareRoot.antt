-- std's square root is that of the specs: std takes the root to many binary places, with half a place more where it goes on, and rounds that;
-- the specs round the root itself, and compare squares. Assumes nothing.
use Rattle.std.proofs.Common.{◌≡◌, ℕ, zero, suc, ◌+◌, ◌-◌, ◌*◌, ◌/◌, ◌%◌, ◌^◌, ◌<◌, ◌≤◌, Bool, true, false, cond, not, T, eqb, leb, ℤ, pos, negsuc, sym, refl, ap, ◌∙◌, subst, ap₂, le_trans, le_of_eq, le_refl, lt_of_lt_of_le, le_of_suc-le-suc, div-lt_iff_lt-mul, mul-le-mul, le_antisymm, mul-lt-mul_of_pos_right, mul-pos, pow-suc, lt_of_not-le, le-div_iff_mul-le, div-mul-le_self, div-add-mod', mul-div_cancel, mul_assoc, mul-one, arith, lit<, lit≤, leb→le, eqb→eq, pow_pos, pow-add}
use Prim.Native.Nat.{compare, Ordering}
use native.Mathlib.Nat.{div-div-eq-div-mul, pow-le-pow_left}
use lib.Arith.{lt_of_le-ne}
use lib.Dec.{nleb→lt, eqb_refl}
use lib.Ieee.{Float, nan, inf, fin, Format, binary32, binary64, of_bits, prec, low, up, down, size, nearest, units, fits, round, sqrt, root_twice, root_below}
use lib.Ieee.Back.{whole_unique}
use lib.Ieee.Digits.{size-lt}
use lib.Ieee.Fits.{round_is, down_pos}
use lib.Ieee.Nearest.{closest, div_same}
use lib.Ieee.Order.{drop, kept}
use lib.Ieee.Root.{whole_part}
use Rattle.exact.specs.Root.{root_by, root, rooted, square_root}
use Rattle.exact.proofs.Rounding.{Cmp, cmp}
use Rattle.exact.proofs.Integrals.{held, lowest-exponent}

-- ---- the root of a number, cut to a whole one
abbrev square : ℕ → ℕ
square n = n * n

abbrev pub IsRoot : ℕ → ℕ → Type 0
IsRoot n r = (square r ≤ n) × (n < square (r + 1))

root-step : (r n : ℕ) → IsRoot (n / 4) r → (b : Bool) → (T b → square (2 * r + 1) ≤ n) → (T (not b) → n < square (2 * r + 1)) → IsRoot n (cond b (2 * r + 1) (2 * r))
root-step r n h true a b = let l = h.0 in let u = h.1 in let k = a tt in (k, omega arith)
root-step r n h false a b = let l = h.0 in let k = b tt in (omega arith, k)

root_by-is_root : (i n : ℕ) → n < 4 ^ i → IsRoot n (root_by i n)
unfolding root_by
root_by-is_root zero n h = (omega arith, omega arith)
root_by-is_root (suc i) n h =
    let r = root_by i (n / 4) in
    let k : n < 4 ^ i * 4 = subst (λ (z : ℕ). n < z) (pow-suc 4 i) h in
    root-step r n (root_by-is_root i (n / 4) ((div-lt_iff_lt-mul (lit< tt)).1 k)) (leb (square (2 * r + 1)) n) (leb→le (square (2 * r + 1)) n) (nleb→lt (square (2 * r + 1)) n)

pub root_is : (n : ℕ) → IsRoot n (root n)
unfolding root
root_is n = root_by-is_root (size n) n (lt_of_lt_of_le (size-lt n) (pow-le-pow_left (lit≤ {m = 2} {n = 4} tt) (size n)))

-- there is one such number
no-larger : (n r s : ℕ) → square r ≤ n → n < square (s + 1) → r ≤ s
no-larger n r s h k = le_of_suc-le-suc (lt_of_not-le (λ (g : suc s ≤ r). bad (mul-le-mul g g)))
  where
    bad : suc s * suc s ≤ r * r → ⊥
    bad z = omega arith

pub only-root : (n r : ℕ) → IsRoot n r → r ≡ root n
only-root n r h = let k = root_is n in le_antisymm (no-larger n r (root n) h.0 k.1) (no-larger n (root n) r k.0 h.1)

-- the root over p is that of the number over p * p, both cut
root-over : (n r p : ℕ) → 0 < p → IsRoot n r → IsRoot (n / (p * p)) (r / p)
root-over n r p P h =
    let q = r / p in
    let l : q * p ≤ r = div-mul-le_self r p in
    let u : r < suc q * p = (div-lt_iff_lt-mul P).0 (le_refl (suc q)) in (
      (le-div_iff_mul-le (mul-pos P P)).1 (le_trans (le_trans (le_of_eq (regroup q p)) (mul-le-mul l l)) h.0),
      (div-lt_iff_lt-mul (mul-pos P P)).1 (lt_of_lt_of_le h.1 (le_trans (mul-le-mul (more r (suc q * p) u) (more r (suc q * p) u)) (le_of_eq (next q p)))),
    )
  where
    regroup : (q p : ℕ) → q * q * (p * p) ≡ q * p * (q * p)
    regroup q p = omega arith

    next : (q p : ℕ) → suc q * p * (suc q * p) ≡ (q + 1) * (q + 1) * (p * p)
    next q p = omega arith

    more : (r z : ℕ) → r < z → r + 1 ≤ z
    more r z h = omega arith

-- ---- comparisons that come to the same
apart : {x y : ℕ} → x < y → x ≡ y → ⊥
apart h k = omega arith

across : {x y : ℕ} → x < y → y < x → ⊥
across h k = omega arith

one_order : (a b c e : ℕ) (o p : Ordering) → Cmp o a b → Cmp p c e → (a < b → c < e) → (a ≡ b → c ≡ e) → (b < a → e < c) → o ≡ p
one_order a b c e Ordering.lt Ordering.lt h k l m n = refl
one_order a b c e Ordering.eq Ordering.eq h k l m n = refl
one_order a b c e Ordering.gt Ordering.gt h k l m n = refl
one_order a b c e Ordering.lt Ordering.eq h k l m n = absurd (apart (l h) k)
one_order a b c e Ordering.lt Ordering.gt h k l m n = absurd (across (l h) k)
one_order a b c e Ordering.eq Ordering.lt h k l m n = absurd (apart k (m h))
one_order a b c e Ordering.eq Ordering.gt h k l m n = absurd (apart k (sym (m h)))
one_order a b c e Ordering.gt Ordering.lt h k l m n = absurd (across (n h) k)
one_order a b c e Ordering.gt Ordering.eq h k l m n = absurd (apart (n h) (sym k))

same-order : (a b c e : ℕ) → (a < b → c < e) → (a ≡ b → c ≡ e) → (b < a → e < c) → compare a b ≡ compare c e
same-order a b c e = one_order a b c e (compare a b) (compare c e) (cmp a b) (cmp c e)

order-times : (a b z : ℕ) → 0 < z → compare a b ≡ compare (a * z) (b * z)
order-times a b z Z = same-order a b (a * z) (b * z) (λ (h : a < b). mul-lt-mul_of_pos_right h Z) (ap (λ (y : ℕ). y * z)) (λ (h : b < a). mul-lt-mul_of_pos_right h Z)

order-plus : (a b z : ℕ) → compare a b ≡ compare (a + z) (b + z)
order-plus a b z = same-order a b (a + z) (b + z) (λ (h : a < b). omega arith) (ap (λ (y : ℕ). y + z)) (λ (h : b < a). omega arith)

-- the root with its half place beside an even number, as four times the number beside its square
order_squares : (n r g : ℕ) (whole : Bool) → IsRoot n r → (T whole → r * r ≡ n) → (T (not whole) → r * r < n) → compare (2 * r + cond whole 0 1) (2 * g) ≡ compare (4 * n) (2 * g * (2 * g))
order_squares n r g true h a b =
    let e = a tt in
    same-order (2 * r + 0) (2 * g) (4 * n) (2 * g * (2 * g))
    (λ (k : 2 * r + 0 < 2 * g). omega (arith, mul-le-mul (up r g k) (up r g k)))
    (λ (k : 2 * r + 0 ≡ 2 * g). omega (arith, ap (λ (z : ℕ). z * z) (half r g k)))
    (λ (k : 2 * g < 2 * r + 0). omega (arith, mul-le-mul (back r g k) (back r g k)))
  where
    up : (r g : ℕ) → 2 * r + 0 < 2 * g → r + 1 ≤ g
    up r g k = omega arith

    half : (r g : ℕ) → 2 * r + 0 ≡ 2 * g → r ≡ g
    half r g k = omega arith

    back : (r g : ℕ) → 2 * g < 2 * r + 0 → g + 1 ≤ r
    back r g k = omega arith
order_squares n r g false h a b =
    let l = b tt in
    let u = h.1 in
    same-order (2 * r + 1) (2 * g) (4 * n) (2 * g * (2 * g))
    (λ (k : 2 * r + 1 < 2 * g). omega (arith, mul-le-mul (up r g k) (up r g k)))
    (λ (k : 2 * r + 1 ≡ 2 * g). absurd (odd r g k))
    (λ (k : 2 * g < 2 * r + 1). omega (arith, mul-le-mul (back r g k) (back r g k)))
  where
    up : (r g : ℕ) → 2 * r + 1 < 2 * g → r + 1 ≤ g
    up r g k = omega arith

    odd : (r g : ℕ) → 2 * r + 1 ≡ 2 * g → ⊥
    odd r g k = omega arith

    back : (r g : ℕ) → 2 * g < 2 * r + 1 → g ≤ r
    back r g k = omega arith

is_square : (r n : ℕ) → r * r ≤ n → T (not (eqb (r * r) n)) → r * r < n
is_square r n h k = lt_of_le-ne h (λ (e : r * r ≡ n). clash (eqb (r * r) n) (subst (λ (z : ℕ). T (eqb (r * r) z)) e (eqb_refl (r * r))) k)
  where
    clash : (b : Bool) → T b → T (not b) → ⊥
    clash true h k = k
    clash false h k = h

order-root : (n g : ℕ) → compare (root_twice n) (2 * g) ≡ compare (4 * n) (2 * g * (2 * g))
unfolding root_twice
order-root n g = let r = root_below (size n) n in let h = whole_part n in order_squares n r g (eqb (r * r) n) h (eqb→eq (r * r) n) (is_square r n h.0)

half-root : (n : ℕ) → root_twice n / 2 ≡ root_below (size n) n
unfolding root_twice
half-root n = let r = root_below (size n) n in go r (eqb (r * r) n)
  where
    go : (r : ℕ) (b : Bool) → (2 * r + cond b 0 1) / 2 ≡ r
    go r true = omega arith
    go r false = omega arith

-- ---- std's places beside the format's own
four : (c : ℕ) → 4 ^ c ≡ 2 ^ c * 2 ^ c
four zero = refl
four (suc c) = pow-suc 4 c ∙ ap (λ (z : ℕ). z * 4) (four c) ∙ regroup (2 ^ c) ∙ sym (ap (λ (z : ℕ). z * z) (pow-suc 2 c))
  where
    regroup : (p : ℕ) → p * p * 4 ≡ p * 2 * (p * 2)
    regroup p = omega arith

-- m / d has the root w in units; n * d is m in std's places
module _ (m d n S L : ℕ) (D : 0 < d) (P : 0 < S) (Q : 0 < L) (e : n * d ≡ m * (2 * S * (2 * S))) where
  cut-root : root_twice n * L / (4 * S * L) ≡ root (m / d)
  cut-root =
      let t = root_twice n in
      let r = root_below (size n) n in
      let twice : 0 < 2 * S = mul-pos {m = 2} (lit< tt) P in
      div_same (t * L) (4 * S * L) t (2 * (2 * S)) (mul-pos (mul-pos {m = 4} (lit< tt) P) Q) (mul-pos {m = 2} (lit< tt) twice) (regroup t S L)
      ∙ sym (div-div-eq-div-mul t 2 (2 * S))
      ∙ ap (λ (z : ℕ). z / (2 * S)) (half-root n)
      ∙ only-root (n / (2 * S * (2 * S))) (r / (2 * S)) (root-over n r (2 * S) twice (whole_part n))
      ∙ ap root (div_same n (2 * S * (2 * S)) m d (mul-pos twice twice) D e)
    where
      regroup : (t S L : ℕ) → t * L * (2 * (2 * S)) ≡ t * (4 * S * L)
      regroup t S L = omega arith

  -- the middle between q and q + 1, each times K units
  middle : (K q : ℕ) → 0 < K → root_twice n * L / (4 * S * L * K) ≡ q → compare (root_twice n * L % (4 * S * L * K) * 2) (4 * S * L * K) ≡ compare (4 * m) ((2 * q + 1) * (2 * q + 1) * (K * K) * d)
  middle K q k h =
      let t = root_twice n in
      let u = 4 * S * L * K in
      let x = t * L in
      let g = (2 * q + 1) * (S * K) in
      let whole : q * u + x % u ≡ x = subst (λ (z : ℕ). z * u + x % u ≡ x) h (div-add-mod' x u) in
      order-plus (x % u * 2) u (2 * (q * u))
      ∙ ap₂ compare (left (q * u) (x % u) x t L whole refl) (right q S L K)
      ∙ sym (order-times t (2 * g) (2 * L) (mul-pos {m = 2} (lit< tt) Q))
      ∙ order-root n g
      ∙ order-times (4 * n) (2 * g * (2 * g)) d D
      ∙ ap₂ compare (fours n d m (2 * S * (2 * S)) e) (squares q S K d)
      ∙ sym (order-times (4 * m) ((2 * q + 1) * (2 * q + 1) * (K * K) * d) (2 * S * (2 * S)) (mul-pos (mul-pos {m = 2} (lit< tt) P) (mul-pos {m = 2} (lit< tt) P)))
    where
      left : (y r x t L : ℕ) → y + r ≡ x → x ≡ t * L → r * 2 + 2 * y ≡ t * (2 * L)
      left y r x t L h k = omega (arith, h, k)

      right : (q S L K : ℕ) → 4 * S * L * K + 2 * (q * (4 * S * L * K)) ≡ 2 * ((2 * q + 1) * (S * K)) * (2 * L)
      right q S L K = omega arith

      fours : (n d m p : ℕ) → n * d ≡ m * p → 4 * n * d ≡ 4 * m * p
      fours n d m p h = omega (arith, h)

      squares : (q S K d : ℕ) → 2 * ((2 * q + 1) * (S * K)) * (2 * ((2 * q + 1) * (S * K))) * d ≡ (2 * q + 1) * (2 * q + 1) * (K * K) * d * (2 * S * (2 * S))
      squares q S K d = omega arith

-- n * d is a in std's places, and W its unit
root-rounded : (f : Format) (a d n S W : ℕ) → 0 < d → 0 < S → W ≡ 4 * S * 2 ^ low f → n * d ≡ a * 4 ^ low f * (2 * S * (2 * S)) → round f false (root_twice n) W ≡ rooted f a d
unfolding rooted
root-rounded f a d n S W D P places e =
    let p = prec f in
    let L = 2 ^ low f in
    let t = root_twice n in
    let m = a * 4 ^ low f in
    let w = root (m / d) in
    let k = size w - p in
    let q = w / 2 ^ k in
    let U = 4 * S * L in
    let w-is : t * L / U ≡ w = cut-root m d n S L D P (pow_pos (low f)) e in
    let q-is : t * L / (U * 2 ^ k) ≡ q = sym (div-div-eq-div-mul (t * L) U (2 ^ k)) ∙ ap (λ (z : ℕ). z / 2 ^ k) w-is in
    round_is f false t W
    ∙ ap (λ (z : ℕ). units f false (kept p (t * L) z) (drop p (t * L) z)) places
    ∙ ap (λ (z : ℕ). units f false (closest (t * L) (U * 2 ^ (size z - p))) (size z - p)) w-is
    ∙ ap₂ (λ (y : ℕ) (o : Ordering). units f false (nearest y o) k) q-is
    (middle m d n S L D P (pow_pos (low f)) e (2 ^ k) q (pow_pos k) q-is ∙ ap (λ (z : ℕ). compare (4 * m) ((2 * q + 1) * (2 * q + 1) * z * d)) (sym (four k)))

-- ---- std's places hold the number itself
divides : (e : ℤ) (l v : ℕ) → l ≤ v → down e ≤ 2 ^ l → (c : ℕ) × (c * down e ≡ 2 ^ v)
divides (pos k) l v g h = (2 ^ v, mul-one (2 ^ v))
divides (negsuc k) l v g h =
    let s : suc k ≤ v = le_trans (lowest-exponent l k h) g in
    (2 ^ (v - suc k), sym (pow-add 2 (v - suc k) (suc k)) ∙ ap (λ (z : ℕ). 2 ^ z) (back v (suc k) s))
  where
    back : (v k : ℕ) → k ≤ v → v - k + k ≡ v
    back v k h = omega arith

cut_exact : (a c d v : ℕ) → 0 < d → c * d ≡ v → a * v / d * d ≡ a * v
cut_exact a c d v D e = ap (λ (z : ℕ). a * z / d * d) (sym e) ∙ ap (λ (z : ℕ). z / d * d) (sym (mul_assoc a c d)) ∙ ap (λ (z : ℕ). z * d) (mul-div_cancel (a * c) D) ∙ mul_assoc a c d ∙ ap (λ (z : ℕ). a * z) e

-- for std's numbers of places, v and u
root-in-places : (f : Format) (m : ℕ) (e : ℤ) (v u S : ℕ) → T (fits f (fin false (suc m) e)) → low f ≤ v → 0 < S → 2 ^ u ≡ 4 * S * 2 ^ low f → 2 ^ v ≡ 4 ^ low f * (2 * S * (2 * S))
    → round f false (root_twice (suc m * up e * 2 ^ v / down e)) (2 ^ u) ≡ rooted f (suc m * up e) (down e)
root-in-places f m e v u S t g P x y =
    let a = suc m * up e in
    let c = divides e (low f) v g (held f false (suc m) e t).lowest in
    root-rounded f a (down e) (a * 2 ^ v / down e) S (2 ^ u) (down_pos e) P x
    (cut_exact a c.0 (down e) (2 ^ v) (down_pos e) c.1 ∙ ap (λ (z : ℕ). a * z) y ∙ sym (mul_assoc a (4 ^ low f) (2 * S * (2 * S))))

pub root_same : (f : Format) (x : Float) → T (fits f x) → sqrt f x ≡ square_root f x
unfolding sqrt square_root fits
root_same f nan t = refl
root_same f (inf true) t = refl
root_same f (inf false) t = refl
root_same f (fin s zero e) t = whole_unique f (fin s 0 (pos 0)) (fin s 0 e) s 0 tt t (refl, refl) (refl, none (up e) (down e))
  where
    none : (u d : ℕ) → 0 * u * 1 ≡ 0 * d
    none u d = omega arith
root_same f (fin true (suc m) e) t = refl
root_same binary32 (fin false (suc m) e) t = root-in-places binary32 m e 4542 2272 (2 ^ 2121) t (lit≤ tt) (pow_pos 2121) refl refl
root_same binary64 (fin false (suc m) e) t = root-in-places binary64 m e 4542 2272 (2 ^ 1196) t (lit≤ tt) (pow_pos 1196) refl refl

-- ---- examples: a root that is exact, the root of 2, and that of the least `f32`
root-of-nine : square_root binary32 (fin false 9 (pos 0)) ≡ fin false 3 (pos 0)
unfolding square_root
root-of-nine = refl

root-of-two : square_root binary32 (fin false 1 (pos 1)) ≡ of_bits binary32 0x3fb504f3
unfolding square_root of_bits
root-of-two = refl

root-of-least : square_root binary32 (of_bits binary32 1) ≡ of_bits binary32 0x1a3504f3
unfolding square_root of_bits
root-of-least = refl
