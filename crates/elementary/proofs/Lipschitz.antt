-- The series, and E, change little where the argument does. Assumes nothing.
use Rattle.std.proofs.Common.{◌≡◌, ℕ, suc, ◌+◌, ◌*◌, ◌/◌, ◌%◌, ◌^◌, ◌<◌, ◌≤◌, Bool, true, false, not, ◌&&◌, T, ltb, leb, ◌⊎◌, List, [], ◌∷◌, ◌++◌, length, sym, refl, ap, ◌∙◌, subst, subst₂, inl, inr, le_trans, le_of_eq, le_refl, le_of_lt, mul-le-mul_right, mod-lt, eq-or-lt_of_le, mul-le-mul_left, one-mul, pow-suc, div-add-mod', mul-one, le_of_mul-le-mul_right, arith, lit<, lit≤, ltb→lt, leb→le, nltb→le, pow_mono}
use lib.Ieee.Fits.{and_l, and_r}
use Rattle.elementary.specs.Fraction.{Frac, horner_q, LeQ, one_q, over}
use Rattle.elementary.proofs.Truncation.{le_q-trans, horner-mono, horner-pos, Pos}
use Rattle.elementary.specs.Power.{E, coef, coefs, series}
use Rattle.elementary.proofs.Series.{series-is, series-pos, series-least, series-most, series-zero, series-mono, all-pos}

-- the denominator does not turn on the numerator of the argument
pub same-bot : (x y c : ℕ) (q : Frac) (qs : List Frac) → (horner_q (over x c) q qs).bot ≡ (horner_q (over y c) q qs).bot
unfolding horner_q
same-bot x y c q [] = refl
same-bot x y c q (r ∷ qs) = ap (λ (b : ℕ). q.bot * (c * b)) (same-bot x y c r qs)

-- each tail of the polynomial is at most 1 at 1
abbrev tail-ok : Frac → List Frac → Bool
tail-ok q [] = leb ((horner_q one_q q []).top * 1) (1 * (horner_q one_q q []).bot)
tail-ok q (r ∷ qs) = leb ((horner_q one_q q (r ∷ qs)).top * 1) (1 * (horner_q one_q q (r ∷ qs)).bot)

abbrev pub tails-ok : List Frac → Bool
tails-ok [] = true
tails-ok (q ∷ qs) = tail-ok q qs && tails-ok qs

tail-le : (q : Frac) (qs : List Frac) → T (tail-ok q qs) → LeQ (horner_q one_q q qs) one_q
tail-le q [] t = leb→le ((horner_q one_q q []).top * 1) (1 * (horner_q one_q q []).bot) t
tail-le q (r ∷ qs) t = leb→le ((horner_q one_q q (r ∷ qs)).top * 1) (1 * (horner_q one_q q (r ∷ qs)).bot) t

to_one : (x c : ℕ) → x ≤ c → LeQ (over x c) one_q
to_one x c h = omega arith

-- one step: A + y * Ty * d against A + x * Tx * d
lip-step : (A B Tx Ty d c x y e n : ℕ) → y ≤ x + e → y ≤ c → Tx ≤ B → c * Ty ≤ c * Tx + n * e * B
    → c * (A + y * Ty * d) ≤ c * (A + x * Tx * d) + suc n * e * (d * (c * B))
lip-step A B Tx Ty d c x y e n h k m i =
    let a : y * d * (c * Ty) ≤ y * d * (c * Tx + n * e * B) = mul-le-mul_left (y * d) i in
    let b : y * (d * c * Tx) ≤ (x + e) * (d * c * Tx) = mul-le-mul_right (d * c * Tx) h in
    let f : y * (d * (n * e * B)) ≤ c * (d * (n * e * B)) = mul-le-mul_right (d * (n * e * B)) k in
    let g : e * d * c * Tx ≤ e * d * c * B = mul-le-mul_left (e * d * c) m in
    omega arith

pub horner-lip : (x y c e : ℕ) (q : Frac) {qs : List Frac} → 0 < c → y ≤ x + e → x ≤ c → y ≤ c → T (tails-ok qs) → Pos qs
    → c * (horner_q (over y c) q qs).top ≤ c * (horner_q (over x c) q qs).top + length qs * e * (horner_q (over x c) q qs).bot
unfolding horner_q
horner-lip x y c e q C h k l t Pos.none = omega arith
horner-lip x y c e q C h k l t (Pos.also {q = r} {qs = qs} R P) =
    let X = over x c in
    let Y = over y c in
    let H = horner_q X r qs in
    let G = horner_q Y r qs in
    let ih = horner-lip x y c e r C h k l (and_r (tail-ok r qs) (tails-ok qs) t) P in
    let small : H.top * 1 ≤ 1 * H.bot = le_q-trans H (horner_q one_q r qs) one_q (horner-pos one_q r (lit< tt) R P) (horner-mono X one_q r qs (to_one x c k)) (tail-le r qs (and_l (tail-ok r qs) (tails-ok qs) t)) in
    subst (λ (b : ℕ). c * (q.top * (c * b) + y * G.top * q.bot) ≤ c * (q.top * (c * H.bot) + x * H.top * q.bot) + suc (length qs) * e * (q.bot * (c * H.bot))) (same-bot x y c r qs)
    (lip-step (q.top * (c * H.bot)) H.bot H.top G.top q.bot c x y e (length qs) h l (omega arith) ih)

-- ---- the series
abbrev pub all-coefs : List Frac
all-coefs = coefs 1 12 ++ (coef 13 ∷ coefs 14 7)

all-tails : T (tails-ok all-coefs)
unfolding coefs horner_q
all-tails = tt

all-length : length all-coefs ≡ 20
unfolding coefs
all-length = refl

pub series-lip : (x y c e : ℕ) → 0 < c → y ≤ x + e → x ≤ c → y ≤ c → c * (series (over y c)).top ≤ c * (series (over x c)).top + 20 * e * (series (over x c)).bot
series-lip x y c e C h k l =
    subst₂ (λ (u v : Frac). c * u.top ≤ c * v.top + 20 * e * v.bot) (sym (series-is (over y c))) (sym (series-is (over x c)))
    (subst (λ (n : ℕ). c * (horner_q (over y c) one_q all-coefs).top ≤ c * (horner_q (over x c) one_q all-coefs).top + n * e * (horner_q (over x c) one_q all-coefs).bot) all-length (horner-lip x y c e one_q C h k l all-tails all-pos))

pub series-bot : (x y c : ℕ) → (series (over x c)).bot ≡ (series (over y c)).bot
series-bot x y c = subst₂ (λ (u v : Frac). u.bot ≡ v.bot) (sym (series-is (over x c))) (sym (series-is (over y c))) (same-bot x y c one_q all-coefs)

-- nearly 2 at 1
pub near-two : LeQ (over 1099511627775 549755813888) (series one_q)
unfolding series
near-two = lit≤ tt

-- ---- E, where the argument grows by e / c at most, e / c up to 2 ^ -44
-- T at s against T at r, from c * Ts ≤ c * Tr + 20 * e * B
scaled : (c Ts Tr e B : ℕ) → 0 < c → e * 17592186044416 ≤ c → c * Ts ≤ c * Tr + 20 * e * B → Ts * 549755813888 ≤ Tr * 549755813888 + B
scaled c Ts Tr e B C h k = le_of_mul-le-mul_right {k = c} (omega (arith, mul-le-mul_right B h, mul-le-mul_right 549755813888 k)) C

pub lt-or-ge : (m n : ℕ) → (m < n) ⊎ (n ≤ m)
lt-or-ge m n = go (ltb m n) (ltb→lt m n) (nltb→le m n)
  where
    go : (t : Bool) → (T t → m < n) → (T (not t) → n ≤ m) → (m < n) ⊎ (n ≤ m)
    go true h k = inl (h tt)
    go false h k = inr (k tt)

first : (x z b : ℕ) → x * 549755813888 ≤ z * 549755813888 + b → z ≤ b → 2 * (x * 549755813888) ≤ 1099511627778 * b
first x z b h k = omega arith

second : (w y b : ℕ) → w * 549755813888 ≤ y * 549755813888 + b → 1099511627775 * b ≤ w * 549755813888 → 1099511627774 * b ≤ y * 549755813888
second w y b h k = omega arith

last : (x y b : ℕ) → 2 * (x * 549755813888) ≤ 1099511627778 * b → 1099511627774 * b ≤ y * 549755813888 → b ≤ y → x * 2 * 137438953472 ≤ y * 137438953473
last x y b h k l =
    let p : 1099511627778 * b ≤ y * 549755813888 + 4 * y = omega arith in
    let q : 2 * (x * 549755813888) ≤ y * 549755813888 + 4 * y = le_trans h p in
    quarter x y q
  where
    quarter : (x y : ℕ) → 2 * (x * 549755813888) ≤ y * 549755813888 + 4 * y → x * 2 * 137438953472 ≤ y * 137438953473
    quarter x y h = omega arith

module _ (c e : ℕ) (C : 0 < c) (small : e * 17592186044416 ≤ c) where
  abbrev S : ℕ → ℕ
  S x = (series (over x c)).top

  abbrev B : ℕ
  B = (series (over 0 c)).bot

  close : (x y : ℕ) → y ≤ x + e → x ≤ c → y ≤ c → S y * 549755813888 ≤ S x * 549755813888 + B
  close x y h k l = scaled c (S y) (S x) e B C small (subst (λ (b : ℕ). c * S y ≤ c * S x + 20 * e * b) (series-bot x 0 c) (series-lip x y c e C h k l))

  least : (x : ℕ) → B ≤ S x
  least x = subst (λ (b : ℕ). b ≤ S x) (series-bot x 0 c) (le_trans (le_of_eq (sym (one-mul (series (over x c)).bot))) (le_trans (series-least (over x c)) (le_of_eq (mul-one (S x)))))

  most : (x : ℕ) → x ≤ c → S x ≤ 2 * B
  most x h = subst (λ (b : ℕ). S x ≤ 2 * b) (series-bot x 0 c) (le_trans (le_of_eq (sym (mul-one (S x)))) (series-most (over x c) h))

  at_zero : S 0 ≤ B
  at_zero = le_trans (le_of_eq (sym (mul-one (S 0)))) (le_trans (series-zero (over 0 c) refl) (le_of_eq (one-mul B)))

  at_one : 1099511627775 * B ≤ S c * 549755813888
  at_one = subst (λ (b : ℕ). 1099511627775 * b ≤ S c * 549755813888) (series-bot c 0 c)
      (le_q-trans (over 1099511627775 549755813888) (series one_q) (series (over c c)) (series-pos one_q (lit< tt)) near-two (series-mono one_q (over c c) (omega arith)))

  same-floor : (r s : ℕ) → r ≤ c → s ≤ c → s ≤ r + e → S s * 137438953472 ≤ S r * 137438953473
  same-floor r s k l h = omega (arith, close r s h k l, least r)

  next-floor : (r s : ℕ) → r ≤ c → s ≤ c → s + c ≤ r + e → S s * 2 * 137438953472 ≤ S r * 137438953473
  next-floor r s k l h =
      let a : S s * 549755813888 ≤ S 0 * 549755813888 + B = close 0 s (omega arith) (omega arith) l in
      let b : S c * 549755813888 ≤ S r * 549755813888 + B = close r c (omega arith) k (le_refl c) in
      last (S s) (S r) B (first (S s) (S 0) B a at_zero) (second (S c) (S r) B b at_one) (least r)

  -- with the powers of two
  earlier : (r s m n : ℕ) → s ≤ c → suc m ≤ n → S s * 2 ^ m * 137438953472 ≤ S r * 2 ^ n * 137438953473
  earlier r s m n l h =
      let w : 2 ^ m * 2 ≤ 2 ^ n = le_trans (le_of_eq (sym (pow-suc 2 m))) (pow_mono {i = suc m} {j = n} h) in
      omega (arith, mul-le-mul_right (2 ^ m) (most s l), mul-le-mul_left B w, mul-le-mul_right (2 ^ n) (least r))

  later : (r s m n : ℕ) → m ≡ suc n → S s * 2 * 137438953472 ≤ S r * 137438953473 → S s * 2 ^ m * 137438953472 ≤ S r * 2 ^ n * 137438953473
  later r s m n e' h = subst (λ (x : ℕ). S s * x * 137438953472 ≤ S r * 2 ^ n * 137438953473) (sym (ap (λ (x : ℕ). 2 ^ x) e' ∙ pow-suc 2 n)) (omega (arith, mul-le-mul_right (2 ^ n) h))

  equal : (r s m n : ℕ) → m ≡ n → S s * 137438953472 ≤ S r * 137438953473 → S s * 2 ^ m * 137438953472 ≤ S r * 2 ^ n * 137438953473
  equal r s m n e' h = subst (λ (x : ℕ). S s * 2 ^ x * 137438953472 ≤ S r * 2 ^ n * 137438953473) (sym e') (omega (arith, mul-le-mul_right (2 ^ n) h))

  -- n * c + r and m * c + s: the floors n and m
  floors : (n r m s : ℕ) → r < c → s < c → m * c + s ≤ n * c + r + e → S s * 2 ^ m * 137438953472 ≤ S r * 2 ^ n * 137438953473
  floors n r m s k l h = elim (lt-or-ge m n) [
    | inl g ↦ earlier r s m n (le_of_lt l) g
    | inr g ↦ elim (eq-or-lt_of_le g) [
      | inl i ↦ equal r s m n (sym i) (same-floor r s (le_of_lt k) (le_of_lt l) (level n r m s h (sym i)))
      | inr i ↦ elim (eq-or-lt_of_le i) [
        | inl j ↦ later r s m n (sym j) (next-floor r s (le_of_lt k) (le_of_lt l) (up n r m s h (sym j)))
        | inr j ↦ absurd (far n r m s k h j)
      ]
    ]
  ]
    where
      level : (n r m s : ℕ) → m * c + s ≤ n * c + r + e → m ≡ n → s ≤ r + e
      level n r m s h i = omega (arith, ap (λ (x : ℕ). x * c) i)

      up : (n r m s : ℕ) → m * c + s ≤ n * c + r + e → m ≡ suc n → s + c ≤ r + e
      up n r m s h i = omega (arith, ap (λ (x : ℕ). x * c) i)

      far : (n r m s : ℕ) → r < c → m * c + s ≤ n * c + r + e → suc n < m → ⊥
      far n r m s k h j = omega (arith, mul-le-mul_right c j)

  -- E at (a + e) / c and less is at most 1 + 2 ^ -37 times E at a / c
  pub E-cont : (a b : ℕ) → b ≤ a + e → (E false b c).top * (E false a c).bot * 137438953472 ≤ (E false a c).top * (E false b c).bot * 137438953473
  unfolding E
  E-cont a b h =
      let f = floors (a / c) (a % c) (b / c) (b % c) (mod-lt a C) (mod-lt b C) (subst₂ (λ (x y : ℕ). x ≤ y + e) (sym (div-add-mod' b c)) (sym (div-add-mod' a c)) h) in
      subst₂ (λ (x y : ℕ). S (b % c) * 2 ^ (b / c) * x * 137438953472 ≤ S (a % c) * 2 ^ (a / c) * y * 137438953473) (series-bot 0 (a % c) c) (series-bot 0 (b % c) c)
      (times (S (b % c) * 2 ^ (b / c)) (S (a % c) * 2 ^ (a / c)) B f)
    where
      times : (x y b : ℕ) → x * 137438953472 ≤ y * 137438953473 → x * b * 137438953472 ≤ y * b * 137438953473
      times x y b h = omega (arith, mul-le-mul_right b h)
