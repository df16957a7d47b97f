-- The series, and E, grow no faster than ln 2 times themselves: S(y) - S(x) ≤ (y - x) * ln 2 * S(y). Assumes nothing.
use Rattle.std.proofs.Common.{◌≡◌, ℕ, suc, ◌+◌, ◌-◌, ◌*◌, ◌/◌, ◌%◌, ◌^◌, ◌<◌, ◌≤◌, Bool, true, false, ◌&&◌, T, leb, List, [], ◌∷◌, sym, refl, ap, ◌∙◌, subst, subst₂, inl, inr, le_trans, le_of_eq, le_of_lt, mul-le-mul_right, mod-lt, mul-le-mul, eq-or-lt_of_le, mul-le-mul_left, pow-suc, div-add-mod', le_of_mul-le-mul_right, arith, lit<, leb→le, pow_mono}
use lib.Ieee.Fits.{and_l, and_r}
use Rattle.elementary.proofs.Ratio.{Le}
use Rattle.elementary.specs.Fraction.{Frac, horner_q, one_q, over}
use Rattle.elementary.specs.Power.{coef, coefs, series, E}
use Rattle.elementary.proofs.Truncation.{le_q-trans}
use Rattle.elementary.proofs.Series.{series-pos, series-least, series-most, series-zero, series-mono}
use Rattle.elementary.proofs.Lipschitz.{same-bot, series-bot, near-two, lt-or-ge}

-- the derivative's numerator, over the same denominator
unfoldable slope : ℕ → ℕ → Frac → List Frac → ℕ
slope c y q [] = 0
slope c y q (r ∷ rs) = q.bot * (c * (horner_q (over y c) r rs).top + y * slope c y r rs)

mean-step : (A Tx Ty U d c x y e : ℕ) → y ≡ x + e → c * Ty ≤ c * Tx + e * U → c * (A + y * Ty * d) ≤ c * (A + x * Tx * d) + e * (d * (c * Ty + y * U))
mean-step A Tx Ty U d c x y e h i =
    let a : x * d * (c * Ty) ≤ x * d * (c * Tx + e * U) = mul-le-mul_left (x * d) i in
    let b : y * (c * Ty * d) ≡ (x + e) * (c * Ty * d) = ap (λ (z : ℕ). z * (c * Ty * d)) h in
    let f : y * (e * d * U) ≡ (x + e) * (e * d * U) = ap (λ (z : ℕ). z * (e * d * U)) h in
    omega arith

mean : (x y c e : ℕ) (q : Frac) (qs : List Frac) → y ≡ x + e → c * (horner_q (over y c) q qs).top ≤ c * (horner_q (over x c) q qs).top + e * slope c y q qs
unfolding horner_q slope
mean x y c e q [] h = omega arith
mean x y c e q (r ∷ rs) h =
    let X = horner_q (over x c) r rs in
    let Y = horner_q (over y c) r rs in
    subst (λ (b : ℕ). c * (q.top * (c * b) + y * Y.top * q.bot) ≤ c * (q.top * (c * X.bot) + x * X.top * q.bot) + e * (q.bot * (c * Y.top + y * slope c y r rs))) (same-bot x y c r rs)
    (mean-step (q.top * (c * X.bot)) X.top Y.top (slope c y r rs) q.bot c x y e h (mean x y c e r rs h))

-- the coefficients times k, k + 1, ..
unfoldable weighed : ℕ → ℕ → ℕ → Frac → List Frac → ℕ
weighed k c y q [] = k * q.top
weighed k c y q (r ∷ rs) = k * q.top * (c * (horner_q (over y c) r rs).bot) + y * weighed (suc k) c y r rs * q.bot

weigh-step : (k c y t B W T1 U d : ℕ) → c * W ≡ suc k * (c * T1) + y * U → c * (k * t * (c * B) + y * W * d) ≡ k * (c * (t * (c * B) + y * T1 * d)) + y * (d * (c * T1 + y * U))
weigh-step k c y t B W T1 U d h = omega (arith, ap (λ (z : ℕ). y * d * z) h)

weighed-is : (k c y : ℕ) (q : Frac) (qs : List Frac) → c * weighed k c y q qs ≡ k * (c * (horner_q (over y c) q qs).top) + y * slope c y q qs
unfolding horner_q slope weighed
weighed-is k c y q [] = omega arith
weighed-is k c y q (r ∷ rs) =
    weigh-step k c y q.top (horner_q (over y c) r rs).bot (weighed (suc k) c y r rs) (horner_q (over y c) r rs).top (slope c y r rs) q.bot (weighed-is (suc k) c y r rs)

-- each coefficient times its power is at most ln 2 times the one before
abbrev ln-top : ℕ
ln-top = 693147180559945309

abbrev ln-bot : ℕ
ln-bot = 1000000000000000000

abbrev pub ratios-ok : ℕ → Frac → List Frac → Bool
ratios-ok k q [] = true
ratios-ok k q (r ∷ rs) = leb (suc k * r.top * q.bot * ln-bot) (ln-top * q.top * r.bot) && ratios-ok (suc k) r rs

ratio-leaf : (w qt qb rb c y T1 n d : ℕ) → w * qb * d ≤ n * qt * rb → w * d * qb * c ≤ n * (qt * (c * rb) + y * T1 * qb)
ratio-leaf w qt qb rb c y T1 n d h = omega (arith, mul-le-mul_right c h)

ratio-step : (w qt qb rb c y T1 B W n d : ℕ) → w * qb * d ≤ n * qt * rb → W * d * rb * c ≤ n * T1
    → (w * (c * B) + y * W * rb) * d * qb * c ≤ n * (qt * (c * (rb * (c * B))) + y * T1 * qb)
ratio-step w qt qb rb c y T1 B W n d h i =
    let a : w * qb * d * (c * B * c) ≤ n * qt * rb * (c * B * c) = mul-le-mul_right (c * B * c) h in
    let b : W * d * rb * c * (y * qb) ≤ n * T1 * (y * qb) = mul-le-mul_right (y * qb) i in
    both (w * qb * d * (c * B * c)) (n * qt * rb * (c * B * c)) (W * d * rb * c * (y * qb)) (n * T1 * (y * qb)) ((w * (c * B) + y * W * rb) * d * qb * c) (n * (qt * (c * (rb * (c * B))) + y * T1 * qb)) a b (left w qb c y B W rb d) (right qt qb rb c y T1 B n)
  where
    left : (w qb c y B W rb d : ℕ) → (w * (c * B) + y * W * rb) * d * qb * c ≡ w * qb * d * (c * B * c) + W * d * rb * c * (y * qb)
    left w qb c y B W rb d = omega arith

    right : (qt qb rb c y T1 B n : ℕ) → n * qt * rb * (c * B * c) + n * T1 * (y * qb) ≡ n * (qt * (c * (rb * (c * B))) + y * T1 * qb)
    right qt qb rb c y T1 B n = omega arith

    both : (p q r s u v : ℕ) → p ≤ q → r ≤ s → u ≡ p + r → q + s ≡ v → u ≤ v
    both p q r s u v a b e f = omega arith

-- W at the tail is at most ln 2 times the polynomial
ratio : (k c y : ℕ) (q r : Frac) (rs : List Frac) → T (ratios-ok k q (r ∷ rs)) → weighed (suc k) c y r rs * ln-bot * q.bot * c ≤ ln-top * (horner_q (over y c) q (r ∷ rs)).top
unfolding horner_q weighed
ratio k c y q r [] t =
    ratio-leaf (suc k * r.top) q.top q.bot r.bot c y r.top ln-top ln-bot (leb→le (suc k * r.top * q.bot * ln-bot) (ln-top * q.top * r.bot) (and_l (leb (suc k * r.top * q.bot * ln-bot) (ln-top * q.top * r.bot)) (ratios-ok (suc k) r []) t))
ratio k c y q r (s ∷ ss) t =
    ratio-step (suc k * r.top) q.top q.bot r.bot c y (horner_q (over y c) r (s ∷ ss)).top (horner_q (over y c) s ss).bot (weighed (suc (suc k)) c y s ss) ln-top ln-bot
    (leb→le (suc k * r.top * q.bot * ln-bot) (ln-top * q.top * r.bot) (and_l (leb (suc k * r.top * q.bot * ln-bot) (ln-top * q.top * r.bot)) (ratios-ok (suc k) r (s ∷ ss)) t))
    (ratio (suc k) c y r s ss (and_r (leb (suc k * r.top * q.bot * ln-bot) (ln-top * q.top * r.bot)) (ratios-ok (suc k) r (s ∷ ss)) t))

all-ratios : T (ratios-ok 0 one_q (coef 1 ∷ coefs 2 19))
unfolding coefs
all-ratios = tt

series-list : (X : Frac) → series X ≡ horner_q X one_q (coef 1 ∷ coefs 2 19)
unfolding series
series-list X = refl

join : (c Tx Ty e W U : ℕ) → 0 < c → c * Ty ≤ c * Tx + e * (1 * U) → c * W ≡ 1 * U → Ty ≤ Tx + e * W
join c Tx Ty e W U C h g = le_of_mul-le-mul_right {k = c} (omega (arith, ap (λ (z : ℕ). e * z) g)) C

ends : (c Tx Ty e W n d : ℕ) → Ty ≤ Tx + e * W → W * d * 1 * c ≤ n * Ty → Ty * (d * c) ≤ Tx * (d * c) + e * n * Ty
ends c Tx Ty e W n d h i = omega (arith, mul-le-mul_right (d * c) h, mul-le-mul_left e i)

pub series-mean : (x y c e : ℕ) → 0 < c → y ≡ x + e
    → (series (over y c)).top * (1000000000000000000 * c) ≤ (series (over x c)).top * (1000000000000000000 * c) + e * 693147180559945309 * (series (over y c)).top
unfolding horner_q slope
series-mean x y c e C h =
    let r = coef 1 in
    let rs = coefs 2 19 in
    let Tx = (horner_q (over x c) one_q (r ∷ rs)).top in
    let Ty = (horner_q (over y c) one_q (r ∷ rs)).top in
    let W = weighed 1 c y r rs in
    let U = c * (horner_q (over y c) r rs).top + y * slope c y r rs in
    let g : c * W ≡ 1 * U = weighed-is 1 c y r rs ∙ one (c * (horner_q (over y c) r rs).top) (y * slope c y r rs) in
    subst₂ (λ (u v : Frac). v.top * (1000000000000000000 * c) ≤ u.top * (1000000000000000000 * c) + e * 693147180559945309 * v.top) (sym (series-list (over x c))) (sym (series-list (over y c)))
    (ends c Tx Ty e W 693147180559945309 1000000000000000000 (join c Tx Ty e W U C (mean x y c e one_q (r ∷ rs) h) g) (ratio 0 c y one_q r rs all-ratios))
  where
    one : (a b : ℕ) → 1 * a + b ≡ 1 * (a + b)
    one a b = omega arith

-- ---- E, where the argument grows by e / c at most, e up to c: with w / D = 1 - ln 2 * e / c, E at the larger is at most D / w times E at the smaller, but for one part in 2 ^ 40
pub at-whole : (c : ℕ) → 1099511627775 * (series (over c c)).bot ≤ (series (over c c)).top * 549755813888
at-whole c = le_q-trans (over 1099511627775 549755813888) (series one_q) (series (over c c)) (series-pos one_q (lit< tt)) near-two (series-mono one_q (over c c) (omega arith))

-- across a whole number: the way p up to it and the way q from it
cross-step : (A B G W D w₁ w₂ w p q : ℕ) → 0 < D → w₁ + p ≡ D → w₂ + q ≡ D → w + (p + q) ≤ D → A * w₁ ≤ B * D → W * w₂ ≤ G * D → 1099511627775 * B ≤ W * 549755813888
    → A * 2 * (w * 1099511627775) ≤ G * (D * 1099511627776)
cross-step A B G W D w₁ w₂ w p q P e f h a b k =
    let i : w + p ≤ w₂ = omega arith in
    let j : w ≤ w₁ = omega arith in
    let g : D * w ≡ (w₁ + p) * w = ap (λ (z : ℕ). z * w) (sym e) in
    let l : D * w ≤ w₁ * w₂ = omega (arith, mul-le-mul_left w₁ i, mul-le-mul_left p j) in
    let s : A * 1099511627775 * (D * w) ≤ A * 1099511627775 * (w₁ * w₂) = mul-le-mul_left (A * 1099511627775) l in
    let t : A * w₁ * (w₂ * 1099511627775) ≤ B * D * (w₂ * 1099511627775) = mul-le-mul_right (w₂ * 1099511627775) a in
    let u : 1099511627775 * B * (D * w₂) ≤ W * 549755813888 * (D * w₂) = mul-le-mul_right (D * w₂) k in
    let v : W * w₂ * (549755813888 * D) ≤ G * D * (549755813888 * D) = mul-le-mul_right (549755813888 * D) b in
    let z : A * 2 * (w * 1099511627775) * D ≤ G * (D * 1099511627776) * D = omega arith in
    le_of_mul-le-mul_right z P

abbrev whole : ℕ → ℕ
whole c = 1000000000000000000 * c

way-most : (x c : ℕ) → x ≤ c → x * 693147180559945309 ≤ whole c
way-most x c h = omega arith

module _ (c e w : ℕ) (C : 0 < c) (small : e ≤ c) (left : w + e * 693147180559945309 ≡ 1000000000000000000 * c) where
  abbrev S : ℕ → ℕ
  S x = (series (over x c)).top

  abbrev B : ℕ
  B = (series (over 0 c)).bot

  abbrev D : ℕ
  D = whole c

  D-pos : 0 < D
  D-pos = omega arith

  grow : (x y d v : ℕ) → y ≤ x + d → v + d * 693147180559945309 ≡ D → S y * v ≤ S x * D
  grow x y d v h k =
      let m = series-mean x (x + d) c d C refl in
      let n : S y * B ≤ S (x + d) * B = subst₂ (λ (p q : ℕ). S y * p ≤ S (x + d) * q) (series-bot (x + d) 0 c) (series-bot y 0 c) (series-mono (over y c) (over (x + d) c) (mul-le-mul_right c h)) in
      let o : S y ≤ S (x + d) = le_of_mul-le-mul_right n (series-pos (over 0 c) C) in
      let t : S (x + d) * (v + d * 693147180559945309) ≡ S (x + d) * D = ap (λ (z : ℕ). S (x + d) * z) k in
      let g : S (x + d) * v ≤ S x * D = cut (S (x + d)) (S x) v d 693147180559945309 D t m in
      le_trans (mul-le-mul_right v o) g
    where
      cut : (a b v d n D : ℕ) → a * (v + d * n) ≡ a * D → a * D ≤ b * D + d * n * a → a * v ≤ b * D
      cut a b v d n D h k = omega arith

  least : (x : ℕ) → B ≤ S x
  least x = subst (λ (b : ℕ). b ≤ S x) (series-bot x 0 c) (omega (arith, series-least (over x c)))

  most : (x : ℕ) → x ≤ c → S x ≤ 2 * B
  most x h = subst (λ (b : ℕ). S x ≤ 2 * b) (series-bot x 0 c) (omega (arith, series-most (over x c) h))

  at_zero : S 0 ≤ B
  at_zero = omega (arith, series-zero (over 0 c) refl)

  at_one : 1099511627775 * B ≤ S c * 549755813888
  at_one = subst (λ (b : ℕ). 1099511627775 * b ≤ S c * 549755813888) (series-bot c 0 c) (at-whole c)

  next : (r s : ℕ) → r ≤ c → s ≤ c → s + c ≤ r + e → S s * 2 * (w * 1099511627775) ≤ S r * (D * 1099511627776)
  next r s k l h =
      let p = s * 693147180559945309 in
      let q = (c - r) * 693147180559945309 in
      let x : D - p + p ≡ D = back D p (way-most s c l) in
      let y : D - q + q ≡ D = back D q (way-most (c - r) c (omega arith)) in
      let z : s + (c - r) ≤ e = omega arith in
      let o : w + (p + q) ≤ D = room w s (c - r) e 693147180559945309 D z left in
      let a : S s * (D - p) ≤ B * D = le_trans (grow 0 s s (D - p) (omega arith) x) (mul-le-mul_right D at_zero) in
      let b : S c * (D - q) ≤ S r * D = grow r c (c - r) (D - q) (omega arith) y in
      cross-step (S s) B (S r) (S c) D (D - p) (D - q) w p q D-pos x y o a b at_one
    where
      back : (D p : ℕ) → p ≤ D → D - p + p ≡ D
      back D p h = omega arith

      room : (w s t e n D : ℕ) → s + t ≤ e → w + e * n ≡ D → w + (s * n + t * n) ≤ D
      room w s t e n D h k = omega (arith, mul-le-mul_right n h)

  same : (r s : ℕ) → s ≤ r + e → S s * (w * 1099511627775) ≤ S r * (D * 1099511627776)
  same r s h = more (S s) (S r) w D (grow r s e w h left)
    where
      more : (a b w D : ℕ) → a * w ≤ b * D → a * (w * 1099511627775) ≤ b * (D * 1099511627776)
      more a b w D h = omega arith

  earlier : (r s m n : ℕ) → s ≤ c → suc m ≤ n → S s * 2 ^ m * (w * 1099511627775) ≤ S r * 2 ^ n * (D * 1099511627776)
  earlier r s m n l h =
      let p : 2 ^ m * 2 ≤ 2 ^ n = le_trans (le_of_eq (sym (pow-suc 2 m))) (pow_mono {i = suc m} {j = n} h) in
      let q : S s * 2 ^ m ≤ S r * 2 ^ n = omega (arith, mul-le-mul_right (2 ^ m) (most s l), mul-le-mul_left B p, mul-le-mul_right (2 ^ n) (least r)) in
      let o : w * 1099511627775 ≤ D * 1099511627776 = omega arith in
      mul-le-mul q o

  -- n * c + r and m * c + s: the floors n and m
  floors : (n r m s : ℕ) → r < c → s < c → m * c + s ≤ n * c + r + e → S s * 2 ^ m * (w * 1099511627775) ≤ S r * 2 ^ n * (D * 1099511627776)
  floors n r m s k l h = elim (lt-or-ge m n) [
    | inl g ↦ earlier r s m n (le_of_lt l) g
    | inr g ↦ elim (eq-or-lt_of_le g) [
      | inl i ↦ equal (S s) (S r) m n (sym i) (same r s (level n r m s h (sym i)))
      | inr i ↦ elim (eq-or-lt_of_le i) [
        | inl j ↦ later (S s) (S r) m n (sym j) (next r s (le_of_lt k) (le_of_lt l) (up n r m s h (sym j)))
        | inr j ↦ absurd (far n r m s k small h j)
      ]
    ]
  ]
    where
      level : (n r m s : ℕ) → m * c + s ≤ n * c + r + e → m ≡ n → s ≤ r + e
      level n r m s h i = omega (arith, ap (λ (x : ℕ). x * c) i)

      up : (n r m s : ℕ) → m * c + s ≤ n * c + r + e → m ≡ suc n → s + c ≤ r + e
      up n r m s h i = omega (arith, ap (λ (x : ℕ). x * c) i)

      far : (n r m s : ℕ) → r < c → e ≤ c → m * c + s ≤ n * c + r + e → suc n < m → ⊥
      far n r m s k l h j = omega (arith, mul-le-mul_right c j)

      equal : (x y m n : ℕ) → m ≡ n → x * (w * 1099511627775) ≤ y * (D * 1099511627776) → x * 2 ^ m * (w * 1099511627775) ≤ y * 2 ^ n * (D * 1099511627776)
      equal x y m n i h = subst (λ (z : ℕ). x * 2 ^ z * (w * 1099511627775) ≤ y * 2 ^ n * (D * 1099511627776)) (sym i) (omega (arith, mul-le-mul_right (2 ^ n) h))

      later : (x y m n : ℕ) → m ≡ suc n → x * 2 * (w * 1099511627775) ≤ y * (D * 1099511627776) → x * 2 ^ m * (w * 1099511627775) ≤ y * 2 ^ n * (D * 1099511627776)
      later x y m n i h = subst (λ (z : ℕ). x * z * (w * 1099511627775) ≤ y * 2 ^ n * (D * 1099511627776)) (sym (ap (λ (z : ℕ). 2 ^ z) i ∙ pow-suc 2 n)) (omega (arith, mul-le-mul_right (2 ^ n) h))

  pub E-mean : (a b : ℕ) → b ≤ a + e → Le (D * 1099511627776) (w * 1099511627775) (E false b c).top (E false b c).bot (E false a c).top (E false a c).bot
  unfolding E
  E-mean a b h =
      let f = floors (a / c) (a % c) (b / c) (b % c) (mod-lt a C) (mod-lt b C) (subst₂ (λ (x y : ℕ). x ≤ y + e) (sym (div-add-mod' b c)) (sym (div-add-mod' a c)) h) in
      subst₂ (λ (x y : ℕ). S (b % c) * 2 ^ (b / c) * x * (w * 1099511627775) ≤ S (a % c) * 2 ^ (a / c) * y * (D * 1099511627776)) (series-bot 0 (a % c) c) (series-bot 0 (b % c) c)
      (times (S (b % c) * 2 ^ (b / c)) (S (a % c) * 2 ^ (a / c)) B (w * 1099511627775) (D * 1099511627776) f)
    where
      times : (x y b v u : ℕ) → x * v ≤ y * u → x * b * v ≤ y * b * u
      times x y b v u h = omega (arith, mul-le-mul_right b h)
