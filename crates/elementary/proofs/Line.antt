-- E against powers of two: above 2 ^ k by the slope of its series at 0 at least, and strictly below 2 ^ -126 where the exponent is. Assumes nothing.
use Rattle.std.proofs.Common.{◌≡◌, ℕ, suc, ◌+◌, ◌*◌, ◌/◌, ◌%◌, ◌^◌, ◌<◌, ◌≤◌, true, false, List, [], ◌∷◌, ◌++◌, sym, ap, ◌∙◌, subst, inl, inr, le_trans, le_of_eq, lt_of_lt_of_le, mul-le-mul_right, mod-lt, mul_assoc, mul_comm, mul-le-mul, lt_of_mul-lt-mul_right, mul-le-mul_left, mul-lt-mul_of_pos_right, mul-pos, one-mul, pow-suc, lt_of_not-le, div-add-mod', mul-one, le_of_mul-le-mul_right, arith, lit<, lit≤, pow_pos, pow_mono}
use Rattle.elementary.specs.Fraction.{Frac, plus_q, times_q, horner_q, one_q, LeQ, over}
use Rattle.elementary.specs.Power.{E, coef, coefs, series, ceil}
use Rattle.elementary.proofs.Truncation.{le_q-refl, plus-mono, times-mono}
use Rattle.elementary.proofs.Series.{series-is, series-pos, series-least, series-mono}
use Rattle.elementary.proofs.Lipschitz.{lt-or-ge}
use Rattle.elementary.proofs.Powers.{E_pos, rest_up, rest_down, ceil-ge, down-rest}

-- ---- the series is at least 1 + X * ln 2
more : (a b c d : ℕ) → a * (b * d) ≤ (a * d + c * b) * b
more a b c d = omega arith

head-least : (X q : Frac) (qs : List Frac) → LeQ q (horner_q X q qs)
unfolding horner_q
head-least X q [] = le_q-refl q
head-least X q (r ∷ qs) = more q.top q.bot (times_q X (horner_q X r qs)).top (times_q X (horner_q X r qs)).bot

abbrev ln2 : Frac
ln2 = over 693147180559945309 1000000000000000000

series-line : (X : Frac) → LeQ (plus_q one_q (times_q X ln2)) (series X)
unfolding coefs coef horner_q
series-line X =
    let qs = coefs 2 11 ++ (coef 13 ∷ coefs 14 7) in
    subst (λ (s : Frac). LeQ (plus_q one_q (times_q X ln2)) s) (sym (series-is X))
    (plus-mono one_q one_q (times_q X ln2) (times_q X (horner_q X (coef 1) qs)) (le_q-refl one_q) (times-mono X X ln2 (horner_q X (coef 1) qs) (le_q-refl X) (head-least X (coef 1) qs)))

-- ---- E at k + f / h and above is at least 2 ^ k * (1 + f / h * ln 2)
above_floor : (k n h f a c r : ℕ) → 0 < c → 0 < h → n * c + r ≡ a → r < c → (k * h + f) * c ≤ a * h → k ≤ n
above_floor k n h f a c r C H e l g = elim (lt-or-ge n k) [
  | inl i ↦ absurd (bad i)
  | inr i ↦ i
]
  where
    bad : n < k → ⊥
    bad i = omega (arith, mul-le-mul_right (c * h) i, ap (λ (z : ℕ). z * h) e, mul-lt-mul_of_pos_right l H)

same-floor : (k n h f a c r : ℕ) → n * c + r ≡ a → n ≡ k → (k * h + f) * c ≤ a * h → f * c ≤ r * h
same-floor k n h f a c r e i g = omega (arith, ap (λ (z : ℕ). z * h) e, ap (λ (z : ℕ). z * (c * h)) i)

tangent : (T' B c r h f D L p : ℕ) → 0 < c → f * c ≤ r * h → (1 * (c * D) + r * L * 1) * B ≤ T' * (1 * (c * D)) → B * p * (h * D + f * L) ≤ T' * p * (h * D)
tangent T' B c r h f D L p C g s = le_of_mul-le-mul_right {k = c} (omega (arith, mul-le-mul_right (B * p * L) g, mul-le-mul_right (h * p) s)) C

beyond : (T' B h f D L p q : ℕ) → B ≤ T' → f ≤ h → L ≤ D → p * 2 ≤ q → B * p * (h * D + f * L) ≤ T' * q * (h * D)
beyond T' B h f D L p q t g l w =
    let x : f * L ≤ h * D = mul-le-mul g l in
    let y : h * D + f * L ≤ 2 * (h * D) = omega arith in
    le_trans (mul-le-mul_left (B * p) y) (le_trans (le_of_eq (turn B p (h * D))) (mul-le-mul_right (h * D) (mul-le-mul t w)))
  where
    turn : (b p x : ℕ) → b * p * (2 * x) ≡ b * (p * 2) * x
    turn b p x = omega arith

pub E-line : (k f h a c : ℕ) → 0 < c → 0 < h → f ≤ h → (k * h + f) * c ≤ a * h
    → (E false a c).bot * 2 ^ k * (h * 1000000000000000000 + f * 693147180559945309) ≤ (E false a c).top * (h * 1000000000000000000)
unfolding E
E-line k f h a c C H F g =
    let n = a / c in
    let r = a % c in
    let S = series (rest_up a c) in
    let e : n * c + r ≡ a = div-add-mod' a c in
    elim (lt-or-ge k n) [
      | inl i ↦ beyond S.top S.bot h f 1000000000000000000 693147180559945309 (2 ^ k) (2 ^ n) (le_trans (le_of_eq (sym (one-mul S.bot))) (le_trans (series-least (rest_up a c)) (le_of_eq (mul-one S.top)))) F (lit≤ tt) (le_trans (le_of_eq (sym (pow-suc 2 k))) (pow_mono {i = suc k} {j = n} i))
      | inr i ↦
          let q : n ≡ k = equal n k i (above_floor k n h f a c r C H e (mod-lt a C) g) in
          subst (λ (z : ℕ). S.bot * 2 ^ z * (h * 1000000000000000000 + f * 693147180559945309) ≤ S.top * 2 ^ n * (h * 1000000000000000000)) q
          (tangent S.top S.bot c r h f 1000000000000000000 693147180559945309 (2 ^ n) C (same-floor k n h f a c r e q g) (series-line (rest_up a c)))
    ]
  where
    equal : (m n : ℕ) → m ≤ n → n ≤ m → m ≡ n
    equal m n h k = omega arith

-- ---- strictly above 2 ^ k where the exponent is above k
strictly : (p t D L : ℕ) → 0 < p → 0 < L → p * (D + 1 * L) ≤ t * D → p < t
strictly p t D L P Q h = lt_of_not-le (λ (g : t ≤ p). bad g)
  where
    bad : t ≤ p → ⊥
    bad g = omega (arith, mul-le-mul_right D g, mul-pos P Q)

pub up-over : (k a c : ℕ) → 0 < c → k * c < a → (E false a c).bot * 2 ^ k < (E false a c).top
up-over k a c C h =
    strictly ((E false a c).bot * 2 ^ k) (E false a c).top (c * 1000000000000000000) 693147180559945309 (mul-pos (E_pos false a c C) (pow_pos k)) (lit< tt)
    (E-line k 1 c a c C C C (mul-le-mul_right c (next k c a h)))
  where
    next : (k c a : ℕ) → k * c < a → k * c + 1 ≤ a
    next k c a h = omega arith

-- ---- strictly below 2 ^ -126 where the exponent is below -126
below_two : (series one_q).top < 2 * (series one_q).bot
unfolding series
below_two = lit< tt

series-under : (X : Frac) → 0 < X.bot → X.top ≤ X.bot → (series X).top < 2 * (series X).bot
series-under X B x =
    less (series X).top (series X).bot (series one_q).top (series one_q).bot (series-pos X B) (series-pos one_q (lit< tt)) (series-mono X one_q (omega arith)) below_two
  where
    less : (t b s d : ℕ) → 0 < b → 0 < d → t * d ≤ s * b → s < 2 * d → t < 2 * b
    less t b s d B D h k = lt_of_mul-lt-mul_right d (omega (arith, mul-lt-mul_of_pos_right k B))

pub down-under : (a c : ℕ) → 0 < c → 126 * c < a → (E true a c).top * 2 ^ 126 < (E true a c).bot
unfolding E
down-under a c C h =
    let S = series (rest_down a c) in
    let n : 127 ≤ ceil a c = far (ceil a c) a c C h (ceil-ge a c C) in
    lt_of_lt_of_le (mul-lt-mul_of_pos_right (series-under (rest_down a c) C (down-rest a c C)) (pow_pos 126))
    (le_trans (le_of_eq (ap (λ (z : ℕ). z * 2 ^ 126) (mul_comm 2 S.bot) ∙ mul_assoc S.bot 2 (2 ^ 126))) (mul-le-mul_left S.bot (pow_mono {i = 127} {j = ceil a c} n)))
  where
    far : (n a c : ℕ) → 0 < c → 126 * c < a → a ≤ n * c → 127 ≤ n
    far n a c C h k = lt_of_mul-lt-mul_right c (omega arith)
