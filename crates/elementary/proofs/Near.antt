-- E at a float that is near a fraction is near E at the fraction. Assumes nothing.
use Rattle.std.proofs.Common.{◌≡◌, ℕ, ◌+◌, ◌-◌, ◌*◌, ◌/◌, ◌%◌, ◌^◌, ◌<◌, ◌≤◌, false, sym, ap, ◌∙◌, subst, subst₂, le_trans, le_of_eq, mul-le-mul_right, mod-lt, mul_comm, mul-le-mul_left, mul-lt-mul_of_pos_right, mul-pos, div-add-mod', le_of_mul-le-mul_right, arith}
use native.Mathlib.Nat.{mul-sub}
use lib.Arith.{digits_div, digits_mod}
use Rattle.elementary.specs.Fraction.{LeQ, over}
use Rattle.elementary.proofs.Ratio.{Le, Within, within-trans, within-sym}
use Rattle.elementary.specs.Power.{series, E}
use Rattle.elementary.proofs.Series.{series-mono}
use Rattle.elementary.proofs.Lipschitz.{E-cont}
use Rattle.elementary.proofs.Powers.{E_pos}

-- ---- E sees only the value of its fraction
scaled-div : (a c k : ℕ) → 0 < c → 0 < k → a * k / (c * k) ≡ a / c
scaled-div a c k C K = ap (λ (x : ℕ). x / (c * k)) (split a c k) ∙ digits_div (a / c) (mul-lt-mul_of_pos_right (mod-lt a C) K)
  where
    split : (a c k : ℕ) → a * k ≡ a / c * (c * k) + a % c * k
    split a c k = omega (arith, ap (λ (x : ℕ). x * k) (div-add-mod' a c))

scaled-mod : (a c k : ℕ) → 0 < c → 0 < k → a * k % (c * k) ≡ a % c * k
scaled-mod a c k C K = ap (λ (x : ℕ). x % (c * k)) (split a c k) ∙ digits_mod (a / c) (mul-lt-mul_of_pos_right (mod-lt a C) K)
  where
    split : (a c k : ℕ) → a * k ≡ a / c * (c * k) + a % c * k
    split a c k = omega (arith, ap (λ (x : ℕ). x * k) (div-add-mod' a c))

with-power : (t b t' b' p : ℕ) → t * b' ≤ t' * b → t * p * b' * 1 ≤ t' * p * b * 1
with-power t b t' b' p h = omega (arith, mul-le-mul_right p h)

pub E-scale : (a c k : ℕ) → 0 < c → 0 < k → Within 1 1 (E false (a * k) (c * k)).top (E false (a * k) (c * k)).bot (E false a c).top (E false a c).bot
unfolding E
E-scale a c k C K =
    let S = series (over (a % c) c) in
    let R = series (over (a % c * k) (c * k)) in
    let p = 2 ^ (a / c) in
    let up : LeQ R S = series-mono (over (a % c * k) (c * k)) (over (a % c) c) (le_of_eq (same (a % c) c k)) in
    let dn : LeQ S R = series-mono (over (a % c) c) (over (a % c * k) (c * k)) (le_of_eq (sym (same (a % c) c k))) in
    subst₂ (λ (n r : ℕ). Within 1 1 ((series (over r (c * k))).top * 2 ^ n) (series (over r (c * k))).bot (S.top * p) S.bot) (sym (scaled-div a c k C K)) (sym (scaled-mod a c k C K))
    (with-power R.top R.bot S.top S.bot p up, with-power S.top S.bot R.top R.bot p dn)
  where
    same : (r c k : ℕ) → r * k * c ≡ r * (c * k)
    same r c k = omega arith

-- ---- how far b is above a, where b is at most (v + d) / v of a
pub close-by : (a b c v d : ℕ) → 0 < v → b * v ≤ a * (v + d) → a ≤ 129 * c → 129 * d * 17592186044416 ≤ v → (b - a) * 17592186044416 ≤ c
close-by a b c v d P h k l = le_of_mul-le-mul_right {k = v} (bound (b - a) a b c v d (step a b v d h) k l) P
  where
    step : (a b v d : ℕ) → b * v ≤ a * (v + d) → (b - a) * v ≤ a * d
    step a b v d h = le_trans (le_of_eq (mul_comm (b - a) v ∙ mul-sub v b a)) (sub-le (v * b) (v * a) (a * d) (omega arith))
      where
        sub-le : (x y z : ℕ) → x ≤ y + z → x - y ≤ z
        sub-le x y z h = omega arith

    bound : (e a b c v d : ℕ) → e * v ≤ a * d → a ≤ 129 * c → 129 * d * 17592186044416 ≤ v → e * 17592186044416 * v ≤ c * v
    bound e a b c v d h k l = omega (arith, mul-le-mul_right d k, mul-le-mul_left c l)

one_way : (a b c v d : ℕ) → 0 < c → 0 < v → b * v ≤ a * (v + d) → a ≤ 129 * c → 129 * d * 17592186044416 ≤ v → Le 137438953473 137438953472 (E false b c).top (E false b c).bot (E false a c).top (E false a c).bot
one_way a b c v d C P h k l = E-cont c (b - a) C (close-by a b c v d P h k l) a b (omega arith)

-- ---- y near A / C
pub E-near : (n m A C v d : ℕ) → 0 < m → 0 < C → 0 < v → n ≤ 129 * m → A ≤ 129 * C → 129 * d * 17592186044416 ≤ v → Within (v + d) v n m A C
    → Within 137438953473 137438953472 (E false n m).top (E false n m).bot (E false A C).top (E false A C).bot
E-near n m A C v d M CC P N K l w =
    let c = m * C in
    let CP : 0 < c = mul-pos M CC in
    let b = n * C in
    let a = A * m in
    let s1 : Within 1 1 (E false b c).top (E false b c).bot (E false n m).top (E false n m).bot = E-scale n m C M CC in
    let s2 : Within 1 1 (E false a c).top (E false a c).bot (E false A C).top (E false A C).bot = subst (λ (z : ℕ). Within 1 1 (E false a z).top (E false a z).bot (E false A C).top (E false A C).bot) (mul_comm C m) (E-scale A C m CC M) in
    let up = one_way a b c v d CP P w.0 (spread A C m K) l in
    let dn = one_way b a c v d CP P w.1 (spread' n m C N) l in
    let k : Within 137438953473 137438953472 (E false b c).top (E false b c).bot (E false a c).top (E false a c).bot = (up, dn) in
    within-trans 1 1 (137438953473 * 1) (137438953472 * 1) (E false n m).top (E false n m).bot (E false b c).top (E false b c).bot (E false A C).top (E false A C).bot (E_pos false b c CP) (within-sym 1 1 (E false b c).top (E false b c).bot (E false n m).top (E false n m).bot s1)
    (within-trans 137438953473 137438953472 1 1 (E false b c).top (E false b c).bot (E false a c).top (E false a c).bot (E false A C).top (E false A C).bot (E_pos false a c CP) k s2)
  where
    spread : (A C m : ℕ) → A ≤ 129 * C → A * m ≤ 129 * (m * C)
    spread A C m h = omega (arith, mul-le-mul_right m h)

    spread' : (n m C : ℕ) → n ≤ 129 * m → n * C ≤ 129 * (m * C)
    spread' n m C h = omega (arith, mul-le-mul_right C h)
