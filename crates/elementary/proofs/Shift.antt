-- E of a negative number, by that of 128 less. Assumes nothing.
use Rattle.std.proofs.Common.{◌≡◌, ℕ, ◌+◌, ◌-◌, ◌*◌, ◌/◌, ◌%◌, ◌^◌, ◌<◌, ◌≤◌, true, false, T, sym, ap, ◌∙◌, subst, ap₂, subst₂, le_trans, le_of_eq, le_of_suc-le-suc, mul-le-mul_right, mul_assoc, mul_comm, div-lt_iff_lt-mul, mul-pos, div-mul-le_self, le_of_mul-le-mul_right, mul_left_comm, arith, lit≤, pow_pos, pow-add}
use native.Mathlib.Nat.{mul-sub}
use lib.Arith.{digits_div, digits_mod}
use Rattle.elementary.specs.Fraction.{over}
use Rattle.elementary.proofs.Ratio.{Le, Within, within-trans, within-sym}
use Rattle.elementary.specs.Power.{series, E, ceil}
use Rattle.elementary.proofs.Lipschitz.{E-cont}
use Rattle.elementary.proofs.Powers.{E_pos, ceil-ge}
use Rattle.elementary.proofs.Near.{E-scale, close-by}

ceil-128 : (a c : ℕ) → 0 < c → a ≤ 128 * c → ceil a c ≤ 128
ceil-128 a c C h = le_of_suc-le-suc ((div-lt_iff_lt-mul C).1 (omega arith))

rest_lt : (a c : ℕ) → 0 < c → ceil a c * c - a < c
rest_lt a c C = omega (arith, div-mul-le_self (a + (c - 1)) c)

split : (a c k : ℕ) → k ≤ 128 → a ≤ k * c → (128 - k) * c + (k * c - a) ≡ 128 * c - a
split a c k h g =
    let e : (128 - k) * c ≡ 128 * c - k * c = mul_comm (128 - k) c ∙ mul-sub c 128 k ∙ ap₂ (λ (x y : ℕ). x - y) (mul_comm c 128) (mul_comm c k) in
    ap (λ (x : ℕ). x + (k * c - a)) e ∙ back (128 * c) (k * c) a (mul-le-mul_right c h) g
  where
    back : (x y a : ℕ) → y ≤ x → a ≤ y → x - y + (y - a) ≡ x - a
    back x y a h g = omega arith

-- E at -a / c is E at 128 - a / c, divided by 2 ^ 128
pub shift : (a c : ℕ) → 0 < c → a ≤ 128 * c → (E true a c).top * 2 ^ 128 * (E false (128 * c - a) c).bot ≡ (E false (128 * c - a) c).top * (E true a c).bot
unfolding E
shift a c C h =
    let k = ceil a c in
    let K : k ≤ 128 = ceil-128 a c C h in
    let s : (128 - k) * c + (k * c - a) ≡ 128 * c - a = split a c k K (ceil-ge a c C) in
    let q : (128 * c - a) / c ≡ 128 - k = ap (λ (x : ℕ). x / c) (sym s) ∙ digits_div (128 - k) (rest_lt a c C) in
    let m : (128 * c - a) % c ≡ k * c - a = ap (λ (x : ℕ). x % c) (sym s) ∙ digits_mod (128 - k) (rest_lt a c C) in
    let S = series (over (k * c - a) c) in
    subst₂ (λ (n r : ℕ). S.top * 2 ^ 128 * (series (over r c)).bot ≡ (series (over r c)).top * 2 ^ n * (S.bot * 2 ^ k)) (sym q) (sym m)
    (ap (λ (x : ℕ). S.top * x * S.bot) (ap (λ (x : ℕ). 2 ^ x) (sym (sum128 k K)) ∙ pow-add 2 (128 - k) k) ∙ regroup S.top S.bot (2 ^ (128 - k)) (2 ^ k))
  where
    sum128 : (k : ℕ) → k ≤ 128 → 128 - k + k ≡ 128
    sum128 k h = omega arith

    regroup : (t b p q : ℕ) → t * (p * q) * b ≡ t * p * (b * q)
    regroup t b p q = omega arith

-- from E at 128 - a / c to E at -a / c
transfer : (T B T' B' F G F' G' p u v : ℕ) → 0 < p → 0 < G → 0 < G' → T * p * G ≡ F * B → T' * p * G' ≡ F' * B' → F * G' * v ≤ F' * G * u → T * B' * v ≤ T' * B * u
transfer T B T' B' F G F' G' p u v P g g' e e' h =
    let y : T * p * G * (B' * v * G') ≡ F * B * (B' * v * G') = ap (λ (z : ℕ). z * (B' * v * G')) e in
    let w : F' * B' * (G * u * B) ≡ T' * p * G' * (G * u * B) = ap (λ (z : ℕ). z * (G * u * B)) (sym e') in
    let a : T * B' * v * (p * G * G') ≡ T * p * G * (B' * v * G') = simp (mul_assoc, mul_comm, mul_left_comm) in
    let b : F * B * (B' * v * G') ≡ F * G' * v * (B * B') = simp (mul_assoc, mul_comm, mul_left_comm) in
    let c : F' * G * u * (B * B') ≡ F' * B' * (G * u * B) = simp (mul_assoc, mul_comm, mul_left_comm) in
    let d : T' * p * G' * (G * u * B) ≡ T' * B * u * (p * G * G') = simp (mul_assoc, mul_comm, mul_left_comm) in
    le_of_mul-le-mul_right (le_trans (le_of_eq (a ∙ y ∙ b)) (le_trans (mul-le-mul_right (B * B') h) (le_of_eq (c ∙ w ∙ d)))) (mul-pos (mul-pos P g) g')

sub-pos-le : (a b c : ℕ) → 128 * c - b ≤ 128 * c - a + (a - b)
sub-pos-le a b c = omega arith

-- E at -b / c against E at -a / c, where a is at most (v + d) / v of b
one_way : (a b c v d : ℕ) → 0 < c → 0 < v → a * v ≤ b * (v + d) → b ≤ 128 * c → a ≤ 128 * c → 129 * d * 17592186044416 ≤ v → Le 137438953473 137438953472 (E true b c).top (E true b c).bot (E true a c).top (E true a c).bot
one_way a b c v d C P h k k' l =
    let f = E-cont c (a - b) C (close-by b a c v d P h (le_trans k (mul-le-mul_right c (lit≤ {m = 128} {n = 129} tt))) l) (128 * c - a) (128 * c - b) (sub-pos-le a b c) in
    transfer (E true b c).top (E true b c).bot (E true a c).top (E true a c).bot (E false (128 * c - b) c).top (E false (128 * c - b) c).bot (E false (128 * c - a) c).top (E false (128 * c - a) c).bot (2 ^ 128) 137438953473 137438953472 (pow_pos 128) (E_pos false (128 * c - b) c C) (E_pos false (128 * c - a) c C) (shift b c C k) (shift a c C k') f

-- E sees only the value
pub E-scale-true : (a c k : ℕ) → 0 < c → 0 < k → a ≤ 128 * c → Within 1 1 (E true (a * k) (c * k)).top (E true (a * k) (c * k)).bot (E true a c).top (E true a c).bot
E-scale-true a c k C K h =
    let C' : 0 < c * k = mul-pos C K in
    let h' : a * k ≤ 128 * (c * k) = spread a c k h in
    let e : 128 * (c * k) - a * k ≡ (128 * c - a) * k = sym (mul_comm (128 * c - a) k ∙ mul-sub k (128 * c) a ∙ ap₂ (λ (x y : ℕ). x - y) (turn c k) (mul_comm k a)) in
    let s : Within 1 1 (E false (128 * (c * k) - a * k) (c * k)).top (E false (128 * (c * k) - a * k) (c * k)).bot (E false (128 * c - a) c).top (E false (128 * c - a) c).bot =
    subst (λ (x : ℕ). Within 1 1 (E false x (c * k)).top (E false x (c * k)).bot (E false (128 * c - a) c).top (E false (128 * c - a) c).bot) (sym e) (E-scale (128 * c - a) c k C K) in
    let F = E false (128 * (c * k) - a * k) (c * k) in
    let G = E false (128 * c - a) c in
    let T = E true (a * k) (c * k) in
    let S = E true a c in (
      transfer T.top T.bot S.top S.bot F.top F.bot G.top G.bot (2 ^ 128) 1 1 (pow_pos 128) (E_pos false (128 * (c * k) - a * k) (c * k) C') (E_pos false (128 * c - a) c C) (shift (a * k) (c * k) C' h') (shift a c C h) s.0,
      transfer S.top S.bot T.top T.bot G.top G.bot F.top F.bot (2 ^ 128) 1 1 (pow_pos 128) (E_pos false (128 * c - a) c C) (E_pos false (128 * (c * k) - a * k) (c * k) C') (shift a c C h) (shift (a * k) (c * k) C' h') s.1,
    )
  where
    spread : (a c k : ℕ) → a ≤ 128 * c → a * k ≤ 128 * (c * k)
    spread a c k h = omega (arith, mul-le-mul_right k h)

    turn : (c k : ℕ) → k * (128 * c) ≡ 128 * (c * k)
    turn c k = omega arith

pub E-near-true : (n m A C v d : ℕ) → 0 < m → 0 < C → 0 < v → n ≤ 128 * m → A ≤ 128 * C → 129 * d * 17592186044416 ≤ v → Within (v + d) v n m A C
    → Within 137438953473 137438953472 (E true n m).top (E true n m).bot (E true A C).top (E true A C).bot
E-near-true n m A C v d M CC P N K l w =
    let c = m * C in
    let CP : 0 < c = mul-pos M CC in
    let b = n * C in
    let a = A * m in
    let s1 : Within 1 1 (E true b c).top (E true b c).bot (E true n m).top (E true n m).bot = E-scale-true n m C M CC N in
    let s2 : Within 1 1 (E true a c).top (E true a c).bot (E true A C).top (E true A C).bot = subst (λ (z : ℕ). Within 1 1 (E true a z).top (E true a z).bot (E true A C).top (E true A C).bot) (mul_comm C m) (E-scale-true A C m CC M K) in
    let hb : b ≤ 128 * c = spread' n m C N in
    let ha : a ≤ 128 * c = spread A C m K in
    let k : Within 137438953473 137438953472 (E true b c).top (E true b c).bot (E true a c).top (E true a c).bot = (one_way a b c v d CP P w.1 hb ha l, one_way b a c v d CP P w.0 ha hb l) in
    within-trans 1 1 (137438953473 * 1) (137438953472 * 1) (E true n m).top (E true n m).bot (E true b c).top (E true b c).bot (E true A C).top (E true A C).bot (E_pos true b c CP) (within-sym 1 1 (E true b c).top (E true b c).bot (E true n m).top (E true n m).bot s1)
    (within-trans 137438953473 137438953472 1 1 (E true b c).top (E true b c).bot (E true a c).top (E true a c).bot (E true A C).top (E true A C).bot (E_pos true a c CP) k s2)
  where
    spread : (A C m : ℕ) → A ≤ 128 * C → A * m ≤ 128 * (m * C)
    spread A C m h = omega (arith, mul-le-mul_right m h)

    spread' : (n m C : ℕ) → n ≤ 128 * m → n * C ≤ 128 * (m * C)
    spread' n m C h = omega (arith, mul-le-mul_right C h)
