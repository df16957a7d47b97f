-- A power of two whose exponent is a single times a factor: what the program computes, against E at the exact product; and `power_by`, against the promise.
-- Assumes nothing.
use Rattle.std.proofs.Common.{◌≡◌, ℕ, zero, suc, ◌+◌, ◌-◌, ◌*◌, ◌/◌, ◌%◌, ◌^◌, ◌<◌, ◌≤◌, Bool, true, false, cond, not, ◌&&◌, T, eqb, ltb, leb, ℤ, pos, negsuc, sym, refl, ap, ◌∙◌, subst, inl, inr, true≢false, suc-le-suc, le_trans, le_of_eq, mul-le-mul_right, mul-le-mul, lt_of_mul-lt-mul_right, mul-le-mul_left, mul-lt-mul_of_pos_right, mul-pos, pow-suc, zero-mul, not-le_of_lt, le_of_mul-le-mul_right, mul_left_comm, arith, lit<, lit≤, eqb→eq, ltb→lt, leb→le, nltb→le, pow_pos, pow_mono, pow-add}
use lib.Ieee.{Float, nan, inf, fin, binary32, binary64, up, down, lt, fits, of_bits, mul, neg, ne, is_nan, round}
use lib.Ieee.Fits.{and_l, and_r, up_pos, down_pos}
use lib.Ieee.Positive.{num, den, den_pos}
use Rattle.exact.specs.Value.{plus}
use Rattle.exact.specs.Narrow.{narrowed}
use Rattle.exact.proofs.Narrowing.{narrowed-plus, number, when-nan}
use Rattle.exact.proofs.Integrals.{yes}
use Rattle.elementary.specs.Fraction.{Frac, LeQ, one_q, over}
use Rattle.elementary.specs.Power.{E}
use Rattle.elementary.specs.Kernel.{power_up, power_down, power_by, Small, Ranged}
use Rattle.elementary.specs.Promise.{parts, Part, Answers, PowerOf}
use Rattle.elementary.proofs.Errors.{upper, lower, big, small}
use Rattle.elementary.proofs.Ratio.{Within, Near, within-trans, within-weaken}
use Rattle.elementary.proofs.Operations.{Range, mul_is, round-within}
use Rattle.elementary.proofs.Horner.{Close, half, range-of, self-close, mul-close, close_up}
use Rattle.elementary.proofs.Lipschitz.{lt-or-ge}
use Rattle.elementary.proofs.Powers.{E_pos, up-near, down-near, up_least, up-most, down-least, down-most, zero-E, fine32, near-least, near-most}
use Rattle.elementary.proofs.Line.{up-over, down-under}
use Rattle.elementary.proofs.Near.{E-near}
use Rattle.elementary.proofs.Shift.{E-near-true}
use Rattle.elementary.proofs.Digits.{round-den}

-- ---- the product of the exponent and the factor
-- the double l is the factor a / c, from 1 to 4, to one rounding
pub record Factor (l : Float) (a c : ℕ) : Type 0 where
  pub close : Close 1 l (over a c)
  pub c_pos : 0 < c
  pub least : den l ≤ num l
  pub most : num l ≤ 4 * den l
  pub ge : c ≤ a

-- t / b is so far below 128 that two roundings do not reach it
pub record Cap (t b : ℕ) : Type 0 where
  pub b-pos : 0 < b
  pub under : t ≤ 128 * b
  pub room : t * upper ^ 2 ≤ 128 * b * lower ^ 2

-- a single above 0 whose product with a / c is t / b at most
pub record Argument (t b a c : ℕ) (x : Float) : Type 0 where
  pub sign : T (plus x)
  pub digits : den x ≤ 2 ^ 149
  pub some : 1 ≤ num x
  pub most : num x * a * b ≤ t * (den x * c)

-- a factor is itself
pub own-factor : (l : Float) → T (plus l) → den l ≤ num l → num l ≤ 4 * den l → Factor l (num l) (den l)
own-factor l p h k = record { close = close_up 0 1 l (over (num l) (den l)) (self-close l p); c_pos = den_pos l; least = h; most = k; ge = h }

-- the factor by which the program's 2 ^ (x * l) may differ from E at x * a / c
abbrev pub wide-top : ℕ
wide-top = big * 137438953473

abbrev pub wide-bot : ℕ
wide-bot = small * 137438953472

module _ (l x : Float) (a c t b : ℕ) (F : Factor l a c) (X : Argument t b a c x) (B : Cap t b) where
  low_end : den x * den l ≤ num x * num l * 2 ^ 149
  low_end = bound (num x) (den x) (num l) (den l) (2 ^ 149) X.digits X.some F.least
    where
      bound : (n d m e p : ℕ) → d ≤ p → 1 ≤ n → e ≤ m → d * e ≤ n * m * p
      bound n d m e p h k i = omega (arith, mul-le-mul h i, mul-le-mul_right (m * p) k)

  upper-end : num x * num l ≤ den x * den l * 2 ^ 9
  upper-end = bound (num x) (den x) (num l) (den l) (first (num x) (den x) a c t b F.c_pos B.b-pos F.ge X.most B.under) F.most
    where
      first : (n d a c t b : ℕ) → 0 < c → 0 < b → c ≤ a → n * a * b ≤ t * (d * c) → t ≤ 128 * b → n ≤ 128 * d
      first n d a c t b C P g h k = le_of_mul-le-mul_right {k = c * b} (omega (arith, mul-le-mul_left (n * b) g, mul-le-mul_right (d * c) k)) (mul-pos C P)

      bound : (n d m e : ℕ) → n ≤ 128 * d → m ≤ 4 * e → n * m ≤ d * e * 2 ^ 9
      bound n d m e h k = omega (arith, mul-le-mul h k)

  range : Range binary64 half (num x * num l) (den x * den l)
  range = range-of (num x * num l) (den x * den l) 149 9 (inr low_end) upper-end (lit≤ tt) (lit≤ tt)

  product-close : Close 2 (mul binary64 x l) (over (num x * a) (den x * c))
  product-close = mul-close 0 1 x l (over (num x) (den x)) (over a c) (den_pos x) F.c_pos (self-close x X.sign) F.close range

  product-den : den (mul binary64 x l) ≤ 2 ^ 250
  product-den = le_trans (subst (λ (y : Float). den y ≤ 2 ^ 201) (sym (mul_is binary64 x l X.sign F.close.sign)) (round-den (num x * num l) (den x * den l) 149 (mul-pos (den_pos x) (den_pos l)) low_end (lit≤ tt))) (lit≤ tt)

  pub product_small : Small 128 (mul binary64 x l)
  product_small = record {
    sign = product-close.sign;
    digits = product-den;
    most = bound (num (mul binary64 x l)) (den (mul binary64 x l)) (num x * a) (den x * c) (upper ^ 2) (lower ^ 2) (mul-pos (den_pos x) F.c_pos) (lit< tt) B.b-pos product-close.within.0 X.most B.room;
  }
    where
      bound : (n d A C u v : ℕ) → 0 < C → 0 < v → 0 < b → n * C * v ≤ A * d * u → A * b ≤ t * C → t * u ≤ 128 * b * v → n ≤ 128 * d
      bound n d A C u v CC P Q h k g =
          let x : A * b * (d * u) ≤ t * C * (d * u) = mul-le-mul_right (d * u) k in
          let y : C * d * (t * u) ≤ C * d * (128 * b * v) = mul-le-mul_left (C * d) g in
          let w : n * C * v * b ≤ A * d * u * b = mul-le-mul_right b h in
          let z : n * (C * v * b) ≤ 128 * d * (C * v * b) = omega arith in
          le_of_mul-le-mul_right z (mul-pos (mul-pos CC P) Q)

  exact-most : num x * a ≤ 128 * (den x * c)
  exact-most = bound (num x * a) (den x * c) t b B.b-pos X.most B.under
    where
      bound : (A C t b : ℕ) → 0 < b → A * b ≤ t * C → t ≤ 128 * b → A ≤ 128 * C
      bound A C t b P h k = le_of_mul-le-mul_right {k = b} (omega (arith, mul-le-mul_right C k)) P

  exact-pos : 0 < den x * c
  exact-pos = mul-pos (den_pos x) F.c_pos

  -- ---- what the program has at the product, against E at the exact one
  abbrev y : Float
  y = mul binary64 x l

  join : (s : Bool) (z : Float) → Near big small z (E s (num y) (den y)).top (E s (num y) (den y)).bot
      → Within 137438953473 137438953472 (E s (num y) (den y)).top (E s (num y) (den y)).bot (E s (num x * a) (den x * c)).top (E s (num x * a) (den x * c)).bot
      → Near wide-top wide-bot z (E s (num x * a) (den x * c)).top (E s (num x * a) (den x * c)).bot
  join s z h e = record {
    sign = h.sign;
    within = within-trans big small 137438953473 137438953472 (num z) (den z) (E s (num y) (den y)).top (E s (num y) (den y)).bot (E s (num x * a) (den x * c)).top (E s (num x * a) (den x * c)).bot (E_pos s (num y) (den y) (den_pos y)) h.within e;
  }

  pub up-wide : Near wide-top wide-bot (power_up y) (E false (num x * a) (den x * c)).top (E false (num x * a) (den x * c)).bot
  up-wide = join false (power_up y) (up-near y product_small)
      (E-near (num y) (den y) (num x * a) (den x * c) (lower ^ 2) (upper ^ 2 - lower ^ 2) (den_pos y) exact-pos (lit< tt) (le_trans product_small.most (mul-le-mul_right (den y) (lit≤ {m = 128} {n = 129} tt))) (le_trans exact-most (mul-le-mul_right (den x * c) (lit≤ {m = 128} {n = 129} tt))) (lit≤ tt) product-close.within)

  pub down-wide : Near wide-top wide-bot (power_down y) (E true (num x * a) (den x * c)).top (E true (num x * a) (den x * c)).bot
  down-wide = join true (power_down y) (down-near y product_small)
      (E-near-true (num y) (den y) (num x * a) (den x * c) (lower ^ 2) (upper ^ 2 - lower ^ 2) (den_pos y) exact-pos (lit< tt) product_small.most exact-most (lit≤ tt) product-close.within)

-- ---- narrowing: a double within u / v of a figure from 2 ^ -126 to 2 ^ 127 becomes a single within one part in 4,194,304 of it
pub record Tight (u v : ℕ) : Type 0 where
  pub v-pos : 0 < v
  pub twice : u ≤ v * 2
  pub half-more : 2 * u ≤ 3 * v
  pub part : 8388608 * u * parts ≤ (parts + 1) * (8388607 * v)

part_of : (q : Frac) (r : Float) → Near (parts + 1) parts r q.top q.bot → Part q r
part_of q r h = record { sign = h.sign; most = h.within.0; least = turn (q.top * den r) (num r * q.bot) h.within.1 }
  where
    turn : (a b : ℕ) → a * parts ≤ b * (parts + 1) → a * (parts - 1) ≤ b * parts
    turn a b h = omega arith

pub narrowed-part : (u v : ℕ) → Tight u v → (z : Float) (q : Frac) → 0 < q.bot → Near u v z q.top q.bot → q.bot ≤ q.top * 2 ^ 126 → q.top ≤ q.bot * 2 ^ 127 → Part q (narrowed z)
narrowed-part u v G z q C h l m =
    let a = q.top in
    let c = q.bot in
    let d1 : den z ≤ num z * (2 ^ 126 * 2) = near-least (num z) (den z) a c u v (2 ^ 126) G.v-pos C G.twice h.within l in
    let d2 : 4194304 * den z ≤ num z * 2 ^ 149 = le_trans (mul-le-mul_left 4194304 d1) (le_of_eq (mul_left_comm 4194304 (num z) (2 ^ 127))) in
    let R : Range binary32 4194304 (num z) (den z) = record { below = inr d2; above = near-most (num z) (den z) a c u v (2 ^ 127) G.v-pos C G.half-more h.within m } in
    let r = round binary32 false (num z) (den z) in
    let w = round-within binary32 4194304 8388607 (num z) (den z) fine32 (den_pos z) R in
    let n : Near (parts + 1) parts r a c = record {
      sign = w.0;
      within = within-weaken (8388608 * u) (8388607 * v) (parts + 1) parts (num r) (den r) a c (mul-pos (lit< {m = 0} {n = 8388607} tt) G.v-pos) G.part (within-trans 8388608 8388607 u v (num r) (den r) (num z) (den z) a c (den_pos z) w.1 h.within);
    } in
    part_of q (narrowed z) (subst (λ (y : Float). Near (parts + 1) parts y a c) (sym (narrowed-plus z h.sign)) n)

wide-tight : Tight wide-top wide-bot
wide-tight = record { v-pos = lit< tt; twice = lit≤ tt; half-more = lit≤ tt; part = lit≤ tt }

-- ---- the three cases of the promise
pub in-range : (q : Frac) (r : Float) → q.bot ≤ q.top * 2 ^ 126 → q.top ≤ q.bot * 2 ^ 127 → Part q r → Answers q r
in-range q r l u p = record { under = λ k. absurd (not-le_of_lt k l); over = λ k. absurd (not-le_of_lt k u); between = λ _ _. p }

-- a number below 2 ^ -126 is not above 2 ^ 127
apart : (t b p r : ℕ) → 1 ≤ p → 1 ≤ r → t * p < b → b * r < t → ⊥
apart t b p r P R h k = omega (arith, mul-le-mul_left t P, mul-le-mul_left b R)

pub under-range : (q : Frac) → q.top * 2 ^ 126 < q.bot → Answers q (fin false 0 (pos 0))
under-range q h = record { under = λ _. refl; over = λ k. absurd (apart q.top q.bot (2 ^ 126) (2 ^ 127) (pow_pos 126) (pow_pos 127) h k); between = λ k _. absurd (not-le_of_lt h k) }

pub over-range : (q : Frac) → q.bot * 2 ^ 127 < q.top → Answers q (inf false)
over-range q h = record { under = λ k. absurd (apart q.top q.bot (2 ^ 126) (2 ^ 127) (pow_pos 126) (pow_pos 127) k h); over = λ _. refl; between = λ _ k. absurd (not-le_of_lt h k) }

-- ---- a single's digits
pub few-digits : (s : Bool) (m : ℕ) (e : ℤ) → T (fits binary32 (fin s m e)) → down e ≤ 2 ^ 149
unfolding fits
few-digits s zero e h = le_trans (one (up e) (down e) (up_pos e) (eqb→eq (up e * down e) 1 h)) (lit≤ tt)
  where
    one : (u d : ℕ) → 0 < u → u * d ≡ 1 → d ≤ 1
    one u d U h = omega (arith, mul-le-mul_right d U)
few-digits s (suc m) e h =
    let A = eqb (suc m % 2) 1 in
    let B = ltb (suc m) (2 ^ 24) in
    let C = leb (down e) (2 ^ 149) in
    let D = ltb (suc m * up e) (2 ^ 128 * down e) in
    leb→le (down e) (2 ^ 149) (and_r (A && B) C (and_l (A && B && C) D h))

-- one above K / 2 ^ w, K from 2 ^ 23 on, is (K + 1) / 2 ^ w at least
few_bits : (s : Bool) (m : ℕ) (e : ℤ) → T (fits binary32 (fin s m e)) → m < 2 ^ 24
unfolding fits
few_bits s zero e h = lit< tt
few_bits s (suc m) e h =
    let A = eqb (suc m % 2) 1 in
    let B = ltb (suc m) (2 ^ 24) in
    let C = leb (down e) (2 ^ 149) in
    let D = ltb (suc m * up e) (2 ^ 128 * down e) in
    ltb→lt (suc m) (2 ^ 24) (and_r A B (and_l (A && B) C (and_l (A && B && C) D h)))

next-whole : (K m p g : ℕ) → K * 1 < m * p * g → suc K * 1 ≤ m * p * g
next-whole K m p g h = omega arith

next-part : (K m r q g : ℕ) → 0 < q → r * q ≡ g → K * q < m * 1 * g → suc K * q ≤ m * 1 * g
next-part K m r q g' Q e h =
    let g : K * q < m * r * q = subst (λ (z : ℕ). K * q < z) (ap (λ (z : ℕ). m * 1 * z) (sym e) ∙ regroup m r q) h in
    let k : K < m * r = lt_of_mul-lt-mul_right q g in
    le_trans (mul-le-mul_right q k) (le_of_eq (sym (ap (λ (z : ℕ). m * 1 * z) (sym e) ∙ regroup m r q)))
  where
    regroup : (m r q : ℕ) → m * 1 * (r * q) ≡ m * r * q
    regroup m r q = omega arith

too_fine : (K m q p : ℕ) → 0 < p → 8388608 ≤ K → m < 16777216 → p * 2 ≤ q → K * q < m * 1 * p → ⊥
too_fine K m q p P k l g h = omega (arith, mul-le-mul k g, mul-lt-mul_of_pos_right l P)

pub grid-next : (s : Bool) (w K m : ℕ) (e : ℤ) → T (fits binary32 (fin s m e)) → 8388608 ≤ K → K * down e < m * up e * 2 ^ w → suc K * down e ≤ m * up e * 2 ^ w
grid-next s w K m (pos k) f g h = next-whole K m (2 ^ k) (2 ^ w) h
grid-next s w K m (negsuc j) f g h = elim (lt-or-ge j w) [
  | inl l ↦ next-part K m (2 ^ (w - suc j)) (2 ^ suc j) (2 ^ w) (pow_pos (suc j)) (sym (pow-add 2 (w - suc j) (suc j)) ∙ ap (λ (z : ℕ). 2 ^ z) (back j w l)) h
  | inr l ↦ absurd (too_fine K m (2 ^ suc j) (2 ^ w) (pow_pos w) g (few_bits s m (negsuc j) f) (le_trans (le_of_eq (sym (pow-suc 2 w))) (pow_mono {i = suc w} {j = suc j} (suc-le-suc l))) h)
]
  where
    back : (j w : ℕ) → j < w → w - suc j + suc j ≡ w
    back j w h = omega arith

-- from the threshold L / q, as it is written, to K / p
finer : (L q K p d x : ℕ) → 0 < p → 0 < q → L * p ≡ K * q → L * d < x * q → K * d < x * p
finer L q K p d x P Q e h = lt_of_mul-lt-mul_right q (omega (arith, mul-lt-mul_of_pos_right h P, ap (λ (z : ℕ). z * d) e))

finer-le : (L q K p d x : ℕ) → 0 < q → L * p ≡ K * q → x * q ≤ L * d → x * p ≤ K * d
finer-le L q K p d x Q e h = le_of_mul-le-mul_right {k = q} (omega (arith, mul-le-mul_right p h, ap (λ (z : ℕ). z * d) e)) Q

over-end : (K t a c x d p : ℕ) → suc K * d ≤ x * p → t * c * p < suc K * a → 0 < d → t * (d * c) < x * a
over-end K t a c x d p h k D = lt_of_mul-lt-mul_right p (omega (arith, mul-le-mul_right a h, mul-lt-mul_of_pos_right k D))

in_end : (K t a c x d p : ℕ) → 0 < p → x * p ≤ K * d → K * a ≤ t * c * p → x * a ≤ t * (d * c)
in_end K t a c x d p P h k = le_of_mul-le-mul_right {k = p} (omega (arith, mul-le-mul_right a h, mul-le-mul_right d k)) P

-- the threshold L * up i / down i is K / 2 ^ w, the last single whose product with a / c is t at most
pub record End (t : ℕ) (L : ℕ) (i : ℤ) (w K a c : ℕ) : Type 0 where
  pub same : L * up i * 2 ^ w ≡ K * down i
  pub normal : 8388608 ≤ K
  pub last : K * a ≤ t * c * 2 ^ w
  pub next : t * c * 2 ^ w < suc K * a

module _ {t L : ℕ} {i : ℤ} {w K a c : ℕ} (N : End t L i w K a c) where
  pub beyond : (s : Bool) (m : ℕ) (e : ℤ) → T (fits binary32 (fin s m e)) → L * up i * down e < m * up e * down i → t * (down e * c) < m * up e * a
  beyond s m e f h = over-end K t a c (m * up e) (down e) (2 ^ w) (grid-next s w K m e f N.normal (finer (L * up i) (down i) K (2 ^ w) (down e) (m * up e) (pow_pos w) (down_pos i) N.same h)) N.next (down_pos e)

  pub inside : (m : ℕ) (e : ℤ) → m * up e * down i ≤ L * up i * down e → m * up e * a ≤ t * (down e * c)
  inside m e h = in_end K t a c (m * up e) (down e) (2 ^ w) (pow_pos w) (finer-le (L * up i) (down i) K (2 ^ w) (down e) (m * up e) (down_pos i) N.same h) N.last

-- ---- `power_by`: the thresholds are -126 and 127 times c / a
pub record Base (l : Float) (L : ℕ) (i : ℤ) (v K : ℕ) (H : ℕ) (j : ℤ) (w M a c : ℕ) : Type 0 where
  pub factor : Factor l a c
  pub bottom : End 126 L i v K a c
  pub top : End 127 H j w M a c

cap-127 : Cap 127 1
cap-127 = record { b-pos = lit< tt; under = lit≤ tt; room = lit≤ tt }

times-one : (x y : ℕ) → x ≤ y → x * 1 ≤ y
times-one x y h = omega arith

module _ {l : Float} {L : ℕ} {i : ℤ} {v K H : ℕ} {j : ℤ} {w M a c : ℕ} (N : Base l L i v K H j w M a c) where
  exact-den : (e : ℤ) → 0 < down e * c
  exact-den e = mul-pos (down_pos e) N.factor.c_pos

  argument : (m : ℕ) (e : ℤ) → T (fits binary32 (fin false m e)) → 0 < m * up e → m * up e * a ≤ 127 * (down e * c) → Argument 127 1 a c (fin false m e)
  argument m e f p h = record { sign = tt; digits = few-digits false m e f; some = p; most = times-one (m * up e * a) (127 * (down e * c)) h }

  positive-in : (m : ℕ) (e : ℤ) → T (fits binary32 (fin false m e)) → 0 < m * up e → m * up e * down j ≤ H * up j * down e
      → Answers (E false (m * up e * a) (down e * c)) (narrowed (power_up (mul binary64 (fin false m e) l)))
  positive-in m e f p h =
      let q = E false (m * up e * a) (down e * c) in
      let k = inside N.top m e h in
      let u = up_least (m * up e * a) (down e * c) in
      let o = up-most (m * up e * a) (down e * c) (exact-den e) k in
      in-range q (narrowed (power_up (mul binary64 (fin false m e) l))) u o
      (narrowed-part wide-top wide-bot wide-tight (power_up (mul binary64 (fin false m e) l)) q (E_pos false (m * up e * a) (down e * c) (exact-den e)) (up-wide l (fin false m e) a c 127 1 N.factor (argument m e f p k) cap-127) u o)

  negative-in : (m : ℕ) (e : ℤ) → T (fits binary32 (fin false m e)) → 0 < m * up e → m * up e * down i ≤ L * up i * down e
      → Answers (E true (m * up e * a) (down e * c)) (narrowed (power_down (mul binary64 (fin false m e) l)))
  negative-in m e f p h =
      let q = E true (m * up e * a) (down e * c) in
      let k = inside N.bottom m e h in
      let u = down-least (m * up e * a) (down e * c) (exact-den e) k in
      let o = down-most (m * up e * a) (down e * c) (exact-den e) in
      in-range q (narrowed (power_down (mul binary64 (fin false m e) l))) u o
      (narrowed-part wide-top wide-bot wide-tight (power_down (mul binary64 (fin false m e) l)) q (E_pos true (m * up e * a) (down e * c) (exact-den e))
      (down-wide l (fin false m e) a c 127 1 N.factor (argument m e f p (le_trans k (mul-le-mul_right (down e * c) (lit≤ {m = 126} {n = 127} tt)))) cap-127) u o)

  -- at zero it is 1
  at_one : (q : Frac) → LeQ one_q q → LeQ q one_q → Answers q (fin false 1 (pos 0))
  at_one q h k = in-range q (fin false 1 (pos 0)) (times q.bot q.top (2 ^ 126) (pow_pos 126) h) (times' q.top q.bot (2 ^ 127) (pow_pos 127) k) (record { sign = tt; most = omega arith; least = omega arith })
    where
      times : (x y p : ℕ) → 1 ≤ p → 1 * x ≤ y * 1 → x ≤ y * p
      times x y p P h = omega (arith, mul-le-mul_left y P)

      times' : (x y p : ℕ) → 1 ≤ p → x * 1 ≤ 1 * y → x ≤ y * p
      times' x y p P h = omega (arith, mul-le-mul_left y P)

  at_zero : (s : Bool) (m : ℕ) (e : ℤ) → m * up e ≡ 0 → Answers (E s (m * up e * a) (down e * c)) (fin false 1 (pos 0))
  at_zero s m e z =
      let Z = zero-E s (down e * c) (exact-den e) in
      subst (λ (x : ℕ). Answers (E s x (down e * c)) (fin false 1 (pos 0))) (sym (ap (λ (x : ℕ). x * a) z ∙ zero-mul a)) (at_one (E s 0 (down e * c)) Z.0 Z.1)

  positive : (m : ℕ) (e : ℤ) → T (fits binary32 (fin false m e)) → PowerOf a c (fin false m e) (power_by l (fin true L i) (fin false H j) (fin false m e))
  unfolding power_by is_nan lt of_bits
  positive m e f = go (ltb (H * up j * down e) (m * up e * down j)) (ltb (m * up e * 1) (0 * 1 * down e)) (ltb (0 * 1 * down e) (m * up e * 1)) (ltb→lt (H * up j * down e) (m * up e * down j)) (nltb→le (H * up j * down e) (m * up e * down j)) (ltb→lt (m * up e * 1) (0 * 1 * down e)) (ltb→lt (0 * 1 * down e) (m * up e * 1)) (nltb→le (0 * 1 * down e) (m * up e * 1))
    where
      go : (p q r : Bool) → (T p → H * up j * down e < m * up e * down j) → (T (not p) → m * up e * down j ≤ H * up j * down e) → (T q → m * up e * 1 < 0 * 1 * down e) → (T r → 0 * 1 * down e < m * up e * 1) → (T (not r) → m * up e * 1 ≤ 0 * 1 * down e)
          → Answers (E false (m * up e * a) (down e * c)) (cond p (inf false) (cond q (narrowed (power_down (mul binary64 (neg (fin false m e)) l))) (cond r (narrowed (power_up (mul binary64 (fin false m e) l))) (fin false 1 (pos 0)))))
      go true q r h h' k g g' = over-range (E false (m * up e * a) (down e * c)) (up-over 127 (m * up e * a) (down e * c) (exact-den e) (beyond N.top false m e f (h tt)))
      go false true r h h' k g g' = absurd (bad (m * up e) (down e) (k tt))
        where
          bad : (x d : ℕ) → x * 1 < 0 * 1 * d → ⊥
          bad x d h = omega arith
      go false false true h h' k g g' = positive-in m e f (some (m * up e) (down e) (g tt)) (h' tt)
        where
          some : (x d : ℕ) → 0 * 1 * d < x * 1 → 0 < x
          some x d h = omega arith
      go false false false h h' k g g' = at_zero false m e (none (m * up e) (down e) (g' tt))
        where
          none : (x d : ℕ) → x * 1 ≤ 0 * 1 * d → x ≡ 0
          none x d h = omega arith

  negative : (m : ℕ) (e : ℤ) → T (fits binary32 (fin false m e)) → PowerOf a c (fin true m e) (power_by l (fin true L i) (fin false H j) (fin true m e))
  unfolding power_by is_nan lt of_bits neg
  negative m e f = go (ltb (L * up i * down e) (m * up e * down i)) (ltb 0 (m * up e * 1 + 0 * 1 * down e)) (ltb→lt (L * up i * down e) (m * up e * down i)) (nltb→le (L * up i * down e) (m * up e * down i)) (ltb→lt 0 (m * up e * 1 + 0 * 1 * down e)) (nltb→le 0 (m * up e * 1 + 0 * 1 * down e))
    where
      go : (p q : Bool) → (T p → L * up i * down e < m * up e * down i) → (T (not p) → m * up e * down i ≤ L * up i * down e) → (T q → 0 < m * up e * 1 + 0 * 1 * down e) → (T (not q) → m * up e * 1 + 0 * 1 * down e ≤ 0)
          → Answers (E true (m * up e * a) (down e * c)) (cond p (fin false 0 (pos 0)) (cond q (narrowed (power_down (mul binary64 (fin false m e) l))) (fin false 1 (pos 0))))
      go true q h h' g g' = under-range (E true (m * up e * a) (down e * c)) (down-under (m * up e * a) (down e * c) (exact-den e) (beyond N.bottom false m e f (h tt)))
      go false true h h' g g' = negative-in m e f (some (m * up e) (down e) (g tt)) (h' tt)
        where
          some : (x d : ℕ) → 0 < x * 1 + 0 * 1 * d → 0 < x
          some x d h = omega arith
      go false false h h' g g' = at_zero true m e (none (m * up e) (down e) (g' tt))
        where
          none : (x d : ℕ) → x * 1 + 0 * 1 * d ≤ 0 → x ≡ 0
          none x d h = omega arith

  power-of : (x : Float) → T (fits binary32 x) → PowerOf a c x (power_by l (fin true L i) (fin false H j) x)
  unfolding power_by is_nan lt fits
  power-of nan f = refl
  power-of (inf false) f = refl
  power-of (inf true) f = refl
  power-of (fin false m e) f = positive m e f
  power-of (fin true m e) f = negative m e f

-- the tests that the checker computes: of the factor, of an end, and of a base with its two ends
abbrev factor-ok : Float → ℕ → ℕ → Bool
factor-ok l a c =
    plus l && (leb (num l * c * lower ^ 1) (a * den l * upper ^ 1) && (leb (a * den l * lower ^ 1) (num l * c * upper ^ 1)
    && (ltb 0 c && (leb (den l) (num l) && (leb (num l) (4 * den l) && leb c a)))))

pub factor-of : (l : Float) (a c : ℕ) → T (factor-ok l a c) → Factor l a c
factor-of l a c t =
    let A = leb (num l * c * lower ^ 1) (a * den l * upper ^ 1) in
    let B = leb (a * den l * lower ^ 1) (num l * c * upper ^ 1) in
    let C = ltb 0 c in
    let D = leb (den l) (num l) in
    let G = leb (num l) (4 * den l) in
    let H = leb c a in
    let t1 = and_r (plus l) (A && (B && (C && (D && (G && H))))) t in
    let t2 = and_r A (B && (C && (D && (G && H)))) t1 in
    let t3 = and_r B (C && (D && (G && H))) t2 in
    let t4 = and_r C (D && (G && H)) t3 in
    let t5 = and_r D (G && H) t4 in
    record {
      close = record {
        sign = and_l (plus l) (A && (B && (C && (D && (G && H))))) t;
        within = (leb→le (num l * c * lower ^ 1) (a * den l * upper ^ 1) (and_l A (B && (C && (D && (G && H)))) t1), leb→le (a * den l * lower ^ 1) (num l * c * upper ^ 1) (and_l B (C && (D && (G && H))) t2));
      };
      c_pos = ltb→lt 0 c (and_l C (D && (G && H)) t3);
      least = leb→le (den l) (num l) (and_l D (G && H) t4);
      most = leb→le (num l) (4 * den l) (and_l G H t5);
      ge = leb→le c a (and_r G H t5);
    }

abbrev end-ok : ℕ → ℕ → ℤ → ℕ → ℕ → ℕ → Bool
end-ok t L i w a c =
    let K = L * up i * 2 ^ w / down i in
    eqb (L * up i * 2 ^ w) (K * down i) && (leb 8388608 K && (leb (K * a) (t * c * 2 ^ w) && ltb (t * c * 2 ^ w) (suc K * a)))

end_of : (t L : ℕ) (i : ℤ) (w a c : ℕ) → T (end-ok t L i w a c) → End t L i w (L * up i * 2 ^ w / down i) a c
end_of t L i w a c h =
    let K = L * up i * 2 ^ w / down i in
    let A = eqb (L * up i * 2 ^ w) (K * down i) in
    let B = leb 8388608 K in
    let C = leb (K * a) (t * c * 2 ^ w) in
    let D = ltb (t * c * 2 ^ w) (suc K * a) in
    let h1 = and_r A (B && (C && D)) h in
    let h2 = and_r B (C && D) h1 in
    record {
      same = eqb→eq (L * up i * 2 ^ w) (K * down i) (and_l A (B && (C && D)) h);
      normal = leb→le 8388608 K (and_l B (C && D) h1);
      last = leb→le (K * a) (t * c * 2 ^ w) (and_l C D h2);
      next = ltb→lt (t * c * 2 ^ w) (suc K * a) (and_r C D h2);
    }

-- on a grid of 2 ^ -v below and 2 ^ -w above
abbrev base_ok : ℕ → ℕ → ℕ → ℕ → Float → Float → Float → Bool
base_ok a c v w l nan most = false
base_ok a c v w l (inf s) most = false
base_ok a c v w l (fin false L i) most = false
base_ok a c v w l (fin true L i) nan = false
base_ok a c v w l (fin true L i) (inf s) = false
base_ok a c v w l (fin true L i) (fin true H j) = false
base_ok a c v w l (fin true L i) (fin false H j) = factor-ok l a c && (end-ok 126 L i v a c && end-ok 127 H j w a c)

-- `power_by` meets the promise
pub power-base : (a c v w : ℕ) (l least most x : Float) → T (base_ok a c v w l least most) → T (fits binary32 x) → PowerOf a c x (power_by l least most x)
power-base a c v w l nan most x t f = absurd t
power-base a c v w l (inf s) most x t f = absurd t
power-base a c v w l (fin false L i) most x t f = absurd t
power-base a c v w l (fin true L i) nan x t f = absurd t
power-base a c v w l (fin true L i) (inf s) x t f = absurd t
power-base a c v w l (fin true L i) (fin true H j) x t f = absurd t
power-base a c v w l (fin true L i) (fin false H j) x t f =
    let A = factor-ok l a c in
    let B = end-ok 126 L i v a c in
    let C = end-ok 127 H j w a c in
    let u = and_r A (B && C) t in
    let N : Base l L i v (L * up i * 2 ^ v / down i) H j w (H * up j * 2 ^ w / down j) a c = record {
      factor = factor-of l a c (and_l A (B && C) t);
      bottom = end_of 126 L i v a c (and_l B C u);
      top = end_of 127 H j w a c (and_r B C u);
    } in
    power-of N x f

-- ---- the program's `power_by`: its products are small enough, and what it returns is `power_by`
ranged : (f : Float) (t L : ℕ) (i : ℤ) → t ≤ 127 → T (plus f) → den f ≤ num f → num f ≤ 4 * den f → L * up i * num f ≤ t * (down i * den f)
    → (m : ℕ) (e : ℤ) → T (fits binary32 (fin false m e)) → 0 < m * up e → m * up e * down i ≤ L * up i * down e → Small 128 (mul binary64 (fin false m e) f)
ranged f t L i B p h k g m e F P o = product_small f (fin false m e) (num f) (den f) 127 1 (own-factor f p h k)
    (record { sign = tt; digits = few-digits false m e F; some = P; most = bound (m * up e) (down e) (num f) (den f) (L * up i) (down i) t (down_pos i) B o g }) cap-127
  where
    bound : (x d n c l q t : ℕ) → 0 < q → t ≤ 127 → x * q ≤ l * d → l * n ≤ t * (q * c) → x * n * 1 ≤ 127 * (d * c)
    bound x d n c l q t Q b h k = le_of_mul-le-mul_right {k = q} (omega (arith, mul-le-mul_right n h, mul-le-mul_right d k, mul-le-mul_right (q * c * d) b)) Q

fail : {b : Bool} → b ≡ false → T (not b)
fail e = subst (λ (x : Bool). T (not x)) (sym e) tt

pub ranged-down : (f least most x : Float) → Ranged f least most → T (fits binary32 x) → lt x least ≡ false → lt x (fin false 0 (pos 0)) ≡ true → Small 128 (mul binary64 (neg x) f)
unfolding lt neg fits
ranged-down f nan most x R F h k = absurd R.negative
ranged-down f (inf s) most x R F h k = absurd R.negative
ranged-down f (fin false L i) most x R F h k = absurd R.negative
ranged-down f (fin true L i) most nan R F h k = absurd (true≢false (sym k))
ranged-down f (fin true L i) most (inf false) R F h k = absurd (true≢false (sym k))
ranged-down f (fin true L i) most (inf true) R F h k = absurd (true≢false h)
ranged-down f (fin true L i) most (fin false m e) R F h k = absurd (bad (m * up e * 1) (down e) (ltb→lt (m * up e * 1) (0 * down e) (yes k)))
  where
    bad : (a d : ℕ) → a < 0 * d → ⊥
    bad a d h = omega arith
ranged-down f (fin true L i) most (fin true m e) R F h k =
    ranged f 126 L i (lit≤ tt) R.sign R.from R.to R.bottom m e F (some (m * up e) (down e) (ltb→lt 0 (m * up e * 1 + 0 * 1 * down e) (yes k))) (nltb→le (L * up i * down e) (m * up e * down i) (fail h))
  where
    some : (x d : ℕ) → 0 < x * 1 + 0 * 1 * d → 0 < x
    some x d h = omega arith

pub ranged-up : (f least most x : Float) → Ranged f least most → T (fits binary32 x) → lt most x ≡ false → lt (fin false 0 (pos 0)) x ≡ true → Small 128 (mul binary64 x f)
unfolding lt
ranged-up f least nan x R F h k = absurd R.positive
ranged-up f least (inf s) x R F h k = absurd R.positive
ranged-up f least (fin true H j) x R F h k = absurd R.positive
ranged-up f least (fin false H j) nan R F h k = absurd (true≢false (sym k))
ranged-up f least (fin false H j) (inf false) R F h k = absurd (true≢false h)
ranged-up f least (fin false H j) (inf true) R F h k = absurd (true≢false (sym k))
ranged-up f least (fin false H j) (fin true m e) R F h k = absurd (true≢false (sym k))
ranged-up f least (fin false H j) (fin false m e) R F h k =
    ranged f 127 H j (lit≤ tt) R.sign R.from R.to R.top m e F (some (m * up e) (down e) (ltb→lt (0 * 1 * down e) (m * up e * 1) (yes k))) (nltb→le (H * up j * down e) (m * up e * down j) (fail h))
  where
    some : (x d : ℕ) → 0 * 1 * d < x * 1 → 0 < x
    some x d h = omega arith

-- the branches of `power_by`
module _ (f least most x : Float) where
  pub by-nan : ne x x ≡ true → x ≡ power_by f least most x
  unfolding power_by is_nan
  by-nan h = when-nan (λ (z : Float). z ≡ power_by f least most z) x h refl

  module _ (n : ne x x ≡ false) where
    pub by-under : lt x least ≡ true → fin false 0 (pos 0) ≡ power_by f least most x
    unfolding power_by
    by-under h = rw (number x n, h)

    module _ (h : lt x least ≡ false) where
      pub by_over : lt most x ≡ true → inf false ≡ power_by f least most x
      unfolding power_by
      by_over k = rw (number x n, h, k)

      module _ (k : lt most x ≡ false) where
        pub by_down : lt x (fin false 0 (pos 0)) ≡ true → narrowed (power_down (mul binary64 (neg x) f)) ≡ power_by f least most x
        unfolding power_by
        by_down g = rw (number x n, h, k, g)

        module _ (g : lt x (fin false 0 (pos 0)) ≡ false) where
          pub by-up : lt (fin false 0 (pos 0)) x ≡ true → narrowed (power_up (mul binary64 x f)) ≡ power_by f least most x
          unfolding power_by
          by-up i = rw (number x n, h, k, g, i)

          pub by_one : lt (fin false 0 (pos 0)) x ≡ false → fin false 1 (pos 0) ≡ power_by f least most x
          unfolding power_by of_bits
          by_one i = rw (number x n, h, k, g, i)
