-- A float of either sign beside a difference of two fractions: how far apart the two are, through roundings. Assumes nothing.
use Rattle.std.proofs.Common.{◌≡◌, ℕ, suc, ◌+◌, ◌-◌, ◌*◌, ◌/◌, ◌^◌, ◌<◌, ◌≤◌, Bool, true, false, cond, not, T, ltb, sym, refl, ap, ◌∙◌, subst, ap₂, subst₂, le_trans, le_of_eq, lt_of_lt_of_le, le_of_lt, mul-le-mul_right, mul_assoc, mul_comm, div-lt_iff_lt-mul, mul-le-mul_left, mul-lt-mul_of_pos_right, mul-pos, pow-suc, mul-one, le_of_mul-le-mul_right, arith, lit<, lit≤, ltb→lt, nltb→le, pow_pos, pow_mono, pow-add}
use lib.Ieee.{Float, nan, inf, fin, Format, binary32, binary64, prec, emax, low, up, down, round, size, sub, mul, sum}
use lib.Ieee.Digits.{size-le}
use lib.Ieee.Exact.{HasValue, units_val}
use lib.Ieee.Fits.{round_is, down_pos}
use lib.Ieee.Order.{drop, kept}
use lib.Ieee.Scale.{grid}
use lib.Ieee.Positive.{num, den, den_pos}
use Rattle.exact.specs.Value.{plus}
use Rattle.exact.specs.Narrow.{narrowed}
use Rattle.exact.proofs.Rounding.{closest-hi, closest-lo}
use Rattle.elementary.specs.Fraction.{Frac, over, plus_q, times_q, LeQ}
use Rattle.elementary.specs.Trigonometric.{Absolute, bound}
use Rattle.elementary.proofs.Operations.{open-sub}
use Rattle.elementary.proofs.Truncation.{le_q-trans, le_q-refl, plus-mono, times-mono}
use Rattle.elementary.proofs.Difference.{exact}

-- ---- sums of fractions in another order
same-frac : {a b c d : ℕ} → a ≡ c → b ≡ d → over a b ≡ over c d
same-frac p q = ap₂ (λ (x y : ℕ). over x y) p q

pub plus_comm : (a b : Frac) → plus_q a b ≡ plus_q b a
plus_comm a b = same-frac (tops a.top a.bot b.top b.bot) (mul_comm a.bot b.bot)
  where
    tops : (a A b B : ℕ) → a * B + b * A ≡ b * A + a * B
    tops a A b B = omega arith

pub plus_assoc : (a b c : Frac) → plus_q (plus_q a b) c ≡ plus_q a (plus_q b c)
plus_assoc a b c = same-frac (tops a.top a.bot b.top b.bot c.top c.bot) (mul_assoc a.bot b.bot c.bot)
  where
    tops : (a A b B c C : ℕ) → (a * B + b * A) * C + c * (A * B) ≡ a * (B * C) + (b * C + c * B) * A
    tops a A b B c C = omega arith

pub plus-right-comm : (a b c : Frac) → plus_q (plus_q a b) c ≡ plus_q (plus_q a c) b
plus-right-comm a b c = plus_assoc a b c ∙ ap (λ (z : Frac). plus_q a z) (plus_comm b c) ∙ sym (plus_assoc a c b)

pub by-eq : {a b c d : Frac} → a ≡ b → c ≡ d → LeQ b d → LeQ a c
by-eq {a} {b} {c} {d} p q h = subst₂ (λ (x y : Frac). LeQ x y) (sym p) (sym q) h

pub plus-cancel : (q n z : Frac) → 0 < n.bot → LeQ (plus_q q n) (plus_q z n) → LeQ q z
plus-cancel q n z N h = le_of_mul-le-mul_right {k = n.bot * n.bot} (flat q.top q.bot n.top n.bot z.top z.bot h) (mul-pos N N)
  where
    flat : (q Q n N z Z : ℕ) → (q * N + n * Q) * (Z * N) ≤ (z * N + n * Z) * (Q * N) → q * Z * (N * N) ≤ z * Q * (N * N)
    flat q Q n N z Z h = omega arith

-- ---- q is within e of p - n
abbrev pub Apart : Frac → Frac → Frac → Frac → Type 0
Apart q p n e = LeQ (plus_q q n) (plus_q p e) × LeQ p (plus_q q (plus_q n e))

-- one of the three by another that is within d of it
module _ (q p n e d : Frac) (Q : 0 < q.bot) (P : 0 < p.bot) (N : 0 < n.bot) (E : 0 < e.bot) (D : 0 < d.bot) (a : Apart q p n e) where
  pub apart_by : (r : Frac) → 0 < r.bot → LeQ r (plus_q q d) → LeQ q (plus_q r d) → Apart r p n (plus_q e d)
  apart_by r R h k = (
    le_q-trans (plus_q r n) (plus_q (plus_q q d) n) (plus_q p (plus_q e d)) (mul-pos (mul-pos Q D) N) (plus-mono r (plus_q q d) n n h (le_q-refl n))
        (by-eq (plus-right-comm q d n) (sym (plus_assoc p e d)) (plus-mono (plus_q q n) (plus_q p e) d d a.0 (le_q-refl d))),
    le_q-trans p (plus_q q (plus_q n e)) (plus_q r (plus_q n (plus_q e d))) (mul-pos Q (mul-pos N E)) a.1
        (by-eq refl (ap (λ (z : Frac). plus_q r z) (sym (plus_assoc n e d) ∙ plus_comm (plus_q n e) d) ∙ sym (plus_assoc r d (plus_q n e))) (plus-mono q (plus_q r d) (plus_q n e) (plus_q n e) k (le_q-refl (plus_q n e)))),
  )

  pub apart-less : (l : Frac) → 0 < l.bot → LeQ l (plus_q n d) → LeQ n (plus_q l d) → Apart q p l (plus_q e d)
  apart-less l L h k = (
    le_q-trans (plus_q q l) (plus_q q (plus_q n d)) (plus_q p (plus_q e d)) (mul-pos Q (mul-pos N D)) (plus-mono q q l (plus_q n d) (le_q-refl q) h)
        (by-eq (sym (plus_assoc q n d)) (sym (plus_assoc p e d)) (plus-mono (plus_q q n) (plus_q p e) d d a.0 (le_q-refl d))),
    le_q-trans p (plus_q q (plus_q n e)) (plus_q q (plus_q l (plus_q e d))) (mul-pos Q (mul-pos N E)) a.1
        (plus-mono q q (plus_q n e) (plus_q l (plus_q e d)) (le_q-refl q) (by-eq refl (sym (plus_assoc l e d) ∙ plus-right-comm l e d) (plus-mono n (plus_q l d) e e k (le_q-refl e)))),
  )

  pub apart_more : (m : Frac) → 0 < m.bot → LeQ m (plus_q p d) → LeQ p (plus_q m d) → Apart q m n (plus_q e d)
  apart_more m M h k = (
    le_q-trans (plus_q q n) (plus_q p e) (plus_q m (plus_q e d)) (mul-pos P E) a.0
        (by-eq refl (sym (plus_assoc m e d) ∙ plus-right-comm m e d) (plus-mono p (plus_q m d) e e k (le_q-refl e))),
    le_q-trans m (plus_q p d) (plus_q q (plus_q n (plus_q e d))) (mul-pos P D) h
        (by-eq refl (ap (λ (z : Frac). plus_q q z) (sym (plus_assoc n e d)) ∙ sym (plus_assoc q (plus_q n e) d)) (plus-mono p (plus_q q (plus_q n e)) d d a.1 (le_q-refl d))),
  )

  -- a larger distance
  pub apart-weaken : LeQ e d → Apart q p n d
  apart-weaken h = (
    le_q-trans (plus_q q n) (plus_q p e) (plus_q p d) (mul-pos P E) a.0 (plus-mono p p e d (le_q-refl p) h),
    le_q-trans p (plus_q q (plus_q n e)) (plus_q q (plus_q n d)) (mul-pos Q (mul-pos N E)) a.1 (plus-mono q q (plus_q n e) (plus_q n d) (le_q-refl q) (plus-mono n n e d (le_q-refl n) h)),
  )

  -- where p is at most n + d, q is at most d + e
  pub apart-most : LeQ p (plus_q n d) → LeQ q (plus_q d e)
  apart-most h =
      plus-cancel q n (plus_q d e) N
      (le_q-trans (plus_q q n) (plus_q p e) (plus_q (plus_q d e) n) (mul-pos P E) a.0
      (by-eq refl (plus_comm (plus_q d e) n ∙ sym (plus_assoc n d e)) (plus-mono p (plus_q n d) e e h (le_q-refl e))))

-- ---- times X
factor-out : (X a b : Frac) → (times_q X (plus_q a b)).top * (plus_q (times_q X a) (times_q X b)).bot ≡ (plus_q (times_q X a) (times_q X b)).top * (times_q X (plus_q a b)).bot
factor-out X a b =
    let s = a.top * b.bot + b.top * a.bot in
    whole X.top X.bot s a.bot b.bot ∙ ap (λ (z : ℕ). z * (X.bot * (a.bot * b.bot))) (sym (tops X.top X.bot a.top a.bot b.top b.bot))
  where
    tops : (x X a A b B : ℕ) → x * a * (X * B) + x * b * (X * A) ≡ x * X * (a * B + b * A)
    tops x X a A b B = omega arith

    whole : (x X s A B : ℕ) → x * s * (X * A * (X * B)) ≡ x * X * s * (X * (A * B))
    whole x X s A B = omega arith

pub times-out : (X a b : Frac) → LeQ (times_q X (plus_q a b)) (plus_q (times_q X a) (times_q X b))
times-out X a b = le_of_eq (factor-out X a b)

pub times-in : (X a b : Frac) → LeQ (plus_q (times_q X a) (times_q X b)) (times_q X (plus_q a b))
times-in X a b = le_of_eq (sym (factor-out X a b))

module _ (X q p n e : Frac) (XP : 0 < X.bot) (Q : 0 < q.bot) (P : 0 < p.bot) (N : 0 < n.bot) (E : 0 < e.bot) (a : Apart q p n e) where
  pub apart-times : Apart (times_q X q) (times_q X p) (times_q X n) (times_q X e)
  apart-times = (
    le_q-trans (plus_q (times_q X q) (times_q X n)) (times_q X (plus_q q n)) (plus_q (times_q X p) (times_q X e)) (mul-pos XP (mul-pos Q N)) (times-in X q n)
        (le_q-trans (times_q X (plus_q q n)) (times_q X (plus_q p e)) (plus_q (times_q X p) (times_q X e)) (mul-pos XP (mul-pos P E)) (times-mono X X (plus_q q n) (plus_q p e) (le_q-refl X) a.0) (times-out X p e)),
    le_q-trans (times_q X p) (times_q X (plus_q q (plus_q n e))) (plus_q (times_q X q) (plus_q (times_q X n) (times_q X e))) (mul-pos XP (mul-pos Q (mul-pos N E))) (times-mono X X p (plus_q q (plus_q n e)) (le_q-refl X) a.1)
        (le_q-trans (times_q X (plus_q q (plus_q n e))) (plus_q (times_q X q) (times_q X (plus_q n e))) (plus_q (times_q X q) (plus_q (times_q X n) (times_q X e))) (mul-pos (mul-pos XP Q) (mul-pos XP (mul-pos N E))) (times-out X q (plus_q n e))
        (plus-mono (times_q X q) (times_q X q) (times_q X (plus_q n e)) (plus_q (times_q X n) (times_q X e)) (le_q-refl (times_q X q)) (times-out X n e))),
  )

-- ---- with a sign: q, negative where s is true, is within e of p - n
abbrev pub Signed : Bool → Frac → Frac → Frac → Frac → Type 0
Signed false q p n e = Apart q p n e
Signed true q p n e = Apart q n p e

abbrev pub size_of : Float → Frac
size_of z = over (num z) (den z)

abbrev pub Differs : Frac → Frac → Frac → Float → Type 0
Differs p n e nan = ⊥
Differs p n e (inf s) = ⊥
Differs p n e (fin s m k) = Signed s (over (m * up k) (down k)) p n e

-- z has the sign s, and its size is within d of q
abbrev pub Beside : Bool → Frac → Frac → Float → Type 0
Beside s q d nan = ⊥
Beside s q d (inf t) = ⊥
Beside s q d (fin t m k) = (t ≡ s) × LeQ (over (m * up k) (down k)) (plus_q q d) × LeQ q (plus_q (over (m * up k) (down k)) d)

-- ---- a rounding moves a number below 2 ^ t by half a unit at most
digits-under : (z t p j l : ℕ) → z ≤ t + l → j + t ≡ suc p → p ≤ l → z - p + j ≤ suc l
digits-under z t p j l h e k = omega arith

prec-low : (f : Format) → prec f ≤ low f
prec-low binary32 = lit≤ tt
prec-low binary64 = lit≤ tt

far : (f : Format) → 1025 < 2 ^ suc (emax f)
far binary32 = lit< tt
far binary64 = lit< tt

module _ (f : Format) (s : Bool) (a c t j : ℕ) (C : 0 < c) (h : a < c * 2 ^ t) (J : j + t ≡ suc (prec f)) (small : t ≤ 10) where
  abbrev l : ℕ
  l = 2 ^ low f

  abbrev k : ℕ
  k = drop (prec f) (a * l) c

  abbrev g : ℕ
  g = grid f a c

  unit : 2 ^ k * 2 ^ j ≤ 2 * l
  unit =
      let z : size (a * l / c) ≤ t + low f = size-le (a * l / c) (t + low f) ((div-lt_iff_lt-mul C).1 (lt_of_lt_of_le (mul-lt-mul_of_pos_right h (pow_pos (low f))) (le_of_eq (turn c (2 ^ t) l ∙ ap (λ (x : ℕ). x * c) (sym (pow-add 2 t (low f))))))) in
      le_trans (le_of_eq (sym (pow-add 2 k j))) (le_trans (pow_mono (digits-under (size (a * l / c)) t (prec f) j (low f) z J (prec-low f))) (le_of_eq (pow-suc 2 (low f) ∙ mul_comm (2 ^ low f) 2)))
    where
      turn : (c p l : ℕ) → c * p * l ≡ p * l * c
      turn c p l = omega arith

  above : g * c * 2 ^ j ≤ (a * 2 ^ j + c) * l
  above = bound (kept (prec f) (a * l) c) c (2 ^ k) (2 ^ j) l a (closest-hi (a * l) (c * 2 ^ k) (mul-pos C (pow_pos k))) unit
    where
      bound : (K c u J l a : ℕ) → 2 * (K * (c * u)) ≤ 2 * (a * l) + c * u → u * J ≤ 2 * l → K * u * c * J ≤ (a * J + c) * l
      bound K c u J l a h k = omega (arith, mul-le-mul_right J h, mul-le-mul_left c k)

  below : a * l * 2 ^ j ≤ g * c * 2 ^ j + c * l
  below = bound (kept (prec f) (a * l) c) c (2 ^ k) (2 ^ j) l a (closest-lo (a * l) (c * 2 ^ k) (mul-pos C (pow_pos k))) unit
    where
      bound : (K c u J l a : ℕ) → 2 * (a * l) ≤ 2 * (K * (c * u)) + c * u → u * J ≤ 2 * l → a * l * J ≤ K * u * c * J + c * l
      bound K c u J l a h k = omega (arith, mul-le-mul_right J h, mul-le-mul_left c k)

  fits_in : g < 2 ^ (low f + suc (emax f))
  fits_in = lt_of_lt_of_le (bound g c (2 ^ j) l a (2 ^ t) (2 ^ suc (emax f)) C (pow_pos j) (pow_pos (low f)) above h (pow_mono {i = t} {j = 10} small) (far f)) (le_of_eq (sym (pow-add 2 (low f) (suc (emax f)))))
    where
      step : (g c J l a p : ℕ) → 0 < c → 0 < J → g * c * J ≤ (a * J + c) * l → a < c * p → g ≤ (p + 1) * l
      step g c J l a p CC JJ h k = le_of_mul-le-mul_right {k = c * J} (omega (arith, mul-le-mul_right (J * l) (le_of_lt k), mul-le-mul_left (c * l) JJ)) (mul-pos CC JJ)

      bound : (g c J l a p o : ℕ) → 0 < c → 0 < J → 0 < l → g * c * J ≤ (a * J + c) * l → a < c * p → p ≤ 1024 → 1025 < o → g < l * o
      bound g c J l a p o CC JJ L h k m n =
          let x : g ≤ (p + 1) * l = step g c J l a p CC JJ h k in
          let y : 1026 * l ≤ o * l = mul-le-mul_right l n in
          omega (arith, mul-le-mul_right l m)

  value-at : HasValue (round f s a c) s g l
  value-at = subst (λ (z : Float). HasValue z s g l) (sym (round_is f s a c)) (units_val f s (kept (prec f) (a * l) c) k fits_in)

  pub round-beside : Beside s (over a c) (over 1 (2 ^ j)) (round f s a c)
  round-beside = go (round f s a c) value-at
    where
      up_to : (M E g c J l a : ℕ) → 0 < l → M * l ≡ g * E → g * c * J ≤ (a * J + c) * l → M * (c * J) ≤ (a * J + 1 * c) * E
      up_to M E g c J l a L e h = le_of_mul-le-mul_right {k = l} (omega (arith, mul-le-mul_right E h, ap (λ (z : ℕ). z * (c * J)) e)) L

      down_to : (M E g c J l a : ℕ) → 0 < l → M * l ≡ g * E → a * l * J ≤ g * c * J + c * l → a * (E * J) ≤ (M * J + 1 * E) * c
      down_to M E g c J l a L e h = le_of_mul-le-mul_right {k = l} (omega (arith, mul-le-mul_right E h, ap (λ (z : ℕ). z * (c * J)) e)) L

      go : (z : Float) → HasValue z s g l → Beside s (over a c) (over 1 (2 ^ j)) z
      go nan v = absurd v
      go (inf u) v = absurd v
      go (fin u m e) v = (v.0, up_to (m * up e) (down e) g c (2 ^ j) l a (pow_pos (low f)) v.1 above, down_to (m * up e) (down e) g c (2 ^ j) l a (pow_pos (low f)) v.1 below)

-- ---- from the exact value to the rounded one
pub beside-differs : (s : Bool) (q p n e d : Frac) (z : Float) → 0 < q.bot → 0 < p.bot → 0 < n.bot → 0 < e.bot → 0 < d.bot → Signed s q p n e → Beside s q d z → Differs p n (plus_q e d) z
beside-differs s q p n e d nan Q P N E D a b = absurd b
beside-differs s q p n e d (inf t) Q P N E D a b = absurd b
beside-differs s q p n e d (fin t m k) Q P N E D a b = subst (λ (u : Bool). Signed u (over (m * up k) (down k)) p n (plus_q e d)) (sym b.0) (go s a)
  where
    go : (s : Bool) → Signed s q p n e → Signed s (over (m * up k) (down k)) p n (plus_q e d)
    go false a = apart_by q p n e d Q P N E D a (over (m * up k) (down k)) (down_pos k) b.1 b.2
    go true a = apart_by q n p e d Q N P E D a (over (m * up k) (down k)) (down_pos k) b.1 b.2

-- ---- a difference of two floats that are not negative
pub plus-zero : (p : Frac) → plus_q p (over 0 1) ≡ p
plus-zero p = same-frac (none p.top p.bot) (mul-one p.bot)
  where
    none : (a b : ℕ) → a * 1 + 0 * b ≡ a
    none a b = omega arith

exact-apart : (a b c d : ℕ) → c * b ≤ a * d → Apart (over (a * d - c * b) (b * d)) (over a b) (over c d) (over 0 1)
exact-apart a b c d h =
    let z = exact a b c d h in
    let q = over (a * d - c * b) (b * d) in
    (by-eq refl (plus-zero (over a b)) z.0, by-eq refl (ap (λ (y : Frac). plus_q q y) (plus-zero (over c d))) z.1)

sub-room : (n d m e u : ℕ) → 0 < e → n < d * u → n * e - m * d < d * e * u
sub-room n d m e u E h = omega (arith, mul-lt-mul_of_pos_right h E)

module _ (x y : Float) (t j : ℕ) (p : T (plus x)) (q : T (plus y)) (h : num x < den x * 2 ^ t) (k : num y < den y * 2 ^ t) (J : j + t ≡ 54) (small : t ≤ 10) where
  abbrev a : ℕ
  a = num x * den y

  abbrev b : ℕ
  b = num y * den x

  abbrev c : ℕ
  c = den x * den y

  C : 0 < c
  C = mul-pos (den_pos x) (den_pos y)

  either : (o : Bool) → (T o → a < b) → (T (not o) → b ≤ a) → Differs (size_of x) (size_of y) (plus_q (over 0 1) (over 1 (2 ^ j))) (cond o (round binary64 true (b - a) c) (round binary64 false (a - b) c))
  either false l g =
      beside-differs false (over (a - b) c) (size_of x) (size_of y) (over 0 1) (over 1 (2 ^ j)) (round binary64 false (a - b) c) C (den_pos x) (den_pos y) (lit< tt) (pow_pos j)
      (exact-apart (num x) (den x) (num y) (den y) (g tt)) (round-beside binary64 false (a - b) c t j C (sub-room (num x) (den x) (num y) (den y) (2 ^ t) (den_pos y) h) J small)
  either true l g =
      beside-differs true (over (b - a) c) (size_of x) (size_of y) (over 0 1) (over 1 (2 ^ j)) (round binary64 true (b - a) c) C (den_pos x) (den_pos y) (lit< tt) (pow_pos j)
      (subst (λ (u : ℕ). Apart (over (b - a) u) (size_of y) (size_of x) (over 0 1)) (mul_comm (den y) (den x)) (exact-apart (num y) (den y) (num x) (den x) (le_of_lt (l tt))))
      (round-beside binary64 true (b - a) c t j C (subst (λ (u : ℕ). b - a < u * 2 ^ t) (mul_comm (den y) (den x)) (sub-room (num y) (den y) (num x) (den x) (2 ^ t) (den_pos x) k)) J small)

  pub sub-differs : Differs (size_of x) (size_of y) (plus_q (over 0 1) (over 1 (2 ^ j))) (sub binary64 x y)
  unfolding sum
  sub-differs = subst (λ (z : Float). Differs (size_of x) (size_of y) (plus_q (over 0 1) (over 1 (2 ^ j))) z) (sym (open-sub binary64 x y p q)) (either (ltb a b) (ltb→lt a b) (nltb→le a b))

-- ---- a product, and the narrowing
pub mul-differs : (x z : Float) (p n e : Frac) (t j : ℕ) → T (plus x) → 0 < p.bot → 0 < n.bot → 0 < e.bot → Differs p n e z → num x * num z < den x * den z * 2 ^ t → j + t ≡ 54 → t ≤ 10
    → Differs (times_q (size_of x) p) (times_q (size_of x) n) (plus_q (times_q (size_of x) e) (over 1 (2 ^ j))) (mul binary64 x z)
unfolding mul
mul-differs nan z p n e t j X P N E a h J small = absurd X
mul-differs (inf s) z p n e t j X P N E a h J small = absurd X
mul-differs (fin true m k) z p n e t j X P N E a h J small = absurd X
mul-differs (fin false m k) nan p n e t j X P N E a h J small = absurd a
mul-differs (fin false m k) (inf u) p n e t j X P N E a h J small = absurd a
mul-differs (fin false m k) (fin false o i) p n e t j X P N E a h J small =
    let x = over (m * up k) (down k) in
    let q = over (o * up i) (down i) in
    beside-differs false (times_q x q) (times_q x p) (times_q x n) (times_q x e) (over 1 (2 ^ j)) (round binary64 false (m * up k * (o * up i)) (down k * down i)) (mul-pos (down_pos k) (down_pos i)) (mul-pos (down_pos k) P) (mul-pos (down_pos k) N) (mul-pos (down_pos k) E) (pow_pos j)
    (apart-times x q p n e (down_pos k) (down_pos i) P N E a) (round-beside binary64 false (m * up k * (o * up i)) (down k * down i) t j (mul-pos (down_pos k) (down_pos i)) h J small)
mul-differs (fin false m k) (fin true o i) p n e t j X P N E a h J small =
    let x = over (m * up k) (down k) in
    let q = over (o * up i) (down i) in
    beside-differs true (times_q x q) (times_q x p) (times_q x n) (times_q x e) (over 1 (2 ^ j)) (round binary64 true (m * up k * (o * up i)) (down k * down i)) (mul-pos (down_pos k) (down_pos i)) (mul-pos (down_pos k) P) (mul-pos (down_pos k) N) (mul-pos (down_pos k) E) (pow_pos j)
    (apart-times x q n p e (down_pos k) (down_pos i) N P E a) (round-beside binary64 true (m * up k * (o * up i)) (down k * down i) t j (mul-pos (down_pos k) (down_pos i)) h J small)

pub narrowed-differs : (z : Float) (p n e : Frac) (t j : ℕ) → 0 < p.bot → 0 < n.bot → 0 < e.bot → Differs p n e z → num z < den z * 2 ^ t → j + t ≡ 25 → t ≤ 10 → Differs p n (plus_q e (over 1 (2 ^ j))) (narrowed z)
unfolding narrowed
narrowed-differs nan p n e t j P N E a h J small = absurd a
narrowed-differs (inf s) p n e t j P N E a h J small = absurd a
narrowed-differs (fin s m k) p n e t j P N E a h J small =
    beside-differs s (over (m * up k) (down k)) p n e (over 1 (2 ^ j)) (round binary32 s (m * up k) (down k)) (down_pos k) P N E (pow_pos j) a (round-beside binary32 s (m * up k) (down k) t j (down_pos k) h J small)

-- ---- other fractions, and how large the float is
module _ (p n e : Frac) (P : 0 < p.bot) (N : 0 < n.bot) (E : 0 < e.bot) where
  -- p and n by fractions within d of them
  pub differs-from : (m l d : Frac) (z : Float) → 0 < m.bot → 0 < l.bot → 0 < d.bot → LeQ m (plus_q p d) → LeQ p (plus_q m d) → LeQ l (plus_q n d) → LeQ n (plus_q l d) → Differs p n e z → Differs m l (plus_q (plus_q e d) d) z
  differs-from m l d nan M L D h k f g a = absurd a
  differs-from m l d (inf s) M L D h k f g a = absurd a
  differs-from m l d (fin false o i) M L D h k f g a =
      let q = over (o * up i) (down i) in
      apart-less q m n (plus_q e d) d (down_pos i) M N (mul-pos E D) D (apart_more q p n e d (down_pos i) P N E D a m M h k) l L f g
  differs-from m l d (fin true o i) M L D h k f g a =
      let q = over (o * up i) (down i) in
      apart-less q l p (plus_q e d) d (down_pos i) L P (mul-pos E D) D (apart_more q n p e d (down_pos i) N P E D a l L f g) m M h k

  pub differs-weaken : (d : Frac) (z : Float) → 0 < d.bot → LeQ e d → Differs p n e z → Differs p n d z
  differs-weaken d nan D h a = absurd a
  differs-weaken d (inf s) D h a = absurd a
  differs-weaken d (fin false o i) D h a = apart-weaken (over (o * up i) (down i)) p n e d (down_pos i) P N E D a h
  differs-weaken d (fin true o i) D h a = apart-weaken (over (o * up i) (down i)) n p e d (down_pos i) N P E D a h

  pub differs-most : (d : Frac) (z : Float) → 0 < d.bot → LeQ p (plus_q n d) → LeQ n (plus_q p d) → Differs p n e z → LeQ (size_of z) (plus_q d e)
  differs-most d nan D h k a = absurd a
  differs-most d (inf s) D h k a = absurd a
  differs-most d (fin false o i) D h k a = apart-most (over (o * up i) (down i)) p n e d (down_pos i) P N E D a h
  differs-most d (fin true o i) D h k a = apart-most (over (o * up i) (down i)) n p e d (down_pos i) N P E D a k

pub absolute-of : (p n : Frac) (z : Float) → Differs p n bound z → Absolute p n z
absolute-of p n nan a = absurd a
absolute-of p n (inf s) a = absurd a
absolute-of p n (fin false m k) a = record { most = a.0; least = a.1 }
absolute-of p n (fin true m k) a = record { most = a.1; least = a.0 }
