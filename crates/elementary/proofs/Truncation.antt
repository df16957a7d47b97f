-- A polynomial with positive coefficients cut short, at an argument from 0 to 1. Assumes nothing.
use Rattle.std.proofs.Common.{ℕ, ◌+◌, ◌*◌, ◌<◌, ◌≤◌, List, [], ◌∷◌, ◌++◌, le_refl, mul-le-mul_right, mul-le-mul, mul-le-mul_left, mul-pos, le_of_mul-le-mul_right, arith}
use Rattle.elementary.proofs.Ratio.{Within}
use Rattle.elementary.specs.Fraction.{Frac, plus_q, times_q, horner_q, one_q, LeQ}

pub data Pos : List Frac → Type 0 where
  none : Pos []
  also : {q : Frac} {qs : List Frac} → 0 < q.bot → Pos qs → Pos (q ∷ qs)

pub horner-pos : (X q : Frac) {qs : List Frac} → 0 < X.bot → 0 < q.bot → Pos qs → 0 < (horner_q X q qs).bot
unfolding horner_q
horner-pos X q x p none = p
horner-pos X q x p (also {q = r} h t) = mul-pos p (mul-pos x (horner-pos X r x h t))

-- ---- the order goes through sums and products
pub le_q-trans : (p q r : Frac) → 0 < q.bot → LeQ p q → LeQ q r → LeQ p r
le_q-trans p q r Q h k =
    let z : p.top * r.bot * q.bot ≤ r.top * p.bot * q.bot = omega (arith, mul-le-mul_right r.bot h, mul-le-mul_right p.bot k) in
    le_of_mul-le-mul_right z Q

pub plus-mono : (p q r s : Frac) → LeQ p q → LeQ r s → LeQ (plus_q p r) (plus_q q s)
plus-mono p q r s h k = omega (arith, mul-le-mul_right (r.bot * s.bot) h, mul-le-mul_right (p.bot * q.bot) k)

pub times-mono : (p q r s : Frac) → LeQ p q → LeQ r s → LeQ (times_q p r) (times_q q s)
times-mono p q r s h k = omega (arith, mul-le-mul h k)

pub le_q-refl : (p : Frac) → LeQ p p
le_q-refl p = le_refl (p.top * p.bot)

-- ---- a larger argument gives a larger value
pub horner-mono : (X Y q : Frac) (qs : List Frac) → LeQ X Y → LeQ (horner_q X q qs) (horner_q Y q qs)
unfolding horner_q
horner-mono X Y q [] h = le_q-refl q
horner-mono X Y q (r ∷ qs) h = plus-mono q q (times_q X (horner_q X r qs)) (times_q Y (horner_q Y r qs)) (le_q-refl q) (times-mono X Y (horner_q X r qs) (horner_q Y r qs) h (horner-mono X Y r qs h))

-- ---- fewer terms give less
more : (a b c d : ℕ) → a * (b * d) ≤ (a * d + c * b) * b
more a b c d = omega arith

pub cut_below : (X q : Frac) (qs : List Frac) (r : Frac) (rs : List Frac) → LeQ (horner_q X q qs) (horner_q X q (qs ++ (r ∷ rs)))
unfolding horner_q
cut_below X q [] r rs = more q.top q.bot (times_q X (horner_q X r rs)).top (times_q X (horner_q X r rs)).bot
cut_below X q (p ∷ qs) r rs = plus-mono q q (times_q X (horner_q X p qs)) (times_q X (horner_q X p (qs ++ (r ∷ rs)))) (le_q-refl q) (times-mono X X (horner_q X p qs) (horner_q X p (qs ++ (r ∷ rs))) (le_q-refl X) (cut_below X p qs r rs))

-- ---- at most t less, where the terms that are cut are at most t at the argument
shrink : (X t p : Frac) → X.top ≤ X.bot → LeQ p t → LeQ (times_q X p) t
shrink X t p x h = omega (arith, mul-le-mul x h)

-- q + X * f ≤ (q + X * g) + t from f ≤ g + t and X ≤ 1
carry : (X q f g t : Frac) → X.top ≤ X.bot → LeQ f (plus_q g t) → LeQ (plus_q q (times_q X f)) (plus_q (plus_q q (times_q X g)) t)
carry X q f g t x h = scaled (q.top * (X.bot * f.bot) + X.top * f.top * q.bot) ((q.top * (X.bot * g.bot) + X.top * g.top * q.bot) * t.bot + t.top * (q.bot * (X.bot * g.bot))) q.bot X.bot g.bot t.bot f.bot
    (outer q.top q.bot X.top X.bot f.top f.bot g.top g.bot t.top t.bot (inner X.top X.bot f.top f.bot g.top g.bot t.top t.bot x h))
  where
    inner : (m n f F g G t T' : ℕ) → m ≤ n → f * (G * T') ≤ (g * T' + t * G) * F → m * f * (G * T') ≤ m * g * T' * F + t * n * G * F
    inner m n f F g G t T' x h = omega (arith, mul-le-mul_left m h, mul-le-mul_right (t * G * F) x)

    outer : (a b m n f F g G t T' : ℕ) → m * f * (G * T') ≤ m * g * T' * F + t * n * G * F → (a * (n * F) + m * f * b) * (G * T') ≤ ((a * (n * G) + m * g * b) * T' + t * (b * (n * G))) * F
    outer a b m n f F g G t T' h = omega (arith, mul-le-mul_left b h)

    scaled : (P R b n G T' F : ℕ) → P * (G * T') ≤ R * F → P * (b * (n * G) * T') ≤ R * (b * (n * F))
    scaled P R b n G T' F h = omega (arith, mul-le-mul_right (b * n) h)

pub cut-above : (X t q : Frac) (qs : List Frac) (r : Frac) (rs : List Frac) → X.top ≤ X.bot → LeQ (horner_q X r rs) t → LeQ (horner_q X q (qs ++ (r ∷ rs))) (plus_q (horner_q X q qs) t)
unfolding horner_q
cut-above X t q [] r rs x h = plus-mono q q (times_q X (horner_q X r rs)) t (le_q-refl q) (shrink X t (horner_q X r rs) x h)
cut-above X t q (p ∷ qs) r rs x h = carry X q (horner_q X p (qs ++ (r ∷ rs))) (horner_q X p qs) t x (cut-above X t p qs r rs x h)

-- ---- a relative bound: where the first coefficient is 1 the value is 1 at least, so t more is at most the factor 1 + t
pub least-one : (X : Frac) (qs : List Frac) → LeQ one_q (horner_q X one_q qs)
unfolding horner_q
least-one X [] = le_q-refl one_q
least-one X (q ∷ qs) = more 1 1 (times_q X (horner_q X q qs)).top (times_q X (horner_q X q qs)).bot

-- f ≤ g + t, 1 ≤ g
factor : (f g t : Frac) → LeQ f (plus_q g t) → LeQ one_q g → f.top * g.bot * t.bot ≤ g.top * f.bot * (t.bot + t.top)
factor f g t h o = omega (arith, h, mul-le-mul_right (t.top * f.bot) o)

grow : (a b u v : ℕ) → a ≤ b → v ≤ u → a * v ≤ b * u
grow a b u v h k = mul-le-mul h k

pub cut-within : (X t : Frac) (qs : List Frac) (r : Frac) (rs : List Frac) → X.top ≤ X.bot → LeQ (horner_q X r rs) t
    → Within (t.bot + t.top) t.bot (horner_q X one_q qs).top (horner_q X one_q qs).bot (horner_q X one_q (qs ++ (r ∷ rs))).top (horner_q X one_q (qs ++ (r ∷ rs))).bot
cut-within X t qs r rs x h =
    let f = horner_q X one_q (qs ++ (r ∷ rs)) in
    let g = horner_q X one_q qs in (
      grow (g.top * f.bot) (f.top * g.bot) (t.bot + t.top) t.bot (cut_below X one_q qs r rs) (omega arith),
      factor f g t (cut-above X t one_q qs r rs x h) (least-one X qs),
    )
