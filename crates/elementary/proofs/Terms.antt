-- The terms of a power series, every fourth one, as a polynomial in x ^ 4. Assumes nothing.
use Rattle.std.proofs.Common.{◌≡◌, ℕ, zero, suc, ◌+◌, ◌*◌, ◌^◌, ◌<◌, ◌≤◌, List, [], ◌∷◌, sym, refl, ap, ◌∙◌, ap₂, subst₂, inl, inr, mul-le-mul_right, mul_assoc, mul-pos, one-mul, pow-suc, mul-one, arith, lit<, lit≤, pow-add}
use native.Mathlib.Nat.{pow-zero, pow-le-pow_left, one-le-pow}
use Rattle.elementary.specs.Fraction.{Frac, over, plus_q, times_q, horner_q, LeQ}
use Rattle.elementary.specs.Power.{fact}
use Rattle.elementary.specs.Trigonometric.{term, terms, plus_terms, minus_terms}
use Rattle.elementary.proofs.Truncation.{le_q-trans, le_q-refl, plus-mono, times-mono, horner-mono, horner-pos, Pos}
use Rattle.elementary.proofs.Lipschitz.{lt-or-ge}
use Rattle.elementary.proofs.Signed.{by-eq, plus-zero, times-in, times-out}

-- 1 / k!
unfoldable pub inv : ℕ → Frac
unfolding fact
inv k = over 1 (fact k)

unfoldable pub every4 : ℕ → ℕ → List Frac
unfolding inv
every4 k zero = []
every4 k (suc n) = inv k ∷ every4 (k + 4) n

abbrev pub sq : Frac → Frac
sq X = times_q X X

-- the two polynomials, without the first one's power of x
abbrev pub plus_part : ℕ → Frac → Frac
plus_part k X = horner_q (sq (sq X)) (inv k) (every4 (k + 4) 7)

abbrev pub minus_part : ℕ → Frac → Frac
minus_part k X = times_q (sq X) (horner_q (sq (sq X)) (inv (k + 2)) (every4 (k + 2 + 4) 7))

-- ---- positive denominators
pub fact-pos : (k : ℕ) → 0 < fact k
unfolding fact
fact-pos zero = lit< tt
fact-pos (suc k) = mul-pos {m = suc k} (omega arith) (fact-pos k)

pub every4-pos : (k n : ℕ) → Pos (every4 k n)
unfolding every4
every4-pos k zero = Pos.none
every4-pos k (suc n) = Pos.also (fact-pos k) (every4-pos (k + 4) n)

pub inv-pos : (k : ℕ) → 0 < (inv k).bot
unfolding inv
inv-pos k = fact-pos k

pub term-pos : (k : ℕ) (X : Frac) → 0 < X.bot → 0 < (term k X).bot
unfolding term
term-pos k X h = mul-pos (one-le-pow k X.bot h) (fact-pos k)

pub terms-pos : (k n : ℕ) (X : Frac) → 0 < X.bot → 0 < (terms k n X).bot
unfolding terms
terms-pos k zero X h = lit< tt
terms-pos k (suc n) X h = mul-pos (term-pos k X h) (terms-pos (k + 4) n X h)

-- ---- a larger x gives more
power-of : (a b k : ℕ) → (a * b) ^ k ≡ a ^ k * b ^ k
power-of a b zero = pow-zero (a * b) ∙ sym (ap₂ (λ (x y : ℕ). x * y) (pow-zero a) (pow-zero b))
power-of a b (suc k) = pow-suc (a * b) k ∙ ap (λ (z : ℕ). z * (a * b)) (power-of a b k) ∙ swap (a ^ k) (b ^ k) a b ∙ sym (ap₂ (λ (x y : ℕ). x * y) (pow-suc a k) (pow-suc b k))
  where
    swap : (p q a b : ℕ) → p * q * (a * b) ≡ p * a * (q * b)
    swap p q a b = omega arith

pub term-mono : (k : ℕ) (X Y : Frac) → LeQ X Y → LeQ (term k X) (term k Y)
unfolding term
term-mono k X Y h = scaled (X.top ^ k) (Y.bot ^ k) (Y.top ^ k) (X.bot ^ k) (fact k) (subst₂ (λ (a b : ℕ). a ≤ b) (power-of X.top Y.bot k) (power-of Y.top X.bot k) (pow-le-pow_left h k))
  where
    scaled : (a b c d f : ℕ) → a * b ≤ c * d → a * (b * f) ≤ c * (d * f)
    scaled a b c d f h = omega (arith, mul-le-mul_right f h)

pub terms-mono : (k n : ℕ) (X Y : Frac) → LeQ X Y → LeQ (terms k n X) (terms k n Y)
unfolding terms
terms-mono k zero X Y h = le_q-refl (over 0 1)
terms-mono k (suc n) X Y h = plus-mono (term k X) (term k Y) (terms (k + 4) n X) (terms (k + 4) n Y) (term-mono k X Y h) (terms-mono (k + 4) n X Y h)

-- ---- the terms are a power of x times a polynomial in x ^ 4
abbrev pub pow_q : Frac → ℕ → Frac
pow_q X k = over (X.top ^ k) (X.bot ^ k)

term_is : (k : ℕ) (X : Frac) → term k X ≡ times_q (pow_q X k) (inv k)
unfolding term inv
term_is k X = ap (λ (t : ℕ). over t (X.bot ^ k * fact k)) (sym (mul-one (X.top ^ k)))

-- the power k + i, i of them in the second factor
pub power-split : (k i : ℕ) (X F H : Frac) → X.top ^ i ≡ F.top → X.bot ^ i ≡ F.bot → times_q (pow_q X (k + i)) H ≡ times_q (pow_q X k) (times_q F H)
power-split k i X F H t b = ap₂ (λ (t b : ℕ). over t b) (part X.top F.top H.top t) (part X.bot F.bot H.bot b)
  where
    part : (x f h : ℕ) → x ^ i ≡ f → x ^ (k + i) * h ≡ x ^ k * (f * h)
    part x f h e = ap (λ (z : ℕ). z * h) (pow-add x k i ∙ ap (λ (z : ℕ). x ^ k * z) e) ∙ mul_assoc (x ^ k) f h

two-of : (x : ℕ) → x ^ 2 ≡ x * x
two-of x = pow-suc x 1 ∙ ap (λ (z : ℕ). z * x) (pow-suc x 0 ∙ ap (λ (z : ℕ). z * x) (pow-zero x) ∙ one-mul x)

four-of : (x : ℕ) → x ^ 4 ≡ x * x * (x * x)
four-of x = pow-add x 2 2 ∙ ap₂ (λ (a b : ℕ). a * b) (two-of x) (two-of x)

fourth : (k : ℕ) (X H : Frac) → times_q (pow_q X (k + 4)) H ≡ times_q (pow_q X k) (times_q (sq (sq X)) H)
fourth k X H = power-split k 4 X (sq (sq X)) H (four-of X.top) (four-of X.bot)

pub square : (k : ℕ) (X H : Frac) → times_q (pow_q X (k + 2)) H ≡ times_q (pow_q X k) (times_q (sq X) H)
square k X H = power-split k 2 X (sq X) H (two-of X.top) (two-of X.bot)

module _ (X : Frac) (XP : 0 < X.bot) where
  poly : ℕ → ℕ → Frac
  poly k n = horner_q (sq (sq X)) (inv k) (every4 (k + 4) n)

  poly-pos : (k n : ℕ) → 0 < (poly k n).bot
  unfolding poly
  poly-pos k n = horner-pos (sq (sq X)) (inv k) (mul-pos (mul-pos XP XP) (mul-pos XP XP)) (inv-pos k) (every4-pos (k + 4) n)

  pow-bot : (k : ℕ) → 0 < (pow_q X k).bot
  pow-bot k = one-le-pow k X.bot XP

  terms-to : (k n : ℕ) → LeQ (terms k (suc n) X) (times_q (pow_q X k) (poly k n))
  unfolding terms poly every4 horner_q
  terms-to k zero = by-eq (plus-zero (term k X) ∙ term_is k X) refl (le_q-refl (times_q (pow_q X k) (inv k)))
  terms-to k (suc n) =
      let H = poly (k + 4) n in
      let a = times_q (pow_q X k) (inv k) in
      let b = times_q (pow_q X k) (times_q (sq (sq X)) H) in
      le_q-trans (plus_q (term k X) (terms (k + 4) (suc n) X)) (plus_q a b) (times_q (pow_q X k) (plus_q (inv k) (times_q (sq (sq X)) H))) (mul-pos (mul-pos (pow-bot k) (inv-pos k)) (mul-pos (pow-bot k) (mul-pos (mul-pos (mul-pos XP XP) (mul-pos XP XP)) (poly-pos (k + 4) n))))
      (plus-mono (term k X) a (terms (k + 4) (suc n) X) b (by-eq (term_is k X) refl (le_q-refl a)) (by-eq refl (sym (fourth k X H)) (terms-to (k + 4) n)))
      (times-in (pow_q X k) (inv k) (times_q (sq (sq X)) H))

  terms-from : (k n : ℕ) → LeQ (times_q (pow_q X k) (poly k n)) (terms k (suc n) X)
  unfolding terms poly every4 horner_q
  terms-from k zero = by-eq refl (plus-zero (term k X) ∙ term_is k X) (le_q-refl (times_q (pow_q X k) (inv k)))
  terms-from k (suc n) =
      let H = poly (k + 4) n in
      let a = times_q (pow_q X k) (inv k) in
      let b = times_q (pow_q X k) (times_q (sq (sq X)) H) in
      le_q-trans (times_q (pow_q X k) (plus_q (inv k) (times_q (sq (sq X)) H))) (plus_q a b) (plus_q (term k X) (terms (k + 4) (suc n) X)) (mul-pos (mul-pos (pow-bot k) (inv-pos k)) (mul-pos (pow-bot k) (mul-pos (mul-pos (mul-pos XP XP) (mul-pos XP XP)) (poly-pos (k + 4) n))))
      (times-out (pow_q X k) (inv k) (times_q (sq (sq X)) H))
      (plus-mono a (term k X) b (terms (k + 4) (suc n) X) (by-eq refl (term_is k X) (le_q-refl a)) (by-eq (sym (fourth k X H)) refl (terms-from (k + 4) n)))

  pub plus_part-pos : (k : ℕ) → 0 < (plus_part k X).bot
  unfolding poly
  plus_part-pos k = poly-pos k 7

  pub minus_part-pos : (k : ℕ) → 0 < (minus_part k X).bot
  unfolding poly
  minus_part-pos k = mul-pos (mul-pos XP XP) (poly-pos (k + 2) 7)

  pub plus_terms-to : (k : ℕ) → LeQ (plus_terms k X) (times_q (pow_q X k) (plus_part k X))
  unfolding poly
  plus_terms-to k = terms-to k 7

  pub plus_terms-from : (k : ℕ) → LeQ (times_q (pow_q X k) (plus_part k X)) (plus_terms k X)
  unfolding poly
  plus_terms-from k = terms-from k 7

  pub minus_terms-to : (k : ℕ) → LeQ (minus_terms k X) (times_q (pow_q X k) (minus_part k X))
  unfolding poly
  minus_terms-to k = by-eq refl (sym (square k X (poly (k + 2) 7))) (terms-to (k + 2) 7)

  pub minus_terms-from : (k : ℕ) → LeQ (times_q (pow_q X k) (minus_part k X)) (minus_terms k X)
  unfolding poly
  minus_terms-from k = by-eq (sym (square k X (poly (k + 2) 7))) refl (terms-from (k + 2) 7)

  pub no_power : (H : Frac) → times_q (pow_q X 0) H ≡ H
  no_power H = ap₂ (λ (t b : ℕ). over t b) (ap (λ (z : ℕ). z * H.top) (pow-zero X.top) ∙ one-mul H.top) (ap (λ (z : ℕ). z * H.bot) (pow-zero X.bot) ∙ one-mul H.bot)

  pub one_power : (H : Frac) → times_q (pow_q X 1) H ≡ times_q X H
  one_power H = ap₂ (λ (t b : ℕ). over t b) (ap (λ (z : ℕ). z * H.top) (one_of X.top)) (ap (λ (z : ℕ). z * H.bot) (one_of X.bot))
    where
      one_of : (x : ℕ) → x ^ 1 ≡ x
      one_of x = pow-suc x 0 ∙ ap (λ (z : ℕ). z * x) (pow-zero x) ∙ one-mul x

pub sq-mono : (X Y : Frac) → LeQ X Y → LeQ (sq X) (sq Y)
sq-mono X Y h = times-mono X Y X Y h h

pub plus_part-mono : (k : ℕ) (X Y : Frac) → LeQ X Y → LeQ (plus_part k X) (plus_part k Y)
plus_part-mono k X Y h = horner-mono (sq (sq X)) (sq (sq Y)) (inv k) (every4 (k + 4) 7) (sq-mono (sq X) (sq Y) (sq-mono X Y h))

pub minus_part-mono : (k : ℕ) (X Y : Frac) → LeQ X Y → LeQ (minus_part k X) (minus_part k Y)
minus_part-mono k X Y h = times-mono (sq X) (sq Y) (horner_q (sq (sq X)) (inv (k + 2)) (every4 (k + 2 + 4) 7)) (horner_q (sq (sq Y)) (inv (k + 2)) (every4 (k + 2 + 4) 7)) (sq-mono X Y h) (horner-mono (sq (sq X)) (sq (sq Y)) (inv (k + 2)) (every4 (k + 2 + 4) 7) (sq-mono (sq X) (sq Y) (sq-mono X Y h)))

-- ---- up to 3.2 two such sums are less than 4 apart, since each grows: what one is at the end of a part of the range against what the other is at its start
pub terms-gap : (i j : ℕ) (X : Frac) → 0 < X.bot → 5 * X.top ≤ 16 * X.bot → LeQ (terms i 8 (over 13 5)) (plus_q (terms j 8 (over 0 1)) (over 15 4)) → LeQ (terms i 8 (over 16 5)) (plus_q (terms j 8 (over 13 5)) (over 15 4))
    → LeQ (terms i 8 X) (plus_q (terms j 8 X) (over 15 4))
terms-gap i j X XP h a b = elim (lt-or-ge (5 * X.top) (13 * X.bot)) [
  | inl l ↦ chain (over 13 5) (over 0 1) (lit< tt) (lit< tt) a (omega arith) (omega arith)
  | inr l ↦ chain (over 16 5) (over 13 5) (lit< tt) (lit< tt) b (omega arith) (omega arith)
]
  where
    chain : (Y Z : Frac) → 0 < Y.bot → 0 < Z.bot → LeQ (terms i 8 Y) (plus_q (terms j 8 Z) (over 15 4)) → LeQ X Y → LeQ Z X → LeQ (terms i 8 X) (plus_q (terms j 8 X) (over 15 4))
    chain Y Z YP ZP t u v =
        le_q-trans (terms i 8 X) (terms i 8 Y) (plus_q (terms j 8 X) (over 15 4)) (terms-pos i 8 Y YP) (terms-mono i 8 X Y u)
        (le_q-trans (terms i 8 Y) (plus_q (terms j 8 Z) (over 15 4)) (plus_q (terms j 8 X) (over 15 4)) (mul-pos (terms-pos j 8 Z ZP) (lit< tt)) t (plus-mono (terms j 8 Z) (terms j 8 X) (over 15 4) (over 15 4) (terms-mono j 8 Z X v) (le_q-refl (over 15 4))))

abbrev pub Level : ℕ → Type 0
Level k = (X : Frac) → 0 < X.bot → 5 * X.top ≤ 16 * X.bot → LeQ (plus_terms k X) (plus_q (minus_terms k X) (over 15 4)) × LeQ (minus_terms k X) (plus_q (plus_terms k X) (over 15 4))

pub cosine-level : Level 0
unfolding terms
cosine-level X XP h = (terms-gap 0 2 X XP h (lit≤ tt) (lit≤ tt), terms-gap 2 0 X XP h (lit≤ tt) (lit≤ tt))

pub sine-level : Level 1
unfolding terms
sine-level X XP h = (terms-gap 1 3 X XP h (lit≤ tt) (lit≤ tt), terms-gap 3 1 X XP h (lit≤ tt) (lit≤ tt))
