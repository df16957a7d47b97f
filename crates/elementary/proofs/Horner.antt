-- A polynomial with positive coefficients at a number that is not negative, by Horner's rule: in floats, and exactly in fractions. Assumes nothing.
use Rattle.std.proofs.Common.{◌≡◌, ℕ, suc, ◌+◌, ◌*◌, ◌^◌, ◌<◌, ◌≤◌, false, T, ◌⊎◌, List, [], ◌∷◌, length, sym, refl, ap, ◌∙◌, subst, subst₂, inl, inr, le_trans, le_of_eq, le_refl, mul-le-mul_right, mul_comm, mul-le-mul, add_comm, mul-le-mul_left, mul-pos, pow-suc, zero-mul, le_of_mul-le-mul_right, mul_left_comm, arith, lit≤, pow_pos, pow_mono, pow-add}
use native.Mathlib.Nat.{pow-le-pow_left, one-le-pow}
use lib.Ieee.{Float, binary64, low, round, add, mul}
use lib.Ieee.Positive.{num, den, den_pos}
use Rattle.elementary.specs.Fraction.{Frac, over, plus_q, times_q, horner_q}
use Rattle.elementary.proofs.Ratio.{Within, Near, within-refl, within-weaken}
use Rattle.exact.specs.Value.{plus}
use Rattle.elementary.proofs.Operations.{Fine, Range, mul-near, add-near, mul_is, add_is, round-within}
use Rattle.elementary.proofs.Errors.{upper, lower, errors}
use Rattle.elementary.specs.Power.{E}
use Rattle.elementary.specs.Kernel.{horner_f}

-- ---- a rounding's factor upper / lower is 2 ^ 53 / (2 ^ 53 - 1)
abbrev pub half : ℕ
half = 4503599627370496

pub fine : Fine binary64 half lower
fine = record { twice = refl; least = lit≤ tt; most = lit≤ tt }

-- ---- ranges of binary64 by powers of two
abbrev pub AtLeast : ℕ → Float → Type 0
AtLeast i x = den x ≤ num x * 2 ^ i

abbrev pub AtMost : ℕ → Float → Type 0
AtMost j x = num x ≤ den x * 2 ^ j

twice-thrice : (a b : ℕ) → a ≤ b → 2 * a ≤ 3 * b
twice-thrice a b h = omega arith

pub range-of : (a c i j : ℕ) → (a ≡ 0) ⊎ (c ≤ a * 2 ^ i) → a ≤ c * 2 ^ j → i ≤ 1000 → j ≤ 1000 → Range binary64 half a c
range-of a c i j l h I K = record { below = low_end l; above = twice-thrice a (c * 2 ^ 1023) (le_trans h (mul-le-mul_left c (pow_mono {i = j} {j = 1023} (le_trans K (lit≤ {m = 1000} {n = 1023} tt))))) }
  where
    low_end : (a ≡ 0) ⊎ (c ≤ a * 2 ^ i) → (a ≡ 0) ⊎ (half * c ≤ a * 2 ^ low binary64)
    low_end (inl z) = inl z
    low_end (inr k) = inr
        (le_trans (mul-le-mul_left (2 ^ 52) (le_trans k (mul-le-mul_left a (pow_mono I))))
        (le_trans (le_of_eq (mul_left_comm (2 ^ 52) a (2 ^ 1000))) (mul-le-mul_left {m = 2 ^ 52 * 2 ^ 1000} {n = 2 ^ 1074} a (lit≤ tt))))

-- ---- a rounded value is at most twice, and at least half of the exact one
pub within-atmost : (h n d a c t : ℕ) → 0 < h → 0 < c → Within (suc h) h n d a c → a ≤ c * t → n ≤ d * (t * 2)
within-atmost h n d a c t H C w k =
    let x : n * c * h ≤ a * d * suc h = w.0 in
    let y : a * (d * suc h) ≤ c * t * (d * suc h) = mul-le-mul_right (d * suc h) k in
    let o : c * t * d * 1 ≤ c * t * d * h = mul-le-mul_left (c * t * d) H in
    let z : n * (c * h) ≤ d * (t * 2) * (c * h) = omega arith in
    le_of_mul-le-mul_right z (mul-pos C H)

pub within-atleast : (h n d a c t : ℕ) → 0 < h → 0 < c → Within (suc h) h n d a c → c ≤ a * t → d ≤ n * (t * 2)
within-atleast h n d a c t H C w k =
    let x : a * d * h * t ≤ n * c * suc h * t = mul-le-mul_right t w.1 in
    let y : c * (d * h) ≤ a * t * (d * h) = mul-le-mul_right (d * h) k in
    let o : n * c * t * 1 ≤ n * c * t * h = mul-le-mul_left (n * c * t) H in
    let z : d * (c * h) ≤ n * (t * 2) * (c * h) = omega arith in
    le_of_mul-le-mul_right z (mul-pos C H)

abbrev pub Close : ℕ → Float → Frac → Type 0
Close k x q = Near (upper ^ k) (lower ^ k) x q.top q.bot

pow-ge : (k : ℕ) → lower ^ k ≤ upper ^ k
pow-ge k = pow-le-pow_left (lit≤ tt) k

low-pos : (k : ℕ) → 0 < lower ^ k
low-pos k = one-le-pow k lower (lit≤ tt)

more : (p q r s : ℕ) → s ≤ r → p * (q * s) ≤ p * r * q
more p q r s h = omega (arith, mul-le-mul_left (p * q) h)

pub self-close : (x : Float) → T (plus x) → Close 0 x (over (num x) (den x))
self-close x p = record { sign = p; within = within-refl 1 1 (num x) (den x) (le_refl 1) }

pub close_up : (k m : ℕ) (x : Float) (q : Frac) → Close k x q → Close (k + m) x q
close_up k m x q h = record {
  sign = h.sign;
  within = within-weaken (upper ^ k) (lower ^ k) (upper ^ (k + m)) (lower ^ (k + m)) (num x) (den x) q.top q.bot (low-pos k)
      (subst₂ (λ (a b : ℕ). upper ^ k * a ≤ b * lower ^ k) (sym (pow-add lower k m)) (sym (pow-add upper k m)) (more (upper ^ k) (lower ^ k) (upper ^ m) (lower ^ m) (pow-ge m)))
      h.within;
}

one_more : (n k j : ℕ) → n * (n ^ k * n ^ j) ≡ n ^ suc (k + j)
one_more n k j = mul_comm n (n ^ k * n ^ j) ∙ ap (λ (z : ℕ). z * n) (sym (pow-add n k j)) ∙ sym (pow-suc n (k + j))

pub mul-close : (k j : ℕ) (x y : Float) (p q : Frac) → 0 < p.bot → 0 < q.bot → Close k x p → Close j y q
    → Range binary64 half (num x * num y) (den x * den y) → Close (suc (k + j)) (mul binary64 x y) (times_q p q)
mul-close k j x y p q P Q h i r =
    subst₂ (λ (a b : ℕ). Near a b (mul binary64 x y) (p.top * q.top) (p.bot * q.bot)) (one_more upper k j) (one_more lower k j)
    (mul-near binary64 half lower (upper ^ k) (lower ^ k) (upper ^ j) (lower ^ j) x y p.top p.bot q.top q.bot fine h i r)

pub add-close : (k : ℕ) (x y : Float) (p q : Frac) → 0 < p.bot → 0 < q.bot → Close k x p → Close k y q
    → Range binary64 half (num x * den y + num y * den x) (den x * den y) → Close (suc k) (add binary64 x y) (plus_q p q)
add-close k x y p q P Q h i r =
    subst₂ (λ (a b : ℕ). Near a b (add binary64 x y) (p.top * q.bot + q.top * p.bot) (p.bot * q.bot)) (mul_comm upper (upper ^ k) ∙ sym (pow-suc upper k)) (mul_comm lower (lower ^ k) ∙ sym (pow-suc lower k))
    (add-near binary64 half lower (upper ^ k) (lower ^ k) x y p.top p.bot q.top q.bot fine h i r)

-- ---- bounds of a product and of a sum
pub mul_most : (t : ℕ) (x y : Float) → T (plus x) → T (plus y) → Range binary64 half (num x * num y) (den x * den y) → num x * num y ≤ den x * den y * 2 ^ t → AtMost (t + 1) (mul binary64 x y)
mul_most t x y p q r h =
    let z = round binary64 false (num x * num y) (den x * den y) in
    let D' : 0 < den x * den y = mul-pos (den_pos x) (den_pos y) in
    subst (λ (w : Float). AtMost (t + 1) w) (sym (mul_is binary64 x y p q))
    (subst (λ (w : ℕ). num z ≤ den z * w) (sym (pow-add 2 t 1)) (within-atmost lower (num z) (den z) (num x * num y) (den x * den y) (2 ^ t) (lit≤ tt) D' (round-within binary64 half lower (num x * num y) (den x * den y) fine D' r).1 h))

pub add_most : (t : ℕ) (x y : Float) → T (plus x) → T (plus y) → Range binary64 half (num x * den y + num y * den x) (den x * den y) → num x * den y + num y * den x ≤ den x * den y * 2 ^ t → AtMost (t + 1) (add binary64 x y)
add_most t x y p q r h =
    let a = num x * den y + num y * den x in
    let z = round binary64 false a (den x * den y) in
    let D' : 0 < den x * den y = mul-pos (den_pos x) (den_pos y) in
    subst (λ (w : Float). AtMost (t + 1) w) (sym (add_is binary64 x y p q))
    (subst (λ (w : ℕ). num z ≤ den z * w) (sym (pow-add 2 t 1)) (within-atmost lower (num z) (den z) a (den x * den y) (2 ^ t) (lit≤ tt) D' (round-within binary64 half lower a (den x * den y) fine D' r).1 h))

pub add-least : (t : ℕ) (x y : Float) → T (plus x) → T (plus y) → Range binary64 half (num x * den y + num y * den x) (den x * den y) → den x * den y ≤ (num x * den y + num y * den x) * 2 ^ t → AtLeast (t + 1) (add binary64 x y)
add-least t x y p q r h =
    let a = num x * den y + num y * den x in
    let z = round binary64 false a (den x * den y) in
    let D' : 0 < den x * den y = mul-pos (den_pos x) (den_pos y) in
    subst (λ (w : Float). AtLeast (t + 1) w) (sym (add_is binary64 x y p q))
    (subst (λ (w : ℕ). den z ≤ num z * w) (sym (pow-add 2 t 1)) (within-atleast lower (num z) (den z) a (den x * den y) (2 ^ t) (lit≤ tt) D' (round-within binary64 half lower a (den x * den y) fine D' r).1 h))

-- ---- the polynomial
-- each float coefficient is within one rounding of the exact one, and from 2 ^ -110 to 2
pub record Coef (c : Float) (q : Frac) : Type 0 where
  pub close : Close 1 c q
  pub bot-pos : 0 < q.bot
  pub least : AtLeast 110 c
  pub most : AtMost 1 c

pub data Coefs : List Float → List Frac → Type 0 where
  none : Coefs [] []
  also : {c : Float} {q : Frac} {cs : List Float} {qs : List Frac} → Coef c q → Coefs cs qs → Coefs (c ∷ cs) (q ∷ qs)

-- the argument: 0 or from 2 ^ -300, and at most 2 ^ 7
pub record Arg (j : ℕ) (x : Float) (X : Frac) : Type 0 where
  pub close : Close j x X
  pub bot-pos : 0 < X.bot
  pub least : (num x ≡ 0) ⊎ AtLeast 300 x
  pub most : AtMost 7 x

-- what holds of the value of a polynomial of n further coefficients
pub record Val (k n : ℕ) (p : Float) (P : Frac) : Type 0 where
  pub close : Close k p P
  pub bot-pos : 0 < P.bot
  pub least : AtLeast 111 p
  pub most : AtMost (1 + n * 10) p

zero-prod : (a b : ℕ) → a ≡ 0 → a * b ≡ 0
zero-prod a b e = ap (λ (z : ℕ). z * b) e ∙ zero-mul b

pub prod-least : (a b c d s t : ℕ) → b ≤ a * s → d ≤ c * t → b * d ≤ a * c * (s * t)
prod-least a b c d s t h k = omega (arith, mul-le-mul h k)

pub prod-most : (a b c d s t : ℕ) → a ≤ b * s → c ≤ d * t → a * c ≤ b * d * (s * t)
prod-most a b c d s t h k = omega (arith, mul-le-mul h k)

sum-least : (a b c d s : ℕ) → b ≤ a * s → b * d ≤ (a * d + c * b) * s
sum-least a b c d s h = omega (arith, mul-le-mul_right d h)

sum-most : (a b c d s t : ℕ) → a ≤ b * s → c ≤ d * t → a * d + c * b ≤ b * d * (s + t)
sum-most a b c d s t h k = omega (arith, mul-le-mul_right d h, mul-le-mul_right b k)

four-parts : (t : ℕ) → 2 ^ 1 + 2 ^ (7 + t + 1) ≤ 2 ^ (7 + t + 2)
four-parts t =
    let a : 2 ^ (7 + t + 1) ≡ 2 ^ t * 256 = pow-add 2 (7 + t) 1 ∙ ap (λ (z : ℕ). z * 2) (pow-add 2 7 t) ∙ omega arith in
    let b : 2 ^ (7 + t + 2) ≡ 2 ^ t * 512 = pow-add 2 (7 + t) 2 ∙ ap (λ (z : ℕ). z * 4) (pow-add 2 7 t) ∙ omega arith in
    let c : 1 ≤ 2 ^ t = pow_pos t in
    subst₂ (λ (x y : ℕ). 2 + x ≤ y) (sym a) (sym b) (omega arith)

regroup : (n : ℕ) → 7 + (1 + n * 10) + 2 + 1 ≡ 1 + suc n * 10
regroup n = omega arith

module _ (j n k : ℕ) (x : Float) (X : Frac) (p : Float) (P : Frac) (N : n ≤ 90) (A : Arg j x X) (B : Val k n p P) where
  product-below : (num x * num p ≡ 0) ⊎ (den x * den p ≤ num x * num p * 2 ^ 411)
  product-below = elim A.least [
    | inl z ↦ inl (zero-prod (num x) (num p) z)
    | inr h ↦ inr (prod-least (num x) (den x) (num p) (den p) (2 ^ 300) (2 ^ 111) h B.least)
  ]

  product-above : num x * num p ≤ den x * den p * 2 ^ (7 + (1 + n * 10))
  product-above = le_trans (prod-most (num x) (den x) (num p) (den p) (2 ^ 7) (2 ^ (1 + n * 10)) A.most B.most) (le_of_eq (ap (λ (z : ℕ). den x * den p * z) (sym (pow-add 2 7 (1 + n * 10)))))

  product-range : Range binary64 half (num x * num p) (den x * den p)
  product-range = range-of (num x * num p) (den x * den p) 411 (7 + (1 + n * 10)) product-below product-above (lit≤ tt) (omega arith)

  product : Close (suc (j + k)) (mul binary64 x p) (times_q X P)
  product = mul-close j k x p X P A.bot-pos B.bot-pos A.close B.close product-range

  product-most : AtMost (7 + (1 + n * 10) + 1) (mul binary64 x p)
  product-most = mul_most (7 + (1 + n * 10)) x p A.close.sign B.close.sign product-range product-above

  module _ (c : Float) (q : Frac) (C : Coef c q) where
    abbrev m : Float
    m = mul binary64 x p

    sum-above : num c * den m + num m * den c ≤ den c * den m * 2 ^ (7 + (1 + n * 10) + 2)
    sum-above =
        le_trans (sum-most (num c) (den c) (num m) (den m) (2 ^ 1) (2 ^ (7 + (1 + n * 10) + 1)) C.most product-most)
        (mul-le-mul_left (den c * den m) (four-parts (1 + n * 10)))

    sum-range : Range binary64 half (num c * den m + num m * den c) (den c * den m)
    sum-range = range-of (num c * den m + num m * den c) (den c * den m) 110 (7 + (1 + n * 10) + 2) (inr (sum-least (num c) (den c) (num m) (den m) (2 ^ 110) C.least)) sum-above (lit≤ tt) (omega arith)

    step : Val (suc (1 + suc (j + k))) (suc n) (add binary64 c m) (plus_q q (times_q X P))
    step = record {
      close = add-close (1 + suc (j + k)) c m q (times_q X P) C.bot-pos (mul-pos A.bot-pos B.bot-pos) (close_up 1 (suc (j + k)) c q C.close) (subst (λ (z : ℕ). Close z m (times_q X P)) (add_comm (suc (j + k)) 1) (close_up (suc (j + k)) 1 m (times_q X P) product)) sum-range;
      bot-pos = mul-pos C.bot-pos (mul-pos A.bot-pos B.bot-pos);
      least = add-least 110 c m C.close.sign product.sign sum-range (sum-least (num c) (den c) (num m) (den m) (2 ^ 110) C.least);
      most = subst (λ (z : ℕ). AtMost z (add binary64 c m)) (regroup n) (add_most (7 + (1 + n * 10) + 2) c m C.close.sign product.sign sum-range sum-above);
    }

pub horner-near : (j : ℕ) (x : Float) (X : Frac) → Arg j x X → {c : Float} {q : Frac} {cs : List Float} {qs : List Frac} → Coef c q → Coefs cs qs → length cs ≤ 90
    → Val (errors j (length cs)) (length cs) (horner_f x c cs) (horner_q X q qs)
unfolding horner_f horner_q
horner-near j x X A {c} {q} C none N = record { close = C.close; bot-pos = C.bot-pos; least = wider C.least; most = C.most }
  where
    wider : AtLeast 110 c → AtLeast 111 c
    wider h = le_trans h (mul-le-mul_left (num c) (pow_mono {i = 110} {j = 111} (lit≤ tt)))
horner-near j x X A {c} {q} C (also {c = d} {q = e} {cs = cs} {qs = qs} D E) N =
    let N' : length cs ≤ 90 = omega arith in
    step j (length cs) (errors j (length cs)) x X (horner_f x d cs) (horner_q X e qs) N' A (horner-near j x X A D E N') c q C
