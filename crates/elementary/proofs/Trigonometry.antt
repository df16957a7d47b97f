-- The two polynomials of a sine or a cosine in doubles, at an x from 2 ^ -12 to 3.2: their difference is near that of the two sums of the series. Assumes nothing.
use Rattle.std.proofs.Common.{◌≡◌, ℕ, zero, suc, ◌+◌, ◌*◌, ◌^◌, ◌<◌, ◌≤◌, false, T, List, [], ◌∷◌, ◌++◌, length, sym, refl, ap, subst, inr, le_trans, le_of_eq, mul-le-mul_right, mul_comm, mul-le-mul, mul-le-mul_left, mul-pos, le_of_mul-le-mul_right, arith, lit<, lit≤, pow_mono, pow-add}
use native.Mathlib.Nat.{one-le-pow}
use lib.Ieee.{Float, binary64, mul, sub, round}
use lib.Ieee.Positive.{num, den, den_pos}
use Rattle.exact.specs.Value.{plus}
use Rattle.elementary.specs.Fraction.{Frac, plus_q, times_q, horner_q, LeQ, over}
use Rattle.elementary.proofs.Errors.{errors, upper, lower}
use Rattle.elementary.specs.Kernel.{horner_f}
use Rattle.elementary.specs.Trigonometric.{second, fourth}
use Rattle.elementary.proofs.Ratio.{Within, within-weaken}
use Rattle.elementary.proofs.Operations.{Range, mul_is, round-within}
use Rattle.elementary.proofs.Horner.{Close, Arg, Val, Coef, Coefs, horner-near, half, fine, AtLeast, AtMost, range-of, prod-least, prod-most, self-close, close_up, mul-close, mul_most, within-atleast}
use Rattle.elementary.proofs.Truncation.{le_q-trans, le_q-refl, horner-mono, horner-pos, plus-mono, times-mono, cut_below}
use Rattle.elementary.proofs.Difference.{rel-abs}
use Rattle.elementary.proofs.Signed.{Differs, size_of, times-out, sub-differs, differs-from, differs-weaken}
use Rattle.elementary.proofs.Terms.{inv, every4, sq, plus_part, minus_part, inv-pos, every4-pos, plus_part-pos, minus_part-pos}

-- ---- a cut series at an argument up to M
carry_m : (X q f g t : Frac) (M : ℕ) → X.top ≤ M * X.bot → LeQ f (plus_q g t) → LeQ (plus_q q (times_q X f)) (plus_q (plus_q q (times_q X g)) (over (M * t.top) t.bot))
carry_m X q f g t M x h =
    scaled (q.top * (X.bot * f.bot) + X.top * f.top * q.bot) ((q.top * (X.bot * g.bot) + X.top * g.top * q.bot) * t.bot + M * t.top * (q.bot * (X.bot * g.bot))) q.bot X.bot g.bot t.bot f.bot
    (outer q.top q.bot X.top X.bot f.top f.bot g.top g.bot t.top t.bot M (inner X.top X.bot f.top f.bot g.top g.bot t.top t.bot M x h))
  where
    inner : (m n f F g G t T' M : ℕ) → m ≤ M * n → f * (G * T') ≤ (g * T' + t * G) * F → m * f * (G * T') ≤ m * g * T' * F + M * t * n * G * F
    inner m n f F g G t T' M x h = omega (arith, mul-le-mul_left m h, mul-le-mul_right (t * G * F) x)

    outer : (a b m n f F g G t T' M : ℕ) → m * f * (G * T') ≤ m * g * T' * F + M * t * n * G * F → (a * (n * F) + m * f * b) * (G * T') ≤ ((a * (n * G) + m * g * b) * T' + M * t * (b * (n * G))) * F
    outer a b m n f F g G t T' M h = omega (arith, mul-le-mul_left b h)

    scaled : (P R b n G T' F : ℕ) → P * (G * T') ≤ R * F → P * (b * (n * G) * T') ≤ R * (b * (n * F))
    scaled P R b n G T' F h = omega (arith, mul-le-mul_right (b * n) h)

-- t, times M for each coefficient that is kept
abbrev pub grown : ℕ → ℕ → Frac → Frac
grown M zero t = over (M * t.top) t.bot
grown M (suc n) t = over (M * (grown M n t).top) (grown M n t).bot

pub grown-pos : (M n : ℕ) (t : Frac) → 0 < t.bot → 0 < (grown M n t).bot
grown-pos M zero t h = h
grown-pos M (suc n) t h = grown-pos M n t h

pub cut-grown : (X t q : Frac) (qs : List Frac) (r : Frac) (rs : List Frac) (M : ℕ) → X.top ≤ M * X.bot → LeQ (horner_q X r rs) t → LeQ (horner_q X q (qs ++ (r ∷ rs))) (plus_q (horner_q X q qs) (grown M (length qs) t))
unfolding horner_q
cut-grown X t q [] r rs M x h = plus-mono q q (times_q X (horner_q X r rs)) (over (M * t.top) t.bot) (le_q-refl q) (scaled X t (horner_q X r rs) M x h)
  where
    scaled : (X t f : Frac) (M : ℕ) → X.top ≤ M * X.bot → LeQ f t → LeQ (times_q X f) (over (M * t.top) t.bot)
    scaled X t f M x h = omega (arith, mul-le-mul x h)
cut-grown X t q (p ∷ qs) r rs M x h = carry_m X q (horner_q X p (qs ++ (r ∷ rs))) (horner_q X p qs) (grown M (length qs) t) M x (cut-grown X t p qs r rs M x h)

-- ---- x from 2 ^ -12 to 3.2
pub record Argument (x : Float) : Type 0 where
  pub sign : T (plus x)
  pub least : den x ≤ num x * 2 ^ 12
  pub most : 5 * num x ≤ 16 * den x

mul-least : (t : ℕ) (x y : Float) → T (plus x) → T (plus y) → Range binary64 half (num x * num y) (den x * den y) → den x * den y ≤ num x * num y * 2 ^ t → AtLeast (t + 1) (mul binary64 x y)
mul-least t x y p q r h =
    let z = round binary64 false (num x * num y) (den x * den y) in
    let D' : 0 < den x * den y = mul-pos (den_pos x) (den_pos y) in
    subst (λ (w : Float). AtLeast (t + 1) w) (sym (mul_is binary64 x y p q))
    (subst (λ (w : ℕ). den z ≤ num z * w) (sym (pow-add 2 t 1)) (within-atleast lower (num z) (den z) (num x * num y) (den x * den y) (2 ^ t) (lit≤ tt) D' (round-within binary64 half lower (num x * num y) (den x * den y) fine D' r).1 h))

-- x ^ 4 exactly
abbrev pub W : Float → Frac
W x = sq (sq (size_of x))

module _ (x : Float) (S : Argument x) where
  x-most : num x ≤ den x * 2 ^ 2
  x-most = four (num x) (den x) S.most
    where
      four : (n d : ℕ) → 5 * n ≤ 16 * d → n ≤ d * 4
      four n d h = omega arith

  z-low : den x * den x ≤ num x * num x * 2 ^ 24
  z-low = prod-least (num x) (den x) (num x) (den x) (2 ^ 12) (2 ^ 12) S.least S.least

  z-high : num x * num x ≤ den x * den x * 2 ^ 4
  z-high = prod-most (num x) (den x) (num x) (den x) (2 ^ 2) (2 ^ 2) x-most x-most

  z-range : Range binary64 half (num x * num x) (den x * den x)
  z-range = range-of (num x * num x) (den x * den x) 24 4 (inr z-low) z-high (lit≤ tt) (lit≤ tt)

  z-close : Close 1 (second x) (sq (size_of x))
  z-close = mul-close 0 0 x x (size_of x) (size_of x) (den_pos x) (den_pos x) (self-close x S.sign) (self-close x S.sign) z-range

  z-least : AtLeast 25 (second x)
  z-least = mul-least 24 x x S.sign S.sign z-range z-low

  z-most : AtMost 5 (second x)
  z-most = mul_most 4 x x S.sign S.sign z-range z-high

  w-low : den (second x) * den (second x) ≤ num (second x) * num (second x) * 2 ^ 50
  w-low = prod-least (num (second x)) (den (second x)) (num (second x)) (den (second x)) (2 ^ 25) (2 ^ 25) z-least z-least

  w-high : num (second x) * num (second x) ≤ den (second x) * den (second x) * 2 ^ 10
  w-high = prod-most (num (second x)) (den (second x)) (num (second x)) (den (second x)) (2 ^ 5) (2 ^ 5) z-most z-most

  w-range : Range binary64 half (num (second x) * num (second x)) (den (second x) * den (second x))
  w-range = range-of (num (second x) * num (second x)) (den (second x) * den (second x)) 50 10 (inr w-low) w-high (lit≤ tt) (lit≤ tt)

  w-close : Close 3 (fourth x) (sq (sq (size_of x)))
  w-close = mul-close 1 1 (second x) (second x) (sq (size_of x)) (sq (size_of x)) (mul-pos (den_pos x) (den_pos x)) (mul-pos (den_pos x) (den_pos x)) z-close z-close w-range

  W-bound : num x * num x * (num x * num x) * 625 ≤ 65536 * (den x * den x * (den x * den x))
  W-bound = power (num x) (den x) S.most
    where
      square : (n d a b : ℕ) → a * n ≤ b * d → a * a * (n * n) ≤ b * b * (d * d)
      square n d a b h = omega (arith, mul-le-mul h h)

      power : (n d : ℕ) → 5 * n ≤ 16 * d → n * n * (n * n) * 625 ≤ 65536 * (d * d * (d * d))
      power n d h = le_trans (le_of_eq (mul_comm (n * n * (n * n)) 625)) (square (n * n) (d * d) 25 256 (square n d 5 16 h))

  pub w-arg : Arg 3 (fourth x) (sq (sq (size_of x)))
  w-arg = record {
    close = w-close;
    bot-pos = mul-pos (mul-pos (den_pos x) (den_pos x)) (mul-pos (den_pos x) (den_pos x));
    least = inr (le_trans (mul-least 50 (second x) (second x) z-close.sign z-close.sign w-range w-low) (mul-le-mul_left (num (fourth x)) (pow_mono {i = 51} {j = 300} (lit≤ tt))));
    most = bound (num (fourth x)) (den (fourth x)) (num x * num x * (num x * num x)) (den x * den x * (den x * den x)) (upper ^ 3) (lower ^ 3) (mul-pos (mul-pos (den_pos x) (den_pos x)) (mul-pos (den_pos x) (den_pos x))) (lit< tt) (lit≤ tt) w-close.within.0 W-bound;
  }
    where
      bound : (n d A C u v : ℕ) → 0 < C → 0 < v → 65536 * u ≤ 80000 * v → n * C * v ≤ A * d * u → A * 625 ≤ 65536 * C → n ≤ d * 128
      bound n d A C u v CC P g h k =
          let a : n * C * v * 625 ≤ A * d * u * 625 = mul-le-mul_right 625 h in
          let b : A * 625 * (d * u) ≤ 65536 * C * (d * u) = mul-le-mul_right (d * u) k in
          let e : C * d * (65536 * u) ≤ C * d * (80000 * v) = mul-le-mul_left (C * d) g in
          let f : n * (625 * (C * v)) ≤ d * 128 * (625 * (C * v)) = omega arith in
          le_of_mul-le-mul_right f (mul-pos {m = 625} (lit< tt) (mul-pos CC P))

-- ---- what is computed of a polynomial in doubles: the first coefficients 1 / j!, 1 / (j + 4)! .. in floats, and bounds at the end of the range, 3.2 ^ 4 = 65536 / 625
pub record Poly (j : ℕ) (c : Float) (cs : List Float) (qs : List Frac) (r : Frac) (rs : List Frac) : Type 0 where
  pub first : Coef c (inv j)
  pub others : Coefs cs qs
  pub few : length cs ≤ 90
  pub whole : every4 (j + 4) 7 ≡ qs ++ (r ∷ rs)
  pub rounding : upper ^ (errors 3 (length cs) + 2) * 281474976710656 ≤ 281474976710657 * lower ^ (errors 3 (length cs) + 2)
  pub end-pos : 0 < (horner_q (over 65536 625) r rs).bot

-- within one part in 2 ^ 48 of a number up to 8
both_ways : (n d A B : ℕ) → 0 < d → 0 < B → Within 281474976710657 281474976710656 n d A B → A ≤ 8 * B
    → LeQ (over n d) (plus_q (over A B) (over 16 281474976710656)) × LeQ (over A B) (plus_q (over n d) (over 16 281474976710656)) × (n < d * 2 ^ 5)
both_ways n d A B D C h k = (rel-abs n d A B 281474976710656 1 16 h.0 (omega arith), rel-abs A B n d 281474976710656 1 16 h.1 n-most, omega (arith, n-most))
  where
    sixteen : (n d A B : ℕ) → 0 < B → n * B * 281474976710656 ≤ A * d * 281474976710657 → A ≤ 8 * B → n ≤ 16 * d
    sixteen n d A B C h k = le_of_mul-le-mul_right {k = B} (omega (arith, mul-le-mul_right d k)) C

    n-most : n ≤ 16 * d
    n-most = sixteen n d A B C h.0 k

near-48 : (k : ℕ) (x : Float) (q : Frac) → 0 < lower ^ k → upper ^ k * 281474976710656 ≤ 281474976710657 * lower ^ k → Close k x q → Within 281474976710657 281474976710656 (num x) (den x) q.top q.bot
near-48 k x q P h a = within-weaken (upper ^ k) (lower ^ k) 281474976710657 281474976710656 (num x) (den x) q.top q.bot P h a.within

low-pos : (k : ℕ) → 0 < lower ^ k
low-pos k = one-le-pow k lower (lit≤ tt)

up-two : (e : ℕ) → suc (1 + e) ≡ e + 2
up-two e = omega arith

to-eight : (p : Frac) → LeQ p (over 8 1) → p.top ≤ 8 * p.bot
to-eight p h = omega arith

module _ (x : Float) (S : Argument x) where
  W-most : LeQ (W x) (over 65536 625)
  W-most = W-bound x S

  W-pos : 0 < (W x).bot
  W-pos = (w-arg x S).bot-pos

  square-most : LeQ (sq (size_of x)) (over 256 25)
  square-most = times-mono (size_of x) (over 16 5) (size_of x) (over 16 5) (turn (num x) (den x) S.most) (turn (num x) (den x) S.most)
    where
      turn : (n d : ℕ) → 5 * n ≤ 16 * d → n * 5 ≤ 16 * d
      turn n d h = omega arith

  -- one polynomial, cut and whole
  module _ (j : ℕ) (c : Float) (cs : List Float) (qs : List Frac) (r : Frac) (rs : List Frac) (F : Poly j c cs qs r rs) where
    -- at most, of the terms that are cut off, before the powers of x in front of them
    abbrev rest : Frac
    rest = horner_q (over 65536 625) r rs

    abbrev cut : Frac
    cut = horner_q (W x) (inv j) qs

    abbrev full : Frac
    full = horner_q (W x) (inv j) (every4 (j + 4) 7)

    full-pos : 0 < full.bot
    full-pos = horner-pos (W x) (inv j) W-pos (inv-pos j) (every4-pos (j + 4) 7)

    near : Val (errors 3 (length cs)) (length cs) (horner_f (fourth x) c cs) cut
    near = horner-near 3 (fourth x) (W x) (w-arg x S) F.first F.others F.few

    cut_most : LeQ cut full
    cut_most = subst (λ (l : List Frac). LeQ cut (horner_q (W x) (inv j) l)) (sym F.whole) (cut_below (W x) (inv j) qs r rs)

    cut-least : LeQ full (plus_q cut (grown 105 (length qs) rest))
    cut-least = subst (λ (l : List Frac). LeQ (horner_q (W x) (inv j) l) (plus_q cut (grown 105 (length qs) rest))) (sym F.whole)
        (cut-grown (W x) rest (inv j) qs r rs 105 (omega (arith, W-bound x S)) (horner-mono (W x) (over 65536 625) r rs W-most))

    -- the polynomial itself
    plain : Within 281474976710657 281474976710656 (num (horner_f (fourth x) c cs)) (den (horner_f (fourth x) c cs)) cut.top cut.bot
    plain = near-48 (errors 3 (length cs) + 2) (horner_f (fourth x) c cs) cut (low-pos (errors 3 (length cs) + 2)) F.rounding (close_up (errors 3 (length cs)) 2 (horner_f (fourth x) c cs) cut near.close)

    -- and times x ^ 2
    product-above : num (second x) * num (horner_f (fourth x) c cs) ≤ den (second x) * den (horner_f (fourth x) c cs) * 2 ^ (5 + (1 + length cs * 10))
    product-above =
        le_trans (prod-most (num (second x)) (den (second x)) (num (horner_f (fourth x) c cs)) (den (horner_f (fourth x) c cs)) (2 ^ 5) (2 ^ (1 + length cs * 10)) (z-most x S) near.most)
        (le_of_eq (ap (λ (y : ℕ). den (second x) * den (horner_f (fourth x) c cs) * y) (sym (pow-add 2 5 (1 + length cs * 10)))))

    product-range : Range binary64 half (num (second x) * num (horner_f (fourth x) c cs)) (den (second x) * den (horner_f (fourth x) c cs))
    product-range = range-of (num (second x) * num (horner_f (fourth x) c cs)) (den (second x) * den (horner_f (fourth x) c cs)) 136 (5 + (1 + length cs * 10))
        (inr (prod-least (num (second x)) (den (second x)) (num (horner_f (fourth x) c cs)) (den (horner_f (fourth x) c cs)) (2 ^ 25) (2 ^ 111) (z-least x S) near.least))
        product-above (lit≤ tt) (omega (arith, F.few))

    squared : Close (suc (1 + errors 3 (length cs))) (mul binary64 (second x) (horner_f (fourth x) c cs)) (times_q (sq (size_of x)) cut)
    squared = mul-close 1 (errors 3 (length cs)) (second x) (horner_f (fourth x) c cs) (sq (size_of x)) cut (mul-pos (den_pos x) (den_pos x)) near.bot-pos (z-close x S) near.close product-range

    times-square : Within 281474976710657 281474976710656 (num (mul binary64 (second x) (horner_f (fourth x) c cs))) (den (mul binary64 (second x) (horner_f (fourth x) c cs))) (times_q (sq (size_of x)) cut).top (times_q (sq (size_of x)) cut).bot
    times-square =
        near-48 (errors 3 (length cs) + 2) (mul binary64 (second x) (horner_f (fourth x) c cs)) (times_q (sq (size_of x)) cut) (low-pos (errors 3 (length cs) + 2)) F.rounding
        (subst (λ (e : ℕ). Close e (mul binary64 (second x) (horner_f (fourth x) c cs)) (times_q (sq (size_of x)) cut)) (up-two (errors 3 (length cs))) squared)

-- ---- the two polynomials of a series that starts with the k-th power, and the difference that the program computes
pub record Pair (k : ℕ) (c : Float) (cs : List Float) (d : Float) (ds : List Float) : Type 0 where
  pub qs : List Frac
  pub r : Frac
  pub rs : List Frac
  pub plus_poly : Poly k c cs qs r rs
  pub us : List Frac
  pub v : Frac
  pub vs : List Frac
  pub minus_poly : Poly (k + 2) d ds us v vs
  pub plus-most : LeQ (plus_part k (over 16 5)) (over 8 1)
  pub minus-most : LeQ (minus_part k (over 16 5)) (over 8 1)
  pub plus-cut : LeQ (grown 105 (length qs) (horner_q (over 65536 625) r rs)) (over 3 268435456)
  pub minus-cut : LeQ (times_q (over 256 25) (grown 105 (length us) (horner_q (over 65536 625) v vs))) (over 3 268435456)

module _ (k : ℕ) (c : Float) (cs : List Float) (d : Float) (ds : List Float) (K : Pair k c cs d ds) (x : Float) (S : Argument x) where
  abbrev p_f : Float
  p_f = horner_f (fourth x) c cs

  abbrev n_f : Float
  n_f = mul binary64 (second x) (horner_f (fourth x) d ds)

  abbrev p_c : Frac
  p_c = horner_q (W x) (inv k) K.qs

  abbrev n_q : Frac
  n_q = horner_q (W x) (inv (k + 2)) K.us

  abbrev n_c : Frac
  n_c = times_q (sq (size_of x)) n_q

  abbrev n_w : Frac
  n_w = horner_q (W x) (inv (k + 2)) (every4 (k + 2 + 4) 7)

  square-pos : 0 < (sq (size_of x)).bot
  square-pos = mul-pos (den_pos x) (den_pos x)

  p_c-pos : 0 < p_c.bot
  p_c-pos = (near x S k c cs K.qs K.r K.rs K.plus_poly).bot-pos

  n_q-pos : 0 < n_q.bot
  n_q-pos = (near x S (k + 2) d ds K.us K.v K.vs K.minus_poly).bot-pos

  n_c-pos : 0 < n_c.bot
  n_c-pos = mul-pos square-pos n_q-pos

  -- both are at most 8
  pub p-eight : LeQ (plus_part k (size_of x)) (over 8 1)
  p-eight = le_q-trans (plus_part k (size_of x)) (plus_part k (over 16 5)) (over 8 1) (plus_part-pos (over 16 5) (lit< tt) k) (horner-mono (W x) (over 65536 625) (inv k) (every4 (k + 4) 7) (W-most x S)) K.plus-most

  pub n-eight : LeQ (minus_part k (size_of x)) (over 8 1)
  n-eight =
      le_q-trans (minus_part k (size_of x)) (minus_part k (over 16 5)) (over 8 1) (minus_part-pos (over 16 5) (lit< tt) k)
      (times-mono (sq (size_of x)) (over 256 25) n_w (horner_q (over 65536 625) (inv (k + 2)) (every4 (k + 2 + 4) 7)) (square-most x S) (horner-mono (W x) (over 65536 625) (inv (k + 2)) (every4 (k + 2 + 4) 7) (W-most x S)))
      K.minus-most

  p_c-most : LeQ p_c (plus_part k (size_of x))
  p_c-most = cut_most x S k c cs K.qs K.r K.rs K.plus_poly

  n_c-most : LeQ n_c (minus_part k (size_of x))
  n_c-most = times-mono (sq (size_of x)) (sq (size_of x)) n_q n_w (le_q-refl (sq (size_of x))) (cut_most x S (k + 2) d ds K.us K.v K.vs K.minus_poly)

  p-ways : LeQ (size_of p_f) (plus_q p_c (over 16 281474976710656)) × LeQ p_c (plus_q (size_of p_f) (over 16 281474976710656)) × (num p_f < den p_f * 2 ^ 5)
  p-ways = both_ways (num p_f) (den p_f) p_c.top p_c.bot (den_pos p_f) p_c-pos (plain x S k c cs K.qs K.r K.rs K.plus_poly) (to-eight p_c (le_q-trans p_c (plus_part k (size_of x)) (over 8 1) (plus_part-pos (size_of x) (den_pos x) k) p_c-most p-eight))

  n-ways : LeQ (size_of n_f) (plus_q n_c (over 16 281474976710656)) × LeQ n_c (plus_q (size_of n_f) (over 16 281474976710656)) × (num n_f < den n_f * 2 ^ 5)
  n-ways = both_ways (num n_f) (den n_f) n_c.top n_c.bot (den_pos n_f) n_c-pos (times-square x S (k + 2) d ds K.us K.v K.vs K.minus_poly) (to-eight n_c (le_q-trans n_c (minus_part k (size_of x)) (over 8 1) (minus_part-pos (size_of x) (den_pos x) k) n_c-most n-eight))

  -- in floats, against the polynomials that are cut
  abbrev rounded : Frac
  rounded = plus_q (plus_q (plus_q (over 0 1) (over 1 562949953421312)) (over 16 281474976710656)) (over 16 281474976710656)

  short : Differs p_c n_c rounded (sub binary64 p_f n_f)
  short =
      differs-from (size_of p_f) (size_of n_f) (plus_q (over 0 1) (over 1 562949953421312)) (den_pos p_f) (den_pos n_f) (lit< tt) p_c n_c (over 16 281474976710656) (sub binary64 p_f n_f) p_c-pos n_c-pos (lit< tt) p-ways.1 p-ways.0 n-ways.1 n-ways.0
      (sub-differs p_f n_f 5 49 (near x S k c cs K.qs K.r K.rs K.plus_poly).close.sign (squared x S (k + 2) d ds K.us K.v K.vs K.minus_poly).sign p-ways.2 n-ways.2 refl (lit≤ tt))

  -- the terms that are cut off
  abbrev cut_off : Frac
  cut_off = over 3 268435456

  p-rest : LeQ (plus_part k (size_of x)) (plus_q p_c cut_off)
  p-rest =
      let g = grown 105 (length K.qs) (horner_q (over 65536 625) K.r K.rs) in
      le_q-trans (plus_part k (size_of x)) (plus_q p_c g) (plus_q p_c cut_off) (mul-pos p_c-pos (grown-pos 105 (length K.qs) (horner_q (over 65536 625) K.r K.rs) K.plus_poly.end-pos))
      (cut-least x S k c cs K.qs K.r K.rs K.plus_poly) (plus-mono p_c p_c g cut_off (le_q-refl p_c) K.plus-cut)

  n-rest : LeQ (minus_part k (size_of x)) (plus_q n_c cut_off)
  n-rest =
      let g = grown 105 (length K.us) (horner_q (over 65536 625) K.v K.vs) in
      let G = grown-pos 105 (length K.us) (horner_q (over 65536 625) K.v K.vs) K.minus_poly.end-pos in
      let X2 = sq (size_of x) in
      le_q-trans (times_q X2 n_w) (times_q X2 (plus_q n_q g)) (plus_q n_c cut_off) (mul-pos square-pos (mul-pos n_q-pos G))
      (times-mono X2 X2 n_w (plus_q n_q g) (le_q-refl X2) (cut-least x S (k + 2) d ds K.us K.v K.vs K.minus_poly))
      (le_q-trans (times_q X2 (plus_q n_q g)) (plus_q n_c (times_q X2 g)) (plus_q n_c cut_off) (mul-pos n_c-pos (mul-pos square-pos G)) (times-out X2 n_q g)
      (plus-mono n_c n_c (times_q X2 g) cut_off (le_q-refl n_c)
      (le_q-trans (times_q X2 g) (times_q (over 256 25) g) cut_off (mul-pos {m = 25} (lit< tt) G) (times-mono X2 (over 256 25) g g (square-most x S) (le_q-refl g)) K.minus-cut)))

  more-than : (p q : Frac) → LeQ p q → LeQ p (plus_q q cut_off)
  more-than p q h = omega (arith, mul-le-mul_right 268435456 h)

  pub between : Differs (plus_part k (size_of x)) (minus_part k (size_of x)) (over 7 268435456) (sub binary64 p_f n_f)
  between =
      differs-weaken (plus_part k (size_of x)) (minus_part k (size_of x)) (plus_q (plus_q rounded cut_off) cut_off) (plus_part-pos (size_of x) (den_pos x) k) (minus_part-pos (size_of x) (den_pos x) k) (lit< tt) (over 7 268435456) (sub binary64 p_f n_f) (lit< tt) (lit≤ tt)
      (differs-from p_c n_c rounded p_c-pos n_c-pos (lit< tt) (plus_part k (size_of x)) (minus_part k (size_of x)) cut_off (sub binary64 p_f n_f) (plus_part-pos (size_of x) (den_pos x) k) (minus_part-pos (size_of x) (den_pos x) k) (lit< tt) p-rest (more-than p_c (plus_part k (size_of x)) p_c-most) n-rest (more-than n_c (minus_part k (size_of x)) n_c-most) short)
