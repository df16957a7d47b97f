-- What `sin` and `cos` return from 2 ^ -12 to 3.2. Assumes nothing.
use Rattle.std.proofs.Common.{ℕ, ◌+◌, ◌*◌, ◌^◌, ◌<◌, ◌≤◌, sym, refl, ◌∙◌, subst₂, mul-le-mul_right, mul-le-mul, mul-pos, arith, lit<, lit≤}
use native.Mathlib.Nat.{one-le-pow}
use lib.Ieee.{Float, binary64, of_bits, mul}
use lib.Ieee.Positive.{num, den, den_pos}
use Rattle.exact.specs.Narrow.{narrowed}
use Rattle.elementary.specs.Fraction.{Frac, plus_q, times_q, horner_q, LeQ, over}
use Rattle.elementary.specs.Kernel.{one}
use Rattle.elementary.specs.Trigonometric.{plus_terms, minus_terms, Absolute, bound, over_six, over_two, sine_plus, sine_minus, cosine_plus, cosine_minus, sine_sum, cosine_sum}
use Rattle.elementary.proofs.Series.{coef-of, coefs-of}
use Rattle.elementary.proofs.Truncation.{le_q-trans, le_q-refl, plus-mono, times-mono}
use Rattle.elementary.proofs.Signed.{Differs, size_of, by-eq, plus-zero, mul-differs, narrowed-differs, differs-from, differs-weaken, differs-most, absolute-of}
use Rattle.elementary.proofs.Terms.{inv, every4, pow_q, plus_part, minus_part, plus_part-pos, minus_part-pos, terms-pos, plus_terms-to, plus_terms-from, minus_terms-to, minus_terms-from, no_power, one_power, Level, cosine-level, sine-level}
use Rattle.elementary.proofs.Trigonometry.{Argument, Poly, Pair, between, p-eight, n-eight}

-- ---- the two pairs of polynomials
sine-plus : Poly 1 one sine_plus (every4 5 4) (inv 21) (every4 25 2)
unfolding of_bits every4 horner_q
sine-plus = record { first = coef-of one (inv 1) tt; others = coefs-of sine_plus (every4 5 4) tt; few = lit≤ tt; whole = refl; rounding = lit≤ tt; end-pos = lit< tt }

sine-minus : Poly 3 over_six sine_minus (every4 7 3) (inv 19) (every4 23 3)
unfolding of_bits every4 horner_q
sine-minus = record { first = coef-of over_six (inv 3) tt; others = coefs-of sine_minus (every4 7 3) tt; few = lit≤ tt; whole = refl; rounding = lit≤ tt; end-pos = lit< tt }

cosine-plus : Poly 0 one cosine_plus (every4 4 4) (inv 20) (every4 24 2)
unfolding of_bits every4 horner_q
cosine-plus = record { first = coef-of one (inv 0) tt; others = coefs-of cosine_plus (every4 4 4) tt; few = lit≤ tt; whole = refl; rounding = lit≤ tt; end-pos = lit< tt }

cosine-minus : Poly 2 over_two cosine_minus (every4 6 4) (inv 22) (every4 26 2)
unfolding of_bits every4 horner_q
cosine-minus = record { first = coef-of over_two (inv 2) tt; others = coefs-of cosine_minus (every4 6 4) tt; few = lit≤ tt; whole = refl; rounding = lit≤ tt; end-pos = lit< tt }

pub sine-pair : Pair 1 one sine_plus over_six sine_minus
unfolding every4 horner_q
sine-pair = record { qs = every4 5 4; r = inv 21; rs = every4 25 2; plus_poly = sine-plus; us = every4 7 3; v = inv 19; vs = every4 23 3; minus_poly = sine-minus; plus-most = lit≤ tt; minus-most = lit≤ tt; plus-cut = lit≤ tt; minus-cut = lit≤ tt }

pub cosine-pair : Pair 0 one cosine_plus over_two cosine_minus
unfolding every4 horner_q
cosine-pair = record { qs = every4 4 4; r = inv 20; rs = every4 24 2; plus_poly = cosine-plus; us = every4 6 4; v = inv 22; vs = every4 26 2; minus_poly = cosine-minus; plus-most = lit≤ tt; minus-most = lit≤ tt; plus-cut = lit≤ tt; minus-cut = lit≤ tt }

-- ---- from the polynomials to the series
module _ (k : ℕ) (x : Float) where
  abbrev X : Frac
  X = size_of x

  abbrev p_x : Frac
  p_x = times_q (pow_q X k) (plus_part k X)

  abbrev n_x : Frac
  n_x = times_q (pow_q X k) (minus_part k X)

  p_x-pos : 0 < p_x.bot
  p_x-pos = mul-pos (one-le-pow k (den x) (den_pos x)) (plus_part-pos X (den_pos x) k)

  n_x-pos : 0 < n_x.bot
  n_x-pos = mul-pos (one-le-pow k (den x) (den_pos x)) (minus_part-pos X (den_pos x) k)

  plus_terms-pos : 0 < (plus_terms k X).bot
  plus_terms-pos = terms-pos k 8 X (den_pos x)

  minus_terms-pos : 0 < (minus_terms k X).bot
  minus_terms-pos = terms-pos (k + 2) 8 X (den_pos x)

  no_more : (p q : Frac) → LeQ p q → LeQ p (plus_q q (over 0 1))
  no_more p q h = by-eq refl (plus-zero q) h

  pub to-series : (e : Frac) (z : Float) → 0 < e.bot → Differs p_x n_x e z → Differs (plus_terms k X) (minus_terms k X) (plus_q (plus_q e (over 0 1)) (over 0 1)) z
  to-series e z E a =
      differs-from p_x n_x e p_x-pos n_x-pos E (plus_terms k X) (minus_terms k X) (over 0 1) z plus_terms-pos minus_terms-pos (lit< tt)
      (no_more (plus_terms k X) p_x (plus_terms-to X (den_pos x) k)) (no_more p_x (plus_terms k X) (plus_terms-from X (den_pos x) k)) (no_more (minus_terms k X) n_x (minus_terms-to X (den_pos x) k)) (no_more n_x (minus_terms k X) (minus_terms-from X (den_pos x) k)) a

  -- narrowed, since the series is less than 4 apart from 0
  pub narrowed-absolute : Level k → 5 * num x ≤ 16 * den x → (z : Float) → Differs (plus_terms k X) (minus_terms k X) (over 24 268435456) z → Absolute (plus_terms k X) (minus_terms k X) (narrowed z)
  narrowed-absolute L h z a =
      let l = L X (den_pos x) h in
      let m = differs-most (plus_terms k X) (minus_terms k X) (over 24 268435456) plus_terms-pos minus_terms-pos (lit< tt) (over 15 4) z (lit< tt) l.0 l.1 a in
      absolute-of (plus_terms k X) (minus_terms k X) (narrowed z)
      (differs-weaken (plus_terms k X) (minus_terms k X) (plus_q (over 24 268435456) (over 1 8388608)) plus_terms-pos minus_terms-pos (lit< tt) bound (narrowed z) (lit< tt) (lit≤ tt)
      (narrowed-differs z (plus_terms k X) (minus_terms k X) (over 24 268435456) 2 23 plus_terms-pos minus_terms-pos (lit< tt) a (below-four (num z) (den z) (den_pos z) m) refl (lit≤ tt)))
    where
      below-four : (n d : ℕ) → 0 < d → LeQ (over n d) (plus_q (over 15 4) (over 24 268435456)) → n < d * 2 ^ 2
      below-four n d D h = omega arith

-- ---- the cosine
pub cosine-absolute : (x : Float) → Argument x → Absolute (plus_terms 0 (size_of x)) (minus_terms 0 (size_of x)) (narrowed (cosine_sum x))
cosine-absolute x S =
    let X = size_of x in
    let d = cosine_sum x in
    narrowed-absolute 0 x cosine-level S.most d
    (differs-weaken (plus_terms 0 X) (minus_terms 0 X) (plus_q (plus_q (over 7 268435456) (over 0 1)) (over 0 1)) (plus_terms-pos 0 x) (minus_terms-pos 0 x) (lit< tt) (over 24 268435456) d (lit< tt) (lit≤ tt)
    (to-series 0 x (over 7 268435456) d (lit< tt)
    (subst₂ (λ (p n : Frac). Differs p n (over 7 268435456) d) (sym (no_power X (den_pos x) (plus_part 0 X))) (sym (no_power X (den_pos x) (minus_part 0 X))) (between 0 one cosine_plus over_two cosine_minus cosine-pair x S))))

-- ---- the sine
pub sine-between : (x : Float) → Argument x → Differs (plus_part 1 (size_of x)) (minus_part 1 (size_of x)) (over 7 268435456) (sine_sum x)
sine-between x S = between 1 one sine_plus over_six sine_minus sine-pair x S

-- the factor of x is less than 16, so the product is less than 64
pub product-under : (x : Float) → Argument x → num x * num (sine_sum x) < den x * den (sine_sum x) * 2 ^ 6
product-under x S =
    let X = size_of x in
    let d = sine_sum x in
    let p = plus_part 1 X in
    let n = minus_part 1 X in
    let P = plus_part-pos X (den_pos x) 1 in
    let N = minus_part-pos X (den_pos x) 1 in
    under (num x) (den x) (num d) (den d) (den_pos x) (den_pos d) S.most
    (differs-most p n (over 7 268435456) P N (lit< tt) (over 8 1) d (lit< tt) (wider p n (p-eight 1 one sine_plus over_six sine_minus sine-pair x S)) (wider n p (n-eight 1 one sine_plus over_six sine_minus sine-pair x S)) (sine-between x S))
  where
    wider : (p n : Frac) → LeQ p (over 8 1) → LeQ p (plus_q n (over 8 1))
    wider p n h = omega (arith, mul-le-mul_right n.bot h)

    under : (a b c d : ℕ) → 0 < b → 0 < d → 5 * a ≤ 16 * b → LeQ (over c d) (plus_q (over 8 1) (over 7 268435456)) → a * c < b * d * 2 ^ 6
    under a b c d B D h k =
        let l : c ≤ 9 * d = omega arith in
        omega (arith, mul-le-mul h l, mul-pos B D)

pub sine-absolute : (x : Float) → Argument x → Absolute (plus_terms 1 (size_of x)) (minus_terms 1 (size_of x)) (narrowed (mul binary64 x (sine_sum x)))
sine-absolute x S =
    let X = size_of x in
    let d = sine_sum x in
    let y = mul binary64 x d in
    let e = plus_q (times_q X (over 7 268435456)) (over 1 281474976710656) in
    narrowed-absolute 1 x sine-level S.most y
    (differs-weaken (plus_terms 1 X) (minus_terms 1 X) (plus_q (plus_q e (over 0 1)) (over 0 1)) (plus_terms-pos 1 x) (minus_terms-pos 1 x) (mul-pos (mul-pos (mul-pos (mul-pos (den_pos x) (lit< tt)) (lit< tt)) (lit< tt)) (lit< tt)) (over 24 268435456) y (lit< tt)
    (by-eq (plus-zero (plus_q e (over 0 1)) ∙ plus-zero e) refl
    (le_q-trans e (plus_q (times_q (over 16 5) (over 7 268435456)) (over 1 281474976710656)) (over 24 268435456) (lit< tt)
    (plus-mono (times_q X (over 7 268435456)) (times_q (over 16 5) (over 7 268435456)) (over 1 281474976710656) (over 1 281474976710656) (times-mono X (over 16 5) (over 7 268435456) (over 7 268435456) (turn (num x) (den x) S.most) (le_q-refl (over 7 268435456))) (le_q-refl (over 1 281474976710656)))
    (lit≤ tt)))
    (to-series 1 x e y (mul-pos (mul-pos (den_pos x) (lit< tt)) (lit< tt))
    (subst₂ (λ (p n : Frac). Differs p n e y) (sym (one_power X (den_pos x) (plus_part 1 X))) (sym (one_power X (den_pos x) (minus_part 1 X)))
    (mul-differs x d (plus_part 1 X) (minus_part 1 X) (over 7 268435456) 6 48 S.sign (plus_part-pos X (den_pos x) 1) (minus_part-pos X (den_pos x) 1) (lit< tt) (sine-between x S) (product-under x S) refl (lit≤ tt)))))
  where
    turn : (n d : ℕ) → 5 * n ≤ 16 * d → n * 5 ≤ 16 * d
    turn n d h = omega arith
