-- The sine up to 1.5, within a part of itself; and both functions below 2 ^ -12. Assumes nothing.
use Rattle.std.proofs.Common.{◌≡◌, ℕ, ◌+◌, ◌-◌, ◌*◌, ◌^◌, ◌<◌, ◌≤◌, Bool, true, false, T, ℤ, pos, sym, refl, ap, ◌∙◌, subst, inr, le_trans, le_of_eq, le_refl, le_of_lt, mul-le-mul_right, mul-le-mul, mul-le-mul_left, mul-pos, zero-mul, mul_left_comm, arith, lit<, lit≤}
use lib.Ieee.{Float, nan, inf, fin, binary32, binary64, mul, up, down, round}
use lib.Ieee.Fits.{down_pos}
use lib.Ieee.Positive.{num, den, den_pos}
use Rattle.exact.specs.Value.{plus}
use Rattle.exact.specs.Narrow.{narrowed}
use Rattle.exact.proofs.Narrowing.{narrowed-plus}
use Rattle.elementary.specs.Fraction.{Frac, plus_q, times_q, horner_q, LeQ, over, one_q}
use Rattle.elementary.specs.Kernel.{one}
use Rattle.elementary.proofs.Errors.{upper, lower}
use Rattle.elementary.specs.Trigonometric.{plus_terms, minus_terms, terms, Absolute, Relative, bound, more, less, over_six, sine_plus, sine_minus, sine_sum}
use Rattle.elementary.proofs.Ratio.{Within, Near, within-refl, within-trans, within-weaken}
use Rattle.elementary.proofs.Operations.{Range, round-within, mul-near}
use Rattle.elementary.proofs.Horner.{fine, range-of}
use Rattle.elementary.proofs.Powers.{fine32, near-least, near-most}
use Rattle.elementary.proofs.Truncation.{le_q-trans, le_q-refl, plus-mono, times-mono, least-one}
use Rattle.elementary.proofs.Difference.{exact}
use Rattle.elementary.proofs.Signed.{Differs, size_of, by-eq, plus_comm, plus_assoc, plus-right-comm, plus-cancel, times-in, times-out}
use Rattle.elementary.proofs.Terms.{inv, every4, sq, plus_part, minus_part, plus_part-pos, minus_part-pos, terms-pos, terms-mono, plus_part-mono, minus_part-mono, plus_terms-to, plus_terms-from, minus_terms-to, minus_terms-from, one_power}
use Rattle.elementary.proofs.Trigonometry.{Argument, p-eight}
use Rattle.elementary.proofs.SineCosine.{sine-between, product-under, sine-pair}

-- ---- a part of s, where s is p - n
relative-of : (s p n : Frac) (r : Float) → 0 < s.bot → 0 < p.bot → 0 < n.bot → T (plus r) → LeQ (plus_q s n) p → LeQ p (plus_q s n) → Within 4194305 4194304 (num r) (den r) s.top s.bot → Relative p n r
relative-of s p n nan S P N t h k w = absurd t
relative-of s p n (inf u) S P N t h k w = absurd t
relative-of s p n (fin true m e) S P N t h k w = absurd t
relative-of s p n (fin false m e) S P N t h k w =
    let r = over (m * up e) (down e) in
    record {
      most =
          le_q-trans (plus_q r (times_q more n)) (plus_q (times_q more s) (times_q more n)) (times_q more p) (mul-pos (mul-pos {m = 4194304} (lit< tt) S) (mul-pos {m = 4194304} (lit< tt) N))
          (plus-mono r (times_q more s) (times_q more n) (times_q more n) (up-part (m * up e) (down e) s.top s.bot w.0) (le_q-refl (times_q more n)))
          (le_q-trans (plus_q (times_q more s) (times_q more n)) (times_q more (plus_q s n)) (times_q more p) (mul-pos {m = 4194304} (lit< tt) (mul-pos S N)) (times-in more s n) (times-mono more more (plus_q s n) p (le_q-refl more) h));
      least =
          le_q-trans (times_q less p) (times_q less (plus_q s n)) (plus_q r (times_q less n)) (mul-pos {m = 4194304} (lit< tt) (mul-pos S N)) (times-mono less less p (plus_q s n) (le_q-refl less) k)
          (le_q-trans (times_q less (plus_q s n)) (plus_q (times_q less s) (times_q less n)) (plus_q r (times_q less n)) (mul-pos (mul-pos {m = 4194304} (lit< tt) S) (mul-pos {m = 4194304} (lit< tt) N)) (times-out less s n)
          (plus-mono (times_q less s) r (times_q less n) (times_q less n) (down-part (m * up e) (down e) s.top s.bot w.1) (le_q-refl (times_q less n))));
    }
  where
    up-part : (r d a c : ℕ) → r * c * 4194304 ≤ a * d * 4194305 → r * (4194304 * c) ≤ 4194305 * a * d
    up-part r d a c h = omega arith

    down-part : (r d a c : ℕ) → a * d * 4194304 ≤ r * c * 4194305 → 4194303 * a * d ≤ r * (4194304 * c)
    down-part r d a c h = omega arith

-- ---- where p is at most 1, a part of p - n is at most that part of 1
absolute-relative : (p n : Frac) (r : Float) → 0 < p.bot → 0 < n.bot → LeQ p one_q → Relative p n r → Absolute p n r
absolute-relative p n nan P N h a = absurd a.most
absolute-relative p n (inf s) P N h a = absurd a.most
absolute-relative p n (fin s m e) P N h a = go s a
  where
    grows : LeQ n (times_q more n)
    grows = omega arith

    shrinks : LeQ (times_q less n) n
    shrinks = omega arith

    above-p : LeQ (times_q more p) (plus_q p bound)
    above-p = wide p.top p.bot h
      where
        wide : (a b : ℕ) → a * 1 ≤ 1 * b → 4194305 * a * (b * 4194304) ≤ (a * 4194304 + 1 * b) * (4194304 * b)
        wide a b h = omega (arith, mul-le-mul_right b h)

    below-p : LeQ p (plus_q (times_q less p) bound)
    below-p = wide p.top p.bot h
      where
        wide : (a b : ℕ) → a * 1 ≤ 1 * b → a * (4194304 * b * 4194304) ≤ (4194303 * a * 4194304 + 1 * (4194304 * b)) * b
        wide a b h = omega (arith, mul-le-mul_right b h)

    go : (s : Bool) → Relative p n (fin s m e) → Absolute p n (fin s m e)
    go false a =
        let r = over (m * up e) (down e) in
        let d = bound in
        record {
          most =
              le_q-trans (plus_q r n) (plus_q r (times_q more n)) (plus_q p d) (mul-pos (down_pos e) (mul-pos {m = 4194304} (lit< tt) N)) (plus-mono r r n (times_q more n) (le_q-refl r) grows)
              (le_q-trans (plus_q r (times_q more n)) (times_q more p) (plus_q p d) (mul-pos {m = 4194304} (lit< tt) P) a.most above-p);
          least =
              le_q-trans p (plus_q (times_q less p) d) (plus_q r (plus_q n d)) (mul-pos (mul-pos {m = 4194304} (lit< tt) P) (lit< tt)) below-p
              (by-eq refl (sym (plus_assoc r n d)) (plus-mono (times_q less p) (plus_q r n) d d (le_q-trans (times_q less p) (plus_q r (times_q less n)) (plus_q r n) (mul-pos (down_pos e) (mul-pos {m = 4194304} (lit< tt) N)) a.least (plus-mono r r (times_q less n) n (le_q-refl r) shrinks)) (le_q-refl d)));
        }
    go true a =
        let r = over (m * up e) (down e) in
        let d = bound in
        record {
          most =
              le_q-trans n (times_q more n) (plus_q r (plus_q p d)) (mul-pos {m = 4194304} (lit< tt) N) grows
              (le_q-trans (times_q more n) (plus_q r (times_q more p)) (plus_q r (plus_q p d)) (mul-pos (down_pos e) (mul-pos {m = 4194304} (lit< tt) P)) a.most (plus-mono r r (times_q more p) (plus_q p d) (le_q-refl r) above-p));
          least =
              le_q-trans (plus_q r p) (plus_q r (plus_q (times_q less p) d)) (plus_q n d) (mul-pos (down_pos e) (mul-pos (mul-pos {m = 4194304} (lit< tt) P) (lit< tt))) (plus-mono r r p (plus_q (times_q less p) d) (le_q-refl r) below-p)
              (by-eq (sym (plus_assoc r (times_q less p) d)) refl (plus-mono (plus_q r (times_q less p)) n d d (le_q-trans (plus_q r (times_q less p)) (times_q less n) n (mul-pos {m = 4194304} (lit< tt) N) a.least shrinks) (le_q-refl d)));
        }

-- ---- the difference of the two polynomials, as one fraction
module _ (x : Float) where
  abbrev X : Frac
  X = size_of x

  abbrev p : Frac
  p = plus_part 1 X

  abbrev n : Frac
  n = minus_part 1 X

  abbrev g : Frac
  g = over (p.top * n.bot - n.top * p.bot) (p.bot * n.bot)

  P : 0 < p.bot
  P = plus_part-pos X (den_pos x) 1

  N : 0 < n.bot
  N = minus_part-pos X (den_pos x) 1

  G : 0 < g.bot
  G = mul-pos P N

  p-least : LeQ one_q p
  unfolding inv
  p-least = least-one (sq (sq X)) (every4 5 7)

  module _ (h : LeQ n p) where
    g-under : LeQ (plus_q g n) p
    g-under = (exact p.top p.bot n.top n.bot h).0

    g-over : LeQ p (plus_q g n)
    g-over = (exact p.top p.bot n.top n.bot h).1

    -- x times it is the series
    sine-under : LeQ (plus_q (times_q X g) (minus_terms 1 X)) (plus_terms 1 X)
    sine-under =
        le_q-trans (plus_q (times_q X g) (minus_terms 1 X)) (plus_q (times_q X g) (times_q X n)) (plus_terms 1 X) (mul-pos (mul-pos (den_pos x) G) (mul-pos (den_pos x) N)) (plus-mono (times_q X g) (times_q X g) (minus_terms 1 X) (times_q X n) (le_q-refl (times_q X g)) (by-eq refl (sym (one_power X (den_pos x) n)) (minus_terms-to X (den_pos x) 1)))
        (le_q-trans (plus_q (times_q X g) (times_q X n)) (times_q X (plus_q g n)) (plus_terms 1 X) (mul-pos (den_pos x) (mul-pos G N)) (times-in X g n)
        (le_q-trans (times_q X (plus_q g n)) (times_q X p) (plus_terms 1 X) (mul-pos (den_pos x) P) (times-mono X X (plus_q g n) p (le_q-refl X) g-under) (by-eq (sym (one_power X (den_pos x) p)) refl (plus_terms-from X (den_pos x) 1))))

    sine-over : LeQ (plus_terms 1 X) (plus_q (times_q X g) (minus_terms 1 X))
    sine-over =
        le_q-trans (plus_terms 1 X) (times_q X p) (plus_q (times_q X g) (minus_terms 1 X)) (mul-pos (den_pos x) P) (by-eq refl (sym (one_power X (den_pos x) p)) (plus_terms-to X (den_pos x) 1))
        (le_q-trans (times_q X p) (times_q X (plus_q g n)) (plus_q (times_q X g) (minus_terms 1 X)) (mul-pos (den_pos x) (mul-pos G N)) (times-mono X X p (plus_q g n) (le_q-refl X) g-over)
        (le_q-trans (times_q X (plus_q g n)) (plus_q (times_q X g) (times_q X n)) (plus_q (times_q X g) (minus_terms 1 X)) (mul-pos (mul-pos (den_pos x) G) (mul-pos (den_pos x) N)) (times-out X g n)
        (plus-mono (times_q X g) (times_q X g) (times_q X n) (minus_terms 1 X) (le_q-refl (times_q X g)) (by-eq (sym (one_power X (den_pos x) n)) refl (minus_terms-from X (den_pos x) 1)))))

    series-relative : (r : Float) → T (plus r) → Within 4194305 4194304 (num r) (den r) (times_q X g).top (times_q X g).bot → Relative (plus_terms 1 X) (minus_terms 1 X) r
    series-relative r t w = relative-of (times_q X g) (plus_terms 1 X) (minus_terms 1 X) r (mul-pos (den_pos x) G) (terms-pos 1 8 X (den_pos x)) (terms-pos 3 8 X (den_pos x)) t sine-under sine-over w

-- ---- up to 1.5
near-product : (a b c d s t : ℕ) → b ≤ a * s → d ≤ c * t → b * d ≤ a * c * (s * t)
near-product a b c d s t h k = omega (arith, mul-le-mul h k)

far-product : (a b c d s t : ℕ) → a ≤ b * s → c ≤ d * t → a * c ≤ b * d * (s * t)
far-product a b c d s t h k = omega (arith, mul-le-mul h k)

module _ (x : Float) (S : Argument x) (h : 2 * num x ≤ 3 * den x) where
  n-most : LeQ (n x) (over 1 2)
  unfolding every4 horner_q
  n-most = le_q-trans (n x) (minus_part 1 (over 3 2)) (over 1 2) (lit< tt) (minus_part-mono 1 (X x) (over 3 2) (turn (num x) (den x) h)) (lit≤ tt)
    where
      turn : (n d : ℕ) → 2 * n ≤ 3 * d → n * 2 ≤ 3 * d
      turn n d h = omega arith

  half-gap : LeQ (plus_q (over 1 2) (n x)) (p x)
  half-gap = le_q-trans (plus_q (over 1 2) (n x)) one_q (p x) (lit< tt) (le_q-trans (plus_q (over 1 2) (n x)) (plus_q (over 1 2) (over 1 2)) one_q (lit< tt) (plus-mono (over 1 2) (over 1 2) (n x) (over 1 2) (le_q-refl (over 1 2)) n-most) (lit≤ tt)) (p-least x)

  in_order : LeQ (n x) (p x)
  in_order = le_q-trans (n x) (plus_q (over 1 2) (n x)) (p x) (mul-pos {m = 2} (lit< tt) (N x)) (add-on (over 1 2) (n x)) half-gap
    where
      add-on : (a b : Frac) → LeQ b (plus_q a b)
      add-on a b = omega arith

  g-least : LeQ (over 1 2) (g x)
  g-least = plus-cancel (over 1 2) (n x) (g x) (N x) (le_q-trans (plus_q (over 1 2) (n x)) (p x) (plus_q (g x) (n x)) (P x) half-gap (g-over x in_order))

  abbrev e₁ : Frac
  e₁ = over 7 268435456

  core-beside : (d : Float) → Differs (p x) (n x) e₁ d → T (plus d) × LeQ (size_of d) (plus_q (g x) e₁) × LeQ (g x) (plus_q (size_of d) e₁)
  core-beside nan a = absurd a
  core-beside (inf s) a = absurd a
  core-beside (fin true m k) a = absurd (bad (plus-cancel (over 1 2) (n x) e₁ (N x)
      (le_q-trans (plus_q (over 1 2) (n x)) (p x) (plus_q e₁ (n x)) (P x) half-gap
      (le_q-trans (p x) (plus_q (over (m * up k) (down k)) (p x)) (plus_q e₁ (n x)) (mul-pos (down_pos k) (P x)) (add-on (over (m * up k) (down k)) (p x)) (by-eq refl (plus_comm e₁ (n x)) a.0)))))
    where
      add-on : (a b : Frac) → LeQ b (plus_q a b)
      add-on a b = omega arith

      bad : LeQ (over 1 2) e₁ → ⊥
      bad h = omega arith
  core-beside (fin false m k) a =
      let q = over (m * up k) (down k) in (
        tt,
        plus-cancel q (n x) (plus_q (g x) e₁) (N x)
            (le_q-trans (plus_q q (n x)) (plus_q (p x) e₁) (plus_q (plus_q (g x) e₁) (n x)) (mul-pos (P x) (lit< tt)) a.0 (by-eq refl (plus-right-comm (g x) e₁ (n x)) (plus-mono (p x) (plus_q (g x) (n x)) e₁ e₁ (g-over x in_order) (le_q-refl e₁)))),
        plus-cancel (g x) (n x) (plus_q q e₁) (N x)
            (le_q-trans (plus_q (g x) (n x)) (p x) (plus_q (plus_q q e₁) (n x)) (P x) (g-under x in_order) (by-eq refl (plus_assoc q e₁ (n x) ∙ ap (λ (z : Frac). plus_q q z) (plus_comm e₁ (n x))) a.1)),
      )

  core : T (plus (sine_sum x)) × LeQ (size_of (sine_sum x)) (plus_q (g x) e₁) × LeQ (g x) (plus_q (size_of (sine_sum x)) e₁)
  core = core-beside (sine_sum x) (sine-between x S)

  core-near : Near 134217728 134217721 (sine_sum x) (g x).top (g x).bot
  core-near = record { sign = core.0; within = (hi (num (sine_sum x)) (den (sine_sum x)) (g x).top (g x).bot g-least core.1, lo (num (sine_sum x)) (den (sine_sum x)) (g x).top (g x).bot g-least core.2) }
    where
      hi : (a b c d : ℕ) → 1 * d ≤ c * 2 → a * (d * 268435456) ≤ (c * 268435456 + 7 * d) * b → a * d * 134217721 ≤ c * b * 134217728
      hi a b c d g h = omega (arith, mul-le-mul_right b g)

      lo : (a b c d : ℕ) → 1 * d ≤ c * 2 → c * (b * 268435456) ≤ (a * 268435456 + 7 * b) * d → c * b * 134217721 ≤ a * d * 134217728
      lo a b c d g h = omega (arith, mul-le-mul_right b g)

  g-floor : (g x).bot ≤ (g x).top * 2
  g-floor = flat (g x).top (g x).bot g-least
    where
      flat : (a b : ℕ) → 1 * b ≤ a * 2 → b ≤ a * 2
      flat a b h = omega arith

  g-ceiling : (g x).top ≤ (g x).bot * 8
  g-ceiling = flat (g x).top (g x).bot (le_q-trans (g x) (p x) (over 8 1) (P x) (le_q-trans (g x) (plus_q (g x) (n x)) (p x) (mul-pos (G x) (N x)) (more-on (g x) (n x)) (g-under x in_order)) (p-eight 1 one sine_plus over_six sine_minus sine-pair x S))
    where
      flat : (a b : ℕ) → a * 1 ≤ 8 * b → a ≤ b * 8
      flat a b h = omega arith

      more-on : (a b : Frac) → LeQ a (plus_q a b)
      more-on a b = omega arith

  abbrev y : Float
  y = mul binary64 x (sine_sum x)

  product-range : Range binary64 4503599627370496 (num x * num (sine_sum x)) (den x * den (sine_sum x))
  product-range = range-of (num x * num (sine_sum x)) (den x * den (sine_sum x)) 14 6
      (inr (near-product (num x) (den x) (num (sine_sum x)) (den (sine_sum x)) (2 ^ 12) 4 S.least (near-least (num (sine_sum x)) (den (sine_sum x)) (g x).top (g x).bot 134217728 134217721 2 (lit< tt) (G x) (lit≤ tt) core-near.within g-floor)))
      (le_of_lt (product-under x S)) (lit≤ tt) (lit≤ tt)

  y-near : Near (upper * (1 * 134217728)) (lower * (1 * 134217721)) y (num x * (g x).top) (den x * (g x).bot)
  y-near = mul-near binary64 4503599627370496 lower 1 1 134217728 134217721 x (sine_sum x) (num x) (den x) (g x).top (g x).bot fine (record { sign = S.sign; within = within-refl 1 1 (num x) (den x) (le_refl 1) }) core-near product-range

  y-range : Range binary32 4194304 (num y) (den y)
  y-range = record {
    below = inr (low_end (num y) (den y) (near-least (num y) (den y) (num x * (g x).top) (den x * (g x).bot) (upper * (1 * 134217728)) (lower * (1 * 134217721)) (2 ^ 13) (lit< tt) (mul-pos (den_pos x) (G x)) (lit≤ tt) y-near.within (near-product (num x) (den x) (g x).top (g x).bot (2 ^ 12) 2 S.least g-floor)));
    above = near-most (num y) (den y) (num x * (g x).top) (den x * (g x).bot) (upper * (1 * 134217728)) (lower * (1 * 134217721)) (2 ^ 127) (lit< tt) (mul-pos (den_pos x) (G x)) (lit≤ tt) y-near.within
        (le_trans (far-product (num x) (den x) (g x).top (g x).bot 4 8 (four (num x) (den x) S.most) g-ceiling) (mul-le-mul_left (den x * (g x).bot) (lit≤ {m = 32} {n = 2 ^ 127} tt)));
  }
    where
      low_end : (n d : ℕ) → d ≤ n * (2 ^ 13 * 2) → 4194304 * d ≤ n * 2 ^ 149
      low_end n d h = le_trans (mul-le-mul_left 4194304 h) (le_trans (le_of_eq (mul_left_comm 4194304 n (2 ^ 14))) (mul-le-mul_left n (lit≤ {m = 2 ^ 36} {n = 2 ^ 149} tt)))

      four : (n d : ℕ) → 5 * n ≤ 16 * d → n ≤ d * 4
      four n d h = omega arith

  pub sine-relative : Relative (plus_terms 1 (X x)) (minus_terms 1 (X x)) (narrowed y)
  sine-relative =
      let r = round binary32 false (num y) (den y) in
      let w = round-within binary32 4194304 8388607 (num y) (den y) fine32 (den_pos y) y-range in
      subst (λ (z : Float). Relative (plus_terms 1 (X x)) (minus_terms 1 (X x)) z) (sym (narrowed-plus y y-near.sign))
      (series-relative x in_order r w.0
      (within-weaken (8388608 * (upper * (1 * 134217728))) (8388607 * (lower * (1 * 134217721))) 4194305 4194304 (num r) (den r) (num x * (g x).top) (den x * (g x).bot) (lit< tt) (lit≤ tt)
      (within-trans 8388608 8388607 (upper * (1 * 134217728)) (lower * (1 * 134217721)) (num r) (den r) (num y) (den y) (num x * (g x).top) (den x * (g x).bot) (den_pos y) w.1 y-near.within)))

-- ---- below 2 ^ -12 the sine is x
module _ (x : Float) (s : T (plus x)) (h : 4096 * num x ≤ den x) where
  few : LeQ (X x) (over 1 4096)
  few = turn (num x) (den x) h
    where
      turn : (n d : ℕ) → 4096 * n ≤ d → n * 4096 ≤ 1 * d
      turn n d h = omega arith

  n-small : LeQ (n x) (over 1 4194305)
  unfolding every4 horner_q
  n-small = le_q-trans (n x) (minus_part 1 (over 1 4096)) (over 1 4194305) (lit< tt) (minus_part-mono 1 (X x) (over 1 4096) few) (lit≤ tt)

  p-small : LeQ (p x) (over 4194305 4194304)
  unfolding every4 horner_q
  p-small = le_q-trans (p x) (plus_part 1 (over 1 4096)) (over 4194305 4194304) (lit< tt) (plus_part-mono 1 (X x) (over 1 4096) few) (lit≤ tt)

  ordered : LeQ (n x) (p x)
  ordered = le_q-trans (n x) one_q (p x) (lit< tt) (le_q-trans (n x) (over 1 4194305) one_q (lit< tt) n-small (lit≤ tt)) (p-least x)

  plus_terms-small : LeQ (plus_terms 1 (X x)) one_q
  unfolding terms
  plus_terms-small = le_q-trans (plus_terms 1 (X x)) (terms 1 8 (over 1 4096)) one_q (lit< tt) (terms-mono 1 8 (X x) (over 1 4096) few) (lit≤ tt)

  pub small-relative : Relative (plus_terms 1 (X x)) (minus_terms 1 (X x)) x
  small-relative = series-relative x ordered x s (
    scaled (num x) (den x) (g x).top (g x).bot (at_least (g x).top (g x).bot (le_q-trans one_q (p x) (plus_q (g x) (over 1 4194305)) (P x) (p-least x) (le_q-trans (p x) (plus_q (g x) (n x)) (plus_q (g x) (over 1 4194305)) (mul-pos (G x) (N x)) (g-over x ordered) (plus-mono (g x) (g x) (n x) (over 1 4194305) (le_q-refl (g x)) n-small)))),
    scaled' (num x) (den x) (g x).top (g x).bot (le_q-trans (g x) (p x) (over 4194305 4194304) (P x) (le_q-trans (g x) (plus_q (g x) (n x)) (p x) (mul-pos (G x) (N x)) (more-on (g x) (n x)) (g-under x ordered)) p-small),
  )
    where
      at_least : (a b : ℕ) → 1 * (b * 4194305) ≤ (a * 4194305 + 1 * b) * 1 → b * 4194304 ≤ a * 4194305
      at_least a b h = omega arith

      scaled : (n d a b : ℕ) → b * 4194304 ≤ a * 4194305 → n * (d * b) * 4194304 ≤ n * a * d * 4194305
      scaled n d a b h = omega (arith, mul-le-mul_left (n * d) h)

      scaled' : (n d a b : ℕ) → a * 4194304 ≤ 4194305 * b → n * a * d * 4194304 ≤ n * (d * b) * 4194305
      scaled' n d a b h = omega (arith, mul-le-mul_left (n * d) h)

      more-on : (a b : Frac) → LeQ a (plus_q a b)
      more-on a b = omega arith

  pub small-absolute : Absolute (plus_terms 1 (X x)) (minus_terms 1 (X x)) x
  small-absolute = absolute-relative (plus_terms 1 (X x)) (minus_terms 1 (X x)) x (terms-pos 1 8 (X x) (den_pos x)) (terms-pos 3 8 (X x) (den_pos x)) plus_terms-small small-relative

-- ---- and the cosine is 1
pub cosine-small : (x : Float) → 4096 * num x ≤ den x → Absolute (plus_terms 0 (X x)) (minus_terms 0 (X x)) (fin false 1 (pos 0))
unfolding terms
cosine-small x h =
    let q = plus_terms 0 (X x) in
    let l = minus_terms 0 (X x) in
    let d = bound in
    let f : LeQ (X x) (over 1 4096) = turn (num x) (den x) h in
    record {
      most = plus-mono one_q q l d (le_q-trans one_q (terms 0 8 (over 0 1)) q (lit< tt) (lit≤ tt) (terms-mono 0 8 (over 0 1) (X x) (nothing (num x) (den x)))) (le_q-trans l (terms 2 8 (over 1 4096)) d (lit< tt) (terms-mono 2 8 (X x) (over 1 4096) f) (lit≤ tt));
      least =
          le_q-trans q (plus_q one_q d) (plus_q one_q (plus_q l d)) (lit< tt) (le_q-trans q (terms 0 8 (over 1 4096)) (plus_q one_q d) (lit< tt) (terms-mono 0 8 (X x) (over 1 4096) f) (lit≤ tt))
          (plus-mono one_q one_q d (plus_q l d) (le_q-refl one_q) (add-on l d));
    }
  where
    turn : (n d : ℕ) → 4096 * n ≤ d → n * 4096 ≤ 1 * d
    turn n d h = omega arith

    nothing : (n d : ℕ) → 0 * d ≤ n * 1
    nothing n d = omega arith

    add-on : (a b : Frac) → LeQ b (plus_q a b)
    add-on a b = omega arith

-- ---- minus zero
vanished : (k : ℕ) (x : Float) → num x ≡ 0 → LeQ (terms k 8 (over 0 1)) (over 0 1) → (terms k 8 (X x)).top ≡ 0
vanished k x z h = none (terms k 8 (X x)).top (terms k 8 (X x)).bot (le_q-trans (terms k 8 (X x)) (terms k 8 (over 0 1)) (over 0 1) (terms-pos k 8 (over 0 1) (lit< tt)) (terms-mono k 8 (X x) (over 0 1) (omega arith)) h)
  where
    none : (a b : ℕ) → a * 1 ≤ 0 * b → a ≡ 0
    none a b h = omega arith

nothing-le : (a b : Frac) → a.top ≡ 0 → LeQ a b
nothing-le a b e = omega (arith, ap (λ (z : ℕ). z * b.bot) e)

pub zero-relative : (m : ℕ) (e : ℤ) → m ≡ 0 → Relative (plus_terms 1 (X (fin true m e))) (minus_terms 1 (X (fin true m e))) (fin true m e)
unfolding terms
zero-relative m e z =
    let x = fin true m e in
    let Z : m * up e ≡ 0 = ap (λ (y : ℕ). y * up e) z ∙ zero-mul (up e) in
    let A = vanished 1 x Z (lit≤ tt) in
    let B = vanished 3 x Z (lit≤ tt) in
    record {
      most = nothing-le (times_q more (minus_terms 1 (X x))) (plus_q (X x) (times_q more (plus_terms 1 (X x)))) (ap (λ (y : ℕ). 4194305 * y) B);
      least = nothing-le (plus_q (X x) (times_q less (plus_terms 1 (X x)))) (times_q less (minus_terms 1 (X x))) (both (m * up e) (4194303 * (plus_terms 1 (X x)).top) (4194304 * (plus_terms 1 (X x)).bot) (down e) Z (ap (λ (y : ℕ). 4194303 * y) A));
    }
  where
    both : (a b c d : ℕ) → a ≡ 0 → b ≡ 0 → a * c + b * d ≡ 0
    both a b c d p q = omega (arith, ap (λ (z : ℕ). z * c) p, ap (λ (z : ℕ). z * d) q)

pub zero-absolute : (m : ℕ) (e : ℤ) → m ≡ 0 → Absolute (plus_terms 1 (X (fin true m e))) (minus_terms 1 (X (fin true m e))) (fin true m e)
unfolding terms
zero-absolute m e z =
    let x = fin true m e in
    let Z : m * up e ≡ 0 = ap (λ (y : ℕ). y * up e) z ∙ zero-mul (up e) in
    absolute-relative (plus_terms 1 (X x)) (minus_terms 1 (X x)) x (terms-pos 1 8 (X x) (down_pos e)) (terms-pos 3 8 (X x) (down_pos e)) (nothing-le (plus_terms 1 (X x)) one_q (vanished 1 x Z (lit≤ tt))) (zero-relative m e z)
