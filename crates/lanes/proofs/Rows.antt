-- Rows of four taps: how they are stored, and what they add up to. Assumes nothing.
use mathlib.Core.Path.{◌≡◌, refl, sym, ap, subst, ◌∙◌}
use mathlib.Core.Logic.{◌≢◌, inl, inr}
use mathlib.Core.Bool.{Bool, true, false, not, cond}
use mathlib.Core.List.{List}
use Prim.Native.Nat.{ℕ, ◌+◌, ◌-◌, ◌*◌, ◌≤◌, ◌<◌, min}
use native.Mathlib.Nat.{eq-or-lt_of_le, lt_irrefl}
use native.Mathlib.Omega.{arith}
use lib.Dec.{T, leb, leb→le}
use lib.ListN.{get_or, set, length, length-set}
use lib.Seq.{get_or-set_same, get_or-set_other}
use lib.Ieee.{Float, nan, lt, is_nan, to_unsigned}
use Rattle.exact.specs.Single.{◌⊕◌, ◌⊖◌, ◌⊗◌, single, f1, f16}
use Rattle.exact.specs.Order.{magnitude}
use Rattle.interp.specs.Points.{frame_at}
use Rattle.interp.specs.Sinc.{crossings_of, taps, sinc_at}
use Rattle.interp.specs.Places.{place_of, entry_of, part_of, weight_at, tapped_by}
use Rattle.lanes.specs.Four.{Part, Inside, Parts, InFrames, Spot, AtRow, Rows, Low, lane0, lane1, lane2, lane3, Lanes, TapOf, summed, weighted, read_at, no_lanes, place_from, means_of, sinc_four}
use Rattle.interp.specs.declared.sinc.SincSpan.{SincSpan}
use Rattle.interp.specs.Sinc.{Sums}
use Rattle.lanes.specs.declared.four.Four.{Four}
use Rattle.lanes.specs.declared.four.Starts.{Starts}
use Rattle.lanes.specs.declared.four.Tap.{Tap}
use Rattle.interp.proofs.Frames as frames
use Rattle.lanes.proofs.Inner.{inside, no_nan, entry-low}
use Rattle.interp.proofs.Taps.{more_by, in_window, outside}

-- ---- four places stored
abbrev pub put4 : {A : Type 0} → List A → ℕ → A → A → A → A → List A
put4 l m a b c d = set (set (set (set l m a) (m + 1) b) (m + 2) c) (m + 3) d

ne : (j k : ℕ) → j < k → j ≢ k
ne j k h e = lt_irrefl k (subst (λ (z : ℕ). z < k) e h)

module _ {A : Type 0} (l : List A) (m : ℕ) (a b c d z : A) where
  other : (j : ℕ) → j < m → get_or (put4 l m a b c d) j z ≡ get_or l j z
  other j h =
      get_or-set_other (set (set (set l m a) (m + 1) b) (m + 2) c) (m + 3) j d z (ne j (m + 3) (omega arith))
      ∙ get_or-set_other (set (set l m a) (m + 1) b) (m + 2) j c z (ne j (m + 2) (omega arith))
      ∙ get_or-set_other (set l m a) (m + 1) j b z (ne j (m + 1) (omega arith))
      ∙ get_or-set_other l m j a z (ne j m h)

  module _ (h : m + 3 < length l) where
    at0 : get_or (put4 l m a b c d) m z ≡ a
    at0 =
        get_or-set_other (set (set (set l m a) (m + 1) b) (m + 2) c) (m + 3) m d z (ne m (m + 3) (omega arith))
        ∙ get_or-set_other (set (set l m a) (m + 1) b) (m + 2) m c z (ne m (m + 2) (omega arith))
        ∙ get_or-set_other (set l m a) (m + 1) m b z (ne m (m + 1) (omega arith))
        ∙ get_or-set_same l m a z (omega arith)

    at1 : get_or (put4 l m a b c d) (m + 1) z ≡ b
    at1 =
        get_or-set_other (set (set (set l m a) (m + 1) b) (m + 2) c) (m + 3) (m + 1) d z (ne (m + 1) (m + 3) (omega arith))
        ∙ get_or-set_other (set (set l m a) (m + 1) b) (m + 2) (m + 1) c z (ne (m + 1) (m + 2) (omega arith))
        ∙ get_or-set_same (set l m a) (m + 1) b z (simp length-set (omega arith))

    at2 : get_or (put4 l m a b c d) (m + 2) z ≡ c
    at2 =
        get_or-set_other (set (set (set l m a) (m + 1) b) (m + 2) c) (m + 3) (m + 2) d z (ne (m + 2) (m + 3) (omega arith))
        ∙ get_or-set_same (set (set l m a) (m + 1) b) (m + 2) c z (simp length-set (omega arith))

    at3 : get_or (put4 l m a b c d) (m + 3) z ≡ d
    at3 = get_or-set_same (set (set (set l m a) (m + 1) b) (m + 2) c) (m + 3) d z (simp length-set h)

-- what one tap's place is
record Is (span : SincSpan) (f : Float) (k i : ℕ) (g : Float) : Type 0 where
  entry : i ≡ entry_of (crossings_of span f k)
  part : g ≡ part_of (crossings_of span f k)

-- by the distance d of tap k
module _ (span : SincSpan) (f : Float) (k : ℕ) (d : Float) (e : d ≡ single span.half ⊖ f1 ⊖ single k) where
  pub tap-number : Inside span → Part f → k < 2 * span.half → T (not (is_nan ((f ⊕ d) ⊗ span.fc)))
  unfolding crossings_of
  tap-number i p h = rw e (no_nan span f k i p h)

  pub tap-inside : Inside span → Part f → 0 < k → k + 1 < 2 * span.half → T (lt (magnitude ((f ⊕ d) ⊗ span.fc)) f16)
  unfolding crossings_of
  tap-inside i p a b = rw e (inside span f k i p a b)

  -- y is its place
  tap-is : (y : Float) → y ≡ place_of ((f ⊕ d) ⊗ span.fc) → Is span f k (to_unsigned 64 y) (y ⊖ single (to_unsigned 64 y))
  unfolding crossings_of
  tap-is y q =
      let r : y ≡ place_of (crossings_of span f k) = q ∙ ap (λ (z : Float). place_of ((f ⊕ z) ⊗ span.fc)) e in
      record { entry = ap (to_unsigned 64) r; part = ap (λ (z : Float). z ⊖ single (to_unsigned 64 z)) r }

module _ (span : SincSpan) (f : Four) (es : List ℕ) (ps : List Float) (k i0 i1 i2 i3 : ℕ) (g0 g1 g2 g3 : Float) where
  abbrev es' : List ℕ
  es' = put4 es (4 * k) i0 i1 i2 i3

  abbrev ps' : List Float
  ps' = put4 ps (4 * k) g0 g1 g2 g3

  kept : (x : Float) (t j : ℕ) → j < 4 * k → Spot span x es ps t j → Spot span x es' ps' t j
  kept x t j h s = record { entry = other es (4 * k) i0 i1 i2 i3 0 j h ∙ s.entry; part = other ps (4 * k) g0 g1 g2 g3 nan j h ∙ s.part }

  older : (t : ℕ) → t < k → AtRow span f es ps t → AtRow span f es' ps' t
  older t h r =
      record {
        s0 = kept f.x0 t (4 * t) (omega arith) r.s0;
        s1 = kept f.x1 t (4 * t + 1) (omega arith) r.s1;
        s2 = kept f.x2 t (4 * t + 2) (omega arith) r.s2;
        s3 = kept f.x3 t (4 * t + 3) (omega arith) r.s3;
      }

  rows_more : length es ≡ 320 → length ps ≡ 320 → k < 80 → Is span f.x0 k i0 g0 → Is span f.x1 k i1 g1 → Is span f.x2 k i2 g2 → Is span f.x3 k i3 g3 → Rows span f es ps k
      → Rows span f es' ps' (k + 1)
  rows_more a b h q0 q1 q2 q3 r t l = elim (eq-or-lt_of_le {n = t} {m = k} (omega arith)) [ inl e ↦ subst (AtRow span f es' ps') (sym e) newest | inr s ↦ older t s (r t s) ]
    where
      room : 4 * k + 3 < length es
      room = omega (arith, a)

      room' : 4 * k + 3 < length ps
      room' = omega (arith, b)

      newest : AtRow span f es' ps' k
      newest =
          record {
            s0 = record { entry = at0 es (4 * k) i0 i1 i2 i3 0 room ∙ q0.entry; part = at0 ps (4 * k) g0 g1 g2 g3 nan room' ∙ q0.part };
            s1 = record { entry = at1 es (4 * k) i0 i1 i2 i3 0 room ∙ q1.entry; part = at1 ps (4 * k) g0 g1 g2 g3 nan room' ∙ q1.part };
            s2 = record { entry = at2 es (4 * k) i0 i1 i2 i3 0 room ∙ q2.entry; part = at2 ps (4 * k) g0 g1 g2 g3 nan room' ∙ q2.part };
            s3 = record { entry = at3 es (4 * k) i0 i1 i2 i3 0 room ∙ q3.entry; part = at3 ps (4 * k) g0 g1 g2 g3 nan room' ∙ q3.part };
          }

-- the four places y of tap k stored
module _ (span : SincSpan) (f : Four) (k : ℕ) (d : Float) (e : d ≡ single span.half ⊖ f1 ⊖ single k) (y0 y1 y2 y3 : Float) (q0 : y0 ≡ place_of ((f.x0 ⊕ d) ⊗ span.fc)) (q1 : y1 ≡ place_of ((f.x1 ⊕ d) ⊗ span.fc)) (q2 : y2 ≡ place_of ((f.x2 ⊕ d) ⊗ span.fc)) (q3 : y3 ≡ place_of ((f.x3 ⊕ d) ⊗ span.fc)) where
  pub rows-put : (es es' : List ℕ) (ps ps' : List Float) → length es ≡ 320 → length ps ≡ 320 → k < 80 → Rows span f es ps k
      → es' ≡ put4 es (4 * k) (to_unsigned 64 y0) (to_unsigned 64 y1) (to_unsigned 64 y2) (to_unsigned 64 y3)
      → ps' ≡ put4 ps (4 * k) (y0 ⊖ single (to_unsigned 64 y0)) (y1 ⊖ single (to_unsigned 64 y1)) (y2 ⊖ single (to_unsigned 64 y2)) (y3 ⊖ single (to_unsigned 64 y3))
      → Rows span f es' ps' (k + 1) × (length es' ≡ 320) × (length ps' ≡ 320)
  rows-put es es' ps ps' a b h r u v =
      rw (u, v) (
        rows_more span f es ps k _ _ _ _ _ _ _ _ a b h (tap-is span f.x0 k d e y0 q0) (tap-is span f.x1 k d e y1 q1) (tap-is span f.x2 k d e y2 q2) (tap-is span f.x3 k d e y3 q3) r,
        simp length-set a,
        simp length-set b,
      )

pub rows_at : (span : SincSpan) (f : Four) (es : List ℕ) (ps : List Float) (j k : ℕ) → j ≡ k → Rows span f es ps j → Rows span f es ps k
rows_at span f es ps j k e r = subst (λ (i : ℕ). Rows span f es ps i) e r

pub away-at : (half : ℕ) (d : Float) (j k : ℕ) → j ≡ k → d ≡ single half ⊖ f1 ⊖ single j → d ≡ single half ⊖ f1 ⊖ single k
away-at half d j k e q = q ∙ ap (λ (i : ℕ). single half ⊖ f1 ⊖ single i) e

pub rows_none : (span : SincSpan) (f : Four) (es : List ℕ) (ps : List Float) → Rows span f es ps 0
rows_none span f es ps t h = absurd (none t h)
  where
    none : (j : ℕ) → j < 0 → ⊥
    none j h = omega arith

-- ---- a tap that is picked or not
module _ (table : List Float) (i : ℕ) (g x : Float) (s : Sums) where
  picked : (w : Float) (b : Bool) → w ≡ weight_at table (min i 8192) g → b ≡ leb i 8192
      → ◌≡◌ {A = Sums} (record { acc = cond b (s.acc ⊕ w ⊗ x) s.acc; wsum = cond b (s.wsum ⊕ w) s.wsum }) (tapped_by table i g x s)
  picked w b p q = go (leb i 8192) refl
    where
      go : (t : Bool) → leb i 8192 ≡ t → ◌≡◌ {A = Sums} (record { acc = cond b (s.acc ⊕ w ⊗ x) s.acc; wsum = cond b (s.wsum ⊕ w) s.wsum }) (tapped_by table i g x s)
      go true e =
          let l : i ≤ 8192 = leb→le i 8192 (subst T (sym e) tt) in
          let m : min i 8192 ≡ i = omega arith in
          rw (q, e) (in_window table i g x s l _ _ (rw (p, m)) (rw (p, m)))
      go false e = rw (q, e) (outside table i g x s e)

-- ---- the sums
-- the first k taps of each frame
pub record Tapped (table frames : List Float) (span : SincSpan) (n : Starts) (f : Four) (k : ℕ) (s : Lanes) : Type 0 where
  pub l0 : lane0 s ≡ taps table frames span (place_from span n.n0) f.x0 k
  pub l1 : lane1 s ≡ taps table frames span (place_from span n.n1) f.x1 k
  pub l2 : lane2 s ≡ taps table frames span (place_from span n.n2) f.x2 k
  pub l3 : lane3 s ≡ taps table frames span (place_from span n.n3) f.x3 k

here : (l : List Float) (i half k : ℕ) → i + k < length l → get_or l (i + k) nan ≡ frame_at l (i + 41 + half + 1 + k - half)
here l i half k h =
    let e : i + 41 + half + 1 + k - half ≡ i + k + 42 = omega arith in
    let b : i + k + 42 - 42 ≡ i + k = omega arith in
    rw e (subst (λ (j : ℕ). get_or l j nan ≡ frame_at l (i + k + 42)) b (frames.inside l (i + k + 42) nan (omega arith) (omega arith)))

module _ (table l : List Float) (span : SincSpan) (n : Starts) (f : Four) (es : List ℕ) (ps : List Float) where
  pub tapped-row : (k : ℕ) (s r : Lanes) (t : Tap) → AtRow span f es ps k → InFrames n (2 * span.half) l → k < 2 * span.half → TapOf table es ps k t
      → r ≡ record { acc = summed t (read_at l n k) s.acc; wsum = weighted t s.wsum } → Tapped table l span n f k s → Tapped table l span n f (k + 1) r
  tapped-row k s r t p b h w e u =
      record {
        l0 = more_by table l span (place_from span n.n0) f.x0 k (lane0 s) u.l0 (lane0 r) _ _ _ (ap lane0 e ∙ picked table _ _ _ (lane0 s) _ _ w.w0 w.in0) p.s0.entry p.s0.part (here l n.n0 span.half k (omega (arith, b.n0)));
        l1 = more_by table l span (place_from span n.n1) f.x1 k (lane1 s) u.l1 (lane1 r) _ _ _ (ap lane1 e ∙ picked table _ _ _ (lane1 s) _ _ w.w1 w.in1) p.s1.entry p.s1.part (here l n.n1 span.half k (omega (arith, b.n1)));
        l2 = more_by table l span (place_from span n.n2) f.x2 k (lane2 s) u.l2 (lane2 r) _ _ _ (ap lane2 e ∙ picked table _ _ _ (lane2 s) _ _ w.w2 w.in2) p.s2.entry p.s2.part (here l n.n2 span.half k (omega (arith, b.n2)));
        l3 = more_by table l span (place_from span n.n3) f.x3 k (lane3 s) u.l3 (lane3 r) _ _ _ (ap lane3 e ∙ picked table _ _ _ (lane3 s) _ _ w.w3 w.in3) p.s3.entry p.s3.part (here l n.n3 span.half k (omega (arith, b.n3)));
      }

pub low-row : (span : SincSpan) (f : Four) (es : List ℕ) (ps : List Float) (k : ℕ) → Inside span → Parts f → 0 < k → k + 1 < 2 * span.half → AtRow span f es ps k → Low es k
low-row span f es ps k i p a b r =
    record {
      e0 = rw r.s0.entry (entry-low span f.x0 k i p.f0 a b);
      e1 = rw r.s1.entry (entry-low span f.x1 k i p.f1 a b);
      e2 = rw r.s2.entry (entry-low span f.x2 k i p.f2 a b);
      e3 = rw r.s3.entry (entry-low span f.x3 k i p.f3 a b);
    }

-- fewer taps lie in the frames where more do
pub in-frames : (n : Starts) (l : List Float) (j m : ℕ) → j ≤ m → InFrames n m l → InFrames n j l
in-frames n l j m h b = record { n0 = omega (arith, b.n0); n1 = omega (arith, b.n1); n2 = omega (arith, b.n2); n3 = omega (arith, b.n3) }

module _ (table l : List Float) (span : SincSpan) (n : Starts) (f : Four) where
  pub tapped-none : (s : Lanes) → s ≡ no_lanes → Tapped table l span n f 0 s
  unfolding taps
  tapped-none s e = rw e record { l0 = refl; l1 = refl; l2 = refl; l3 = refl }

  pub tapped-at : (j k : ℕ) (s : Lanes) → j ≡ k → Tapped table l span n f j s → Tapped table l span n f k s
  tapped-at j k s e t = subst (λ (i : ℕ). Tapped table l span n f i s) e t

  pub all-taps : (r : Lanes) → Tapped table l span n f (2 * span.half) r → means_of r.acc r.wsum ≡ sinc_four table l span n f
  unfolding means_of sinc_four sinc_at
  all-taps r u = rw (u.l0, u.l1, u.l2, u.l3)
