-- One tap more, and the last one. Assumes nothing.
use Rattle.std.proofs.Common.{◌≡◌, ℕ, false, leb, ◌+◌, ◌-◌, ◌*◌, ◌≤◌, List, refl, ap, ◌∙◌, le_antisymm, add-one, le-leb}
use lib.Ieee.{Float}
use Rattle.exact.specs.Single.{◌⊕◌, ◌⊗◌, f0}
use Rattle.interp.specs.Points.{frame_at}
use Rattle.interp.specs.Sinc.{Sums, crossings_of, tapped, taps, mean_of, sinc_at}
use Rattle.interp.specs.Places.{entry_of, part_of, weight_at, tapped_by}
use Rattle.interp.specs.declared.sinc.SincSpan.{SincSpan}
use Rattle.interp.proofs.Table.{by_place}

-- ---- by its place in the table: a tap in the window, and one outside it
module _ (table : List Float) (i : ℕ) (g x : Float) (s : Sums) where
  pub in_window : i ≤ 8192 → (a w : Float) → a ≡ s.acc ⊕ weight_at table i g ⊗ x → w ≡ s.wsum ⊕ weight_at table i g
      → ◌≡◌ {A = Sums} (record { acc = a; wsum = w }) (tapped_by table i g x s)
  unfolding tapped_by
  in_window h a w p q = rw (p, q, le-leb i 8192 h)

  pub outside : leb i 8192 ≡ false → s ≡ tapped_by table i g x s
  unfolding tapped_by
  outside e = rw e

module _ (table frames : List Float) (span : SincSpan) (n : ℕ) (f : Float) (k : ℕ) (s : Sums) (e : s ≡ taps table frames span n f k) where
  pub more : (r : Sums) (v x : Float) → r ≡ tapped table v x s → v ≡ crossings_of span f k → x ≡ frame_at frames (n + 1 + k - span.half)
      → r ≡ taps table frames span n f (k + 1)
  unfolding taps
  more r v x t p q = rw (add-one, ← e, ← p, ← q) t

  -- by the tap's place
  pub more_by : (r : Sums) (i : ℕ) (g x : Float) → r ≡ tapped_by table i g x s → i ≡ entry_of (crossings_of span f k) → g ≡ part_of (crossings_of span f k)
      → x ≡ frame_at frames (n + 1 + k - span.half) → r ≡ taps table frames span n f (k + 1)
  more_by r i g x t p q y = more r (crossings_of span f k) x (t ∙ ap (λ (j : ℕ). tapped_by table j g x s) p ∙ ap (λ (h : Float). tapped_by table (entry_of (crossings_of span f k)) h x s) q ∙ by_place table (crossings_of span f k) x s) refl y

  pub last : k ≤ 2 * span.half → 2 * span.half ≤ k → mean_of s ≡ sinc_at table frames span n f
  unfolding sinc_at
  last a b = ap mean_of (rw (le_antisymm a b) at e)

pub none_yet : (table frames : List Float) (span : SincSpan) (n : ℕ) (f a : Float) → a ≡ f0 → ◌≡◌ {A = Sums} (record { acc = a; wsum = f0 }) (taps table frames span n f 0)
unfolding taps
none_yet table frames span n f a e = rw e
