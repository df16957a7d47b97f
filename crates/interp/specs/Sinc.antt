-- The windowed sinc. Definitions only.
use Rattle.std.specs.Prelude.{ℕ, zero, suc, ◌+◌, ◌-◌, ◌*◌, cond, List, slice_index_or, Float}
use Rattle.std.specs.Float.{nan}
use Rattle.std.specs.Float.Ieee.{lt, ne, to_unsigned}
use Rattle.exact.specs.Single.{◌⊕◌, ◌⊖◌, ◌⊗◌, ◌⊘◌, single, f0, f1, f16, f512}
use Rattle.exact.specs.Order.{magnitude}
use Rattle.interp.specs.Points.{frame_at}
use Rattle.interp.specs.declared.sinc.SincSpan.{SincSpan}

-- The window at u zero crossings from its middle. The table has 512 points to a crossing; between two of them it is read on a line.
unfoldable pub window_at : List Float → Float → Float
window_at table u =
    let x = u ⊗ f512 in
    let i = to_unsigned 64 x in
    let f = x ⊖ single i in
    let a = slice_index_or table i nan in
    let b = slice_index_or table (i + 1) nan in
    a ⊕ f ⊗ (b ⊖ a)

-- How far tap k lies from the position, in zero crossings: f + (half - 1 - k) frames, times the cutoff
unfoldable pub crossings_of : SincSpan → Float → ℕ → Float
crossings_of span f k = (f ⊕ (single span.half ⊖ f1 ⊖ single k)) ⊗ span.fc

-- the sum of the weighted frames, and of the weights
pub record Sums : Type 0 where
  pub acc : Float
  pub wsum : Float

-- one tap more: the frame x, v zero crossings away, where the window, which has 16 on each side, reaches that far
unfoldable pub tapped : List Float → Float → Float → Sums → Sums
tapped table v x s =
    let u = magnitude v in
    let w = window_at table u in
    cond (lt u f16) (record { acc = s.acc ⊕ w ⊗ x; wsum = s.wsum ⊕ w }) s

-- the first k taps; tap k stands half - 1 - k places before place n
unfoldable pub taps : List Float → List Float → SincSpan → ℕ → Float → ℕ → Sums
taps table frames span n f zero = record { acc = f0; wsum = f0 }
taps table frames span n f (suc k) =
    tapped table (crossings_of span f k) (frame_at frames (n + 1 + k - span.half)) (taps table frames span n f k)

-- the sum over the sum of the weights, and 0 where that is 0
unfoldable pub mean_of : Sums → Float
mean_of s = cond (ne s.wsum f0) (s.acc ⊘ s.wsum) f0

-- the frames around place n + f
unfoldable pub sinc_at : List Float → List Float → SincSpan → ℕ → Float → Float
sinc_at table frames span n f = mean_of (taps table frames span n f (2 * span.half))
