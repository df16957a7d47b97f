-- Four frames by the windowed sinc, the same tap of all four side by side. Definitions only.
use Rattle.std.specs.Prelude.{◌≡◌, cond, List, ℕ, ◌+◌, ◌*◌, ◌≤◌, ◌<◌, min, nat_le, T, get_or, length, Float}
use Rattle.std.specs.Float.{nan}
use Rattle.std.specs.Float.Ieee.{lt, le}
use Rattle.exact.specs.Value.{plus}
use Rattle.exact.specs.Single.{◌⊕◌, ◌⊖◌, ◌⊗◌, single, f0, f1, f16, f8193}
use Rattle.exact.specs.Order.{magnitude}
use Rattle.interp.specs.Sinc.{Sums, crossings_of, mean_of, sinc_at}
use Rattle.interp.specs.Places.{entry_of, part_of, weight_at}
use Rattle.interp.specs.declared.sinc.SincSpan.{SincSpan}
use Rattle.lanes.specs.declared.four.Four.{Four}
use Rattle.lanes.specs.declared.four.Starts.{Starts}
use Rattle.lanes.specs.declared.four.Tap.{Tap}

-- how far a position lies behind its frame: from 0 to 1
abbrev pub Part : Float → Type 0
Part f = T (plus f) × T (le f f1)

pub record Parts (f : Four) : Type 0 where
  pub f0 : Part f.x0
  pub f1 : Part f.x1
  pub f2 : Part f.x2
  pub f3 : Part f.x3

-- what lies half - 1 frames away is in the window: so is every tap but the first and the last
pub record Inside (span : SincSpan) : Type 0 where
  pub least : 2 ≤ span.half
  pub most : span.half ≤ 40
  pub reach : T (lt (magnitude ((single span.half ⊖ f1) ⊗ span.fc)) f16)

-- the four channels' frames that m taps read, from the starts on
pub record InFrames (n : Starts) (m : ℕ) (frames : List Float) : Type 0 where
  pub n0 : n.n0 + m ≤ length frames
  pub n1 : n.n1 + m ≤ length frames
  pub n2 : n.n2 + m ≤ length frames
  pub n3 : n.n3 + m ≤ length frames

-- in place j the place of tap k of a frame
pub record Spot (span : SincSpan) (f : Float) (es : List ℕ) (ps : List Float) (k j : ℕ) : Type 0 where
  pub entry : get_or es j 0 ≡ entry_of (crossings_of span f k)
  pub part : get_or ps j nan ≡ part_of (crossings_of span f k)

-- tap k of the four frames has the places 4 k to 4 k + 3
pub record AtRow (span : SincSpan) (f : Four) (es : List ℕ) (ps : List Float) (k : ℕ) : Type 0 where
  pub s0 : Spot span f.x0 es ps k (4 * k)
  pub s1 : Spot span f.x1 es ps k (4 * k + 1)
  pub s2 : Spot span f.x2 es ps k (4 * k + 2)
  pub s3 : Spot span f.x3 es ps k (4 * k + 3)

abbrev pub Rows : SincSpan → Four → List ℕ → List Float → ℕ → Type 0
Rows span f es ps n = (k : ℕ) → k < n → AtRow span f es ps k

-- row k lies in the table
pub record Low (es : List ℕ) (k : ℕ) : Type 0 where
  pub e0 : get_or es (4 * k) 0 ≤ 8192
  pub e1 : get_or es (4 * k + 1) 0 ≤ 8192
  pub e2 : get_or es (4 * k + 2) 0 ≤ 8192
  pub e3 : get_or es (4 * k + 3) 0 ≤ 8192

-- four places, each in the table or just behind it
pub record Few (y : Four) : Type 0 where
  pub x0 : T (plus y.x0) × T (le y.x0 f8193)
  pub x1 : T (plus y.x1) × T (le y.x1 f8193)
  pub x2 : T (plus y.x2) × T (le y.x2 f8193)
  pub x3 : T (plus y.x3) × T (le y.x3 f8193)

-- t is tap k: by the table the weights, and whether each lies in the window
pub record TapOf (table : List Float) (es : List ℕ) (ps : List Float) (k : ℕ) (t : Tap) : Type 0 where
  pub w0 : t.w.x0 ≡ weight_at table (min (get_or es (4 * k) 0) 8192) (get_or ps (4 * k) nan)
  pub w1 : t.w.x1 ≡ weight_at table (min (get_or es (4 * k + 1) 0) 8192) (get_or ps (4 * k + 1) nan)
  pub w2 : t.w.x2 ≡ weight_at table (min (get_or es (4 * k + 2) 0) 8192) (get_or ps (4 * k + 2) nan)
  pub w3 : t.w.x3 ≡ weight_at table (min (get_or es (4 * k + 3) 0) 8192) (get_or ps (4 * k + 3) nan)
  pub in0 : t.in0 ≡ nat_le (get_or es (4 * k) 0) 8192
  pub in1 : t.in1 ≡ nat_le (get_or es (4 * k + 1) 0) 8192
  pub in2 : t.in2 ≡ nat_le (get_or es (4 * k + 2) 0) 8192
  pub in3 : t.in3 ≡ nat_le (get_or es (4 * k + 3) 0) 8192

-- x by the weights, on top of s
abbrev pub summed : Tap → Four → Four → Four
summed t x s = record {
  x0 = cond t.in0 (s.x0 ⊕ t.w.x0 ⊗ x.x0) s.x0;
  x1 = cond t.in1 (s.x1 ⊕ t.w.x1 ⊗ x.x1) s.x1;
  x2 = cond t.in2 (s.x2 ⊕ t.w.x2 ⊗ x.x2) s.x2;
  x3 = cond t.in3 (s.x3 ⊕ t.w.x3 ⊗ x.x3) s.x3;
}

-- the weights, on top of s
abbrev pub weighted : Tap → Four → Four
weighted t s = record {
  x0 = cond t.in0 (s.x0 ⊕ t.w.x0) s.x0;
  x1 = cond t.in1 (s.x1 ⊕ t.w.x1) s.x1;
  x2 = cond t.in2 (s.x2 ⊕ t.w.x2) s.x2;
  x3 = cond t.in3 (s.x3 ⊕ t.w.x3) s.x3;
}

-- the frames of tap k
abbrev pub read_at : List Float → Starts → ℕ → Four
read_at frames n k = record {
  x0 = get_or frames (n.n0 + k) nan;
  x1 = get_or frames (n.n1 + k) nan;
  x2 = get_or frames (n.n2 + k) nan;
  x3 = get_or frames (n.n3 + k) nan;
}

-- one channel's sums of four frames
pub record Lanes : Type 0 where
  pub acc : Four
  pub wsum : Four

abbrev pub no_lanes : Lanes
no_lanes = record { acc = record { x0 = f0; x1 = f0; x2 = f0; x3 = f0 }; wsum = record { x0 = f0; x1 = f0; x2 = f0; x3 = f0 } }

-- each frame's part of the four frames' sums
abbrev pub lane0 : Lanes → Sums
lane0 s = record { acc = s.acc.x0; wsum = s.wsum.x0 }

abbrev pub lane1 : Lanes → Sums
lane1 s = record { acc = s.acc.x1; wsum = s.wsum.x1 }

abbrev pub lane2 : Lanes → Sums
lane2 s = record { acc = s.acc.x2; wsum = s.wsum.x2 }

abbrev pub lane3 : Lanes → Sums
lane3 s = record { acc = s.acc.x3; wsum = s.wsum.x3 }

-- The place whose first tap is frame i. Places begin 42 before the first frame.
abbrev pub place_from : SincSpan → ℕ → ℕ
place_from span i = i + 41 + span.half

-- the sums over the sums of the weights
unfoldable pub means_of : Four → Four → Four
means_of a w = record {
  x0 = mean_of (record { acc = a.x0; wsum = w.x0 });
  x1 = mean_of (record { acc = a.x1; wsum = w.x1 });
  x2 = mean_of (record { acc = a.x2; wsum = w.x2 });
  x3 = mean_of (record { acc = a.x3; wsum = w.x3 });
}

-- four frames, each by its own part of the way
unfoldable pub sinc_four : List Float → List Float → SincSpan → Starts → Four → Four
sinc_four table frames span n f = record {
  x0 = sinc_at table frames span (place_from span n.n0) f.x0;
  x1 = sinc_at table frames span (place_from span n.n1) f.x1;
  x2 = sinc_at table frames span (place_from span n.n2) f.x2;
  x3 = sinc_at table frames span (place_from span n.n3) f.x3;
}
