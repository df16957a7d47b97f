-- The kernels of two and of four points. Definitions only.
use Rattle.std.specs.Prelude.{ℕ, ◌+◌, ◌-◌, cond, List, [], ◌∷◌, nat_le, slice_index_or, Float}
use Rattle.std.specs.Float.Ieee.{lt, neg}
use Rattle.exact.specs.Single.{◌⊕◌, ◌⊖◌, ◌⊗◌, f0, f0_5, f1, f1_5, f2, f2_5, f4}
use Rattle.exact.specs.Order.{magnitude}

-- how many frames of silence a channel has in front: `PCM_PAD`
abbrev pub pad : ℕ
pad = 42

-- The frame in place n of a channel with silence in front and silence behind: place n is frame n - 42 of the sample.
-- Places count from the silence, so that none that a kernel draws on is below 0.
unfoldable pub frame_at : List Float → ℕ → Float
frame_at frames n = cond (nat_le pad n) (slice_index_or frames (n - pad) f0) f0

-- the Catmull-Rom weight below the distance 1: 1 - 2.5 d² + 1.5 d³
abbrev pub near_weight : Float → Float
near_weight d = f1 ⊖ f2_5 ⊗ (d ⊗ d) ⊕ f1_5 ⊗ (d ⊗ d ⊗ d)

-- from 1 to 2: 2 - 4 d + 2.5 d² - 0.5 d³
abbrev pub far_weight : Float → Float
far_weight d = f2 ⊖ f4 ⊗ d ⊕ f2_5 ⊗ (d ⊗ d) ⊖ f0_5 ⊗ (d ⊗ d ⊗ d)

-- the weight of what lies x away; 0 from the distance 2 on
unfoldable pub weight3 : Float → Float
weight3 x = let d = magnitude x in cond (lt d f1) (near_weight d) (cond (lt d f2) (far_weight d) f0)

-- between the frames in the places n and n + 1, by f
unfoldable pub linear_at : List Float → ℕ → Float → Float
linear_at frames n f =
    let a = frame_at frames n in
    let b = frame_at frames (n + 1) in
    a ⊕ f ⊗ (b ⊖ a)

-- the weights of the frames around a position that lies f behind the second of them
abbrev pub weights_at : Float → List Float
weights_at f = weight3 (neg f1 ⊖ f) ∷ weight3 (neg f) ∷ weight3 (f1 ⊖ f) ∷ weight3 (f2 ⊖ f) ∷ []

-- the frames in the places n - 1 to n + 2, each by the weight of its distance from n + f
unfoldable pub hermite_at : List Float → ℕ → Float → Float
hermite_at frames n f =
    weight3 (neg f1 ⊖ f) ⊗ frame_at frames (n - 1)
    ⊕ weight3 (neg f) ⊗ frame_at frames n
    ⊕ weight3 (f1 ⊖ f) ⊗ frame_at frames (n + 1)
    ⊕ weight3 (f2 ⊖ f) ⊗ frame_at frames (n + 2)
