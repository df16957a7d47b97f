-- Where a tap of the windowed sinc falls in the table. Definitions only.
use Rattle.std.specs.Prelude.{◌≡◌, ℕ, ◌+◌, ◌<◌, cond, List, get_or, nat_le, slice_index, slice_index_or, Float}
use Rattle.std.specs.Float.{nan}
use Rattle.std.specs.Float.Ieee.{lt, to_unsigned}
use Rattle.exact.specs.Single.{◌⊕◌, ◌⊖◌, ◌⊗◌, single, f16, f512, f8193}
use Rattle.exact.specs.Order.{magnitude}
use Rattle.interp.specs.Sinc.{Sums, crossings_of}
use Rattle.interp.specs.declared.sinc.SincSpan.{SincSpan}

-- the place of what is v zero crossings away, in entries of the table; behind the last one where the window does not reach that far
unfoldable pub place_of : Float → Float
place_of v = cond (lt (magnitude v) f16) (magnitude v ⊗ f512) f8193

-- the entry at or before it, and the part of the way to the next one
abbrev pub entry_of : Float → ℕ
entry_of v = to_unsigned 64 (place_of v)

abbrev pub part_of : Float → Float
part_of v = place_of v ⊖ single (entry_of v)

-- the weight by the table between the entries i and i + 1
unfoldable pub weight_at : List Float → ℕ → Float → Float
weight_at table i g =
    let a = get_or table i nan in
    let b = get_or table (i + 1) nan in
    a ⊕ g ⊗ (b ⊖ a)

-- one tap more: the frame x, by that weight
unfoldable pub tapped_by : List Float → ℕ → Float → Float → Sums → Sums
tapped_by table i g x s =
    let w = weight_at table i g in
    cond (nat_le i 8192) (record { acc = s.acc ⊕ w ⊗ x; wsum = s.wsum ⊕ w }) s

-- the places of the first k taps
pub record Placed (span : SincSpan) (f : Float) (entries : List ℕ) (parts : List Float) (k : ℕ) : Type 0 where
  pub entry : (j : ℕ) → j < k → slice_index entries j ≡ entry_of (crossings_of span f j)
  pub part : (j : ℕ) → j < k → slice_index_or parts j nan ≡ part_of (crossings_of span f j)
