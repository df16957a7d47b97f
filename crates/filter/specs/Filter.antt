-- A player's filters, one frame at a time, in single precision: each product and each sum is rounded on its own, in the order written.
-- Definitions only.
use Rattle.std.specs.Prelude.{Bool, true, false, List, ℕ, zero, suc, ◌+◌, ◌*◌, ◌≤◌, get_or, set, Float}
use Rattle.std.specs.Float.{nan, binary32}
use Rattle.std.specs.Float.Ieee.{add, sub, mul, of_bits}
use Rattle.filter.specs.declared.Coefficients.{Coefficients}
use Rattle.filter.specs.declared.FilterShape.{FilterShape}
use Rattle.filter.specs.declared.FilterShape.TheVariants.{Off, Lp1, Hp1, Biquad}

infixl 6 ◌⊕◌
infixl 6 ◌⊖◌
infixl 7 ◌⊗◌
abbrev ◌⊕◌ : Float → Float → Float
a ⊕ b = add binary32 a b

abbrev ◌⊖◌ : Float → Float → Float
a ⊖ b = sub binary32 a b

abbrev ◌⊗◌ : Float → Float → Float
a ⊗ b = mul binary32 a b

-- 1.0 and 0.5
abbrev one : Float
one = of_bits binary32 0x3f80_0000

abbrev half : Float
half = of_bits binary32 0x3f00_0000

-- the state in place i
abbrev at : List Float → ℕ → Float
at states i = get_or states i nan

-- one channel of a frame: the sample, and the states of all slots
pub record Ticked : Type 0 where
  pub y : Float
  pub states : List Float

-- One biquad stage in transposed direct form II, z1 in place i and z2 in the next:
-- y = b0 x + z1, z1' = b1 x - a1 y + z2, z2' = b2 x - a2 y
unfoldable pub stage_at : Coefficients → ℕ → Ticked → Ticked
stage_at c i s =
    let x = s.y in
    let z1 = at s.states i in
    let z2 = at s.states (i + 1) in
    let y = c.b0 ⊗ x ⊕ z1 in
    let z1' = c.b1 ⊗ x ⊖ c.a1 ⊗ y ⊕ z2 in
    let z2' = c.b2 ⊗ x ⊖ c.a2 ⊗ y in
    record { y = y; states = set (set s.states i z1') (i + 1) z2' }

-- n stages one after the other, each with two places from base on
unfoldable pub stages : Coefficients → ℕ → ℕ → Ticked → Ticked
stages c base zero s = s
stages c base (suc n) s = stage_at c (base + 2 * n) (stages c base n s)

-- the input x and the output y, kept as a one-pole's x1 and y1
abbrev one_pole : ℕ → Float → Float → List Float → Ticked
one_pole base x y states = record { y = y; states = set (set states base x) (base + 1) y }

-- one channel of a frame through a slot, whose places for that channel start at base
unfoldable pub ticked : FilterShape → ℕ → Ticked → Ticked
ticked Off base s = s
ticked (Lp1 p) base s =
    let x = s.y in
    let y1 = at s.states (base + 1) in
    one_pole base x ((one ⊖ p) ⊗ x ⊕ p ⊗ y1) s.states
ticked (Hp1 p) base s =
    let x = s.y in
    let x1 = at s.states base in
    let y1 = at s.states (base + 1) in
    one_pole base x (half ⊗ (one ⊕ p) ⊗ (x ⊖ x1) ⊕ p ⊗ y1) s.states
ticked (Biquad c n) base s = stages c base n s

-- how many biquad stages a shape has
abbrev pub stage_count : FilterShape → ℕ
stage_count Off = 0
stage_count (Lp1 p) = 0
stage_count (Hp1 p) = 0
stage_count (Biquad c n) = n

-- both channels of a frame, and the states of all slots
pub record Paired : Type 0 where
  pub l : Float
  pub r : Float
  pub states : List Float

-- both channels through slot k; a mono frame's right channel passes by
unfoldable pub pair_ticked : FilterShape → ℕ → Bool → Paired → Paired
pair_ticked shape k true s =
    let left = ticked shape (12 * k) (record { y = s.l; states = s.states }) in
    let right = ticked shape (12 * k + 6) (record { y = s.r; states = left.states }) in
    record { l = left.y; r = right.y; states = right.states }
pair_ticked shape k false s =
    let left = ticked shape (12 * k) (record { y = s.l; states = s.states }) in
    record { l = left.y; r = s.r; states = left.states }

-- the shape of slot k; off past the last
abbrev pub shape_at : List FilterShape → ℕ → FilterShape
shape_at slots k = get_or slots k Off

-- through the first n slots, in their order
unfoldable pub chained : List FilterShape → Bool → ℕ → Paired → Paired
chained slots stereo zero s = s
chained slots stereo (suc n) s = pair_ticked (shape_at slots n) n stereo (chained slots stereo n s)

-- no slot has more than three stages
abbrev pub AllStages : List FilterShape → Type 0
AllStages slots = (k : ℕ) → stage_count (shape_at slots k) ≤ 3
