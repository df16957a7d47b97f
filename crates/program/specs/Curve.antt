-- A region's velocity curve: the Rust's `velcurve_table`. Definitions only.
use Rattle.std.specs.Prelude.{ℕ, zero, suc, ◌+◌, ◌-◌, min, Bool, true, false, cond, ◌&&◌, List, [], ◌∷◌, map, fold, leb, eqb, pos, Float}
use Rattle.std.specs.List.{range_with_len}
use Rattle.std.specs.Float.{binary32}
use Rattle.std.specs.Float.Ieee.{add, sub, mul, div, of_int}
use Rattle.program.specs.declared.curve.Point.{Point}
use Rattle.program.specs.declared.curve.Near.{Near}
use Rattle.program.specs.Region.{float_of, word, words_of}

-- the point that its two words mean; a velocity above 127 counts as 127
abbrev pub point_of_words : ℕ → ℕ → Point
point_of_words v g = record { velocity = min v 127; gain = float_of g }

-- the k-th velocity point of a region's words r
abbrev pub point_of : List ℕ → ℕ → Point
point_of r k = point_of_words (word r (136 + k)) (word r (264 + k))

-- the region's points: as many as word 29 says, and never more than 128
abbrev pub points_of : List ℕ → List Point
points_of r = map (point_of r) (range_with_len 0 (min (word r 29) 128))

-- a velocity's gain: given by a point, or unset
pub data Gain : Type 0 where
  unset : Gain
  given : Float → Gain

abbrev pub is_given : Gain → Bool
is_given unset = false
is_given (given g) = true

abbrev pub number_of : Gain → Float
number_of unset = float_of 0
number_of (given g) = g

-- 0.0 at velocity 0 and 1.0 at 127
unfoldable pub preset : ℕ → Gain
preset v = cond (eqb v 0) (given (float_of 0)) (cond (eqb v 127) (given (float_of 0x3f80_0000)) unset)

unfoldable pub put : Point → (ℕ → Gain) → ℕ → Gain
put p tab v = cond (eqb v p.velocity) (given p.gain) (tab v)

-- point after point, so that a later one wins
unfoldable pub table_of : (ℕ → Gain) → List Point → ℕ → Gain
table_of tab [] = tab
table_of tab (p ∷ ps) = table_of (put p tab) ps

-- the nearest velocity with a given gain: from v down to 0, and from v up, at most n
unfoldable pub lower : (ℕ → Gain) → ℕ → ℕ
lower tab zero = zero
lower tab (suc v) = cond (is_given (tab (suc v))) (suc v) (lower tab v)

unfoldable pub upper : (ℕ → Gain) → ℕ → ℕ → ℕ
upper tab v zero = v
upper tab v (suc n) = cond (is_given (tab v)) v (upper tab (v + 1) n)

-- between two points, in singles
abbrev pub linear : Point → Point → ℕ → Float
linear p q v =
    cond (eqb p.velocity q.velocity) p.gain
    (add binary32 p.gain (mul binary32 (div binary32 (of_int binary32 (pos (v - p.velocity))) (of_int binary32 (pos (q.velocity - p.velocity)))) (sub binary32 q.gain p.gain)))

-- the point of a table at a velocity
abbrev pub entry : (ℕ → Gain) → ℕ → Point
entry tab v = record { velocity = v; gain = number_of (tab v) }

abbrev pub gain_at : (ℕ → Gain) → ℕ → Float
gain_at tab v = linear (entry tab (lower tab v)) (entry tab (upper tab v (127 - v))) v

unfoldable pub velcurve_table : List Point → List Float
velcurve_table ps = map (gain_at (table_of preset ps)) (range_with_len 0 128)

-- entry v of region i's table; a velocity above 127 counts as 127
unfoldable pub velcurve_at : List ℕ → ℕ → ℕ → Float
velcurve_at ws i vel = gain_at (table_of preset (points_of (words_of ws i))) (min vel 127)

-- One pass instead of a table: the given gains nearest to v from below and from above.
unfoldable pub near_step : ℕ → Near → Point → Near
near_step v s p = record {
  lo = cond (leb s.lo.velocity p.velocity && leb p.velocity v) p s.lo;
  hi = cond (leb v p.velocity && leb p.velocity s.hi.velocity) p s.hi;
}

abbrev pub near_of : ℕ → Near → List Point → Near
near_of v s ps = fold (near_step v) s ps

-- before any point: velocities 0 and 127 have their gains
abbrev pub silent : Point
silent = record { velocity = 0; gain = float_of 0 }

abbrev pub loud : Point
loud = record { velocity = 127; gain = float_of 0x3f80_0000 }

abbrev pub near_first : ℕ → Near
near_first v = record { lo = cond (eqb v 127) loud silent; hi = cond (eqb v 0) silent loud }
