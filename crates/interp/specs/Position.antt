-- A position in a sample, in double precision, counted in frames. Definitions only.
use Rattle.std.specs.Prelude.{ℕ, zero, suc, ◌+◌, ◌-◌, ◌*◌, ◌/◌, Bool, cond, T, pos, from_bits, Float}
use Rattle.std.specs.Float.{nan, inf, fin, binary64}
use Rattle.std.specs.Float.Ieee.{up, down, sub, le, eq, round, of_int}
use Rattle.exact.specs.Narrow.{narrowed}

-- 0.0 and 8589934592.0
abbrev pub first : Float
first = from_bits binary64 0

abbrev pub furthest : Float
furthest = from_bits binary64 0x4200_0000_0000_0000

-- from 0 to 2 ^ 33
pub record Position (p : Float) : Type 0 where
  pub low : T (le first p)
  pub high : T (le p furthest)

-- the largest whole number up to a position; a zero keeps its sign
unfoldable pub floored : Float → Float
floored nan = nan
floored (inf s) = inf s
floored (fin s m e) = round binary64 s (m * up e / down e) 1

-- how far a position lies behind its frame
unfoldable pub fraction : Float → Float
fraction p = narrowed (sub binary64 p (floored p))

-- whether a position is a frame
unfoldable pub is_whole : Float → Bool
is_whole p = eq (sub binary64 p (floored p)) first

-- the double of a whole number
abbrev pub double : ℕ → Float
double n = of_int binary64 (pos n)

-- p less size, again while it is limit or more, but at most n times
unfoldable pub less_while : (limit size : Float) → ℕ → Float → Float
less_while limit size zero p = p
less_while limit size (suc n) p = cond (le limit p) (less_while limit size n (sub binary64 p size)) p

-- A position in a loop of the frames a to b, which starts over at b + 1. A position is at most 2 ^ 33 and a loop has a frame or more,
-- so the loop's size comes off at most 2 ^ 33 times.
unfoldable pub looped : (a b : ℕ) → Float → Float
looped a b p = less_while (double (b + 1)) (double (b + 1 - a)) 8589934592 p
