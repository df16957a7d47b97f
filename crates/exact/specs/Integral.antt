-- IEEE 754's rounding of a float to a whole number (5.9, roundToIntegral), which Rust's `trunc`, `floor`, `ceil` and `round` are, and Rust's `fract`. Definitions only.
use Rattle.std.specs.Prelude.{ℕ, ◌+◌, ◌-◌, ◌*◌, ◌/◌, ◌%◌, Bool, cond, ◌&&◌, nat_lt, Float}
use Rattle.std.specs.Float.{nan, inf, fin, Format}
use Rattle.std.specs.Float.Ieee.{round, up, down}

-- The whole numbers next to n / d, for a d above 0: the last one up to it, and the first one from it on.
abbrev pub floor : ℕ → ℕ → ℕ
floor n d = n / d

abbrev pub ceiling : ℕ → ℕ → ℕ
ceiling n d = (n + (d - 1)) / d

-- A direction says to which whole number the magnitude n / d goes, by the sign, which is true for a negative number.
abbrev pub Direction : Type 0
Direction = Bool → ℕ → ℕ → ℕ

abbrev pub toward_zero : Direction
toward_zero s n d = floor n d

abbrev pub toward_negative : Direction
toward_negative s n d = cond s (ceiling n d) (floor n d)

abbrev pub toward_positive : Direction
toward_positive s n d = cond s (floor n d) (ceiling n d)

-- the nearest, and of two the one further from zero: n / d and a half more, cut
abbrev pub ties_to_away : Direction
ties_to_away s n d = floor (2 * n + d) (2 * d)

-- a zero keeps the sign
unfoldable pub integral : Format → Direction → Float → Float
unfolding round
integral f how nan = nan
integral f how (inf s) = inf s
integral f how (fin s m e) = round f s (how s (m * up e) (down e)) 1

-- What `toward_zero` cuts off, with the sign; where that is nothing, +0. An infinity has none.
unfoldable pub fraction : Format → Float → Float
unfolding round
fraction f nan = nan
fraction f (inf s) = nan
fraction f (fin s m e) = let r = m * up e % down e in round f (s && nat_lt 0 r) r (down e)
