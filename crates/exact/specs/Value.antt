-- Kinds of floats. Definitions only.
use Rattle.std.specs.Prelude.{Bool, true, false, Float}
use Rattle.std.specs.Float.{nan, inf, fin}

-- finite, with the sign of a number that is not negative
abbrev pub plus : Float → Bool
plus nan = false
plus (inf s) = false
plus (fin true m e) = false
plus (fin false m e) = true
