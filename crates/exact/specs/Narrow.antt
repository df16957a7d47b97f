-- Rust's `x as f32` of an `f64`: the nearest single, a tie to the even one, as `lib.Ieee` rounds. Definitions only.
use Rattle.std.specs.Prelude.{◌*◌, Float}
use Rattle.std.specs.Float.{nan, inf, fin, binary32}
use Rattle.std.specs.Float.Ieee.{round, up, down}

unfoldable pub narrowed : Float → Float
unfolding round
narrowed nan = nan
narrowed (inf s) = inf s
narrowed (fin s m e) = round binary32 s (m * up e) (down e)
