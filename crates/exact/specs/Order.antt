-- Sign and order of floats, as Rust's `f32` has them. Definitions only.
use Rattle.std.specs.Prelude.{Bool, false, cond, not, ◌&&◌, ◌||◌, Float}
use Rattle.std.specs.Float.{nan, inf, fin}
use Rattle.std.specs.Float.Ieee.{lt, eq, is_nan}

-- x without its sign
unfoldable pub magnitude : Float → Float
magnitude nan = nan
magnitude (inf s) = inf false
magnitude (fin s m e) = fin false m e

-- whether the sign is a minus; a NaN has none
unfoldable pub negative : Float → Bool
negative nan = false
negative (inf s) = s
negative (fin s m e) = s

-- x is the smaller one: by its value, and of two zeros the minus one
unfoldable pub smaller : Float → Float → Bool
unfolding lt eq negative
smaller x y = lt x y || (eq x y && (negative x && not (negative y)))

-- y where the test holds, and x otherwise; but a NaN gives way to the other
unfoldable pub chosen : Bool → Float → Float → Float
unfolding is_nan
chosen b x y = cond (is_nan x) y (cond (is_nan y) x (cond b y x))

unfoldable pub maximum : Float → Float → Float
unfolding smaller chosen
maximum x y = chosen (smaller x y) x y

unfoldable pub minimum : Float → Float → Float
unfolding smaller chosen
minimum x y = chosen (smaller y x) x y

-- lo below lo, hi above hi, and x itself between them; so a NaN stays, and so does a zero's sign
unfoldable pub clamped : Float → Float → Float → Float
unfolding lt
clamped x lo hi = cond (lt x lo) lo (cond (lt hi x) hi x)
