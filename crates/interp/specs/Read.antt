-- One frame of a sample at a position between its frames. Definitions only.
use Rattle.std.specs.Prelude.{ℕ, ◌+◌, cond, List, Option, option_map, unwrap_or, Float}
use Rattle.std.specs.Float.Ieee.{eq, to_unsigned}
use Rattle.exact.specs.Single.{f0, f1, f2}
use Rattle.interp.specs.Position.{fraction}
use Rattle.interp.specs.Points.{pad, linear_at, hermite_at}
use Rattle.interp.specs.Sinc.{sinc_at}
use Rattle.interp.specs.declared.Interp.{Interp}
use Rattle.interp.specs.declared.Interp.TheVariants.{Linear, Hermite, Sinc}
use Rattle.interp.specs.declared.sinc.SincSpan.{SincSpan}
use Rattle.exact.specs.declared.pair.Pair.{Pair}

-- 0 is linear, 1 Hermite, 2 sinc
unfoldable pub by_quality : Float → Interp → Interp
by_quality q other = cond (eq q f0) Linear (cond (eq q f1) Hermite (cond (eq q f2) Sinc other))

-- by a kernel, at place n + f
unfoldable pub kernel_at : Interp → List Float → List Float → SincSpan → ℕ → Float → Float
kernel_at Linear frames table span n f = linear_at frames n f
kernel_at Hermite frames table span n f = hermite_at frames n f
kernel_at Sinc frames table span n f = sinc_at table frames span n f

-- one channel at the position p: the places begin 42 before the first frame
unfoldable pub read_at : Interp → List Float → Float → List Float → SincSpan → Float
read_at kind frames p table span = kernel_at kind frames table span (to_unsigned 64 p + pad) (fraction p)

-- both channels; a mono sample has no right one, which reads 0.0
unfoldable pub pair_at : Interp → List Float → Option (List Float) → Float → List Float → SincSpan → Pair Float
pair_at kind a b p table span =
    record { l = read_at kind a p table span; r = unwrap_or (option_map (λ frames. read_at kind frames p table span) b) f0 }
