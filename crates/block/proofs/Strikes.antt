-- The inputs on the frame of a rising gate. Assumes nothing.
use Rattle.std.specs.Prelude.{Option, get_or, option_map}
use Rattle.std.specs.Float.{nan}
use Prim.Native.Nat.{ℕ}
use mathlib.Core.Path.{◌≡◌}
use mathlib.Core.List.{List}
use lib.Ieee.{Float}
use Rattle.exact.specs.Single.{f0}
use Rattle.note.specs.declared.Strike.{Strike}
use Rattle.block.specs.Inputs.{Signals, input_at, middle_c, usual_velocity, strike_from}

pub strike-is : (ins : Signals) (i at : ℕ) (f v s : Float) (q : Option Float) → f ≡ input_at ins.freq i middle_c
    → v ≡ input_at ins.vel i usual_velocity → s ≡ input_at ins.seed i f0 → q ≡ option_map (λ xs. get_or xs i nan) ins.quality
    → ◌≡◌ {A = Strike} (record { freq = f; vel = v; seed = s; quality = q; at = at }) (strike_from ins i at)
unfolding strike_from
strike-is ins i at f v s q a b d e = rw (a, b, d, e)
