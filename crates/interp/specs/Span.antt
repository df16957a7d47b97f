-- What a playback step asks of the windowed sinc. Definitions only.
use Rattle.std.specs.Prelude.{ℕ, ◌+◌, ◌-◌, ◌*◌, ◌/◌, ◌^◌, min, true, false, cond, from_bits, Float}
use Rattle.std.specs.Float.{nan, inf, fin, binary64}
use Rattle.std.specs.Float.Ieee.{up, down, lt}
use Rattle.exact.specs.Narrow.{narrowed}
use Rattle.exact.specs.Single.{◌⊘◌, f0_88, f1, f16}
use Rattle.interp.specs.declared.sinc.SincSpan.{SincSpan}

-- the least whole number from x on, held to what 64 bits count; 0 for a NaN
unfoldable pub ceiling : Float → ℕ
ceiling nan = 0
ceiling (inf s) = cond s 0 (2 ^ 64 - 1)
ceiling (fin true m e) = 0
ceiling (fin false m e) = min ((m * up e + (down e - 1)) / down e) (2 ^ 64 - 1)

-- a step above 1.0 widens the kernel, so that it cuts off below the output's Nyquist frequency
unfoldable pub stretch_of : Float → Float
stretch_of step = cond (lt (from_bits binary64 0x3ff0_0000_0000_0000) step) (narrowed step) f1

-- the cutoff is 0.88 at its highest; on each side the window has 16 zero crossings, or what 40 taps reach
unfoldable pub span_for : Float → SincSpan
span_for step =
    let fc = f0_88 ⊘ stretch_of step in
    record { fc = fc; half = min (ceiling (f16 ⊘ fc)) 40 }
