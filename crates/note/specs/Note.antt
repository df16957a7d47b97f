-- A note from the inputs of its rising gate. Definitions only.
use Rattle.std.specs.Prelude.{ℕ, false, ◌&&◌, cond, Float, None, Option, Some}
use Rattle.std.specs.Float.{binary32}
use Rattle.std.specs.Float.Ieee.{lt, of_bits, to_bits, to_unsigned}
use Rattle.std.specs.Float.Ieee.Scale.{finite}
use Rattle.elementary.specs.Functions.{log2_of}
use Rattle.exact.specs.Integral.{integral, ties_to_away}
use Rattle.exact.specs.Order.{clamped}
use Rattle.exact.specs.Single.{◌⊕◌, ◌⊗◌, ◌⊘◌, f0, f127}
use Rattle.interp.specs.Read.{by_quality}
use Rattle.interp.specs.declared.Interp.{Interp}
use Rattle.interp.specs.declared.Interp.TheVariants.{Sinc}
use Rattle.note.specs.declared.NoteState.{NoteState}
use Rattle.note.specs.declared.Strike.{Strike}

-- 69.0, 12.0, 440.0
abbrev pub f69 : Float
f69 = of_bits binary32 0x428a_0000

abbrev pub f12 : Float
f12 = of_bits binary32 0x4140_0000

abbrev pub f440 : Float
f440 = of_bits binary32 0x43dc_0000

abbrev pub f60 : Float
f60 = of_bits binary32 0x4270_0000

-- 69 + 12 log2 (freq / 440) of a positive finite frequency; of any other the given note
unfoldable pub note_of : Float → Float → Float
note_of freq other = cond (lt f0 freq && finite freq) (f69 ⊕ f12 ⊗ log2_of (freq ⊘ f440)) other

-- to the nearest whole number, half away from zero, held to 0 and 127
unfoldable pub key_of : Float → ℕ
key_of x = to_unsigned 8 (clamped (integral binary32 ties_to_away x) f0 f127)

-- the velocity of 127; one that is not finite is 100
unfoldable pub velocity_of : Float → ℕ
velocity_of v = cond (finite v) (key_of (v ⊗ f127)) 100

-- the kernel that the quality input names; without one, and by any other value, the sinc
unfoldable pub kernel_of : Option Float → Interp
kernel_of None = Sinc
kernel_of (Some q) = by_quality q Sinc

-- the note of a rising gate
unfoldable pub note_state : Strike → NoteState
note_state k = record {
  note = key_of (note_of k.freq f60);
  vel = velocity_of k.vel;
  note_f = note_of k.freq f60;
  on_time = k.at;
  seed = to_bits binary32 k.seed;
  interp = kernel_of k.quality;
  choke_released = false;
}
