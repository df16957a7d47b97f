-- What a block is lent, and what it reads of its inputs. Definitions only.
use Rattle.std.specs.Prelude.{ℕ, ◌+◌, ◌-◌, ◌<◌, min, Bool, cond, List, length, get_or, take, Float, None, Option, Some, option_map, IfSome}
use Rattle.std.specs.Option.{option_copied}
use Rattle.std.specs.Float.{nan, binary32}
use Rattle.std.specs.Float.Ieee.{lt, of_bits}
use Rattle.std.specs.Float.Ieee.Scale.{finite}
use Rattle.exact.specs.Order.{clamped}
use Rattle.exact.specs.Single.{f0, f1}
use Rattle.players.specs.Mix.{Sounds}
use Rattle.events.specs.Voice.{Kit}
use Rattle.note.specs.declared.Strike.{Strike}
use Rattle.block.specs.declared.BlockTime.{BlockTime}
use Rattle.block.specs.declared.inputs.Inputs.{Inputs}

-- the frames of each input; none where it is not connected
pub record Signals : Type 0 where
  pub freq : Option (List Float)
  pub gate : Option (List Float)
  pub vel : Option (List Float)
  pub amp : Option (List Float)
  pub seed : Option (List Float)
  pub bend : Option (List Float)
  pub quality : Option (List Float)

abbrev pub signals_of : Inputs → Signals
signals_of x = record {
  freq = option_copied x.freq;
  gate = option_copied x.gate;
  vel = option_copied x.vel;
  amp = option_copied x.amp;
  seed = option_copied x.seed;
  bend = option_copied x.bend;
  quality = option_copied x.quality;
}

-- All that a block is lent: its length and time, the program's words, the frames and the sinc table, the inputs, and both outputs.
pub record Lent : Type 0 where
  pub time : BlockTime
  pub words : List ℕ
  pub samples : List ℕ
  pub pcm : List Float
  pub table : List Float
  pub inputs : Signals
  pub left : List Float
  pub right : List Float

-- what its events and its frames read of it; of the table the first 8,194 entries count
pub record Cues : Type 0 where
  pub time : BlockTime
  pub words : List ℕ
  pub samples : List ℕ
  pub pcm : List Float
  pub table : List Float
  pub inputs : Signals

abbrev pub cues_of : Lent → Cues
cues_of l = record {
  time = l.time;
  words = l.words;
  samples = l.samples;
  pcm = l.pcm;
  table = take 8194 l.table;
  inputs = l.inputs;
}

abbrev pub kit_of : Cues → Kit
kit_of c = record { words = c.words; samples = c.samples }

abbrev pub sounds_of : Cues → Sounds
sounds_of c = record { samples = c.samples; frames = c.pcm; table = c.table }

-- an input's frame i; unconnected, its default
unfoldable pub input_at : Option (List Float) → ℕ → Float → Float
input_at None i default = default
input_at (Some xs) i default = get_or xs i nan

-- a connected input has a frame i
abbrev pub Reaches : Option (List Float) → ℕ → Type 0
Reaches input i = IfSome input (λ (xs : List Float). i < length xs)

-- up where the input is above 0; no input means up, and a NaN is down
unfoldable pub gate_at : Option (List Float) → ℕ → Bool
gate_at gate i = lt f0 (input_at gate i f1)

-- 261.62558, and 100 / 127
abbrev pub middle_c : Float
middle_c = of_bits binary32 0x4382_d013

abbrev pub usual_velocity : Float
usual_velocity = of_bits binary32 0x3f49_9326

-- the inputs on the frame i of a rising gate, and its time
unfoldable pub strike_from : Signals → ℕ → ℕ → Strike
strike_from x i at = record {
  freq = input_at x.freq i middle_c;
  vel = input_at x.vel i usual_velocity;
  seed = input_at x.seed i f0;
  quality = option_map (λ xs. get_or xs i nan) x.quality;
  at = at;
}

-- what it reads is there
pub record Struck (x : Signals) (i : ℕ) : Type 0 where
  pub freq : Reaches x.freq i
  pub vel : Reaches x.vel i
  pub seed : Reaches x.seed i
  pub quality : Reaches x.quality i

abbrev pub strike_at : Cues → ℕ → Strike
strike_at c i = strike_from c.inputs i (c.time.offset + i)

-- the bend, held to -1 and 1; one that is not finite is 0
unfoldable pub bend_of : Float → Float
bend_of b = cond (finite b) (clamped b (of_bits binary32 0xbf80_0000) f1) f0

-- an off time before the block falls on frame 0, one after it on the last frame
unfoldable pub off_frame : BlockTime → ℕ → ℕ
off_frame t at = min (at - t.offset) (t.frames - 1)
