-- 01's table "Marked for proof": each row is a value of the port's definitions and what 01 says that it is. Definitions only.
use Rattle.std.specs.Prelude.{◌≡◌, true, false, List, [], ◌∷◌, pos, Float, None}
use Rattle.std.specs.Float.{binary32}
use Rattle.std.specs.Float.Ieee.{neg, of_bits}
use Rattle.envelope.specs.Envelope.{started, env_next, is_done}
use Rattle.envelope.specs.declared.EnvStep.{EnvStep}
use Rattle.exact.specs.Single.{f0, f0_5, f1, f2, f100}
use Rattle.gain.specs.Gain.{velocity_gain}
use Rattle.interp.specs.Points.{weight3}
use Rattle.interp.specs.Position.{double}
use Rattle.interp.specs.Span.{span_for}
use Rattle.player.specs.Start.{loop_at}
use Rattle.program.specs.declared.region.Envelope.{Envelope}

-- 50.0
abbrev pub f50 : Float
f50 = of_bits binary32 0x4248_0000

-- `Envelope::default` but for the sustain, which is 100 there; its release is 0.001
abbrev pub sustaining : Float → Envelope
sustaining s = record { delay = f0; attack = f0; hold = f0; decay = f0; sustain = s; release = of_bits binary32 0x3a83_126f; start = f0 }

-- what such an envelope's first step answers at the rate, in a region with no delay of its own
abbrev pub first_step : Float → Float → EnvStep
first_step rate s = env_next (started (sustaining s) (pos 0) rate false)

infix 70 ◌is◌
pub data Row : Type 1 where
  ◌is◌ : {A : Type 0} → A → A → Row

abbrev pub Holds : Row → Type 0
Holds (x is y) = x ≡ y

abbrev pub Every : List Row → Type 0
Every [] = Unit
Every (r ∷ rs) = Holds r × Every rs

-- `weight3` is `hermite3`
abbrev pub table : Float → List Row
table rate =
    -- first envelope value 1.0 by default; 0.5 at sustain 50; 0.0 and done at sustain 0
    (first_step rate f100).value is f1
    ∷ (first_step rate f50).value is f0_5
    ∷ (first_step rate f0).value is f0
    ∷ is_done (first_step rate f0).env.state is true
    -- velocity gain 1 at 127 and 0 at 0 (track 100), 0 at 127 and 1 at 0 (track -100)
    ∷ velocity_gain f100 None 127 is f1
    ∷ velocity_gain f100 None 0 is f0
    ∷ velocity_gain (neg f100) None 127 is f0
    ∷ velocity_gain (neg f100) None 0 is f1
    -- kernel `hermite3` 1 at 0, 0 at 1 and at 2
    ∷ weight3 f0 is f1
    ∷ weight3 f1 is f0
    ∷ weight3 f2 is f0
    -- half taps 19, 37, 40 at steps 1, 2, 4
    ∷ (span_for (double 1)).half is 19
    ∷ (span_for (double 2)).half is 37
    ∷ (span_for (double 4)).half is 40
    -- loop (10, 20) with last 15 has end 15, size 6
    ∷ (loop_at 10 20 15 rate).end is 15
    ∷ (loop_at 10 20 15 rate).size is double 6
    ∷ []
