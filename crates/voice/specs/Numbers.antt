-- 01's number of a call, from what it is handed: its causes in 01's order, each with its number; the first that holds, and 0 where none
-- does. Definitions only.
use Rattle.std.specs.Prelude.{ℕ, Bool, not, List, [], ◌∷◌, length, Float, cond}
use Rattle.session.specs.declared.Session.{Session}
use Rattle.events.specs.declared.SampleVoice.{SampleVoice}
use Rattle.block.specs.Inputs.{Lent}
use Rattle.causes.specs.Tests.{rate_fits, no_place, id_left, lent_fits, well_formed, state_fits, in_time}
use Rattle.voice.specs.Calls.{Program}

abbrev pub first_of : List (Bool × ℕ) → ℕ
first_of [] = 0
first_of (c ∷ cs) = cond c.0 c.1 (first_of cs)

-- making a voice: 5, 6, 9 (next id)
unfoldable pub make_number : Float → Session → ℕ
make_number rate s = first_of ((not (rate_fits rate), 5) ∷ (no_place s, 6) ∷ (not (id_left s), 9) ∷ [])

-- a block: 7, 8, 9 (offset, serial)
unfoldable pub block_number : Lent → Session → SampleVoice → ℕ
block_number l s v =
    first_of
    ((not (lent_fits l), 7)
    ∷ (not (state_fits s v l.words l.samples (length l.pcm) (length l.table)), 8)
    ∷ (not (in_time l.time.offset s.event_serial), 9)
    ∷ [])

-- asking whether a voice is finished: 8
unfoldable pub ask_number : Program → Session → SampleVoice → ℕ
ask_number k s v = first_of ((not (state_fits s v k.words k.samples (length k.pcm) (length k.table)), 8) ∷ [])

-- reset and close: 8 as far as voice and session alone show it
unfoldable pub end_number : Session → SampleVoice → ℕ
end_number s v = first_of ((not (well_formed s v), 8) ∷ [])
