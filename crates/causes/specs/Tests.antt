-- When a call is turned back: 01's causes under 5 to 9, in its order. Definitions only.
use Rattle.std.specs.Prelude.{ℕ, ◌^◌, Bool, false, not, ◌&&◌, List, [], ◌∷◌, ◌++◌, length, ltb, leb, eqb, Float, None, Option, Some}
use Rattle.std.specs.Float.{binary32}
use Rattle.std.specs.Float.Ieee.{le, of_bits}
use Rattle.program.specs.Bind.{program_ok}
use Rattle.program.specs.Valid.{every}
use Rattle.players.specs.Seats.{sounding, slot_numbers}
use Rattle.player_checks.specs.Sound.{players_fit, samples_fit}
use Rattle.players.specs.declared.Players.{Players}
use Rattle.session.specs.Tests.{is_live, over_live, twice_live, stray_record, over_records, over_voice, over_held, region_outside, slots_in_order}
use Rattle.session.specs.declared.Session.{Session}
use Rattle.events.specs.declared.SampleVoice.{SampleVoice}
use Rattle.block.specs.Inputs.{Signals, Lent}
use Rattle.causes.specs.declared.Lengths.{Lengths}

-- 5: a voice rate not within 8,000 to 192,000
unfoldable pub rate_fits : Float → Bool
rate_fits r = le (of_bits binary32 0x45fa_0000) r && le r (of_bits binary32 0x483b_8000)

-- 6: sixteen or more voices live
abbrev pub no_place : Session → Bool
no_place s = leb 16 s.voices.count

-- 7: a connected input shorter than the block
abbrev pub is_short : Option (List Float) → ℕ → Bool
is_short None frames = false
is_short (Some xs) frames = ltb (length xs) frames

abbrev pub fit_tests : ℕ → Signals → ℕ → ℕ → List Bool
fit_tests n x left right =
    not (eqb n 0) ∷ leb n 128 ∷ leb n left ∷ leb n right ∷ not (is_short x.freq n) ∷ not (is_short x.gate n) ∷ not (is_short x.vel n)
    ∷ not (is_short x.amp n) ∷ not (is_short x.seed n) ∷ not (is_short x.bend n) ∷ not (is_short x.quality n) ∷ []

-- 7: a block of 1 to 128 frames, and no lent part shorter than it
unfoldable pub parts_fit : ℕ → Signals → ℕ → ℕ → Bool
parts_fit n x left right = every (fit_tests n x left right)

-- the same of lengths alone: an input's is none where it is not connected
abbrev pub falls_short : Option ℕ → ℕ → Bool
falls_short None frames = false
falls_short (Some k) frames = ltb k frames

abbrev pub length_tests : ℕ → Lengths → List Bool
length_tests n x =
    not (eqb n 0) ∷ leb n 128 ∷ leb n x.left ∷ leb n x.right ∷ not (falls_short x.freq n) ∷ not (falls_short x.gate n)
    ∷ not (falls_short x.vel n) ∷ not (falls_short x.amp n) ∷ not (falls_short x.seed n) ∷ not (falls_short x.bend n)
    ∷ not (falls_short x.quality n) ∷ []

-- 7: a block of 1 to 128 frames, and no length below it
unfoldable pub lengths_fit : ℕ → Lengths → Bool
lengths_fit n x = every (length_tests n x)

abbrev pub lent_fits : Lent → Bool
lent_fits l = parts_fit l.time.frames l.inputs (length l.left) (length l.right)

-- 8, more than 32 players
abbrev pub over_players : Players → Bool
over_players ps = ltb 32 ps.count

-- 8: the session's live voices, and how many records there are
abbrev pub live_tests : ℕ → Session → List Bool
live_tests id s = is_live id s ∷ not (over_live s) ∷ not (twice_live s) ∷ not (over_records s) ∷ []

-- 8: the session's live voices and how many records it has
abbrev pub session_tests : ℕ → Session → List Bool
session_tests id s =
    is_live id s ∷ not (over_live s) ∷ not (twice_live s) ∷ not (stray_record s) ∷ not (over_records s) ∷ not (over_voice s) ∷ []

-- 8: the voice beside the session, and its players
abbrev pub voice_tests : Session → SampleVoice → List Bool
voice_tests s v =
    not (over_players v.players) ∷ rate_fits v.sample_rate ∷ not (over_held s)
    ∷ slots_in_order v.voice (slot_numbers (sounding v.players)) s
    ∷ not (region_outside v.program.regions s) ∷ players_fit v.program v.players ∷ []

-- 8, as far as voice and session alone show it
abbrev pub form_tests : Session → SampleVoice → List Bool
form_tests s v = session_tests v.voice s ++ voice_tests s v

unfoldable pub well_formed : Session → SampleVoice → Bool
well_formed s v = every (form_tests s v)

-- 8, what the lent program adds: the bound program is what binding makes of the regions, frames and table are not lent shorter than
-- bound, and loops and ends lie within their samples
unfoldable pub program_fits : SampleVoice → List ℕ → List ℕ → ℕ → ℕ → Bool
program_fits v ws ss frames table = every (program_ok v.program ws ss frames table ∷ samples_fit ss v.players ∷ [])

-- 8 in full
abbrev pub state_fits : Session → SampleVoice → List ℕ → List ℕ → ℕ → ℕ → Bool
state_fits s v ws ss frames table = well_formed s v && program_fits v ws ss frames table

-- 9: sample offset and event serial not above 2^63
unfoldable pub in_time : ℕ → ℕ → Bool
in_time offset serial = every (leb offset (2 ^ 63) ∷ leb serial (2 ^ 63) ∷ [])

-- 9: the next id not above 2^63
abbrev pub id_left : Session → Bool
id_left s = leb s.voices.next_voice (2 ^ 63)
