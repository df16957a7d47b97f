-- The public calls: their answers, and what each leaves. Definitions only.
use Rattle.note.specs.declared.NoteState.{NoteState}
use Rattle.std.specs.Prelude.{ℕ, Bool, false, not, ◌&&◌, List, ◌++◌, length, drop, eqb, Float, None, Option, Some, Result, Ok, Err, cond}
use Rattle.std.specs.Result.{result_and}
use Rattle.program.specs.Lookup.{has_release_for}
use Rattle.program.specs.declared.bind.BoundProgram.{BoundProgram}
use Rattle.players.specs.Seats.{no_players}
use Rattle.players.specs.declared.Players.{Players}
use Rattle.session.specs.State.{opened, ended_voice, closed_voice}
use Rattle.session.specs.declared.Session.{Session}
use Rattle.events.specs.declared.SampleVoice.{SampleVoice}
use Rattle.block.specs.Inputs.{Lent}
use Rattle.block.specs.Block.{played_block}
use Rattle.causes.specs.Tests.{rate_fits, no_place, id_left, lent_fits, well_formed, state_fits, in_time}
use Rattle.voice.specs.declared.Refusal.{Refusal}
use Rattle.voice.specs.declared.Refusal.TheVariants.{BadRate, TooManyVoices, BadBlock, BadState, TooLate}
use Rattle.voice.specs.declared.Called.{Called}
use Rattle.voice.specs.declared.Closed.{Closed}

-- 01's number of each refusal
abbrev pub refusal_number : Refusal → ℕ
refusal_number BadRate = 5
refusal_number TooManyVoices = 6
refusal_number BadBlock = 7
refusal_number BadState = 8
refusal_number TooLate = 9

-- the number of what a call answers: 0 where it is done
abbrev pub number_of : {A : Type 0} → Result A Refusal → ℕ
number_of (Ok x) = 0
number_of (Err r) = refusal_number r

-- done, or why the call is turned back
abbrev pub Answer : Type 0
Answer = Result (Unit {0}) Refusal

abbrev pub done : Answer
done = Ok tt

-- the new value where the call is done, the old one where it is turned back
abbrev pub if_done : {A : Type 0} → Answer → A → A → A
if_done (Ok x) new old = new
if_done (Err r) new old = old

abbrev pub called : Answer → Session → SampleVoice → Called
called a s v = record { answer = a; session = s; voice = v }

-- ---- making: 5, 6, 9

-- a voice that has not played: the gate down, no note, no players
abbrev pub fresh_voice : ℕ → Float → BoundProgram → SampleVoice
fresh_voice id rate b = record {
  voice = id;
  sample_rate = rate;
  program = b;
  gate_prev = false;
  gate_held = false;
  note = None;
  started = false;
  players = no_players;
  next_slot = 0;
  dropped = 0;
}

unfoldable pub make_answer : Float → Session → Answer
make_answer rate s = cond (rate_fits rate) (cond (no_place s) (Err TooManyVoices) (cond (id_left s) done (Err TooLate))) (Err BadRate)

-- a call that is turned back hands out a voice with the id 0, which no session grown from a fresh one gives: ids count from 1
unfoldable pub made : Float → BoundProgram → Session → Called
made rate b s =
    let a = make_answer rate s in
    called a (if_done a (opened s).session s) (fresh_voice (if_done a s.voices.next_voice 0) rate b)

-- ---- a block: 7, 8, 9

unfoldable pub block_answer : Lent → Session → SampleVoice → Answer
block_answer l s v =
    cond (lent_fits l)
    (cond (state_fits s v l.words l.samples (length l.pcm) (length l.table))
    (cond (in_time l.time.offset s.event_serial) done (Err TooLate)) (Err BadState)) (Err BadBlock)

-- the block's frames in front; frames that were lent beyond it stay as they were
abbrev pub over_front : List Float → List Float → List Float
over_front ys xs = ys ++ drop (length ys) xs

-- what a block leaves: its answer, the session, the voice and the contents of both outputs
pub record BlockLeft : Type 0 where
  pub called : Called
  pub left : List Float
  pub right : List Float

unfoldable pub block_done : Lent → Session → SampleVoice → BlockLeft
block_done l s v =
    let p = played_block l s v in
    record {
      called = called done p.both.session p.both.voice;
      left = over_front p.left l.left;
      right = over_front p.right l.right;
    }

unfoldable pub blocked : Lent → Session → SampleVoice → BlockLeft
blocked l s v =
    let a = block_answer l s v in
    if_done a (block_done l s v) (record { called = called a s v; left = l.left; right = l.right })

-- ---- asking whether a voice is finished: 8

-- what asking is lent: the program's words, and how many frames and table entries
pub record Program : Type 0 where
  pub words : List ℕ
  pub samples : List ℕ
  pub pcm : List Float
  pub table : List Float

unfoldable pub ask_answer : Program → Session → SampleVoice → Answer
ask_answer k s v = cond (state_fits s v k.words k.samples (length k.pcm) (length k.table)) done (Err BadState)

-- a held note may still fire a release region of these words
abbrev pub may_release : List ℕ → SampleVoice → Option NoteState → Bool
may_release ws v None = false
may_release ws v (Some n) = v.gate_held && has_release_for ws v.program.regions n.note n.vel

-- it has started, no player sounds, and no release region waits for its gate
unfoldable pub is_finished : List ℕ → SampleVoice → Bool
is_finished ws v = v.started && (eqb v.players.count 0 && not (may_release ws v v.note))

unfoldable pub asked : Program → Session → SampleVoice → Result Bool Refusal
asked k s v = result_and (ask_answer k s v) (Ok (is_finished k.words v))

-- ---- reset and close: 8 as far as voice and session alone show it

unfoldable pub end_answer : Session → SampleVoice → Answer
end_answer s v = cond (well_formed s v) done (Err BadState)

abbrev pub none_sounding : Players → Players
none_sounding ps = record { players = ps.players; count = 0 }

-- gate down, no note, no players; the id, the rate, the next slot and the dropped starts stay
abbrev pub silenced : SampleVoice → SampleVoice
silenced v = record {
  voice = v.voice;
  sample_rate = v.sample_rate;
  program = v.program;
  gate_prev = false;
  gate_held = false;
  note = None;
  started = false;
  players = none_sounding v.players;
  next_slot = v.next_slot;
  dropped = v.dropped;
}

unfoldable pub was_reset : Session → SampleVoice → Called
was_reset s v =
    let a = end_answer s v in
    called a (if_done a (ended_voice v.voice v.gate_held s) s) (if_done a (silenced v) v)

unfoldable pub was_closed : Session → SampleVoice → Closed
was_closed s v = let a = end_answer s v in record { answer = a; session = if_done a (closed_voice v.voice v.gate_held s) s }
