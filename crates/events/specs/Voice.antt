-- A voice, and the voice with one part changed. Definitions only.
use Rattle.std.specs.Prelude.{ℕ, true, false, T, List, Option, Some}
use Rattle.note.specs.declared.NoteState.{NoteState}
use Rattle.players.specs.declared.Players.{Players}
use Rattle.program.specs.Region.{region_at}
use Rattle.program.specs.Valid.{loop_in_order}
use Rattle.events.specs.declared.SampleVoice.{SampleVoice}

-- the program that a voice plays: its regions' words and its samples' words
pub record Kit : Type 0 where
  pub words : List ℕ
  pub samples : List ℕ

-- what binding has found of every region
abbrev pub Bindable : List ℕ → Type 0
Bindable ws = (i : ℕ) → T (loop_in_order (region_at ws i).play.loop_points)

-- the voice with other players
abbrev pub with_players : Players → SampleVoice → SampleVoice
with_players ps v = record {
  voice = v.voice;
  sample_rate = v.sample_rate;
  program = v.program;
  gate_prev = v.gate_prev;
  gate_held = v.gate_held;
  note = v.note;
  started = v.started;
  players = ps;
  next_slot = v.next_slot;
  dropped = v.dropped;
}

-- with one more player, in the next slot
abbrev pub with_started : Players → ℕ → SampleVoice → SampleVoice
with_started ps slot v = record {
  voice = v.voice;
  sample_rate = v.sample_rate;
  program = v.program;
  gate_prev = v.gate_prev;
  gate_held = v.gate_held;
  note = v.note;
  started = v.started;
  players = ps;
  next_slot = slot;
  dropped = v.dropped;
}

-- with another count of dropped starts
abbrev pub with_dropped : ℕ → SampleVoice → SampleVoice
with_dropped n v = record {
  voice = v.voice;
  sample_rate = v.sample_rate;
  program = v.program;
  gate_prev = v.gate_prev;
  gate_held = v.gate_held;
  note = v.note;
  started = v.started;
  players = v.players;
  next_slot = v.next_slot;
  dropped = n;
}

-- with another note, the gate held or not
abbrev pub with_note : Option NoteState → SampleVoice → SampleVoice
with_note m v = record {
  voice = v.voice;
  sample_rate = v.sample_rate;
  program = v.program;
  gate_prev = v.gate_prev;
  gate_held = v.gate_held;
  note = m;
  started = v.started;
  players = v.players;
  next_slot = v.next_slot;
  dropped = v.dropped;
}

-- a new note under a held gate
abbrev pub struck : NoteState → SampleVoice → SampleVoice
struck n v = record {
  voice = v.voice;
  sample_rate = v.sample_rate;
  program = v.program;
  gate_prev = v.gate_prev;
  gate_held = true;
  note = Some n;
  started = true;
  players = v.players;
  next_slot = v.next_slot;
  dropped = v.dropped;
}

-- the gate let go
abbrev pub ungated : SampleVoice → SampleVoice
ungated v = record {
  voice = v.voice;
  sample_rate = v.sample_rate;
  program = v.program;
  gate_prev = v.gate_prev;
  gate_held = false;
  note = v.note;
  started = v.started;
  players = v.players;
  next_slot = v.next_slot;
  dropped = v.dropped;
}
