-- The starts of a call, in turn, dropped ones included: each with the session's list and its voice's players as they then stand. These
-- follow the definitions of events and blocks, and read what those read.
use Rattle.std.specs.List.{list_any, range_with_len}
use Rattle.session.specs.declared.Off.{Off}
use Rattle.std.specs.Prelude.{ℕ, zero, suc, ◌+◌, Bool, ◌&&◌, List, [], ◌∷◌, ◌++◌, get_or, None, Option, Some, cond}
use Rattle.exact.specs.Random.{drawn}
use Rattle.session.specs.Offs.{took_first, first_at, no_off}
use Rattle.session.specs.State.{view, serial_up, held_down, with_seq}
use Rattle.session.specs.declared.PlayerRecord.{PlayerRecord}
use Rattle.session.specs.declared.Session.{Session}
use Rattle.session.specs.declared.Start.{Start}
use Rattle.note.specs.Choice.{choosing_on, chosen_off}
use Rattle.note.specs.Note.{note_state}
use Rattle.note.specs.declared.NoteState.{NoteState}
use Rattle.note.specs.declared.Strike.{Strike}
use Rattle.players.specs.Gate.{offed_slot, ignored, fires}
use Rattle.gates.specs.Gate.{risen, hit_at, attack_cause, note_started, let_go_both}
use Rattle.gates.specs.Off.{reaped_both, unfired, fired_note, took_own, is_taken}
use Rattle.events.specs.Start.{start_in, started_region, release_cause}
use Rattle.events.specs.Voice.{Kit, with_players, with_note, struck, ungated}
use Rattle.events.specs.declared.Both.{Both}
use Rattle.events.specs.declared.Cause.{Cause}
use Rattle.events.specs.declared.SampleVoice.{SampleVoice}
use Rattle.block.specs.Block.{block_start, off_list, falls_on, off_turn, off_turns, with_gate, turns, event_on, frame_turn}
use Rattle.block.specs.Inputs.{Lent, Cues, cues_of, kit_of, sounds_of, gate_at, strike_at}
use Rattle.block.specs.Render.{Scene, both_of, rendered_to}
use Rattle.block.specs.declared.BlockTime.{BlockTime}
use Rattle.block.specs.declared.Playing.{Playing}

pub record Started : Type 0 where
  pub start : Start
  pub list : List PlayerRecord
  pub live : ℕ

abbrev pub started_on : Start → Both → Started
started_on st b = record { start = st; list = view b.session; live = b.voice.players.count }

-- the regions chosen by an event
unfoldable pub starts_of_all : Kit → NoteState → Cause → List ℕ → Both → List Started
starts_of_all k n c [] b = []
starts_of_all k n c (i ∷ is) b = started_on (start_in k n c b.voice i) b ∷ starts_of_all k n c is (started_region k n c b i)

-- a note's release regions
unfoldable pub starts_of_release : Kit → ℕ → NoteState → ℕ → Both → List Started
starts_of_release k m n at b =
    let s = serial_up b.session in
    starts_of_all k n (release_cause n at b.voice.sample_rate s)
    (chosen_off k.words m n.note n.vel (drawn n.seed s.event_serial 0) s)
    (record { session = s; voice = b.voice })

abbrev pub starts_for : Kit → ℕ → ℕ → Option NoteState → Both → List Started
starts_for k m at None b = []
starts_for k m at (Some n) b = starts_of_release k m n at b

unfoldable pub starts_of_dispatch : Kit → ℕ → ℕ → Both → List Started
starts_of_dispatch k m at b = starts_for k m at b.voice.note b

-- an off mark that acts
unfoldable pub starts_of_choke : Kit → ℕ → ℕ → Bool → Both → List Started
starts_of_choke k m at fires b =
    cond (fires && (b.voice.gate_held && unfired b.voice.note))
    (starts_of_dispatch k m at (record { session = b.session; voice = with_note (fired_note b.voice.note) b.voice }))
    []

unfoldable pub starts_of_off : Kit → ℕ → ℕ → ℕ → Both → List Started
starts_of_off k m slot at b =
    let o = offed_slot slot b.voice.players in
    cond (ignored o.mark) [] (starts_of_choke k m at (fires o.mark) (reaped_both (record { session = b.session; voice = with_players o.players b.voice })))

abbrev pub starts_of_first : Kit → ℕ → Option Off → Both → List Started
starts_of_first k m None b = []
starts_of_first k m (Some o) b = starts_of_off k m o.slot o.at b

unfoldable pub starts_of_own : Kit → ℕ → ℕ → Both → List Started
starts_of_own k m zero b = []
starts_of_own k m (suc turns) b =
    let t = took_first b.voice.voice b.session in
    cond (is_taken t.first) (starts_of_first k m t.first (record { session = t.session; voice = b.voice }) ++ starts_of_own k m turns (took_own k m b)) []

-- a gate's edge
unfoldable pub starts_of_note : Kit → ℕ → NoteState → ℕ → Both → List Started
starts_of_note k m n at b =
    let s = risen b.session in
    let c = choosing_on (hit_at k.words n s) m n.note s.seq in
    starts_of_all k n (attack_cause at s) c.regions (record { session = with_seq c.seq s; voice = struck n b.voice })

unfoldable pub starts_of_note_on : Kit → ℕ → Strike → Both → List Started
starts_of_note_on k m x b =
    starts_of_note k m (note_state x) x.at b ++ starts_of_own k m 128 (note_started k m (note_state x) x.at b)

unfoldable pub starts_of_note_off : Kit → ℕ → ℕ → Both → List Started
starts_of_note_off k m at b =
    cond b.voice.gate_held (starts_of_dispatch k m at (let_go_both (record { session = held_down b.session; voice = ungated b.voice }))) []

-- ---- a block

-- the slot whose off time is the first on frame i
abbrev pub slot_on : BlockTime → ℕ → Playing → ℕ
slot_on t i p = (get_or p.offs.offs (first_at (falls_on t i) (off_list p.offs)) no_off).slot

unfoldable pub starts_of_turns : Kit → BlockTime → ℕ → ℕ → Playing → List Started
starts_of_turns k t i zero p = []
starts_of_turns k t i (suc m) p =
    cond (list_any (falls_on t i) (off_list p.offs))
    (starts_of_off k p.voice.program.regions (slot_on t i p) (t.offset + i) (both_of p) ++ starts_of_turns k t i m (off_turn k t i p))
    []

unfoldable pub starts_of_gate : Kit → Strike → Bool → Playing → List Started
starts_of_gate k x g p =
    let c : Both = record { session = p.session; voice = with_gate g p.voice } in
    cond (turns p.voice.gate_prev g) (cond g (starts_of_note_on k p.voice.program.regions x c) (starts_of_note_off k p.voice.program.regions x.at c)) []

unfoldable pub starts_of_events : Kit → BlockTime → ℕ → Strike → Bool → Playing → List Started
starts_of_events k t i x g p = starts_of_turns k t i p.offs.count p ++ starts_of_gate k x g (off_turns k t i p.offs.count p)

unfoldable pub starts_of_frame : Cues → Scene → ℕ → List Started
starts_of_frame c sc i =
    cond (event_on c sc i)
    (starts_of_events (kit_of c) c.time i (strike_at c i) (gate_at c.inputs.gate i) (rendered_to (sounds_of c) i sc).playing)
    []

unfoldable pub starts_of_frames : Cues → List ℕ → Scene → List Started
starts_of_frames c [] sc = []
starts_of_frames c (i ∷ is) sc = starts_of_frame c sc i ++ starts_of_frames c is (frame_turn c sc i)

unfoldable pub starts_of_block : Lent → Session → SampleVoice → List Started
starts_of_block l s v = starts_of_frames (cues_of l) (range_with_len 0 l.time.frames) (block_start l s v)
