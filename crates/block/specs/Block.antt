-- A block: off times are collected, pitch is set, then events by frame, off marks before a gate edge on the same frame, and the frames
-- between them; the amp input multiplies last. Definitions only.
use Rattle.std.specs.List.{list_any}
use Rattle.note.specs.declared.NoteState.{NoteState}
use Rattle.std.specs.Prelude.{ℕ, zero, suc, ◌+◌, ◌-◌, Bool, true, false, not, ◌||◌, take, get_or, set, replicate, eqb, Float, None, Option, Some, cond}
use mathlib.Core.List.{List, [], ◌∷◌, foldl}
use Rattle.exact.specs.Single.{◌⊗◌, f0}
use Rattle.session.specs.Lists.{used_of}
use Rattle.session.specs.Offs.{collected_offs, no_off, first_at}
use Rattle.session.specs.declared.Off.{Off}
use Rattle.session.specs.declared.Offs.{Offs}
use Rattle.session.specs.declared.Session.{Session}
use Rattle.std.specs.List.{range_with_len}
use Rattle.note.specs.Note.{note_of}
use Rattle.note.specs.declared.Strike.{Strike}
use Rattle.players.specs.Seats.{retuned_all}
use Rattle.gates.specs.Gate.{noted_on, noted_off}
use Rattle.gates.specs.Off.{applied_off}
use Rattle.events.specs.Voice.{Kit, with_players}
use Rattle.events.specs.declared.Both.{Both}
use Rattle.events.specs.declared.SampleVoice.{SampleVoice}
use Rattle.block.specs.declared.BlockTime.{BlockTime}
use Rattle.block.specs.declared.Playing.{Playing}
use Rattle.block.specs.Inputs.{Signals, Lent, Cues, cues_of, kit_of, sounds_of, input_at, gate_at, strike_at, bend_of, off_frame}
use Rattle.block.specs.Render.{Scene, both_of, with_both, rendered_to}

-- ---- before the events

-- the pitch of a sounding note: this block's first frequency and bend
abbrev pub retuned_for : Signals → Option NoteState → SampleVoice → SampleVoice
retuned_for x None v = v
retuned_for x (Some n) v =
    with_players (retuned_all (note_of (input_at x.freq 0 f0) n.note_f) (bend_of (input_at x.bend 0 f0)) v.players) v

unfoldable pub retuned_voice : Signals → SampleVoice → SampleVoice
retuned_voice x v = retuned_for x v.note v

-- own off times are collected; pitch is set for all players
unfoldable pub started_block : Signals → Session → SampleVoice → Playing
started_block x s v =
    let o = collected_offs v.voice s in
    record { session = o.session; voice = retuned_voice x v; offs = o.offs; from = 0 }

-- and the outputs are clear
unfoldable pub block_start : Lent → Session → SampleVoice → Scene
block_start l s v = record {
  playing = started_block l.inputs s v;
  left = replicate l.time.frames f0;
  right = replicate l.time.frames f0;
}

-- ---- off times on a frame

abbrev pub off_list : Offs → List Off
off_list q = take (used_of 32 q.count) q.offs

abbrev pub falls_on : BlockTime → ℕ → Off → Bool
falls_on t i o = eqb (off_frame t o.at) i

-- the Rust's `swap_remove`: the last entry moves into the place of entry k
unfoldable pub swap_removed : ℕ → Offs → Offs
swap_removed k q = record { offs = set q.offs k (get_or q.offs (q.count - 1) no_off); count = q.count - 1 }

-- the first off time on frame i is taken, and acts
unfoldable pub off_turn : Kit → BlockTime → ℕ → Playing → Playing
off_turn k t i p =
    let j = first_at (falls_on t i) (off_list p.offs) in
    let b = applied_off k p.voice.program.regions (get_or p.offs.offs j no_off).slot (t.offset + i) (both_of p) in
    record { session = b.session; voice = b.voice; offs = swap_removed j p.offs; from = p.from }

-- again while there is one; each turn leaves one fewer
unfoldable pub off_turns : Kit → BlockTime → ℕ → ℕ → Playing → Playing
off_turns k t i zero p = p
off_turns k t i (suc m) p = cond (list_any (falls_on t i) (off_list p.offs)) (off_turns k t i m (off_turn k t i p)) p

-- ---- a gate edge on a frame

abbrev pub same_gate : Bool → Bool → Bool
same_gate true b = b
same_gate false b = not b

-- the gate was `prev` and is g
abbrev pub turns : Bool → Bool → Bool
turns prev g = not (same_gate g prev)

abbrev pub with_gate : Bool → SampleVoice → SampleVoice
with_gate g v = record {
  voice = v.voice;
  sample_rate = v.sample_rate;
  program = v.program;
  gate_prev = g;
  gate_held = v.gate_held;
  note = v.note;
  started = v.started;
  players = v.players;
  next_slot = v.next_slot;
  dropped = v.dropped;
}

-- the gate goes to g, with the inputs x on its frame
unfoldable pub edge_turned : Kit → Strike → Bool → Both → Both
edge_turned k x g b =
    let n = b.voice.program.regions in
    let c : Both = record { session = b.session; voice = with_gate g b.voice } in
    cond g (noted_on k n x c) (noted_off k n x.at c)

unfoldable pub gate_turn : Kit → Strike → Bool → Playing → Playing
gate_turn k x g p = cond (turns p.voice.gate_prev g) (with_both (edge_turned k x g (both_of p)) p) p

-- ---- events by frame

-- off marks before a gate edge on the same frame
unfoldable pub events_at : Kit → BlockTime → ℕ → Strike → Bool → Playing → Playing
events_at k t i x g p = gate_turn k x g (off_turns k t i p.offs.count p)

-- an off time falls on frame i, or the gate, which is g there, turns on it
unfoldable pub has_event : BlockTime → Offs → Bool → Bool → ℕ → Bool
has_event t q prev g i = list_any (falls_on t i) (off_list q) || turns prev g

abbrev pub turned_scene : Playing → Scene → Scene
turned_scene p sc = record { playing = p; left = sc.left; right = sc.right }

abbrev pub event_on : Cues → Scene → ℕ → Bool
event_on c sc i = has_event c.time sc.playing.offs sc.playing.voice.gate_prev (gate_at c.inputs.gate i) i

-- the frames before frame i sound, and then its events act
unfoldable pub event_turn : Cues → ℕ → Scene → Scene
event_turn c i sc =
    let y = rendered_to (sounds_of c) i sc in
    turned_scene (events_at (kit_of c) c.time i (strike_at c i) (gate_at c.inputs.gate i) y.playing) y

-- a frame without an event leaves the block as it stands
unfoldable pub frame_turn : Cues → Scene → ℕ → Scene
frame_turn c sc i = cond (event_on c sc i) (event_turn c i sc) sc

unfoldable pub frames_turned : Cues → Scene → Scene
frames_turned c sc = foldl (frame_turn c) sc (range_with_len 0 c.time.frames)

-- ---- the whole block

-- events by frame, and the frames behind the last of them
unfoldable pub sounded_from : Cues → Scene → Scene
sounded_from c sc = rendered_to (sounds_of c) c.time.frames (frames_turned c sc)

-- each frame by the amp input's
abbrev pub times_each : List Float → List Float → List Float
times_each [] ys = []
times_each (x ∷ xs) [] = x ∷ xs
times_each (x ∷ xs) (y ∷ ys) = (x ⊗ y) ∷ times_each xs ys

abbrev pub amplified : Option (List Float) → List Float → List Float
amplified None xs = xs
amplified (Some amp) xs = times_each xs amp

-- the session, the voice and both outputs' frames that a block leaves
pub record Played : Type 0 where
  pub both : Both
  pub left : List Float
  pub right : List Float

abbrev pub played_of : Lent → Scene → Played
played_of l sc = record {
  both = both_of sc.playing;
  left = amplified l.inputs.amp sc.left;
  right = amplified l.inputs.amp sc.right;
}

unfoldable pub played_block : Lent → Session → SampleVoice → Played
played_block l s v = played_of l (sounded_from (cues_of l) (block_start l s v))
