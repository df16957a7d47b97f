-- A block is a chain of moves with the starts that specs/Starts gives it. Assumes nothing.
use Rattle.std.specs.List.{list_any, range_with_len}
use Rattle.std.proofs.Common.{None, Option, Some}
use Rattle.note.specs.declared.NoteState.{NoteState}
use Prim.Native.Nat.{ℕ, zero, suc, ◌+◌}
use mathlib.Core.Path.{refl}
use mathlib.Core.Bool.{Bool}
use mathlib.Core.List.{List, [], ◌∷◌, foldl, append-nil}
use lib.Dec.{ltb}
use Rattle.exact.specs.Single.{f0}
use Rattle.session.specs.Offs.{collected_offs}
use Rattle.session.specs.declared.Session.{Session}
use Rattle.note.specs.Note.{note_of}
use Rattle.note.specs.declared.Strike.{Strike}
use Rattle.players.specs.Mix.{Sounds}
use Rattle.events.specs.Voice.{Kit, with_players}
use Rattle.events.specs.declared.Both.{Both}
use Rattle.events.specs.declared.SampleVoice.{SampleVoice}
use Rattle.block.specs.Inputs.{Lent, Cues, cues_of, kit_of, sounds_of, input_at, gate_at, strike_at, bend_of}
use Rattle.block.specs.Render.{Scene, both_of, with_ended, after_part, mixture_of, part, rendered_to}
use Rattle.block.specs.Block.{retuned_for, retuned_voice, block_start, off_list, falls_on, off_turn, off_turns, with_gate, edge_turned, turns, gate_turn, events_at, event_on, event_turn, frame_turn, frames_turned, sounded_from, started_block, played_block}
use Rattle.block.specs.declared.BlockTime.{BlockTime}
use Rattle.block.specs.declared.Playing.{Playing}
use Rattle.run.specs.Starts.{slot_on, starts_of_off, starts_of_turns, starts_of_gate, starts_of_events, starts_of_frame, starts_of_frames, starts_of_block}
use Rattle.run.proofs.Moves.{Shape, Moves}
use Rattle.run.proofs.Stays.{keeps_same, keeps-collected, keeps-ended, keeps-retuned, keeps-played}
use Rattle.run.proofs.Chains.{Turns, stay, then, kept, reap, either, either-one, itself, off-chain, on_chain, fall-chain}

abbrev pub scene_both : Scene → Both
scene_both sc = both_of sc.playing

-- ---- the events of a frame

module _ (id : ℕ) (k : Kit) where
  pub turn-chain : (t : BlockTime) (i : ℕ) (p : Playing)
      → Turns id (both_of p) (starts_of_off k p.voice.program.regions (slot_on t i p) (t.offset + i) (both_of p)) (both_of (off_turn k t i p))
  unfolding off_turn
  turn-chain t i p = off-chain id k p.voice.program.regions (slot_on t i p) (t.offset + i) (both_of p)

  pub turns-chain : (t : BlockTime) (i m : ℕ) (p : Playing) → Turns id (both_of p) (starts_of_turns k t i m p) (both_of (off_turns k t i m p))
  unfolding starts_of_turns off_turns
  turns-chain t i zero p = stay
  turns-chain t i (suc m) p = either both_of (list_any (falls_on t i) (off_list p.offs)) (then (turn-chain t i p) (turns-chain t i m (off_turn k t i p))) stay

  pub gate-chain : (x : Strike) (g : Bool) (p : Playing) → Turns id (both_of p) (starts_of_gate k x g p) (both_of (gate_turn k x g p))
  unfolding starts_of_gate gate_turn edge_turned
  gate-chain x g p =
      let n = p.voice.program.regions in
      let c : Both = record { session = p.session; voice = with_gate g p.voice } in
      either both_of (turns p.voice.gate_prev g)
      (then (kept (keeps_same id (both_of p) c refl refl refl refl refl refl refl)) (either itself g (on_chain id k n x c) (fall-chain id k n x.at c))) stay

  pub events-chain : (t : BlockTime) (i : ℕ) (x : Strike) (g : Bool) (p : Playing) → Turns id (both_of p) (starts_of_events k t i x g p) (both_of (events_at k t i x g p))
  unfolding starts_of_events events_at
  events-chain t i x g p = then (turns-chain t i p.offs.count p) (gate-chain x g (off_turns k t i p.offs.count p))

-- ---- the frames between events

pub rendered-chain : (id : ℕ) (x : Sounds) (to : ℕ) (sc : Scene) → Turns id (scene_both sc) [] (scene_both (rendered_to x to sc))
unfolding rendered_to after_part
rendered-chain id x to sc = either-one scene_both (ltb a to) (then marked (then played (reap d))) stay where
  a : ℕ
  a = sc.playing.from

  b : Both
  b = scene_both sc

  c : Both
  c = record { session = with_ended b.voice.voice (mixture_of x a to sc).mixed.ended b.session; voice = b.voice }

  d : Both
  d = record { session = c.session; voice = with_players (mixture_of x a to sc).mixed.players b.voice }

  marked : Turns id b [] c
  marked = kept (λ h. keeps-ended id b h (mixture_of x a to sc).mixed.ended)

  played : Turns id c [] d
  played = kept (λ h. keeps-played id c h x (part a to sc.left) (part a to sc.right))

-- ---- a block

module _ (id : ℕ) (c : Cues) where
  pub frame-chain : (sc : Scene) (i : ℕ) → Turns id (scene_both sc) (starts_of_frame c sc i) (scene_both (frame_turn c sc i))
  unfolding starts_of_frame frame_turn event_turn
  frame-chain sc i =
      either scene_both (event_on c sc i)
      (then (rendered-chain id (sounds_of c) i sc)
      (events-chain id (kit_of c) c.time i (strike_at c i) (gate_at c.inputs.gate i) (rendered_to (sounds_of c) i sc).playing)) stay

  pub frames-chain : (is : List ℕ) (sc : Scene) → Turns id (scene_both sc) (starts_of_frames c is sc) (scene_both (foldl (frame_turn c) sc is))
  unfolding starts_of_frames
  frames-chain [] sc = stay
  frames-chain (i ∷ is) sc = then (frame-chain sc i) (frames-chain is (frame_turn c sc i))

module _ (id : ℕ) (l : Lent) where
  retuned-chain : (b : Both) → Turns id b [] (record { session = b.session; voice = retuned_voice l.inputs b.voice })
  unfolding retuned_voice
  retuned-chain b = by-case b.voice.note where
    by-case : (n : Option NoteState) → Turns id b [] (record { session = b.session; voice = retuned_for l.inputs n b.voice })
    by-case None = stay
    by-case (Some n) =
        kept (λ h. keeps-retuned id b h (note_of (input_at l.inputs.freq 0 f0) n.note_f) (bend_of (input_at l.inputs.bend 0 f0)))

  pub start-chain : (s : Session) (v : SampleVoice) → Turns id (record { session = s; voice = v }) [] (scene_both (block_start l s v))
  unfolding block_start started_block
  start-chain s v =
      let b : Both = record { session = s; voice = v } in
      let c : Both = record { session = (collected_offs v.voice s).session; voice = v } in
      then (kept (keeps-collected id b)) (retuned-chain c)

  pub sounded-chain : (s : Session) (v : SampleVoice) → Turns id (record { session = s; voice = v }) (starts_of_block l s v) (played_block l s v).both
  unfolding starts_of_block played_block sounded_from frames_turned
  sounded-chain s v =
      rw (← (append-nil (starts_of_frames (cues_of l) (range_with_len 0 l.time.frames) (block_start l s v))))
      (then (start-chain s v)
      (then (frames-chain id (cues_of l) (range_with_len 0 l.time.frames) (block_start l s v)) (rendered-chain id (sounds_of (cues_of l)) l.time.frames (foldl (frame_turn (cues_of l)) (block_start l s v) (range_with_len 0 l.time.frames)))))

-- the whole block
pub block-chain : (l : Lent) (s : Session) (v : SampleVoice) → Shape v.voice (record { session = s; voice = v })
    → Moves v.voice (record { session = s; voice = v }) (starts_of_block l s v) (played_block l s v).both
block-chain l s v = sounded-chain v.voice l s v
