-- What every turn of a block, and a whole block, leaves as it is: the live voices, and the voice's id, rate and program. Assumes nothing.
use Rattle.std.specs.List.{list_any, range_with_len}
use Rattle.std.proofs.Common.{None, Option, Some, cond}
use Rattle.note.specs.declared.NoteState.{NoteState}
use Prim.Native.Nat.{ℕ, zero, suc, ◌+◌}
use mathlib.Core.Path.{◌≡◌, refl, ◌∙◌}
use mathlib.Core.Bool.{Bool, true, false}
use mathlib.Core.List.{List, [], ◌∷◌, foldl}
use lib.ListN.{get_or}
use lib.Dec.{ltb, eqb}
use lib.Ieee.{Float}
use Rattle.session.specs.Offs.{no_off, first_at, collected_offs}
use Rattle.session.specs.Rules.{mark_ended}
use Rattle.session.specs.State.{view, relist, slot_list}
use Rattle.session.specs.declared.Session.{Session}
use Rattle.session.specs.declared.Slots.{Slots}
use Rattle.players.specs.Mix.{Sounds}
use Rattle.players.specs.Mix.{Mixed}
use Rattle.note.specs.declared.Strike.{Strike}
use Rattle.events.specs.Voice.{Kit, with_players}
use Rattle.gates.specs.Off.{reaped_both, applied_off}
use Rattle.gates.specs.Gate.{noted_on, noted_off}
use Rattle.events.specs.declared.Both.{Both}
use Rattle.events.specs.declared.SampleVoice.{SampleVoice}
use Rattle.gates.proofs.Edges.{Stays, reap-stays, off-stays, on-stays, off-held, off-not-held}
use Rattle.block.specs.declared.BlockTime.{BlockTime}
use Rattle.block.specs.declared.Playing.{Playing}
use Rattle.block.specs.Inputs.{Signals, Lent, Cues, cues_of, kit_of, sounds_of, gate_at, strike_at}
use Rattle.block.specs.Render.{Scene, both_of, with_both, with_ended, after_part, scene_after, mixture_of, rendered_to}
use Rattle.block.specs.Block.{retuned_for, retuned_voice, started_block, block_start, off_list, falls_on, off_turn, off_turns, turns, with_gate, edge_turned, gate_turn, events_at, event_on, event_turn, frame_turn, frames_turned, sounded_from, played_block}

pub record Lasts (a b : Both) : Type 0 where
  pub voices : b.session.voices ≡ a.session.voices
  pub id : b.voice.voice ≡ a.voice.voice
  pub rate : b.voice.sample_rate ≡ a.voice.sample_rate
  pub program : b.voice.program ≡ a.voice.program

lasts-same : (b : Both) → Lasts b b
lasts-same b = record { voices = refl; id = refl; rate = refl; program = refl }

lasts-then : {a b c : Both} → Lasts a b → Lasts b c → Lasts a c
lasts-then x y = record { voices = y.voices ∙ x.voices; id = y.id ∙ x.id; rate = y.rate ∙ x.rate; program = y.program ∙ x.program }

-- ---- events

of-stays : {a b : Both} → Stays a b → Lasts a b
of-stays x = record { voices = x.voices; id = x.voice; rate = x.rate; program = x.program }

pub reap-lasts : (b : Both) → Lasts b (reaped_both b)
reap-lasts b = of-stays (reap-stays b)

module _ (k : Kit) (m : ℕ) where
  pub off-lasts : (slot at : ℕ) (b : Both) → Lasts b (applied_off k m slot at b)
  off-lasts slot at b = of-stays (off-stays k m slot at b)

  pub rise-lasts : (x : Strike) (b : Both) → Lasts b (noted_on k m x b)
  rise-lasts x b = let t = on-stays k m x b in record { voices = t.voices; id = t.voice; rate = t.rate; program = t.program }

  pub fall-lasts : (at : ℕ) (b : Both) → Lasts b (noted_off k m at b)
  fall-lasts at b = by-case b.voice.gate_held refl where
    by-case : (t : Bool) → b.voice.gate_held ≡ t → Lasts b (noted_off k m at b)
    by-case true e = let x = off-held k m at b e in record { voices = x.voices; id = x.voice; rate = x.rate; program = x.program }
    by-case false e = rw (off-not-held k m at b e) (lasts-same b)

-- ---- a frame's events

module _ (k : Kit) (t : BlockTime) (i : ℕ) where
  turn-lasts : (p : Playing) → Lasts (both_of p) (both_of (off_turn k t i p))
  unfolding off_turn
  turn-lasts p =
      off-lasts k p.voice.program.regions (get_or p.offs.offs (first_at (falls_on t i) (off_list p.offs)) no_off).slot (t.offset + i) (both_of p)

  turns-last : (m : ℕ) (p : Playing) → Lasts (both_of p) (both_of (off_turns k t i m p))
  unfolding off_turns
  turns-last zero p = lasts-same (both_of p)
  turns-last (suc m) p = by-case (list_any (falls_on t i) (off_list p.offs)) (lasts-then (turn-lasts p) (turns-last m (off_turn k t i p))) where
    by-case : (b : Bool) → Lasts (both_of p) (both_of (off_turns k t i m (off_turn k t i p)))
        → Lasts (both_of p) (both_of (cond b (off_turns k t i m (off_turn k t i p)) p))
    by-case true x = x
    by-case false x = lasts-same (both_of p)

module _ (k : Kit) (x : Strike) where
  edge-lasts : (g : Bool) (b : Both) → Lasts b (edge_turned k x g b)
  unfolding edge_turned
  edge-lasts true b =
      let y = rise-lasts k b.voice.program.regions x (record { session = b.session; voice = with_gate true b.voice }) in
      record { voices = y.voices; id = y.id; rate = y.rate; program = y.program }
  edge-lasts false b =
      let y = fall-lasts k b.voice.program.regions x.at (record { session = b.session; voice = with_gate false b.voice }) in
      record { voices = y.voices; id = y.id; rate = y.rate; program = y.program }

  gate-lasts : (g : Bool) (p : Playing) → Lasts (both_of p) (both_of (gate_turn k x g p))
  unfolding gate_turn
  gate-lasts g p = by-case (turns p.voice.gate_prev g) where
    by-case : (b : Bool) → Lasts (both_of p) (both_of (cond b (with_both (edge_turned k x g (both_of p)) p) p))
    by-case true = edge-lasts g (both_of p)
    by-case false = lasts-same (both_of p)

  events-last : (t : BlockTime) (i : ℕ) (g : Bool) (p : Playing) → Lasts (both_of p) (both_of (events_at k t i x g p))
  unfolding events_at
  events-last t i g p = lasts-then (turns-last k t i p.offs.count p) (gate-lasts g (off_turns k t i p.offs.count p))

-- ---- frames

ended-voices : (id : ℕ) (ks : Slots) (s : Session) → (with_ended id ks s).voices ≡ s.voices
ended-voices id ks s = by-case (eqb ks.count 0) where
  by-case : (t : Bool) → (cond t s (relist (mark_ended id (slot_list ks) (view s)) s)).voices ≡ s.voices
  by-case true = refl
  by-case false = refl

part-lasts : (b : ℕ) (p : Playing) (m : Mixed) → Lasts (both_of p) (both_of (after_part b p m))
unfolding after_part
part-lasts b p m =
    let y = reap-lasts (record { session = with_ended p.voice.voice m.ended p.session; voice = with_players m.players p.voice }) in
    record { voices = y.voices ∙ ended-voices p.voice.voice m.ended p.session; id = y.id; rate = y.rate; program = y.program }

pub rendered-lasts : (x : Sounds) (b : ℕ) (sc : Scene) → Lasts (both_of sc.playing) (both_of (rendered_to x b sc).playing)
unfolding rendered_to
rendered-lasts x b sc = by-case (ltb sc.playing.from b) where
  by-case : (t : Bool) → Lasts (both_of sc.playing) (both_of (cond t (scene_after sc.playing.from b sc (mixture_of x sc.playing.from b sc)) sc).playing)
  by-case true = part-lasts b sc.playing (mixture_of x sc.playing.from b sc).mixed
  by-case false = lasts-same (both_of sc.playing)

module _ (c : Cues) where
  event-lasts : (i : ℕ) (sc : Scene) → Lasts (both_of sc.playing) (both_of (event_turn c i sc).playing)
  unfolding event_turn
  event-lasts i sc =
      lasts-then (rendered-lasts (sounds_of c) i sc)
      (events-last (kit_of c) (strike_at c i) c.time i (gate_at c.inputs.gate i) (rendered_to (sounds_of c) i sc).playing)

  frame-lasts : (sc : Scene) (i : ℕ) → Lasts (both_of sc.playing) (both_of (frame_turn c sc i).playing)
  unfolding frame_turn
  frame-lasts sc i = by-case (event_on c sc i) where
    by-case : (t : Bool) → Lasts (both_of sc.playing) (both_of (cond t (event_turn c i sc) sc).playing)
    by-case true = event-lasts i sc
    by-case false = lasts-same (both_of sc.playing)

  all-last : (is : List ℕ) (sc : Scene) → Lasts (both_of sc.playing) (both_of (foldl (frame_turn c) sc is).playing)
  all-last [] sc = lasts-same (both_of sc.playing)
  all-last (i ∷ is) sc = lasts-then (frame-lasts sc i) (all-last is (frame_turn c sc i))

  sounded-lasts : (sc : Scene) → Lasts (both_of sc.playing) (both_of (sounded_from c sc).playing)
  unfolding sounded_from frames_turned
  sounded-lasts sc =
      lasts-then (all-last (range_with_len 0 c.time.frames) sc)
      (rendered-lasts (sounds_of c) c.time.frames (foldl (frame_turn c) sc (range_with_len 0 c.time.frames)))

-- ---- a block

pub start-lasts : (ins : Signals) (s : Session) (v : SampleVoice)
    → Lasts (record { session = s; voice = v }) (both_of (started_block ins s v))
unfolding started_block collected_offs retuned_voice
start-lasts ins s v = by-case v.note where
  by-case : (m : Option NoteState) → Lasts (record { session = s; voice = v }) (record { session = (collected_offs v.voice s).session; voice = retuned_for ins m v })
  by-case None = record { voices = refl; id = refl; rate = refl; program = refl }
  by-case (Some n) = record { voices = refl; id = refl; rate = refl; program = refl }

pub block-lasts : (l : Lent) (s : Session) (v : SampleVoice) → Lasts (record { session = s; voice = v }) (played_block l s v).both
unfolding played_block block_start
block-lasts l s v = lasts-then (start-lasts l.inputs s v) (sounded-lasts (cues_of l) (block_start l s v))
