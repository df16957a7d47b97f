-- A block's gate: at its end the voice holds the gate as the last frame has it, and the session counts it so. Assumes nothing.
use Rattle.std.specs.List.{list_any, range_with_len}
use Rattle.std.proofs.Common.{None, Option, Some, cond}
use Rattle.session.specs.declared.Off.{Off}
use Prim.Native.Nat.{ℕ, zero, suc, ◌+◌, ◌-◌, ◌<◌, ◌^◌, ◌%◌}
use mathlib.Core.Path.{◌≡◌, refl, sym, ap, subst, ◌∙◌}
use mathlib.Core.Bool.{Bool, true, false, not, ◌||◌}
use mathlib.Core.List.{List, [], ◌∷◌, foldl}
use native.Mathlib.Nat.{mod-eq_of_lt}
use native.Mathlib.Omega.{arith}
use lib.Dec.{ltb, leb, eqb}
use Rattle.session.specs.Offs.{took_first, collected_offs}
use Rattle.session.specs.State.{view, relist, slot_list, serial_up, held_down, with_seq}
use Rattle.session.specs.Rules.{mark_ended}
use Rattle.session.specs.declared.Session.{Session}
use Rattle.note.specs.Choice.{choosing_on}
use Rattle.note.specs.Note.{note_state}
use Rattle.note.specs.declared.NoteState.{NoteState}
use Rattle.note.specs.declared.Strike.{Strike}
use Rattle.players.specs.Gate.{released_all, offed_slot, ignored, fires}
use Rattle.players.specs.Mix.{Sounds}
use Rattle.players.specs.Seats.{sounding, is_over}
use Rattle.gates.specs.Gate.{risen, hit_at, note_started, noted_on, let_go_both, let_go_note, noted_off}
use Rattle.gates.specs.Off.{reaped_both, fired_note, may_fire, choke_fires, applied_off, acts_on, is_taken, took_own, own_offs}
use Rattle.events.specs.Start.{marked_by, entered_by, joined_by, started_region, started_all, releases_fired, fired_for, dispatched_release}
use Rattle.events.specs.Voice.{Kit, with_players, with_note, struck, ungated}
use Rattle.events.specs.declared.Both.{Both}
use Rattle.events.specs.declared.Cause.{Cause}
use Rattle.events.specs.declared.SampleVoice.{SampleVoice}
use Rattle.block.specs.Inputs.{Lent, Cues, cues_of, kit_of, sounds_of, gate_at, strike_at}
use Rattle.block.specs.Render.{Scene, both_of, with_both, with_ended, after_part, mixture_of, rendered_to}
use Rattle.block.specs.Block.{retuned_for, retuned_voice, block_start, off_list, falls_on, off_turn, off_turns, same_gate, with_gate, edge_turned, gate_turn, events_at, has_event, event_on, event_turn, frame_turn, frames_turned, sounded_from, started_block, played_block}
use Rattle.block.specs.declared.BlockTime.{BlockTime}
use Rattle.block.specs.declared.Playing.{Playing}
use Rattle.run.specs.Run.{one, last_gate}
use Rattle.run.proofs.BlockChain.{scene_both}
use Rattle.run.proofs.Chains.{itself}

-- ---- what leaves gate and count alone

pub record Rests (b c : Both) : Type 0 where
  pub held : c.session.held ≡ b.session.held
  pub gate : c.voice.gate_held ≡ b.voice.gate_held
  pub prev : c.voice.gate_prev ≡ b.voice.gate_prev

pub still : {b : Both} → Rests b b
still = record { held = refl; gate = refl; prev = refl }

pub also : {b c d : Both} → Rests b c → Rests c d → Rests b d
also r q = record { held = q.held ∙ r.held; gate = q.gate ∙ r.gate; prev = q.prev ∙ r.prev }

one_of : {A : Type 0} (f : A → Both) {b : Both} {x y : A} (t : Bool) → Rests b (f x) → Rests b (f y) → Rests b (f (cond t x y))
one_of f true r q = r
one_of f false r q = q

pub reaped-rests : (b : Both) → Rests b (reaped_both b)
unfolding reaped_both
reaped-rests b = one_of itself (list_any is_over (sounding b.voice.players)) (record { held = refl; gate = refl; prev = refl }) still

module _ (k : Kit) where
  pub region-rests : (n : NoteState) (c : Cause) (b : Both) (i : ℕ) → Rests b (started_region k n c b i)
  unfolding started_region marked_by entered_by joined_by
  region-rests n c b i =
      one_of itself (leb 32 b.voice.players.count) (record { held = refl; gate = refl; prev = refl }) (record { held = refl; gate = refl; prev = refl })

  pub all-rests : (n : NoteState) (c : Cause) (is : List ℕ) (b : Both) → Rests b (started_all k n c is b)
  unfolding started_all
  all-rests n c [] b = still
  all-rests n c (i ∷ is) b = also (region-rests n c b i) (all-rests n c is (started_region k n c b i))

  pub release-rests : (m : ℕ) (n : NoteState) (at : ℕ) (b : Both) → Rests b (releases_fired k m n at b)
  unfolding releases_fired
  release-rests m n at b =
      let c : Both = record { session = serial_up b.session; voice = b.voice } in
      also {c = c} (record { held = refl; gate = refl; prev = refl }) (all-rests n _ _ c)

  pub dispatch-rests : (m at : ℕ) (b : Both) → Rests b (dispatched_release k m at b)
  unfolding dispatched_release
  dispatch-rests m at b = by-case b.voice.note where
    by-case : (n : Option NoteState) → Rests b (fired_for k m at n b)
    by-case None = still
    by-case (Some n) = release-rests m n at b

  choke-rests : (m at : ℕ) (fires : Bool) (b : Both) → Rests b (choke_fires k m at fires b)
  unfolding choke_fires
  choke-rests m at fires b =
      let c : Both = record { session = b.session; voice = with_note (fired_note b.voice.note) b.voice } in
      one_of itself (may_fire fires b.voice) (also {c = c} (record { held = refl; gate = refl; prev = refl }) (dispatch-rests m at c)) still

  pub off-rests : (m slot at : ℕ) (b : Both) → Rests b (applied_off k m slot at b)
  unfolding applied_off
  off-rests m slot at b =
      let o = offed_slot slot b.voice.players in
      let c : Both = record { session = b.session; voice = with_players o.players b.voice } in
      one_of itself (ignored o.mark) still
      (also {c = c} (record { held = refl; gate = refl; prev = refl }) (also (reaped-rests c) (choke-rests m at (fires o.mark) (reaped_both c))))

  took-rests : (m : ℕ) (b : Both) → Rests b (took_own k m b)
  unfolding took_own took_first
  took-rests m b = also {c = c} (record { held = refl; gate = refl; prev = refl }) (by-case (took_first b.voice.voice b.session).first) where
    c : Both
    c = record { session = (took_first b.voice.voice b.session).session; voice = b.voice }

    by-case : (o : Option Off) → Rests c (acts_on k m o c)
    by-case None = still
    by-case (Some o) = off-rests m o.slot o.at c

  pub own-rests : (m turns : ℕ) (b : Both) → Rests b (own_offs k m turns b)
  unfolding own_offs
  own-rests m zero b = still
  own-rests m (suc turns) b =
      one_of itself (is_taken (took_first b.voice.voice b.session).first) (also (took-rests m b) (own-rests m turns (took_own k m b))) still

  turn-rests : (t : BlockTime) (i : ℕ) (p : Playing) → Rests (both_of p) (both_of (off_turn k t i p))
  unfolding off_turn
  turn-rests t i p = off-rests p.voice.program.regions _ (t.offset + i) (both_of p)

  pub turns-rest : (t : BlockTime) (i m : ℕ) (p : Playing) → Rests (both_of p) (both_of (off_turns k t i m p))
  unfolding off_turns
  turns-rest t i zero p = still
  turns-rest t i (suc m) p = one_of both_of (list_any (falls_on t i) (off_list p.offs)) (also (turn-rests t i p) (turns-rest t i m (off_turn k t i p))) still

let-go-rests : (b : Both) → Rests b (let_go_both b)
unfolding let_go_both
let-go-rests b =
    let r = released_all b.voice.players in
    let c : Both = record { session = b.session; voice = with_players r.players b.voice } in
    also {c = c} (record { held = refl; gate = refl; prev = refl }) (one_of itself r.killed (reaped-rests c) still)

pub rendered-rests : (x : Sounds) (to : ℕ) (sc : Scene) → Rests (scene_both sc) (scene_both (rendered_to x to sc))
unfolding rendered_to after_part
rendered-rests x to sc = one_of scene_both (ltb a to) (also {c = d} (marked (eqb (mixture_of x a to sc).mixed.ended.count 0)) (reaped-rests d)) still where
  a : ℕ
  a = sc.playing.from

  d : Both
  d = record {
    session = with_ended sc.playing.voice.voice (mixture_of x a to sc).mixed.ended sc.playing.session;
    voice = with_players (mixture_of x a to sc).mixed.players sc.playing.voice;
  }

  marked : (t : Bool)
      → Rests (scene_both sc)
      (record {
        session = cond t sc.playing.session (relist (mark_ended sc.playing.voice.voice (slot_list (mixture_of x a to sc).mixed.ended) (view sc.playing.session)) sc.playing.session);
        voice = with_players (mixture_of x a to sc).mixed.players sc.playing.voice;
      })
  marked true = record { held = refl; gate = refl; prev = refl }
  marked false = record { held = refl; gate = refl; prev = refl }

-- ---- the gate and the count since the block's start

-- the gate stands at g; the count has gone by the gate since it was g₀ and the count h₀
pub record At (g₀ : Bool) (h₀ : ℕ) (g : Bool) (b : Both) : Type 0 where
  pub gate : b.voice.gate_held ≡ g
  pub prev : b.voice.gate_prev ≡ g
  pub held : b.session.held + one g₀ ≡ h₀ + one g

rest_at : {g₀ g : Bool} {h₀ : ℕ} {b c : Both} → At g₀ h₀ g b → Rests b c → At g₀ h₀ g c
rest_at {g₀ = g₀} a r = record { gate = r.gate ∙ a.gate; prev = r.prev ∙ a.prev; held = ap (λ n. n + one g₀) r.held ∙ a.held }

same-gate : (g p : Bool) → not (same_gate g p) ≡ false → p ≡ g
same-gate true true e = refl
same-gate true false e = sym e
same-gate false true e = e
same-gate false false e = refl

or_right : (a b : Bool) → a || b ≡ false → b ≡ false
or_right true b e = let z : ◌≡◌ {A = ℕ} 0 1 = cc in absurd (omega arith)
or_right false b e = e

-- a gate that is held is counted
counted : (g₀ : Bool) (h₀ n : ℕ) → (g₀ ≡ true → 0 < h₀) → n + one g₀ ≡ h₀ + 1 → 0 < n
counted true h₀ n some e = let p = some refl in omega arith
counted false h₀ n some e = omega arith

abbrev gate_on : Cues → ℕ → Bool
gate_on c i = gate_at c.inputs.gate i

-- the gate after n frames from i on
last_of : Cues → Bool → ℕ → ℕ → Bool
last_of c g i zero = g
last_of c g i (suc n) = last_of c (gate_on c i) (i + 1) n

last-is : (c : Cues) (n i : ℕ) (g : Bool) → last_of c g i (suc n) ≡ gate_on c (i + n)
unfolding last_of
last-is c zero i g = ap (gate_on c) (omega arith)
last-is c (suc n) i g = last-is c n (i + 1) (gate_on c i) ∙ ap (gate_on c) (omega arith)

last-gate : (c : Cues) (g : Bool) (n : ℕ) → 0 < n → last_of c g 0 n ≡ gate_on c (n - 1)
last-gate c g zero h = absurd (omega arith)
last-gate c g (suc n) h = last-is c n 0 g ∙ ap (gate_on c) (omega arith)

module _ (g₀ : Bool) (h₀ : ℕ) (room : h₀ + 1 < 2 ^ 32) (some : g₀ ≡ true → 0 < h₀) where
  module _ (k : Kit) (x : Strike) where
    rise-at : (b : Both) → At g₀ h₀ false b → At g₀ h₀ true (edge_turned k x true b)
    unfolding edge_turned noted_on note_started
    rise-at b a = rest_at (rest_at {b = d} struck-at (all-rests k n _ _ d)) (own-rests k m 128 _) where
      m : ℕ
      m = b.voice.program.regions

      n : NoteState
      n = note_state x

      d : Both
      d = record { session = with_seq (choosing_on (hit_at k.words n (risen b.session)) m n.note b.session.seq).seq (risen b.session); voice = struck n (with_gate true b.voice) }

      struck-at : At g₀ h₀ true d
      struck-at =
          let e = a.held in
          let f : (b.session.held + 1) % 2 ^ 32 ≡ b.session.held + 1 = mod-eq_of_lt (omega arith) in
          record { gate = refl; prev = refl; held = omega arith }

    fall-at : (b : Both) → At g₀ h₀ true b → At g₀ h₀ false (edge_turned k x false b)
    unfolding edge_turned noted_off let_go_note
    fall-at b a = by-case b.voice.gate_held refl where
      m : ℕ
      m = b.voice.program.regions

      c : Both
      c = record { session = b.session; voice = with_gate false b.voice }

      d : Both
      d = record { session = held_down b.session; voice = ungated c.voice }

      let-go-at : At g₀ h₀ false d
      let-go-at =
          let e = a.held in
          let p = counted g₀ h₀ b.session.held some e in
          record { gate = refl; prev = refl; held = omega arith }

      by-case : (t : Bool) → b.voice.gate_held ≡ t → At g₀ h₀ false (cond t (let_go_note k m x.at c) c)
      by-case true e = rest_at (rest_at let-go-at (let-go-rests d)) (dispatch-rests k m x.at (let_go_both d))
      by-case false e = let f = a.gate in let z : ◌≡◌ {A = ℕ} 0 1 = cc in absurd (omega arith)

    -- after a frame's edge, if there is one, the gate is the frame's
    gate-at : (g q : Bool) (p : Playing) → At g₀ h₀ q (both_of p) → At g₀ h₀ g (both_of (gate_turn k x g p))
    unfolding gate_turn
    gate-at g q p a =
        subst (λ (t : Bool). At g₀ h₀ g (both_of (cond t (with_both (edge_turned k x g (both_of p)) p) p))) (sym (ap (λ (z : Bool). not (same_gate g z)) a.prev)) (go g q a) where
          go : (g q : Bool) → At g₀ h₀ q (both_of p) → At g₀ h₀ g (both_of (cond (not (same_gate g q)) (with_both (edge_turned k x g (both_of p)) p) p))
          go true true a = a
          go true false a = rise-at (both_of p) a
          go false true a = fall-at (both_of p) a
          go false false a = a

    events-at : (t : BlockTime) (i : ℕ) (g q : Bool) (p : Playing) → At g₀ h₀ q (both_of p) → At g₀ h₀ g (both_of (events_at k t i x g p))
    unfolding events_at
    events-at t i g q p a = gate-at g q (off_turns k t i p.offs.count p) (rest_at a (turns-rest k t i p.offs.count p))

  module _ (c : Cues) where
    frame-at : (q : Bool) (sc : Scene) (i : ℕ) → At g₀ h₀ q (scene_both sc) → At g₀ h₀ (gate_on c i) (scene_both (frame_turn c sc i))
    unfolding frame_turn event_turn has_event
    frame-at q sc i a = by-case (event_on c sc i) refl where
      rendered : Scene
      rendered = rendered_to (sounds_of c) i sc

      by-case : (t : Bool) → event_on c sc i ≡ t
          → At g₀ h₀ (gate_on c i) (scene_both (cond t (record { playing = events_at (kit_of c) c.time i (strike_at c i) (gate_on c i) rendered.playing; left = rendered.left; right = rendered.right }) sc))
      by-case true e = events-at (kit_of c) (strike_at c i) c.time i (gate_on c i) q rendered.playing (rest_at a (rendered-rests (sounds_of c) i sc))
      by-case false e =
          subst (λ (g : Bool). At g₀ h₀ g (scene_both sc))
          (sym a.prev ∙ same-gate (gate_on c i) sc.playing.voice.gate_prev (or_right (list_any (falls_on c.time i) (off_list sc.playing.offs)) _ e)) a

    frames-at : (n i : ℕ) (q : Bool) (sc : Scene) → At g₀ h₀ q (scene_both sc) → At g₀ h₀ (last_of c q i n) (scene_both (foldl (frame_turn c) sc (range_with_len i n)))
    unfolding last_of
    frames-at zero i q sc a = a
    frames-at (suc n) i q sc a = frames-at n (i + 1) (gate_on c i) (frame_turn c sc i) (frame-at q sc i a)

-- ---- a block

retuned-rests : (l : Lent) (b : Both) → Rests b (record { session = b.session; voice = retuned_voice l.inputs b.voice })
unfolding retuned_voice
retuned-rests l b = by-case b.voice.note where
  by-case : (n : Option NoteState) → Rests b (record { session = b.session; voice = retuned_for l.inputs n b.voice })
  by-case None = still
  by-case (Some n) = record { held = refl; gate = refl; prev = refl }

start-rests : (l : Lent) (s : Session) (v : SampleVoice) → Rests (record { session = s; voice = v }) (scene_both (block_start l s v))
unfolding block_start started_block collected_offs
start-rests l s v =
    let c : Both = record { session = (collected_offs v.voice s).session; voice = v } in
    also {c = c} (record { held = refl; gate = refl; prev = refl }) (retuned-rests l c)

-- what a block leaves of gate and count
pub record GateLeft (l : Lent) (s : Session) (v : SampleVoice) (b : Both) : Type 0 where
  pub gate : b.voice.gate_held ≡ last_gate l
  pub prev : b.voice.gate_prev ≡ last_gate l
  pub held : b.session.held + one v.gate_held ≡ s.held + one (last_gate l)

pub block-gate : (l : Lent) (s : Session) (v : SampleVoice) → 0 < l.time.frames → v.gate_held ≡ v.gate_prev → s.held + 1 < 2 ^ 32
    → (v.gate_held ≡ true → 0 < s.held) → GateLeft l s v (played_block l s v).both
unfolding played_block sounded_from frames_turned
block-gate l s v some-frames level room some = record { gate = a.gate; prev = a.prev; held = a.held } where
  begun : At v.gate_held s.held v.gate_held (scene_both (block_start l s v))
  begun = rest_at {b = record { session = s; voice = v }} (record { gate = refl; prev = sym level; held = refl }) (start-rests l s v)

  over : Scene
  over = foldl (frame_turn (cues_of l)) (block_start l s v) (range_with_len 0 l.time.frames)

  through : At v.gate_held s.held (last_gate l) (scene_both over)
  through =
      subst (λ (g : Bool). At v.gate_held s.held g (scene_both over)) (last-gate (cues_of l) v.gate_held l.time.frames some-frames)
      (frames-at v.gate_held s.held room some (cues_of l) l.time.frames 0 v.gate_held (block_start l s v) begun)

  a : At v.gate_held s.held (last_gate l) (scene_both (rendered_to (sounds_of (cues_of l)) l.time.frames over))
  a = rest_at through (rendered-rests (sounds_of (cues_of l)) l.time.frames over)

-- the same, the count said outright
pub block_held : (l : Lent) (s : Session) (v : SampleVoice) (b : Both) → GateLeft l s v b → b.session.held ≡ s.held + one (last_gate l) - one v.gate_held
block_held l s v b h = let e = h.held in omega arith
