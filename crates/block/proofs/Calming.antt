-- A block without events: no off time of the voice waits, and the gate stays. Its players are tuned, and all frames are one part. Assumes
-- nothing.
use Rattle.std.specs.List.{list_any, range_with_len}
use Rattle.std.specs.Option.{unwrap_or}
use Rattle.std.proofs.Common.{None, Option, Some, cond, filter, ◌||◌}
use Prim.Native.Nat.{ℕ, ◌-◌, ◌<◌, ◌≤◌}
use mathlib.Core.Path.{◌≡◌, refl, sym, ap, ◌∙◌}
use mathlib.Core.Bool.{Bool, true, false, true≢false}
use mathlib.Core.List.{List, [], ◌∷◌, ◌++◌, foldl, map, append-nil}
use native.Mathlib.Omega.{arith}
use native.Mathlib.Nat.{sub-zero}
use lib.ListN.{length, replicate, drop_of_length-le, length-replicate}
use lib.Seq.{take_all}
use lib.Ieee.{Float}
use borrow.Author.Tests.{lt-ltb, eq-eqb}
use Rattle.exact.specs.Single.{f0}
use Rattle.session.specs.Lists.{change_where}
use Rattle.session.specs.Offs.{off_of, offs_of, collected_offs}
use Rattle.session.specs.Records.{waits, collected}
use Rattle.session.specs.Rules.{collect, mark_ended}
use Rattle.session.specs.State.{view, relist, slot_list}
use Rattle.session.specs.declared.Collected.{Collected}
use Rattle.session.specs.declared.PlayerRecord.{PlayerRecord}
use Rattle.session.specs.declared.Session.{Session}
use Rattle.session.specs.declared.Slots.{Slots}
use Rattle.session.proofs.Relist.{relist-view}
use Rattle.note.specs.Note.{note_of}
use Rattle.note.specs.declared.NoteState.{NoteState}
use Rattle.players.specs.Mix.{Sounds, Mixture, tuned_all, played_all}
use Rattle.players.specs.Seats.{sounding, is_over, retuned_all, PlayersOk}
use Rattle.players.specs.Mix.{Mixed}
use Rattle.players.specs.declared.Players.{Players}
use Rattle.players.specs.declared.Tune.{Tune}
use Rattle.gates.specs.Off.{reaped_both}
use Rattle.events.specs.Voice.{with_players}
use Rattle.events.specs.declared.SampleVoice.{SampleVoice}
use Rattle.gates.proofs.Turns.{reap-none}
use Rattle.block.specs.declared.BlockTime.{BlockTime}
use Rattle.block.specs.Inputs.{Signals, Lent, Cues, cues_of, sounds_of, input_at, bend_of}
use Rattle.block.specs.Render.{Scene, put_at, part, after_part, scene_after, mixture_of, rendered_to}
use Rattle.block.specs.Block.{retuned_for, retuned_voice, started_block, block_start, event_on, frame_turn, frames_turned, sounded_from, amplified, Played, played_of, played_block}
use Rattle.block.specs.Calm.{tune_of, calm_part, settled}
use Rattle.block.specs.Next.{next_gate, next_off, next_event}
use Rattle.block.proofs.Firsts.{skip-to, find_nothing, first_event}
use Rattle.block.proofs.Framing.{still}

-- ---- the session

none-wait : (id : ℕ) (rs : List PlayerRecord) → list_any (waits id) rs ≡ false → (change_where (waits id) collected rs ≡ rs) × (filter (waits id) rs ≡ [])
none-wait id [] e = (refl, refl)
none-wait id (r ∷ rs) e = by-case (waits id r) e (none-wait id rs)
  where
    by-case : (t : Bool) → t || list_any (waits id) rs ≡ false
        → (list_any (waits id) rs ≡ false → (change_where (waits id) collected rs ≡ rs) × (filter (waits id) rs ≡ []))
        → (cond t (collected r) r ∷ change_where (waits id) collected rs ≡ r ∷ rs) × (cond t (r ∷ filter (waits id) rs) (filter (waits id) rs) ≡ [])
    by-case true e rest = absurd (true≢false e)
    by-case false e rest = (ap (λ l. r ∷ l) (rest e).0, (rest e).1)

none-collected : (id : ℕ) (s : Session) → length s.players ≡ 512 → s.count ≤ 512 → list_any (waits id) (view s) ≡ false
    → ◌≡◌ {A = Collected} (collected_offs id s) (record { session = s; offs = offs_of [] })
unfolding collected_offs collect
none-collected id s size few own =
    let w = none-wait id (view s) own in
    ap (λ l. record { session = relist l s; offs = offs_of (map off_of (filter (waits id) (view s))) }) w.0
    ∙ ap (λ l. record { session = relist (view s) s; offs = offs_of (map off_of l) }) w.1
    ∙ ap (λ (x : Session). record { session = x; offs = offs_of [] }) (relist-view s size few)

-- ---- the voice

-- the pitch that the block sets is how it tunes the players
tuned-is : (ins : Signals) (v : SampleVoice) (m : Option NoteState) → retuned_for ins m v ≡ with_players (tuned_all (tune_of m ins) v.players) v
unfolding tuned_all tune_of
tuned-is ins v None = refl
tuned-is ins v (Some n) = refl

-- ---- the frames

-- where no event comes, the frames pass
no-event : (c : Cues) (sc : Scene)
    → next_event c.time sc.playing.offs sc.playing.voice.gate_prev c.inputs.gate 0 ≡ c.time.frames
    → frames_turned c sc ≡ sc
unfolding frames_turned next_event
no-event c sc e =
    let none : c.time.frames - c.time.frames ≡ 0 = omega arith in
    ap (λ k. foldl (frame_turn c) sc (range_with_len 0 k)) (sym (sub-zero c.time.frames))
    ∙ skip-to (frame_turn c) (event_on c) sc (still c sc) 0 c.time.frames c.time.frames (omega arith) (sym e)
    ∙ ap (λ k. foldl (frame_turn c) sc (range_with_len c.time.frames k)) none

-- no off time, and no turn of the gate
no-next : (t : BlockTime) (prev : Bool) (gate : Option (List Float)) → next_gate prev gate 0 t.frames ≡ None
    → next_event t (offs_of []) prev gate 0 ≡ t.frames
unfolding next_off
no-next t prev gate e =
    let f : unwrap_or (next_off t (offs_of []) 0) t.frames ≡ t.frames = ap (λ o. unwrap_or o t.frames) (find_nothing (range_with_len 0 (t.frames - 0))) in
    let g : unwrap_or (next_gate prev gate 0 t.frames) t.frames ≡ t.frames = ap (λ o. unwrap_or o t.frames) e in
    omega (arith, first_event t (offs_of []) prev gate 0 (omega arith), f, g)

-- the block before its first frame: session and voice, no off time, and clear outputs
abbrev pub standing : Lent → Session → SampleVoice → Scene
standing l s v = record {
  playing = record { session = s; voice = v; offs = offs_of []; from = 0 };
  left = replicate l.time.frames f0;
  right = replicate l.time.frames f0;
}

-- the voice as the block tunes it
abbrev pub tuned_voice : Lent → SampleVoice → SampleVoice
tuned_voice l v = with_players (tuned_all (tune_of v.note l.inputs) v.players) v

-- without events the frames are one part
pub eventless : (l : Lent) (s : Session) (v : SampleVoice) → length s.players ≡ 512 → s.count ≤ 512 → list_any (waits v.voice) (view s) ≡ false
    → next_gate v.gate_prev l.inputs.gate 0 l.time.frames ≡ None
    → played_block l s v ≡ played_of l (rendered_to (sounds_of (cues_of l)) l.time.frames (standing l s (tuned_voice l v)))
unfolding played_block sounded_from block_start started_block retuned_voice
eventless l s v size few own stays =
    let n = l.time.frames in
    let zs : List Float = replicate l.time.frames f0 in
    ap (λ (o : Collected). played_of l (rendered_to (sounds_of (cues_of l)) n (frames_turned (cues_of l) (record { playing = record { session = o.session; voice = retuned_for l.inputs v.note v; offs = o.offs; from = 0 }; left = zs; right = zs }))))
    (none-collected v.voice s size few own)
    ∙ ap (λ (w : SampleVoice). played_of l (rendered_to (sounds_of (cues_of l)) n (frames_turned (cues_of l) (standing l s w))))
    (tuned-is l.inputs v v.note)
    ∙ ap (λ (sc : Scene). played_of l (rendered_to (sounds_of (cues_of l)) n sc))
    (no-event (cues_of l) (standing l s (tuned_voice l v)) (no-next l.time v.gate_prev l.inputs.gate stays))

-- ---- the part

clear-part : (n : ℕ) → part 0 n (replicate n f0) ≡ replicate n f0
clear-part n = take_all (n - 0) (replicate n f0) (omega (arith, length-replicate n f0))

put_whole : (n : ℕ) (ys : List Float) → put_at 0 n (replicate n f0) ys ≡ ys
put_whole n ys = ap (λ l. ys ++ l) (drop_of_length-le (replicate n f0) {i = n - 0} (omega (arith, length-replicate n f0))) ∙ append-nil ys

module _ (l : Lent) (s : Session) (v : SampleVoice) where
  -- what the players leave
  abbrev settled_block : Mixed → List Float → List Float → Played
  settled_block m ls rs = record {
    both = settled m.ended (record { session = s; voice = with_players m.players v });
    left = amplified l.inputs.amp ls;
    right = amplified l.inputs.amp rs;
  }

  rendered : (x : Sounds) → 0 < l.time.frames
      → let m = played_all x v.players (replicate l.time.frames f0) (replicate l.time.frames f0) in
      played_of l (rendered_to x l.time.frames (standing l s v)) ≡ settled_block m.mixed m.left m.right
  unfolding rendered_to after_part settled
  rendered x some =
      let n = l.time.frames in
      let zs : List Float = replicate l.time.frames f0 in
      let m : Mixture = played_all x v.players zs zs in
      ap (λ (t : Bool). played_of l (cond t (scene_after 0 n (standing l s v) (mixture_of x 0 n (standing l s v))) (standing l s v))) (lt-ltb 0 n some)
      ∙ ap (λ (z : List Float). played_of l (scene_after 0 n (standing l s v) (played_all x v.players z z))) (clear-part n)
      ∙ ap (λ (z : List Float). settled_block m.mixed z (put_at 0 n zs m.right)) (put_whole n m.left)
      ∙ ap (settled_block m.mixed m.left) (put_whole n m.right)

-- ---- the block

pub calm-is : (l : Lent) (s : Session) (v : SampleVoice) → length s.players ≡ 512 → s.count ≤ 512 → list_any (waits v.voice) (view s) ≡ false
    → 0 < l.time.frames → next_gate v.gate_prev l.inputs.gate 0 l.time.frames ≡ None
    → played_block l s v
    ≡ (let m = calm_part (sounds_of (cues_of l)) (tune_of v.note l.inputs) l.inputs.amp v.players l.time.frames in
    record { both = settled m.mixed.ended (record { session = s; voice = with_players m.mixed.players v }); left = m.left; right = m.right })
unfolding calm_part
calm-is l s v size few own some stays = eventless l s v size few own stays ∙ rendered l s (tuned_voice l v) (sounds_of (cues_of l)) some

-- where nothing ended and nobody is done, session and voice stay
pub calm-stays : (e : Slots) (s : Session) (v : SampleVoice) → PlayersOk v.players → e.count ≡ 0 → list_any is_over (sounding v.players) ≡ false
    → settled e (record { session = s; voice = v }) ≡ record { session = s; voice = v }
unfolding settled
calm-stays e s v ok none on =
    ap (λ (t : Bool). reaped_both (record { session = cond t s (relist (mark_ended v.voice (slot_list e) (view s)) s); voice = v })) (eq-eqb e.count 0 none)
    ∙ sym (reap-none s v false (sym on) refl)

-- ---- what the functions do, step by step

module _ (ins : Signals) (v : SampleVoice) where
  pub tuned-none : None ≡ tune_of v.note ins → v ≡ retuned_voice ins v
  unfolding retuned_voice tuned_all
  tuned-none e = ap (λ (t : Option Tune). with_players (tuned_all t v.players) v) e ∙ sym (tuned-is ins v v.note)

  pub tuned-some : (t : Tune) → Some t ≡ tune_of v.note ins → (ps : Players) → ps ≡ retuned_all t.note_f t.bend v.players
      → (w : SampleVoice) → w ≡ with_players ps v → w ≡ retuned_voice ins v
  unfolding retuned_voice tuned_all
  tuned-some t e ps eps w ew =
      ew ∙ ap (λ (p : Players). with_players p v) eps
      ∙ ap (λ (x : Option Tune). with_players (tuned_all x v.players) v) e ∙ sym (tuned-is ins v v.note)

module _ (x : Sounds) (t : Option Tune) (amp : Option (List Float)) (ps : Players) (n : ℕ) where
  pub part-is : (ls rs : List Float) → ls ≡ replicate n f0 → rs ≡ replicate n f0 → (m : Mixture) → m ≡ played_all x (tuned_all t ps) ls rs
      → (fs gs : List Float) → fs ≡ amplified amp m.left → gs ≡ amplified amp m.right
      → ◌≡◌ {A = Mixture} (record { mixed = m.mixed; left = fs; right = gs }) (calm_part x t amp ps n)
  unfolding calm_part
  part-is ls rs el er m em fs gs ea eb =
      ap (λ (z : List Float). record { mixed = m.mixed; left = z; right = gs }) ea
      ∙ ap (λ (z : List Float). record { mixed = m.mixed; left = amplified amp m.left; right = z }) eb
      ∙ ap (λ (k : Mixture). record { mixed = k.mixed; left = amplified amp k.left; right = amplified amp k.right })
      (em ∙ ap (λ (z : List Float). played_all x (tuned_all t ps) z rs) el ∙ ap (played_all x (tuned_all t ps) (replicate n f0)) er)
