-- What off marks and a gate's edges leave as it was, for the account of a whole run. Assumes nothing.
use Rattle.std.specs.List.{list_any}
use Rattle.std.proofs.Common.{None, Option, Some, cond, filter}
use Rattle.session.specs.declared.Off.{Off}
use Prim.Native.Nat.{ℕ, zero, suc, ◌≤◌}
use mathlib.Core.Path.{◌≡◌, refl, ap, ◌∙◌}
use mathlib.Core.Bool.{Bool, true, false, not}
use mathlib.Core.List.{List}
use native.Mathlib.Omega.{arith}
use lib.ListN.{length}
use Rattle.players.specs.Gate.{offed_slot, released_all, ignored, fires}
use Rattle.players.specs.Seats.{sounding, is_over, reaped}
use Rattle.players.specs.declared.Offed.{Offed}
use Rattle.players.specs.declared.Released.{Released}
use Rattle.session.proofs.Laws.{along-length, first-along}
use Rattle.session.proofs.Relist.{relist-size, view-few, keep-fewer}
use Rattle.session.specs.Offs.{took_first}
use Rattle.session.specs.Records.{in_slots}
use Rattle.session.specs.Rules.{collect_first, without_slots}
use Rattle.session.specs.State.{view, relist, slot_list, held_down, with_seq}
use Rattle.session.specs.declared.PlayerRecord.{PlayerRecord}
use Rattle.note.specs.Choice.{choosing_on}
use Rattle.note.specs.Note.{note_state}
use Rattle.note.specs.declared.NoteState.{NoteState}
use Rattle.note.specs.declared.Strike.{Strike}
use Rattle.events.specs.declared.Both.{Both}
use Rattle.events.specs.Voice.{Kit, with_players, with_note, struck, ungated}
use Rattle.events.specs.Start.{dispatched_release}
use Rattle.gates.specs.Off.{without_players, reaped_both, fired_note, may_fire, choke_fires, applied_off, acts_on, took_own, own_offs}
use Rattle.gates.specs.Gate.{risen, hit_at, note_started, noted_on, let_go_both, let_go_note, noted_off}
use Rattle.events.proofs.Kept.{all-session, all-size, all-voice, dispatched-session, dispatched-size, dispatched-voice}
use Rattle.gates.proofs.Turns.{both, owns}

-- all but the list, the event serial, the note, the players, the next slot and the dropped starts
pub record Stays (a b : Both) : Type 0 where
  pub seq : b.session.seq ≡ a.session.seq
  pub voices : b.session.voices ≡ a.session.voices
  pub held : b.session.held ≡ a.session.held
  pub size : length a.session.players ≡ 512 → length b.session.players ≡ 512
  pub voice : b.voice.voice ≡ a.voice.voice
  pub rate : b.voice.sample_rate ≡ a.voice.sample_rate
  pub program : b.voice.program ≡ a.voice.program
  pub gate-prev : b.voice.gate_prev ≡ a.voice.gate_prev
  pub gate-held : b.voice.gate_held ≡ a.voice.gate_held
  pub started : b.voice.started ≡ a.voice.started

pub stays_same : (b : Both) → Stays b b
stays_same b = record {
  seq = refl;
  voices = refl;
  held = refl;
  size = λ h. h;
  voice = refl;
  rate = refl;
  program = refl;
  gate-prev = refl;
  gate-held = refl;
  started = refl;
}

pub stays_then : {a b c : Both} → Stays a b → Stays b c → Stays a c
stays_then x y = record {
  seq = y.seq ∙ x.seq;
  voices = y.voices ∙ x.voices;
  held = y.held ∙ x.held;
  size = λ h. y.size (x.size h);
  voice = y.voice ∙ x.voice;
  rate = y.rate ∙ x.rate;
  program = y.program ∙ x.program;
  gate-prev = y.gate-prev ∙ x.gate-prev;
  gate-held = y.gate-held ∙ x.gate-held;
  started = y.started ∙ x.started;
}

-- another list of records
relist-stays : (b : Both) (ks : List PlayerRecord) → length ks ≤ 512 → Stays b (both (relist ks b.session) b.voice)
relist-stays b ks few = record {
  seq = refl;
  voices = refl;
  held = refl;
  size = λ h. relist-size b.session h ks few;
  voice = refl;
  rate = refl;
  program = refl;
  gate-prev = refl;
  gate-held = refl;
  started = refl;
}

pub release-stays : (k : Kit) (m at : ℕ) (b : Both) → Stays b (dispatched_release k m at b)
release-stays k m at b =
    let v = dispatched-voice k m at b in let s = dispatched-session k m at b (dispatched_release k m at b).session refl in
    record {
      seq = s.0;
      voices = s.1;
      held = s.2;
      size = dispatched-size k m at b;
      voice = v.voice;
      rate = v.rate;
      program = v.program;
      gate-prev = v.gate-prev;
      gate-held = v.gate-held;
      started = v.started;
    }

pub reap-stays : (b : Both) → Stays b (reaped_both b)
unfolding reaped_both without_slots
reap-stays b = by-case (list_any is_over (sounding b.voice.players)) where
  few : length (filter (λ (r : PlayerRecord). not (in_slots b.voice.voice (slot_list (reaped b.voice.players).gone) r)) (view b.session)) ≤ 512
  few =
      let p : PlayerRecord → Bool = λ r. not (in_slots b.voice.voice (slot_list (reaped b.voice.players).gone) r) in
      omega (arith, keep-fewer p (view b.session), view-few b.session)

  by-case : (t : Bool)
      → Stays b (cond t (both (without_players b.voice.voice (reaped b.voice.players) b.session) (with_players (reaped b.voice.players).players b.voice)) b)
  by-case true =
      let x = relist-stays b (filter (λ (r : PlayerRecord). not (in_slots b.voice.voice (slot_list (reaped b.voice.players).gone) r)) (view b.session)) few in
      record {
        seq = refl;
        voices = refl;
        held = refl;
        size = x.size;
        voice = refl;
        rate = refl;
        program = refl;
        gate-prev = refl;
        gate-held = refl;
        started = refl;
      }
  by-case false = stays_same b

module _ (k : Kit) (m : ℕ) where
  choke-stays : (at : ℕ) (fires : Bool) (b : Both) → Stays b (choke_fires k m at fires b)
  unfolding choke_fires
  choke-stays at fires b = by-case (may_fire fires b.voice) where
    by-case : (t : Bool) → Stays b (cond t (dispatched_release k m at (both b.session (with_note (fired_note b.voice.note) b.voice))) b)
    by-case true =
        let x = release-stays k m at (both b.session (with_note (fired_note b.voice.note) b.voice)) in
        record {
          seq = x.seq;
          voices = x.voices;
          held = x.held;
          size = x.size;
          voice = x.voice;
          rate = x.rate;
          program = x.program;
          gate-prev = x.gate-prev;
          gate-held = x.gate-held;
          started = x.started;
        }
    by-case false = stays_same b

  pub off-stays : (slot at : ℕ) (b : Both) → Stays b (applied_off k m slot at b)
  unfolding applied_off
  off-stays slot at b = by-case (offed_slot slot b.voice.players) (ignored (offed_slot slot b.voice.players).mark) where
    by-case : (o : Offed) (t : Bool) → Stays b (cond t b (choke_fires k m at (fires o.mark) (reaped_both (both b.session (with_players o.players b.voice)))))
    by-case o true = stays_same b
    by-case o false =
        let c = both b.session (with_players o.players b.voice) in
        let x = stays_then (reap-stays c) (choke-stays at (fires o.mark) (reaped_both c)) in
        record {
          seq = x.seq;
          voices = x.voices;
          held = x.held;
          size = x.size;
          voice = x.voice;
          rate = x.rate;
          program = x.program;
          gate-prev = x.gate-prev;
          gate-held = x.gate-held;
          started = x.started;
        }

  acts-stays : (f : Option Off) (b : Both) → Stays b (acts_on k m f b)
  acts-stays None b = stays_same b
  acts-stays (Some o) b = off-stays o.slot o.at b

  took-stays : (b : Both) → Stays b (took_own k m b)
  unfolding took_own took_first
  took-stays b =
      let rs = collect_first b.voice.voice (view b.session) in
      let few : length rs ≤ 512 = omega (arith, along-length (first-along b.voice.voice (view b.session)), view-few b.session) in
      stays_then (relist-stays b rs few) (acts-stays (took_first b.voice.voice b.session).first (both (relist rs b.session) b.voice))

  pub own-stays : (n : ℕ) (b : Both) → Stays b (own_offs k m n b)
  unfolding own_offs
  own-stays zero b = stays_same b
  own-stays (suc n) b = by-case (owns b) (own-stays n (took_own k m b)) where
    by-case : (t : Bool) → Stays (took_own k m b) (own_offs k m n (took_own k m b)) → Stays b (cond t (own_offs k m n (took_own k m b)) b)
    by-case true rest = stays_then (took-stays b) rest
    by-case false rest = stays_same b

  -- ---- a rising gate: one held gate more, the sequences moved, a note under a held gate; all else stays

  abbrev pub stroke : NoteState → Both → Both
  stroke n b =
      let s = risen b.session in
      both (with_seq (choosing_on (hit_at k.words n s) m n.note s.seq).seq s) (struck n b.voice)

  note-stays : (n : NoteState) (at : ℕ) (b : Both) → Stays (stroke n b) (note_started k m n at b)
  unfolding note_started
  note-stays n at b =
      let s = all-session k n _ _ (stroke n b) in let v = all-voice k n _ _ (stroke n b) in
      record {
        seq = s.seq;
        voices = s.voices;
        held = s.held;
        size = all-size k n _ _ (stroke n b);
        voice = v.voice;
        rate = v.rate;
        program = v.program;
        gate-prev = v.gate-prev;
        gate-held = v.gate-held;
        started = v.started;
      }

  pub on-stays : (x : Strike) (b : Both) → Stays (stroke (note_state x) b) (noted_on k m x b)
  unfolding noted_on
  on-stays x b = stays_then (note-stays (note_state x) x.at b) (own-stays 128 (note_started k m (note_state x) x.at b))

  -- ---- a falling gate: one held gate less, the gate let go; all else stays

  let-go-stays : (b : Both) → Stays b (let_go_both b)
  unfolding let_go_both
  let-go-stays b = by-case (released_all b.voice.players) (released_all b.voice.players).killed where
    by-case : (o : Released) (t : Bool)
        → Stays b (cond t (reaped_both (both b.session (with_players o.players b.voice))) (both b.session (with_players o.players b.voice)))
    by-case o true =
        let x = reap-stays (both b.session (with_players o.players b.voice)) in
        record {
          seq = x.seq;
          voices = x.voices;
          held = x.held;
          size = x.size;
          voice = x.voice;
          rate = x.rate;
          program = x.program;
          gate-prev = x.gate-prev;
          gate-held = x.gate-held;
          started = x.started;
        }
    by-case o false = record {
      seq = refl;
      voices = refl;
      held = refl;
      size = λ h. h;
      voice = refl;
      rate = refl;
      program = refl;
      gate-prev = refl;
      gate-held = refl;
      started = refl;
    }

  pub off-held : (at : ℕ) (b : Both) → b.voice.gate_held ≡ true → Stays (both (held_down b.session) (ungated b.voice)) (noted_off k m at b)
  unfolding noted_off let_go_note
  off-held at b h =
      let c = both (held_down b.session) (ungated b.voice) in
      rw h (stays_then (let-go-stays c) (release-stays k m at (let_go_both c)))

  -- one that was not held changes nothing
  pub off-not-held : (at : ℕ) (b : Both) → b.voice.gate_held ≡ false → noted_off k m at b ≡ b
  unfolding noted_off
  off-not-held at b h = ap (λ t. cond t (let_go_note k m at b) b) h
