-- What the note of a rising gate puts together. Assumes nothing.
use Prim.Native.Nat.{ℕ, ◌≤◌}
use mathlib.Core.Path.{◌≡◌, ap, ◌∙◌}
use native.Mathlib.Omega.{arith}
use lib.ListN.{length}
use Rattle.session.specs.State.{with_seq}
use Rattle.session.specs.declared.Session.{Session}
use Rattle.note.proofs.Laws.{chosen-list, on-few}
use Rattle.note.specs.Choice.{choosing_on, chosen_on, chosen_list}
use Rattle.note.specs.declared.NoteState.{NoteState}
use Rattle.note.specs.declared.choice.ChosenOn.{ChosenOn}
use Rattle.events.specs.declared.Both.{Both}
use Rattle.events.specs.declared.Cause.{Cause}
use Rattle.events.specs.declared.SampleVoice.{SampleVoice}
use Rattle.events.specs.Voice.{Kit, struck}
use Rattle.events.specs.Start.{started_all}
use Rattle.gates.specs.Gate.{risen, hit_at, attack_cause, note_started}
use Rattle.gates.proofs.Turns.{both}

module _ (k : Kit) (m : ℕ) (n : NoteState) (at : ℕ) (s : Session) (v : SampleVoice) (few : m ≤ 256) where
  abbrev started : Session → ChosenOn → Both
  started h c = started_all k n (attack_cause at h) (chosen_list c.chosen) (both (with_seq c.seq h) (struck n v))

  abbrev pub chosen : Session → ChosenOn
  chosen h = chosen_on (hit_at k.words n h) m n.note h.seq

  started-all : (h : Session) → started h (chosen h)
      ≡ started_all k n (attack_cause at h) (choosing_on (hit_at k.words n h) m n.note h.seq).regions
      (both (with_seq (choosing_on (hit_at k.words n h) m n.note h.seq).seq h) (struck n v))
  unfolding chosen_on
  started-all h =
      let c = choosing_on (hit_at k.words n h) m n.note h.seq in
      let b : length c.regions ≤ 256 = let x = on-few (hit_at k.words n h) m n.note h.seq in omega arith in
      ap (λ l. started_all k n (attack_cause at h) l (both (with_seq c.seq h) (struck n v))) (chosen-list c.regions b)

  pub note-started : (h : Session) → h ≡ risen s → (c : ChosenOn) → c ≡ chosen h → (x : Cause) → x ≡ attack_cause at h → (t : Session)
      → t ≡ with_seq c.seq h → (w : SampleVoice) → w ≡ struck n v → (r : Both) → r ≡ started_all k n x (chosen_list c.chosen) (both t w)
      → r ≡ note_started k m n at (both s v)
  unfolding note_started
  note-started h e c f x g t p w q r z =
      z ∙ ap (λ y. started_all k n y (chosen_list c.chosen) (both t w)) g
      ∙ ap (λ y. started_all k n (attack_cause at h) (chosen_list c.chosen) (both y w)) p
      ∙ ap (λ y. started_all k n (attack_cause at h) (chosen_list c.chosen) (both (with_seq c.seq h) y)) q
      ∙ ap (started h) f ∙ started-all h
      ∙ ap (λ (y : Session).
      started_all k n (attack_cause at y) (choosing_on (hit_at k.words n y) m n.note y.seq).regions
      (both (with_seq (choosing_on (hit_at k.words n y) m n.note y.seq).seq y) (struck n v))) e
