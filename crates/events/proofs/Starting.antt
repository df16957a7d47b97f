-- What the tests of a start tell. Assumes nothing.
use Rattle.std.proofs.Common.{◌≡◌, ℕ, ◌≤◌, take, sym, ap, ◌∙◌, le_trans}
use lib.Ieee.{Float}
use Rattle.session.specs.Lists.{used_of}
use Rattle.session.specs.State.{serial_up}
use Rattle.session.specs.declared.Session.{Session}
use Rattle.exact.specs.Random.{drawn}
use Rattle.note.specs.Choice.{chosen_off, chosen_from, chosen_list}
use Rattle.note.specs.declared.Chosen.{Chosen}
use Rattle.note.specs.declared.NoteState.{NoteState}
use Rattle.note.proofs.Laws.{chosen-list, off-few}
use Rattle.events.specs.declared.SampleVoice.{SampleVoice}
use Rattle.events.specs.declared.Both.{Both}
use Rattle.events.specs.declared.Cause.{Cause}
use Rattle.player.specs.declared.start.Cause.TheVariants.{Release}
use Rattle.events.specs.Voice.{Kit}
use Rattle.events.specs.Start.{started_all, held_for, release_cause, releases_fired}

-- where no region is chosen nothing is started
pub none-started : (k : Kit) (n : NoteState) (c : Cause) (ch : Chosen) (b : Both) → ch.count ≡ 0 → b ≡ started_all k n c (chosen_list ch) b
unfolding started_all
none-started k n c ch b e = sym (ap (λ (m : ℕ). started_all k n c (take (used_of 256 m) ch.regions) b) e)

-- a release fires: t is the session with its new serial, ch what is chosen of m regions
module _ (k : Kit) (m : ℕ) (n : NoteState) (at : ℕ) (s : Session) (v : SampleVoice) where
  pub fired : m ≤ 256 → (t : Session) → t ≡ serial_up s → (draw : Float) → draw ≡ drawn n.seed t.event_serial 0
      → (ch : Chosen) → ch ≡ chosen_from (chosen_off k.words m n.note n.vel draw t)
      → (held : Float) → held ≡ held_for at n.on_time v.sample_rate
      → (r : Both)
      → r ≡ started_all k n (record { serial = t.event_serial; at = at; kind = Release; held_secs = held }) (chosen_list ch) (record { session = t; voice = v })
      → r ≡ releases_fired k m n at (record { session = s; voice = v })
  unfolding releases_fired release_cause
  fired h t t-is draw draw-is ch ch-is held held-is r r-is =
      let l : chosen_list ch ≡ chosen_off k.words m n.note n.vel draw t =
      ap chosen_list ch-is ∙ chosen-list _ (le_trans (off-few k.words m n.note n.vel draw t) h) in
      r-is ∙ rw (l, draw-is, held-is, t-is)
