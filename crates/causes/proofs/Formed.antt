-- Test 8 from its parts. Assumes nothing.
use Prim.Native.Nat.{ℕ, ◌≤◌}
use mathlib.Core.Path.{◌≡◌, sym, ap, ◌∙◌}
use mathlib.Core.Bool.{Bool, true, false, ◌&&◌}
use mathlib.Core.List.{List}
use lib.ListN.{length, length-map}
use Rattle.program.specs.Valid.{every}
use Rattle.std.proofs.lemmas.List.Folds.{list_all-append}
use Rattle.players.specs.Seats.{sounding, slots_from, slot_numbers}
use Rattle.players.specs.declared.Players.{Players}
use Rattle.players.proofs.Kept.{sounding-few}
use Rattle.players.proofs.Seating.{slots-from}
use Rattle.session.specs.State.{slot_list}
use Rattle.session.specs.Tests.{slots_in_order}
use Rattle.session.specs.declared.Session.{Session}
use Rattle.session.specs.declared.Slots.{Slots}
use Rattle.events.specs.declared.SampleVoice.{SampleVoice}
use Rattle.causes.specs.Tests.{session_tests, voice_tests, well_formed}

-- the slots that the voice tells are its players'
pub own-slots : (id : ℕ) (s : Session) (ps : Players) (ks : Slots) (b : Bool) → ks ≡ slots_from (slot_numbers (sounding ps))
    → b ≡ slots_in_order id (slot_list ks) s → b ≡ slots_in_order id (slot_numbers (sounding ps)) s
own-slots id s ps ks b e f =
    let few : length (slot_numbers (sounding ps)) ≤ 32 = rw (length-map (sounding ps) (λ p. p.slot)) (sounding-few ps) in
    f ∙ ap (λ (k : Slots). slots_in_order id (slot_list k) s) e ∙ ap (λ (k : List ℕ). slots_in_order id k s) (slots-from (slot_numbers (sounding ps)) few)

module _ (s : Session) (v : SampleVoice) (b : Bool) (told : b ≡ every (session_tests v.voice s)) where
  pub ill-formed : b ≡ false → b ≡ well_formed s v
  unfolding well_formed
  ill-formed e = e ∙ sym (list_all-append (λ t. t) (session_tests v.voice s) (voice_tests s v) ∙ ap (λ (t : Bool). t && every (voice_tests s v)) (sym told ∙ e))

  pub well : (r : Bool) → b ≡ true → r ≡ every (voice_tests s v) → r ≡ well_formed s v
  unfolding well_formed
  well r e f = f ∙ sym (list_all-append (λ t. t) (session_tests v.voice s) (voice_tests s v) ∙ ap (λ (t : Bool). t && every (voice_tests s v)) (sym told ∙ e))
