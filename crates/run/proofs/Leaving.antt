-- What is kept where finished players leave. Assumes nothing.
use Rattle.std.specs.List.{list_any}
use Rattle.std.specs.Prelude.{filter}
use Prim.Native.Nat.{ℕ, ◌≤◌, ◌<◌, ◌^◌}
use mathlib.Core.Path.{◌≡◌, refl, sym, ap, subst, ◌∙◌}
use mathlib.Core.Bool.{Bool, true, false, not}
use mathlib.Core.List.{List, []}
use native.Mathlib.Omega.{arith}
use lib.ListN.{length}
use Rattle.session.specs.Lists.{elem}
use Rattle.session.specs.Records.{of_voice, in_slots}
use Rattle.session.specs.Rules.{without_slots, slots_of}
use Rattle.session.specs.State.{view, relist, slot_list}
use Rattle.session.specs.declared.PlayerRecord.{PlayerRecord}
use Rattle.session.specs.declared.Session.{Session}
use Rattle.session.proofs.Laws.{along-self, slots-gone}
use Rattle.session.proofs.Relist.{view-few, view-relist, relist-size, packed-size, keep-fewer}
use Rattle.player.specs.declared.Player.{Player}
use Rattle.players.specs.Seats.{sounding, slot_numbers, is_over, reaped}
use Rattle.players.specs.declared.Players.{Players}
use Rattle.players.proofs.Kept.{sounding-few}
use Rattle.players.proofs.Seating.{sounding-reaped, slots-reaped}
use Rattle.gates.specs.Off.{reaped_both, without_players}
use Rattle.events.specs.Voice.{with_players}
use Rattle.events.specs.declared.Both.{Both}
use Rattle.run.specs.Run.{Rising}
use Rattle.run.proofs.Moves.{same, Sub, Kept}
use Rattle.run.proofs.Numbers.{sub-kept, sub-left, same_left, rising-sub}
use Rattle.run.proofs.Rows.{Row, removed, changed, kept-fewer, elsewhere}

-- ---- the session

module _ (id : ℕ) (ks : List ℕ) where
  fewer : (rs : List PlayerRecord) → length (without_slots id ks rs) ≤ length rs
  unfolding without_slots
  fewer rs = keep-fewer (λ (r : PlayerRecord). not (in_slots id ks r)) rs

  elsewhere-fewer : (rs : List PlayerRecord) → elsewhere id (without_slots id ks rs) ≤ elsewhere id rs
  unfolding without_slots
  elsewhere-fewer rs = kept-fewer (λ (r : PlayerRecord). not (of_voice id r)) (λ (r : PlayerRecord). not (in_slots id ks r)) rs

  module _ (s : Session) (size : length s.players ≡ 512) where
    few : length (without_slots id ks (view s)) ≤ 512
    few = omega (arith, fewer (view s), view-few s)

    view-without : view (relist (without_slots id ks (view s)) s) ≡ without_slots id ks (view s)
    view-without = view-relist s size (without_slots id ks (view s)) few

    size-without : length (relist (without_slots id ks (view s)) s).players ≡ 512
    size-without = relist-size s size (without_slots id ks (view s)) few

-- ---- the players

module _ (ps : Players) where
  few-left : (reaped ps).players.count ≤ 32
  unfolding reaped
  few-left = omega (arith, keep-fewer (λ (p : Player). not (is_over p)) (sounding ps), sounding-few ps)

  seats-left : length ps.players ≡ 32 → length (reaped ps).players.players ≡ 32
  unfolding reaped
  seats-left size =
      packed-size (filter (λ (p : Player). not (is_over p)) (sounding ps)) ps.players
      (omega (arith, keep-fewer (λ (p : Player). not (is_over p)) (sounding ps), sounding-few ps)) ∙ size

-- ---- both

module _ (b : Both) where
  -- those that are left
  abbrev after : Both
  after = record {
    session = without_players b.voice.voice (reaped b.voice.players) b.session;
    voice = with_players (reaped b.voice.players).players b.voice;
  }

  reaped-some : list_any is_over (sounding b.voice.players) ≡ true → reaped_both b ≡ after
  unfolding reaped_both
  reaped-some e = rw e

  reaped-none : list_any is_over (sounding b.voice.players) ≡ false → reaped_both b ≡ b
  unfolding reaped_both
  reaped-none e = rw e

  pub voices-reaped : (reaped_both b).session.voices ≡ b.session.voices
  voices-reaped = by-case (list_any is_over (sounding b.voice.players)) refl where
    by-case : (t : Bool) → list_any is_over (sounding b.voice.players) ≡ t → (reaped_both b).session.voices ≡ b.session.voices
    by-case true e = ap (λ (x : Both). x.session.voices) (reaped-some e)
    by-case false e = ap (λ (x : Both). x.session.voices) (reaped-none e)

  module _ (id starts drops : ℕ) (h : Kept id starts drops b) where
    view-after : view after.session ≡ without_slots id (slot_numbers (filter is_over (sounding b.voice.players))) (view b.session)
    view-after =
        view-without b.voice.voice (slot_list (reaped b.voice.players).gone) b.session h.shape.places
        ∙ ap (λ (v : ℕ). without_slots v (slot_list (reaped b.voice.players).gone) (view b.session)) h.shape.voice
        ∙ ap (λ (ks : List ℕ). without_slots id ks (view b.session)) (slots-reaped b.voice.players)

    -- of the voice's records those in the slots of finished players are gone
    slots-after : slots_of id (view after.session)
        ≡ filter (λ k. not (elem k (slot_numbers (filter is_over (sounding b.voice.players))))) (slots_of id (view b.session))
    slots-after = ap (slots_of id) view-after ∙ slots-gone id (slot_numbers (filter is_over (sounding b.voice.players))) (view b.session)

    players-after : slot_numbers (sounding (reaped b.voice.players).players) ≡ slot_numbers (filter (λ p. not (is_over p)) (sounding b.voice.players))
    players-after = ap slot_numbers (sounding-reaped b.voice.players)

    kept-after : Kept id starts drops after
    kept-after = record {
      shape = record {
        voice = h.shape.voice;
        list = few b.voice.voice (slot_list (reaped b.voice.players).gone) b.session h.shape.places;
        places = size-without b.voice.voice (slot_list (reaped b.voice.players).gone) b.session h.shape.places;
        few = few-left b.voice.players;
        seats = seats-left b.voice.players h.shape.seats;
      };
      next = h.next;
      dropped = h.dropped;
      under = subst (λ (l : List ℕ). Sub l (slot_numbers (sounding (reaped b.voice.players).players))) (sym slots-after)
          (subst (λ (l : List ℕ). Sub (filter (λ k. not (elem k (slot_numbers (filter is_over (sounding b.voice.players))))) (slots_of id (view b.session))) l) (sym players-after)
          (sub-left (λ (p : Player). p.slot) is_over (slot_numbers (filter is_over (sounding b.voice.players))) (sounding b.voice.players) (λ k e. e) h.under));
      mirror = mirrored;
      room = let r = h.room in omega (arith, ap (elsewhere id) view-after, elsewhere-fewer id (slot_numbers (filter is_over (sounding b.voice.players))) (view b.session));
    } where
      mirrored : starts < 2 ^ 32
          → (slots_of id (view after.session) ≡ slot_numbers (sounding (reaped b.voice.players).players))
          × Rising starts (slot_numbers (sounding (reaped b.voice.players).players))
      mirrored q =
          let slots = (h.mirror q).0 in
          let rising = (h.mirror q).1 in (
            slots-after
                ∙ ap (filter (λ k. not (elem k (slot_numbers (filter is_over (sounding b.voice.players)))))) slots
                ∙ same_left (λ (p : Player). p.slot) is_over starts (sounding b.voice.players) rising
                ∙ sym players-after,
            subst (λ (l : List ℕ). Rising starts l) (sym players-after)
                (rising-sub starts (sub-kept (λ (p : Player). p.slot) (λ (p : Player). not (is_over p)) (sounding b.voice.players)) rising),
          )

    pub kept-reaped : Kept id starts drops (reaped_both b)
    kept-reaped = by-case (list_any is_over (sounding b.voice.players)) refl where
      by-case : (t : Bool) → list_any is_over (sounding b.voice.players) ≡ t → Kept id starts drops (reaped_both b)
      by-case true e = subst (λ (x : Both). Kept id starts drops x) (sym (reaped-some e)) kept-after
      by-case false e = subst (λ (x : Both). Kept id starts drops x) (sym (reaped-none e)) h

    pub row-reaped : Row id (view b.session) [] (view (reaped_both b).session)
    row-reaped = by-case (list_any is_over (sounding b.voice.players)) refl where
      by-case : (t : Bool) → list_any is_over (sounding b.voice.players) ≡ t → Row id (view b.session) [] (view (reaped_both b).session)
      by-case true e =
          subst (λ (l : List PlayerRecord). Row id (view b.session) [] l) (sym (ap (λ (x : Both). view x.session) (reaped-some e) ∙ view-after))
          (removed (slot_numbers (filter is_over (sounding b.voice.players))) (view b.session))
      by-case false e =
          subst (λ (l : List PlayerRecord). Row id (view b.session) [] l) (sym (ap (λ (x : Both). view x.session) (reaped-none e)))
          (changed (along-self (λ r. same) (view b.session)))
