-- Changes that keep number, order and identity of records and players. Assumes nothing.
use Rattle.std.specs.Prelude.{cond}
use Prim.Native.Nat.{ℕ, ◌≤◌}
use mathlib.Core.Path.{◌≡◌, refl, sym, ap, ◌∙◌}
use mathlib.Core.Bool.{Bool, true, false}
use mathlib.Core.List.{List, map}
use native.Mathlib.Omega.{arith}
use lib.ListN.{length, length-map}
use lib.Dec.{eqb}
use lib.Ieee.{Float}
use Rattle.session.specs.Changes.{Along, end, one, OwnChange, untouched, turned, unmarked}
use Rattle.session.specs.Lists.{change_where, change_first}
use Rattle.session.specs.Records.{collected, ended}
use Rattle.session.specs.Rules.{collect, collect_first, mark_ended}
use Rattle.session.specs.Offs.{collected_offs, took_first}
use Rattle.session.specs.State.{view, relist, slot_list}
use Rattle.session.specs.declared.PlayerRecord.{PlayerRecord}
use Rattle.session.specs.declared.Slots.{Slots}
use Rattle.session.proofs.Laws.{along-length, along-self, collect-along, first-along, ended-along}
use Rattle.session.proofs.Relist.{packed-size, view-few, view-relist}
use Rattle.player.specs.declared.Player.{Player}
use Rattle.players.specs.Gate.{hears_gate, let_go, released_all, in_slot, off_once, offed_slot}
use Rattle.players.specs.Mix.{Sounds, played_band, played_all}
use Rattle.players.specs.Seats.{sounding, slot_numbers, reseat, retuned, retuned_all}
use Rattle.players.specs.declared.Players.{Players}
use Rattle.players.proofs.Kept.{sounding-few}
use Rattle.players.proofs.Seating.{sounding-reseat, sounding-retuned, slots-retuned, sounding-released, slots-released, sounding-offed, slots-offed}
use Rattle.players.proofs.Keeping.{all-sounding, all_slots}
use Rattle.events.specs.Voice.{with_players}
use Rattle.events.specs.declared.Both.{Both}
use Rattle.block.specs.Render.{with_ended}
use Rattle.run.proofs.Moves.{Shape, Own, same, own, Keeps}
use Rattle.run.proofs.Shapes.{relisted}

-- neither the list nor the players change
pub keeps_same : (id : ℕ) (b c : Both) → c.session.players ≡ b.session.players → c.session.count ≡ b.session.count → c.session.voices ≡ b.session.voices
    → c.voice.voice ≡ b.voice.voice → c.voice.players ≡ b.voice.players → c.voice.next_slot ≡ b.voice.next_slot → c.voice.dropped ≡ b.voice.dropped
    → Shape id b → Keeps id b c
keeps_same id b c places count voices voice players slot dropped h = record {
  shape = record {
    voice = voice ∙ h.voice;
    list = omega (arith, h.list);
    places = ap length places ∙ h.places;
    few = omega (arith, ap (λ (ps : Players). ps.count) players, h.few);
    seats = ap (λ (ps : Players). length ps.players) players ∙ h.seats;
  };
  voices = voices;
  list = rw (places, count) (along-self (λ r. same) (view b.session));
  slots = ap (λ (ps : Players). slot_numbers (sounding ps)) players;
  next = slot;
  dropped = dropped;
}

-- ---- the voice's own records

module _ (id v : ℕ) (g : PlayerRecord → PlayerRecord) (mine : v ≡ id) (same-else : (r : PlayerRecord) → unmarked (g r) ≡ unmarked r)
    (stays : (r : PlayerRecord) → r.offed ≡ true → (g r).offed ≡ true) where
  own-one : {r q : PlayerRecord} → OwnChange v g r q → Own id r q
  own-one untouched = same
  own-one (turned {r} e) = own (e ∙ mine) (same-else r) (stays r)

  pub own-along : {rs qs : List PlayerRecord} → Along (OwnChange v g) rs qs → Along (Own id) rs qs
  own-along end = end
  own-along (one o rest) = one (own-one o) (own-along rest)

module _ (id : ℕ) (b : Both) (h : Shape id b) where
  pub keeps-list : (ks : List PlayerRecord) → Along (Own id) (view b.session) ks → Keeps id b (record { session = relist ks b.session; voice = b.voice })
  keeps-list ks a =
      let few : length ks ≤ 512 = omega (arith, along-length a, view-few b.session) in
      let l = relisted b.session ks h.places few in
      record {
        shape = record { voice = h.voice; list = l.list; places = l.places; few = h.few; seats = h.seats };
        voices = refl;
        list = rw (view-relist b.session h.places ks few) a;
        slots = refl;
        next = refl;
        dropped = refl;
      }

  pub keeps-collected : Keeps id b (record { session = (collected_offs b.voice.voice b.session).session; voice = b.voice })
  unfolding collected_offs
  keeps-collected =
      keeps-list (collect b.voice.voice (view b.session))
      (own-along id b.voice.voice collected h.voice (λ r. refl) (λ r e. e) (collect-along b.voice.voice (view b.session)))

  pub keeps-took : Keeps id b (record { session = (took_first b.voice.voice b.session).session; voice = b.voice })
  unfolding took_first
  keeps-took =
      keeps-list (collect_first b.voice.voice (view b.session))
      (own-along id b.voice.voice collected h.voice (λ r. refl) (λ r e. e) (first-along b.voice.voice (view b.session)))

  pub keeps-ended : (ks : Slots) → Keeps id b (record { session = with_ended b.voice.voice ks b.session; voice = b.voice })
  keeps-ended ks = by-case (eqb ks.count 0) where
    by-case : (t : Bool) → Keeps id b (record { session = cond t b.session (relist (mark_ended b.voice.voice (slot_list ks) (view b.session)) b.session); voice = b.voice })
    by-case true = keeps_same id b b refl refl refl refl refl refl refl h
    by-case false =
        keeps-list (mark_ended b.voice.voice (slot_list ks) (view b.session))
        (own-along id b.voice.voice ended h.voice (λ r. refl) (λ r e. refl) (ended-along b.voice.voice (view b.session) (slot_list ks)))

  -- ---- the players

  pub keeps-players : (qs : List Player) → slot_numbers qs ≡ slot_numbers (sounding b.voice.players)
      → Keeps id b (record { session = b.session; voice = with_players (reseat qs b.voice.players) b.voice })
  keeps-players qs e =
      let n : length qs ≡ length (sounding b.voice.players) =
      sym (length-map qs (λ (p : Player). p.slot)) ∙ ap length e ∙ length-map (sounding b.voice.players) (λ (p : Player). p.slot) in
      let few : length qs ≤ 32 = omega (arith, sounding-few b.voice.players) in
      record {
        shape = record {
          voice = h.voice;
          list = h.list;
          places = h.places;
          few = few;
          seats = packed-size qs b.voice.players.players (omega (arith, h.seats)) ∙ h.seats;
        };
        voices = refl;
        list = along-self (λ r. same) (view b.session);
        slots = ap slot_numbers (sounding-reseat qs b.voice.players few) ∙ e;
        next = refl;
        dropped = refl;
      }

  pub keeps-retuned : (note bend : Float) → Keeps id b (record { session = b.session; voice = with_players (retuned_all note bend b.voice.players) b.voice })
  unfolding retuned_all
  keeps-retuned note bend =
      keeps-players (map (retuned note bend) (sounding b.voice.players))
      (ap slot_numbers (sym (sounding-retuned b.voice.players note bend)) ∙ slots-retuned b.voice.players note bend)

  pub keeps-released : Keeps id b (record { session = b.session; voice = with_players (released_all b.voice.players).players b.voice })
  unfolding released_all
  keeps-released =
      keeps-players (change_where hears_gate let_go (sounding b.voice.players))
      (ap slot_numbers (sym (sounding-released b.voice.players)) ∙ slots-released b.voice.players)

  pub keeps-offed : (k : ℕ) → Keeps id b (record { session = b.session; voice = with_players (offed_slot k b.voice.players).players b.voice })
  unfolding offed_slot
  keeps-offed k =
      keeps-players (change_first (in_slot k) off_once (sounding b.voice.players))
      (ap slot_numbers (sym (sounding-offed b.voice.players k)) ∙ slots-offed b.voice.players k)

  pub keeps-played : (x : Sounds) (l r : List Float) → Keeps id b (record { session = b.session; voice = with_players (played_all x b.voice.players l r).mixed.players b.voice })
  unfolding played_all
  keeps-played x l r =
      keeps-players (played_band x (sounding b.voice.players) l r).players
      (ap slot_numbers (sym (all-sounding x b.voice.players l r)) ∙ all_slots x b.voice.players l r)
