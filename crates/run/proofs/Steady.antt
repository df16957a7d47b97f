-- What holds of the book between calls, and what it leaves to a call on a live voice. Assumes nothing.
use Rattle.std.specs.Prelude.{filter}
use Prim.Native.Nat.{ℕ, ◌<◌, ◌≤◌, ◌^◌, ◌%◌, min}
use mathlib.Core.Path.{◌≡◌, refl, sym, ap, ◌∙◌}
use mathlib.Core.Bool.{Bool, true, false, not}
use mathlib.Core.Logic.{⊎_elim}
use mathlib.Core.List.{List, []}
use native.Mathlib.Omega.{arith}
use lib.ListN.{length, length-map}
use Rattle.session.specs.Lists.{elem, used_of}
use Rattle.session.specs.Records.{of_voice}
use Rattle.session.specs.Rules.{slots_of, without_voice}
use Rattle.session.specs.State.{view}
use Rattle.session.specs.Tests.{stray_record}
use Rattle.session.proofs.Laws.{voice-others, voice-gone, not-live-none}
use Rattle.session.proofs.Relist.{take-few}
use Rattle.session.proofs.Voices.{others}
use Rattle.session.proofs.Walks.{used-below}
use Rattle.players.specs.Seats.{sounding, slot_numbers}
use Rattle.events.specs.declared.SampleVoice.{SampleVoice}
use Rattle.run.specs.Run.{Book, World, ids_in, is_live, gates_held, one, Rising, records_of}
use Rattle.run.proofs.Moves.{Shape, Kept, Sub, end, both, more}
use Rattle.events.specs.declared.Both.{Both}
use Rattle.session.specs.declared.Session.{Session}
use Rattle.run.proofs.Sums.{Distinct, same?, strays, strays-without, count-in, keep-one-fewer, sum-most, sum-term}

abbrev pub together : Session → SampleVoice → Both
together s v = record { session = s; voice = v }

-- one live voice, with the slots of its records: `Kept` but for the room, and the gate
pub record Voiced (starts drops : ℕ) (gate : Bool) (slots : List ℕ) (v : SampleVoice) : Type 0 where
  pub few : v.players.count ≤ 32
  pub seats : length v.players.players ≡ 32
  pub next : v.next_slot ≡ starts % 2 ^ 32
  pub dropped : v.dropped ≡ min drops 4294967295
  pub under : Sub slots (slot_numbers (sounding v.players))
  pub mirror : starts < 2 ^ 32 → (slots ≡ slot_numbers (sounding v.players)) × Rising starts (slot_numbers (sounding v.players))
  pub down : v.gate_held ≡ gate
  pub prev : v.gate_prev ≡ gate

pub record Steady (b : Book) : Type 0 where
  pub places : length b.world.session.players ≡ 512
  pub few : b.world.session.count ≤ 512
  pub apart : Distinct (ids_in b.world)
  pub below : (i : ℕ) → b.world.session.voices.next_voice ≤ i → elem i (ids_in b.world) ≡ false
  pub known : strays (ids_in b.world) (view b.world.session) ≡ false
  pub named : (i : ℕ) → (b.world.voices i).voice ≡ i
  pub each : (i : ℕ) → is_live b i ≡ true → Voiced (b.starts i) (b.drops i) (b.gate i) (slots_of i (view b.world.session)) (b.world.voices i)
  pub held : b.world.session.held ≡ gates_held b

sub-few : {ks js : List ℕ} → Sub ks js → length ks ≤ length js
sub-few end = omega arith
sub-few (both s) = omega (arith, sub-few s)
sub-few (more s) = omega (arith, sub-few s)

-- a voice has at most 32 players
pub few-sounding : {starts drops : ℕ} {gate : Bool} {slots : List ℕ} {v : SampleVoice} → Voiced starts drops gate slots v → length (sounding v.players) ≤ 32
few-sounding {v = v} h = omega (arith, take-few (used_of 32 v.players.count) v.players.players, used-below 32 v.players.count)

pub few-slots : {starts drops : ℕ} {gate : Bool} {slots : List ℕ} {v : SampleVoice} → Voiced starts drops gate slots v → length slots ≤ 32
few-slots {v = v} h = omega (arith, sub-few h.under, length-map (sounding v.players) (λ p. p.slot), few-sounding h)

pub few-live : (w : World) → length (ids_in w) ≤ 16
few-live w = omega (arith, take-few (used_of 16 w.session.voices.count) w.session.voices.ids, used-below 16 w.session.voices.count)

module _ (b : Book) (h : Steady b) where
  -- a voice that is not live has no record
  pub none_of : (i : ℕ) → is_live b i ≡ false → records_of i (view b.world.session) ≡ []
  unfolding stray_record
  none_of i e = not-live-none b.world.session i h.known e

  few-of : (i : ℕ) → length (records_of i (view b.world.session)) ≤ 32
  few-of i = by-case (is_live b i) refl where
    by-case : (t : Bool) → is_live b i ≡ t → length (records_of i (view b.world.session)) ≤ 32
    by-case true e = omega (arith, few-slots (h.each i e), length-map (records_of i (view b.world.session)) (λ r. r.slot))
    by-case false e = omega (arith, ap length (none_of i e))

  -- at most fifteen other voices, with at most 32 records each
  pub room : (id : ℕ) → is_live b id ≡ true → length (filter (λ r. not (of_voice id r)) (view b.world.session)) ≤ 480
  unfolding without_voice
  room id live =
      let rs = without_voice id (view b.world.session) in
      let is = filter (others id) (ids_in b.world) in
      omega (
        arith,
        count-in is rs (strays-without id (ids_in b.world) (view b.world.session) h.known),
        sum-most (λ i. length (records_of i rs)) 32 most is,
        keep-one-fewer id (ids_in b.world) live,
        few-live b.world,
      ) where
        most : (i : ℕ) → length (records_of i (without_voice id (view b.world.session))) ≤ 32
        most i = ⊎_elim (λ (e : i ≡ id). rw e (omega (arith, ap length (voice-gone id (view b.world.session)))))
            (λ n. omega (arith, ap length (voice-others i id n (view b.world.session)), few-of i)) (same? i id)

  pub held-few : b.world.session.held ≤ 16
  unfolding gates_held
  held-few =
      omega (arith, h.held, sum-most (λ i. one (b.gate i)) 1 (λ i. most (b.gate i)) (ids_in b.world), few-live b.world) where
        most : (t : Bool) → one t ≤ 1
        most true = omega arith
        most false = omega arith

  module _ (id : ℕ) (live : is_live b id ≡ true) where
    pub shaped : Shape (b.world.voices id).voice (together b.world.session (b.world.voices id))
    shaped =
        let v = h.each id live in
        record { voice = refl; list = h.few; places = h.places; few = v.few; seats = v.seats }

    pub kept-now : Kept id (b.starts id) (b.drops id) (together b.world.session (b.world.voices id))
    kept-now =
        let v = h.each id live in
        record {
          shape = record { voice = h.named id; list = h.few; places = h.places; few = v.few; seats = v.seats };
          next = v.next;
          dropped = v.dropped;
          under = v.under;
          mirror = v.mirror;
          room = room id live;
        }

    -- a gate that is held is counted
    pub held-some : (b.world.voices id).gate_held ≡ true → 0 < b.world.session.held
    unfolding gates_held
    held-some e =
        let g : one (b.gate id) ≡ 1 = ap one (sym (h.each id live).down ∙ e) in
        omega (arith, h.held, sum-term (λ i. one (b.gate i)) id (ids_in b.world) live)
