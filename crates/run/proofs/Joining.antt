-- What a region's start keeps. Assumes nothing.
use Rattle.std.specs.Prelude.{cond, filter}
use Prim.Native.Nat.{ℕ, ◌+◌, ◌≤◌, ◌<◌, ◌^◌, ◌%◌, min}
use mathlib.Core.Path.{◌≡◌, refl, sym, ap, subst, ◌∙◌}
use mathlib.Core.Bool.{Bool, true, false, not}
use mathlib.Core.List.{List, [], ◌∷◌, ◌++◌, map, map-append, append-nil}
use native.Mathlib.Omega.{arith}
use native.Mathlib.Nat.{mod-add-mod, mod-eq_of_lt}
use lib.ListN.{length, take, length-append, length-map, length-set}
use lib.Seq.{length-take-le}
use lib.Dec.{ltb, leb}
use borrow.Author.Tests.{ltb-true, ltb-false, leb-false, eq-eqb}
use Rattle.session.specs.Records.{of_voice}
use Rattle.session.specs.Records as records
use Rattle.session.specs.Rules.{start_marks, enter, slots_of}
use Rattle.session.specs.State.{view}
use Rattle.session.specs.declared.PlayerRecord.{PlayerRecord}
use Rattle.session.specs.declared.Session.{Session}
use Rattle.session.specs.declared.Start.{Start}
use Rattle.session.proofs.Laws.{along-length, marks-along, slots-marks, enter-room, records-entered}
use Rattle.session.proofs.Relist.{view-few, view-relist, relist-size}
use Rattle.session.proofs.Walks.{used-small}
use Rattle.std.proofs.lemmas.List.Elements.{filter-append}
use Rattle.player.specs.Start.{started_player}
use Rattle.player.specs.declared.Player.{Player}
use Rattle.players.specs.Seats.{sounding, slot_numbers, seated}
use Rattle.players.specs.declared.Players.{Players}
use Rattle.players.proofs.Seating.{sounding-seated}
use Rattle.note.specs.declared.NoteState.{NoteState}
use Rattle.events.specs.Start.{start_of, start_in, player_from, player_of, marked_by, entered_by, joined_by, dropped_one, started_region}
use Rattle.events.specs.Voice.{Kit}
use Rattle.events.specs.declared.Both.{Both}
use Rattle.events.specs.declared.Cause.{Cause}
use Rattle.run.specs.Run.{Rising, players_in, drops_in}
use Rattle.run.specs.Starts.{started_on}
use Rattle.run.proofs.Moves.{Shape, Sub, Kept}
use Rattle.run.proofs.Numbers.{sub-fewer, sub-one-more, rising-one-more}
use Rattle.run.proofs.Rows.{Row, marked, entered, parted, elsewhere, elsewhere-marks}

-- ---- the session

module _ (st : Start) (s : Session) (size : length s.players ≡ 512) where
  few-marks : length (start_marks st (view s)) ≤ 512
  few-marks = omega (arith, along-length (marks-along st (view s)), view-few s)

  view-marked : view (marked_by st s) ≡ start_marks st (view s)
  unfolding marked_by
  view-marked = view-relist s size (start_marks st (view s)) few-marks

  size-marked : length (marked_by st s).players ≡ 512
  unfolding marked_by
  size-marked = relist-size s size (start_marks st (view s)) few-marks

  count-marked : (marked_by st s).count ≤ 512
  unfolding marked_by
  count-marked = few-marks

  module _ (slot : ℕ) (room : length (view s) < 512) where
    entering : enter (records.entered st slot) (view (marked_by st s)) ≡ start_marks st (view s) ++ (records.entered st slot ∷ [])
    entering =
        ap (enter (records.entered st slot)) view-marked
        ∙ enter-room (records.entered st slot) (start_marks st (view s)) (omega (arith, along-length (marks-along st (view s))))

    few-entered : length (enter (records.entered st slot) (view (marked_by st s))) ≤ 512
    few-entered =
        omega (arith, ap length entering, length-append (start_marks st (view s)) (records.entered st slot ∷ []), along-length (marks-along st (view s)))

    view-entered : view (entered_by st slot (marked_by st s)) ≡ start_marks st (view s) ++ (records.entered st slot ∷ [])
    unfolding entered_by
    view-entered = view-relist (marked_by st s) size-marked (enter (records.entered st slot) (view (marked_by st s))) few-entered ∙ entering

    size-entered : length (entered_by st slot (marked_by st s)).players ≡ 512
    unfolding entered_by
    size-entered = relist-size (marked_by st s) size-marked (enter (records.entered st slot) (view (marked_by st s))) few-entered

    count-entered : (entered_by st slot (marked_by st s)).count ≤ 512
    unfolding entered_by
    count-entered = few-entered

voices-marked : (st : Start) (s : Session) → (marked_by st s).voices ≡ s.voices
unfolding marked_by
voices-marked st s = refl

voices-entered : (st : Start) (slot : ℕ) (s : Session) → (entered_by st slot s).voices ≡ s.voices
unfolding entered_by
voices-entered st slot s = refl

-- ---- the list has room

-- as many players as the count says
many : (ps : Players) → ps.count ≤ 32 → length ps.players ≡ 32 → length (slot_numbers (sounding ps)) ≡ ps.count
many ps h size =
    length-map (sounding ps) (λ (p : Player). p.slot)
    ∙ ap (λ (n : ℕ). length (take n ps.players)) (used-small 32 ps.count h)
    ∙ length-take-le ps.count ps.players (omega arith)

module _ (id starts drops : ℕ) (b : Both) (h : Kept id starts drops b) where
  has_room : b.voice.players.count < 32 → length (view b.session) < 512
  has_room few =
      let own : length (slots_of id (view b.session)) ≤ length (slot_numbers (sounding b.voice.players)) = sub-fewer h.under in
      let players : length (slot_numbers (sounding b.voice.players)) ≡ b.voice.players.count = many b.voice.players h.shape.few h.shape.seats in
      let same : length (slots_of id (view b.session)) ≡ length (filter (of_voice id) (view b.session)) = length-map (filter (of_voice id) (view b.session)) (λ (r : PlayerRecord). r.slot) in
      let all = parted (of_voice id) (view b.session) in
      let others = h.room in
      omega arith

-- ---- facts that stay

-- the voice's slots, its players' slots and the number of the others' records stay
pub kept_same : (id starts drops more : ℕ) (b c : Both) → Kept id starts drops b → Shape id c → c.voice.next_slot ≡ b.voice.next_slot
    → c.voice.dropped ≡ min more 4294967295
    → slots_of id (view c.session) ≡ slots_of id (view b.session) → slot_numbers (sounding c.voice.players) ≡ slot_numbers (sounding b.voice.players)
    → elsewhere id (view c.session) ≡ elsewhere id (view b.session) → Kept id starts more c
kept_same id starts drops more b c h shape next dropped slots players others = record {
  shape = shape;
  next = next ∙ h.next;
  dropped = dropped;
  under = subst (λ (l : List ℕ). Sub l (slot_numbers (sounding c.voice.players))) (sym slots)
      (subst (λ (l : List ℕ). Sub (slots_of id (view b.session)) l) (sym players) h.under);
  mirror = λ q. (slots ∙ (h.mirror q).0 ∙ sym players, subst (λ (l : List ℕ). Rising starts l) (sym players) (h.mirror q).1);
  room = let r = h.room in omega (arith, others);
}

pub kept_at : (id starts drops more less : ℕ) (b : Both) → starts ≡ more → drops ≡ less → Kept id starts drops b → Kept id more less b
kept_at id starts drops more less b e f h = subst (λ (n : ℕ). Kept id n less b) e (subst (λ (n : ℕ). Kept id starts n b) f h)

-- the counter rests at its last number
one-dropped : (d drops : ℕ) → d ≡ min drops 4294967295 → cond (ltb d 4294967295) (d + 1) d ≡ min (drops + 1) 4294967295
one-dropped d drops e = by-case (ltb d 4294967295) refl where
  by-case : (t : Bool) → ltb d 4294967295 ≡ t → cond t (d + 1) d ≡ min (drops + 1) 4294967295
  by-case true q = let z = ltb-true d 4294967295 q in omega arith
  by-case false q = let z = ltb-false d 4294967295 q in omega arith

-- ---- a start that is dropped, and one that is not

module _ (id starts drops : ℕ) (b : Both) (h : Kept id starts drops b) (st : Start) where
  kept-dropped : Kept id starts (drops + 1) (record { session = marked_by st b.session; voice = dropped_one b.voice })
  kept-dropped =
      let size = h.shape.places in
      let seen = view-marked st b.session size in
      kept_same id starts drops (drops + 1) b (record { session = marked_by st b.session; voice = dropped_one b.voice }) h
      (record {
        voice = h.shape.voice;
        list = count-marked st b.session size;
        places = size-marked st b.session size;
        few = h.shape.few;
        seats = h.shape.seats;
      })
      refl
      (one-dropped b.voice.dropped drops h.dropped)
      (ap (slots_of id) seen ∙ slots-marks id st (view b.session))
      refl
      (ap (elsewhere id) seen ∙ elsewhere-marks id st (view b.session))

  module _ (its : st.voice ≡ id) (few : b.voice.players.count < 32) (p : Player) (seat : p.slot ≡ b.voice.next_slot) where
    row : view (entered_by st b.voice.next_slot (marked_by st b.session)) ≡ start_marks st (view b.session) ++ (records.entered st b.voice.next_slot ∷ [])
    row = view-entered st b.session h.shape.places b.voice.next_slot (has_room id starts drops b h few)

    slots-joined : slots_of id (view (entered_by st b.voice.next_slot (marked_by st b.session))) ≡ slots_of id (view b.session) ++ (b.voice.next_slot ∷ [])
    slots-joined =
        ap (slots_of id) row
        ∙ ap (map (λ (r : PlayerRecord). r.slot))
        (records-entered id (records.entered st b.voice.next_slot) (start_marks st (view b.session))
        ∙ ap (λ (t : Bool). filter (of_voice id) (start_marks st (view b.session)) ++ cond t (records.entered st b.voice.next_slot ∷ []) []) (eq-eqb st.voice id its))
        ∙ map-append (λ (r : PlayerRecord). r.slot) (filter (of_voice id) (start_marks st (view b.session))) (records.entered st b.voice.next_slot ∷ [])
        ∙ ap (λ (l : List ℕ). l ++ (b.voice.next_slot ∷ [])) (slots-marks id st (view b.session))

    elsewhere-joined : elsewhere id (view (entered_by st b.voice.next_slot (marked_by st b.session))) ≡ elsewhere id (view b.session)
    elsewhere-joined =
        ap (elsewhere id) row
        ∙ ap length
        (filter-append (λ (r : PlayerRecord). not (of_voice id r)) (start_marks st (view b.session)) (records.entered st b.voice.next_slot ∷ [])
        ∙ ap (λ (t : Bool). filter (λ (r : PlayerRecord). not (of_voice id r)) (start_marks st (view b.session)) ++ cond (not t) (records.entered st b.voice.next_slot ∷ []) []) (eq-eqb st.voice id its)
        ∙ append-nil (filter (λ (r : PlayerRecord). not (of_voice id r)) (start_marks st (view b.session))))
        ∙ elsewhere-marks id st (view b.session)

    players-joined : slot_numbers (sounding (seated p b.voice.players)) ≡ slot_numbers (sounding b.voice.players) ++ (b.voice.next_slot ∷ [])
    players-joined =
        ap slot_numbers (sounding-seated p b.voice.players few h.shape.seats)
        ∙ map-append (λ (q : Player). q.slot) (sounding b.voice.players) (p ∷ [])
        ∙ ap (λ (k : ℕ). slot_numbers (sounding b.voice.players) ++ (k ∷ [])) seat

    kept-joined : Kept id (starts + 1) drops (record { session = entered_by st b.voice.next_slot (marked_by st b.session); voice = joined_by p b.voice })
    unfolding joined_by
    kept-joined = record {
      shape = record {
        voice = h.shape.voice;
        list = count-entered st b.session h.shape.places b.voice.next_slot (has_room id starts drops b h few);
        places = size-entered st b.session h.shape.places b.voice.next_slot (has_room id starts drops b h few);
        few = omega arith;
        seats = length-set b.voice.players.players b.voice.players.count p ∙ h.shape.seats;
      };
      next = ap (λ (k : ℕ). (k + 1) % 2 ^ 32) h.next ∙ mod-add-mod starts (2 ^ 32) 1;
      dropped = h.dropped;
      under = subst (λ (l : List ℕ). Sub l (slot_numbers (sounding (seated p b.voice.players)))) (sym slots-joined)
          (subst (λ (l : List ℕ). Sub (slots_of id (view b.session) ++ (b.voice.next_slot ∷ [])) l) (sym players-joined)
          (sub-one-more h.under b.voice.next_slot));
      mirror = λ q. mirrored (omega arith);
      room = let r = h.room in omega (arith, elsewhere-joined);
    } where
      mirrored : starts < 2 ^ 32
          → (slots_of id (view (entered_by st b.voice.next_slot (marked_by st b.session))) ≡ slot_numbers (sounding (seated p b.voice.players)))
          × Rising (starts + 1) (slot_numbers (sounding (seated p b.voice.players)))
      mirrored q =
          let slots = (h.mirror q).0 in
          let number : b.voice.next_slot ≡ starts = h.next ∙ mod-eq_of_lt q in (
            slots-joined ∙ ap (λ (l : List ℕ). l ++ (b.voice.next_slot ∷ [])) slots ∙ sym players-joined,
            subst (λ (l : List ℕ). Rising (starts + 1) l)
                (sym (players-joined ∙ ap (λ (k : ℕ). slot_numbers (sounding b.voice.players) ++ (k ∷ [])) number))
                (rising-one-more starts (slot_numbers (sounding b.voice.players)) (h.mirror q).1),
          )

-- ---- the start of a region

module _ (k : Kit) (n : NoteState) (c : Cause) (i : ℕ) (b : Both) where
  start-voice : (start_in k n c b.voice i).voice ≡ b.voice.voice
  unfolding start_of
  start-voice = refl

  player-slot : (player_of k n c b.voice i).slot ≡ b.voice.next_slot
  unfolding player_of player_from started_player
  player-slot = refl

  started-full : leb 32 b.voice.players.count ≡ true
      → started_region k n c b i ≡ record { session = marked_by (start_in k n c b.voice i) b.session; voice = dropped_one b.voice }
  unfolding started_region
  started-full e = rw e

  started-room : leb 32 b.voice.players.count ≡ false
      → started_region k n c b i
      ≡ record {
        session = entered_by (start_in k n c b.voice i) b.voice.next_slot (marked_by (start_in k n c b.voice i) b.session);
        voice = joined_by (player_of k n c b.voice i) b.voice;
      }
  unfolding started_region
  started-room e = rw e

  pub voices-start : (started_region k n c b i).session.voices ≡ b.session.voices
  voices-start = by-case (leb 32 b.voice.players.count) refl where
    by-case : (t : Bool) → leb 32 b.voice.players.count ≡ t → (started_region k n c b i).session.voices ≡ b.session.voices
    by-case true e = ap (λ (x : Both). x.session.voices) (started-full e) ∙ voices-marked (start_in k n c b.voice i) b.session
    by-case false e =
        ap (λ (x : Both). x.session.voices) (started-room e)
        ∙ voices-entered (start_in k n c b.voice i) b.voice.next_slot (marked_by (start_in k n c b.voice i) b.session)
        ∙ voices-marked (start_in k n c b.voice i) b.session

  module _ (id starts drops : ℕ) (h : Kept id starts drops b) where
    pub kept-start : Kept id (starts + players_in (started_on (start_in k n c b.voice i) b ∷ [])) (drops + drops_in (started_on (start_in k n c b.voice i) b ∷ [])) (started_region k n c b i)
    kept-start = by-case (leb 32 b.voice.players.count) refl where
      by-case : (t : Bool) → leb 32 b.voice.players.count ≡ t
          → Kept id (starts + length (cond (not t) (started_on (start_in k n c b.voice i) b ∷ []) [])) (drops + length (cond t (started_on (start_in k n c b.voice i) b ∷ []) [])) (started_region k n c b i)
      by-case true e =
          subst (λ (x : Both). Kept id (starts + 0) (drops + 1) x) (sym (started-full e))
          (kept_at id starts (drops + 1) (starts + 0) (drops + 1) _ (omega arith) refl (kept-dropped id starts drops b h (start_in k n c b.voice i)))
      by-case false e =
          subst (λ (x : Both). Kept id (starts + 1) (drops + 0) x) (sym (started-room e))
          (kept_at id (starts + 1) drops (starts + 1) (drops + 0) _ refl (omega arith)
          (kept-joined id starts drops b h (start_in k n c b.voice i) (start-voice ∙ h.shape.voice) (leb-false 32 b.voice.players.count e)
          (player_of k n c b.voice i) player-slot))

    pub row-start : Row id (view b.session) (started_on (start_in k n c b.voice i) b ∷ []) (view (started_region k n c b i).session)
    row-start = by-case (leb 32 b.voice.players.count) refl where
      by-case : (t : Bool) → leb 32 b.voice.players.count ≡ t
          → Row id (view b.session) (started_on (start_in k n c b.voice i) b ∷ []) (view (started_region k n c b i).session)
      by-case true e =
          subst (λ (l : List PlayerRecord). Row id (view b.session) (started_on (start_in k n c b.voice i) b ∷ []) l)
          (sym (ap (λ (x : Both). view x.session) (started-full e) ∙ view-marked (start_in k n c b.voice i) b.session h.shape.places))
          (marked (start_in k n c b.voice i) b.voice.players.count (view b.session))
      by-case false e =
          subst (λ (l : List PlayerRecord). Row id (view b.session) (started_on (start_in k n c b.voice i) b ∷ []) l)
          (sym (ap (λ (x : Both). view x.session) (started-room e)
          ∙ view-entered (start_in k n c b.voice i) b.session h.shape.places b.voice.next_slot
          (has_room id starts drops b h (leb-false 32 b.voice.players.count e))))
          (entered (start_in k n c b.voice i) b.voice.players.count (view b.session)
          (records.entered (start_in k n c b.voice i) b.voice.next_slot) (start-voice ∙ h.shape.voice))
