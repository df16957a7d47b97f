-- 128 turns are enough: after them no off time of the voice waits. Each turn takes one; a record's off time can be set once more while
-- the record is unmarked; and the release that a choke fires, once, adds no more than 32 records. Assumes nothing.
use Rattle.std.specs.List.{list_any}
use Rattle.std.proofs.Common.{None, Option, Some, cond, filter, is_some, slice_get}
use Prim.Native.Nat.{ℕ, zero, suc, ◌+◌, ◌-◌, ◌*◌, ◌≤◌}
use mathlib.Core.Path.{◌≡◌, refl, sym, ap, ◌∙◌}
use mathlib.Core.Bool.{Bool, true, false, not, ◌&&◌}
use mathlib.Core.List.{List, [], ◌∷◌, ◌++◌, map, foldl}
use native.Mathlib.Omega.{arith}
use lib.ListN.{length, length-append, length-map}
use lib.Dec.{ltb, leb}
use borrow.Author.Tests.{leb-false, ltb-true}
use Rattle.players.specs.Gate.{offed_slot, ignored, fires}
use Rattle.players.specs.Seats.{sounding, is_over, reaped}
use Rattle.players.specs.declared.Offed.{Offed}
use Rattle.session.proofs.Laws.{along-length, first-along, marks-along, slots-marks}
use Rattle.session.proofs.Relist.{view-few, keep-fewer}
use Rattle.session.proofs.Started.{view-put}
use Rattle.std.proofs.lemmas.List.Elements.{filter-append}
use Rattle.session.specs.Changes.{Along, end, one, Marked, unchanged, newly}
use Rattle.session.specs.Lists.{change_first}
use Rattle.session.specs.Offs.{off_of, off_times, took_first}
use Rattle.session.specs.Records.{collected, entered, in_slots, of_voice, waits}
use Rattle.session.specs.Rules.{collect_first, enter, slots_of, start_marks, without_slots}
use Rattle.session.specs.State.{view, relist, serial_up, slot_list}
use Rattle.session.specs.declared.Off.{Off}
use Rattle.session.specs.declared.PlayerRecord.{PlayerRecord}
use Rattle.session.specs.declared.Session.{Session}
use Rattle.session.specs.declared.Start.{Start}
use Rattle.note.specs.declared.NoteState.{NoteState}
use Rattle.note.specs.declared.Strike.{Strike}
use Rattle.note.specs.Note.{note_state}
use Rattle.events.specs.declared.Both.{Both}
use Rattle.events.specs.declared.Cause.{Cause}
use Rattle.events.specs.Voice.{Kit, with_players, with_note}
use Rattle.events.specs.Start.{marked_by, entered_by, joined_by, dropped_one, player_of, start_in, started_region, started_all, releases_fired, fired_for, dispatched_release}
use Rattle.gates.specs.Off.{without_players, reaped_both, unfired, fired_note, may_fire, choke_fires, applied_off, acts_on, is_taken, took_own, own_offs}
use Rattle.gates.specs.Gate.{note_started, noted_on}
use Rattle.gates.proofs.Turns.{both, owns}

never : {A : Type 0} → ◌≡◌ {A = Bool} true false → A
never p = absurd (let z : ◌≡◌ {A = ℕ} 0 1 = cc in omega arith)

and_right : (a b : Bool) → a && b ≡ true → b ≡ true
and_right true b e = e
and_right false b e = cc

-- ---- how often a record's off time can still be taken: once where it waits, once more where the record is unmarked

abbrev weighs : Bool → Bool → Bool → ℕ
weighs its set off = cond its (cond set 1 0 + cond off 0 1) 0

abbrev weigh : ℕ → PlayerRecord → ℕ
weigh v r = weighs (of_voice v r) (is_some r.off_at) r.offed

abbrev pub weight : ℕ → List PlayerRecord → ℕ
weight v [] = 0
weight v (r ∷ rs) = weigh v r + weight v rs

mark-weighs : (its set off : Bool) → off ≡ false → weighs its true true ≤ weighs its set off
mark-weighs true set false e = omega arith
mark-weighs true set true e = never e
mark-weighs false set off e = omega arith

module _ (v at : ℕ) where
  mark-lighter : {r q : PlayerRecord} → Marked at r q → weigh v q ≤ weigh v r
  mark-lighter unchanged = omega arith
  mark-lighter (newly {r} e) = mark-weighs (of_voice v r) (is_some r.off_at) r.offed e

  marks-lighter : {rs qs : List PlayerRecord} → Along (Marked at) rs qs → weight v qs ≤ weight v rs
  marks-lighter end = omega arith
  marks-lighter (one m rest) = let a = mark-lighter m in let b = marks-lighter rest in omega arith

module _ (v : ℕ) where
  weight-append : (rs qs : List PlayerRecord) → weight v (rs ++ qs) ≡ weight v rs + weight v qs
  weight-append [] qs = omega arith
  weight-append (r ∷ rs) qs = let e = weight-append rs qs in omega arith

  new-weighs : (its : Bool) → weighs its false false ≤ 1
  new-weighs true = omega arith
  new-weighs false = omega arith

  enter-weight : (st : Start) (slot : ℕ) (rs : List PlayerRecord) → weight v (enter (entered st slot) rs) ≤ weight v rs + 1
  unfolding enter
  enter-weight st slot rs = by-case (ltb (length rs) 512) where
    by-case : (t : Bool) → weight v (cond t (rs ++ (entered st slot ∷ [])) rs) ≤ weight v rs + 1
    by-case true = let e = weight-append rs (entered st slot ∷ []) in let h = new-weighs (of_voice v (entered st slot)) in omega arith
    by-case false = omega arith

  keep-lighter : (p : PlayerRecord → Bool) (rs : List PlayerRecord) → weight v (filter p rs) ≤ weight v rs
  keep-lighter p [] = omega arith
  keep-lighter p (r ∷ rs) = by-case (p r) (keep-lighter p rs) where
    by-case : (t : Bool) → weight v (filter p rs) ≤ weight v rs → weight v (cond t (r ∷ filter p rs) (filter p rs)) ≤ weigh v r + weight v rs
    by-case true h = omega arith
    by-case false h = omega arith

  take-weighs : (its set off : Bool) → its && set ≡ true → weighs its false off + 1 ≤ weighs its set off
  take-weighs true true off e = omega arith
  take-weighs true false off e = never (sym e)
  take-weighs false set off e = never (sym e)

  -- the first off time that waits is taken
  taken-lighter : (rs : List PlayerRecord) → is_taken (slice_get (off_times v rs) 0) ≡ true → weight v (change_first (waits v) collected rs) + 1 ≤ weight v rs
  unfolding waits
  taken-lighter [] e = never (sym e)
  taken-lighter (r ∷ rs) e = by-case (waits v r) refl e (taken-lighter rs) where
    by-case : (t : Bool) → waits v r ≡ t → is_taken (slice_get (map off_of (cond t (r ∷ filter (waits v) rs) (filter (waits v) rs))) 0) ≡ true
        → (is_taken (slice_get (off_times v rs) 0) ≡ true → weight v (change_first (waits v) collected rs) + 1 ≤ weight v rs)
        → weight v (cond t (collected r ∷ rs) (r ∷ change_first (waits v) collected rs)) + 1 ≤ weigh v r + weight v rs
    by-case true w f later = let h = take-weighs (of_voice v r) (is_some r.off_at) r.offed w in omega arith
    by-case false w f later = let h = later f in omega arith

  -- no more than twice as much as the voice has records
  own-weighs : (its set off : Bool) → weighs its set off ≤ cond its 2 0
  own-weighs true true true = omega arith
  own-weighs true true false = omega arith
  own-weighs true false true = omega arith
  own-weighs true false false = omega arith
  own-weighs false set off = omega arith

  weight-few : (rs : List PlayerRecord) → weight v rs ≤ 2 * length (filter (of_voice v) rs)
  weight-few [] = omega arith
  weight-few (r ∷ rs) = by-case (of_voice v r) (own-weighs (of_voice v r) (is_some r.off_at) r.offed) (weight-few rs) where
    by-case : (t : Bool) → weigh v r ≤ cond t 2 0 → weight v rs ≤ 2 * length (filter (of_voice v) rs)
        → weigh v r + weight v rs ≤ 2 * length (cond t (r ∷ filter (of_voice v) rs) (filter (of_voice v) rs))
    by-case true a b = omega arith
    by-case false a b = omega arith

enter-few : (r : PlayerRecord) (rs : List PlayerRecord) → length rs ≤ 512 → length (enter r rs) ≤ 512
unfolding enter
enter-few r rs h = by-case (ltb (length rs) 512) refl where
  by-case : (t : Bool) → ltb (length rs) 512 ≡ t → length (cond t (rs ++ (r ∷ [])) rs) ≤ 512
  by-case true e = let k = ltb-true (length rs) 512 e in let n = length-append rs (r ∷ []) in omega arith
  by-case false e = h

-- ---- starts: what a voice has room for is no more than 32 records

pub record Starts (v : ℕ) (a b : Both) : Type 0 where
  pub room : weight v (view b.session) + (32 - b.voice.players.count) ≤ weight v (view a.session) + (32 - a.voice.players.count)
  pub id : b.voice.voice ≡ a.voice.voice
  pub note : b.voice.note ≡ a.voice.note

module _ (v : ℕ) where
  marked-lighter : (st : Start) (s : Session) → weight v (view (marked_by st s)) ≤ weight v (view s)
  unfolding marked_by
  marked-lighter st s =
      let along = marks-along st (view s) in
      let n : length (start_marks st (view s)) ≤ 512 = omega (arith, along-length along, view-few s) in
      let h = marks-lighter v st.at along in rw (view-put s (start_marks st (view s)) n) h

  entered-weight : (st : Start) (slot : ℕ) (s : Session) → weight v (view (entered_by st slot s)) ≤ weight v (view s) + 1
  unfolding entered_by
  entered-weight st slot s =
      let n = enter-few (entered st slot) (view s) (view-few s) in
      rw (view-put s (enter (entered st slot) (view s)) n) (enter-weight v st slot (view s))

  starts-one : (k : Kit) (n : NoteState) (c : Cause) (b : Both) (i : ℕ) → Starts v b (started_region k n c b i)
  unfolding started_region joined_by
  starts-one k n c b i = by-case (leb 32 b.voice.players.count) refl where
    by-case : (t : Bool) → leb 32 b.voice.players.count ≡ t
        → Starts v b (cond t (both (marked_by (start_in k n c b.voice i) b.session) (dropped_one b.voice))
        (both (entered_by (start_in k n c b.voice i) b.voice.next_slot (marked_by (start_in k n c b.voice i) b.session)) (joined_by (player_of k n c b.voice i) b.voice)))
    by-case true e = let h = marked-lighter (start_in k n c b.voice i) b.session in record { room = omega arith; id = refl; note = refl }
    by-case false e =
        let few = leb-false 32 b.voice.players.count e in
        let h = marked-lighter (start_in k n c b.voice i) b.session in
        let g = entered-weight (start_in k n c b.voice i) b.voice.next_slot (marked_by (start_in k n c b.voice i) b.session) in
        record { room = omega arith; id = refl; note = refl }

  starts-trans : (a b c : Both) → Starts v a b → Starts v b c → Starts v a c
  starts-trans a b c x y = let p = x.room in let q = y.room in record { room = omega arith; id = y.id ∙ x.id; note = y.note ∙ x.note }

  starts-fold : (k : Kit) (n : NoteState) (c : Cause) (is : List ℕ) (b : Both) → Starts v b (foldl (started_region k n c) b is)
  starts-fold k n c [] b = record { room = omega arith; id = refl; note = refl }
  starts-fold k n c (i ∷ is) b = starts-trans b (started_region k n c b i) _ (starts-one k n c b i) (starts-fold k n c is (started_region k n c b i))

  starts-all : (k : Kit) (n : NoteState) (c : Cause) (is : List ℕ) (b : Both) → Starts v b (started_all k n c is b)
  unfolding started_all
  starts-all k n c is b = starts-fold k n c is b

  starts-release : (k : Kit) (m at : ℕ) (b : Both) → Starts v b (dispatched_release k m at b)
  unfolding dispatched_release releases_fired
  starts-release k m at b = by-case b.voice.note where
    by-case : (x : Option NoteState) → Starts v b (fired_for k m at x b)
    by-case None = record { room = omega arith; id = refl; note = refl }
    by-case (Some n) = let h = starts-all k n _ _ (both (serial_up b.session) b.voice) in record { room = h.room; id = h.id; note = h.note }

-- ---- what an off time that acts leaves to be taken

-- what a release may add, while a choke can fire it
abbrev pub spare : Option NoteState → ℕ
spare n = cond (unfired n) 32 0

abbrev pub load : ℕ → Both → ℕ
load v b = weight v (view b.session) + spare b.voice.note

pub record Falls (v : ℕ) (a b : Both) : Type 0 where
  pub less : load v b ≤ load v a
  pub id : b.voice.voice ≡ a.voice.voice

fired-once : (n : Option NoteState) → unfired (fired_note n) ≡ false
fired-once None = refl
fired-once (Some n) = refl

module _ (v : ℕ) where
  falls-choke : (k : Kit) (m at : ℕ) (fires : Bool) (b : Both) → Falls v b (choke_fires k m at fires b)
  unfolding choke_fires
  falls-choke k m at fires b = by-case (may_fire fires b.voice) refl where
    by-case : (t : Bool) → may_fire fires b.voice ≡ t
        → Falls v b (cond t (dispatched_release k m at (both b.session (with_note (fired_note b.voice.note) b.voice))) b)
    by-case true e =
        let h = starts-release v k m at (both b.session (with_note (fired_note b.voice.note) b.voice)) in
        let r = h.room in
        let was : unfired b.voice.note ≡ true = and_right b.voice.gate_held _ (and_right fires _ e) in
        let w : spare b.voice.note ≡ 32 = ap (λ t. cond t 32 0) was in
        let z : spare (fired_note b.voice.note) ≡ 0 = ap (λ t. cond t 32 0) (fired-once b.voice.note) in
        let x : spare (dispatched_release k m at (both b.session (with_note (fired_note b.voice.note) b.voice))).voice.note ≡ 0 = ap spare h.note ∙ z in
        record { less = omega arith; id = h.id }
    by-case false e = record { less = omega arith; id = refl }

  gone-lighter : (id : ℕ) (ks : List ℕ) (s : Session) → weight v (view (relist (without_slots id ks (view s)) s)) ≤ weight v (view s)
  unfolding without_slots
  gone-lighter id ks s =
      let p : PlayerRecord → Bool = λ r. not (in_slots id ks r) in
      let n : length (filter p (view s)) ≤ 512 = omega (arith, keep-fewer p (view s), view-few s) in
      rw (view-put s (filter p (view s)) n) (keep-lighter v p (view s))

  falls-reap : (b : Both) → Falls v b (reaped_both b)
  unfolding reaped_both
  falls-reap b = by-case (list_any is_over (sounding b.voice.players)) where
    by-case : (t : Bool)
        → Falls v b (cond t (both (without_players b.voice.voice (reaped b.voice.players) b.session) (with_players (reaped b.voice.players).players b.voice)) b)
    by-case true = let h = gone-lighter b.voice.voice (slot_list (reaped b.voice.players).gone) b.session in record { less = omega arith; id = refl }
    by-case false = record { less = omega arith; id = refl }

  falls-applied : (k : Kit) (m slot at : ℕ) (b : Both) → Falls v b (applied_off k m slot at b)
  unfolding applied_off
  falls-applied k m slot at b = by-case (offed_slot slot b.voice.players) where
    by-case : (o : Offed) → Falls v b (cond (ignored o.mark) b (choke_fires k m at (fires o.mark) (reaped_both (both b.session (with_players o.players b.voice)))))
    by-case o = pick-case (ignored o.mark) where
      pick-case : (t : Bool) → Falls v b (cond t b (choke_fires k m at (fires o.mark) (reaped_both (both b.session (with_players o.players b.voice)))))
      pick-case true = record { less = omega arith; id = refl }
      pick-case false =
          let c = both b.session (with_players o.players b.voice) in
          let x = falls-reap c in let y = falls-choke k m at (fires o.mark) (reaped_both c) in
          let p = x.less in let q = y.less in
          record { less = omega arith; id = y.id ∙ x.id }

  falls-acts : (k : Kit) (m : ℕ) (f : Option Off) (b : Both) → Falls v b (acts_on k m f b)
  falls-acts k m None b = record { less = omega arith; id = refl }
  falls-acts k m (Some o) b = falls-applied k m o.slot o.at b

  -- a turn that takes an off time leaves one less to be taken
  abbrev taking : Both → Both
  taking b = both (took_first v b.session).session b.voice

  taking-less : (b : Both) → is_taken (took_first v b.session).first ≡ true → load v (taking b) + 1 ≤ load v b
  unfolding took_first collect_first
  taking-less b h =
      let rs = view b.session in
      let n : length (change_first (waits v) collected rs) ≤ 512 = omega (arith, along-length (first-along v rs), view-few b.session) in
      let e : weight v (view (relist (change_first (waits v) collected rs) b.session)) ≡ weight v (change_first (waits v) collected rs) = ap (weight v) (view-put b.session (change_first (waits v) collected rs) n) in
      let w = taken-lighter v rs h in omega arith

  module _ (k : Kit) (m : ℕ) (b : Both) (its : b.voice.voice ≡ v) where
    turn_is : took_own k m b ≡ acts_on k m (took_first v b.session).first (taking b)
    unfolding took_own
    turn_is = ap (λ (x : ℕ). acts_on k m (took_first x b.session).first (both (took_first x b.session).session b.voice)) its

    turn-id : (took_own k m b).voice.voice ≡ v
    turn-id = ap (λ (x : Both). x.voice.voice) turn_is ∙ (falls-acts k m (took_first v b.session).first (taking b)).id ∙ its

    turn-less : is_taken (took_first v b.session).first ≡ true → load v (took_own k m b) + 1 ≤ load v b
    turn-less h =
        let f = (falls-acts k m (took_first v b.session).first (taking b)).less in
        let z : load v (took_own k m b) ≡ load v (acts_on k m (took_first v b.session).first (taking b)) = ap (load v) turn_is in
        let t = taking-less b h in omega arith

-- ---- the whole

abbrev waiting : ℕ → Both → Bool
waiting v b = is_taken (took_first v b.session).first

module _ (k : Kit) (m : ℕ) where
  -- the voice keeps its id
  pub own-id : (n : ℕ) (b : Both) → (own_offs k m n b).voice.voice ≡ b.voice.voice
  unfolding own_offs
  own-id zero b = refl
  own-id (suc n) b = by-case (owns b) refl (own-id n (took_own k m b)) where
    by-case : (t : Bool) → owns b ≡ t → (own_offs k m n (took_own k m b)).voice.voice ≡ (took_own k m b).voice.voice
        → (cond t (own_offs k m n (took_own k m b)) b).voice.voice ≡ b.voice.voice
    by-case true e rest = rest ∙ turn-id b.voice.voice k m b refl
    by-case false e rest = refl

  -- as many turns as there are off times that can be taken
  pub enough : (n : ℕ) (v : ℕ) (b : Both) → b.voice.voice ≡ v → load v b ≤ n → waiting v (own_offs k m n b) ≡ false
  unfolding own_offs
  enough zero v b e h = by-case (waiting v b) refl where
    by-case : (t : Bool) → waiting v b ≡ t → waiting v b ≡ false
    by-case true f = absurd (let l = taking-less v b f in omega arith)
    by-case false f = f
  enough (suc n) v b e h = by-case (waiting v b) refl (enough n v (took_own k m b) (turn-id v k m b e)) where
    by-case : (t : Bool) → waiting v b ≡ t → (load v (took_own k m b) ≤ n → waiting v (own_offs k m n (took_own k m b)) ≡ false)
        → waiting v (cond (owns b) (own_offs k m n (took_own k m b)) b) ≡ false
    by-case true f rest =
        ap (λ x. waiting v (cond x (own_offs k m n (took_own k m b)) b)) (ap (λ (x : ℕ). waiting x b) e ∙ f)
        ∙ rest (let l = turn-less v k m b e f in omega arith)
    by-case false f rest = ap (λ x. waiting v (cond x (own_offs k m n (took_own k m b)) b)) (ap (λ (x : ℕ). waiting x b) e ∙ f) ∙ f

none-waits : (v : ℕ) (b : Both) → waiting v b ≡ false → off_times v (view b.session) ≡ []
unfolding took_first
none-waits v b e = by-case (off_times v (view b.session)) e where
  by-case : (os : List Off) → is_taken (slice_get os 0) ≡ false → os ≡ []
  by-case [] e = refl
  by-case (o ∷ os) e = never e

spare-few : (n : Option NoteState) → spare n ≤ 32
spare-few n = by-case (unfired n) where
  by-case : (t : Bool) → cond t 32 0 ≤ 32
  by-case true = omega arith
  by-case false = omega arith

-- After the turns no off time waits on the voice's own records: what "until none is left" says. A voice has no more than 32.
pub none_left : (k : Kit) (m : ℕ) (b : Both) → length (filter (of_voice b.voice.voice) (view b.session)) ≤ 32
    → off_times (own_offs k m 128 b).voice.voice (view (own_offs k m 128 b).session) ≡ []
none_left k m b few =
    let v = b.voice.voice in
    let w = weight-few v (view b.session) in
    let l : load v b ≤ 128 = omega (arith, spare-few b.voice.note) in
    ap (λ (x : ℕ). off_times x (view (own_offs k m 128 b).session)) (own-id k m 128 b) ∙ none-waits v (own_offs k m 128 b) (enough k m 128 v b refl l)

-- ---- a note-on

-- the voice has no more records than players, of which it has at most 32
pub record Seated (v : ℕ) (b : Both) : Type 0 where
  pub few : b.voice.players.count ≤ 32
  pub each : length (filter (of_voice v) (view b.session)) ≤ b.voice.players.count

module _ (v : ℕ) where
  count-slots : (rs : List PlayerRecord) → length (slots_of v rs) ≡ length (filter (of_voice v) rs)
  count-slots rs = length-map (filter (of_voice v) rs) (λ (r : PlayerRecord). r.slot)

  marked-count : (st : Start) (s : Session) → length (filter (of_voice v) (view (marked_by st s))) ≡ length (filter (of_voice v) (view s))
  unfolding marked_by
  marked-count st s =
      let n : length (start_marks st (view s)) ≤ 512 = omega (arith, along-length (marks-along st (view s)), view-few s) in
      ap (λ (l : List PlayerRecord). length (filter (of_voice v) l)) (view-put s (start_marks st (view s)) n)
      ∙ sym (count-slots (start_marks st (view s))) ∙ ap length (slots-marks v st (view s)) ∙ count-slots (view s)

  enter-count : (r : PlayerRecord) (rs : List PlayerRecord) → length (filter (of_voice v) (enter r rs)) ≤ length (filter (of_voice v) rs) + 1
  unfolding enter
  enter-count r rs = by-case (ltb (length rs) 512) where
    one-few : (t : Bool) → length (cond t (r ∷ []) []) ≤ 1
    one-few true = omega arith
    one-few false = omega arith

    by-case : (t : Bool) → length (filter (of_voice v) (cond t (rs ++ (r ∷ [])) rs)) ≤ length (filter (of_voice v) rs) + 1
    by-case true =
        let e : length (filter (of_voice v) (rs ++ (r ∷ []))) ≡ length (filter (of_voice v) rs) + length (filter (of_voice v) (r ∷ [])) = ap length (filter-append (of_voice v) rs (r ∷ [])) ∙ length-append (filter (of_voice v) rs) (filter (of_voice v) (r ∷ [])) in
        let h = one-few (of_voice v r) in omega arith
    by-case false = omega arith

  entered-count : (st : Start) (slot : ℕ) (s : Session) → length (filter (of_voice v) (view (entered_by st slot s))) ≤ length (filter (of_voice v) (view s)) + 1
  unfolding entered_by
  entered-count st slot s =
      let n = enter-few (entered st slot) (view s) (view-few s) in
      rw (view-put s (enter (entered st slot) (view s)) n) (enter-count (entered st slot) (view s))

  seated-one : (k : Kit) (n : NoteState) (c : Cause) (b : Both) (i : ℕ) → Seated v b → Seated v (started_region k n c b i)
  unfolding started_region joined_by
  seated-one k n c b i seats = by-case (leb 32 b.voice.players.count) refl where
    by-case : (t : Bool) → leb 32 b.voice.players.count ≡ t
        → Seated v (cond t (both (marked_by (start_in k n c b.voice i) b.session) (dropped_one b.voice))
        (both (entered_by (start_in k n c b.voice i) b.voice.next_slot (marked_by (start_in k n c b.voice i) b.session)) (joined_by (player_of k n c b.voice i) b.voice)))
    by-case true e =
        let h = marked-count (start_in k n c b.voice i) b.session in
        let x = seats.each in record { few = seats.few; each = omega arith }
    by-case false e =
        let few = leb-false 32 b.voice.players.count e in
        let h = marked-count (start_in k n c b.voice i) b.session in
        let g = entered-count (start_in k n c b.voice i) b.voice.next_slot (marked_by (start_in k n c b.voice i) b.session) in
        let x = seats.each in record { few = omega arith; each = omega arith }

  seated-fold : (k : Kit) (n : NoteState) (c : Cause) (is : List ℕ) (b : Both) → Seated v b → Seated v (foldl (started_region k n c) b is)
  seated-fold k n c [] b seats = seats
  seated-fold k n c (i ∷ is) b seats = seated-fold k n c is (started_region k n c b i) (seated-one k n c b i seats)

  seated-all : (k : Kit) (n : NoteState) (c : Cause) (is : List ℕ) (b : Both) → Seated v b → Seated v (started_all k n c is b)
  unfolding started_all
  seated-all k n c is b seats = seated-fold k n c is b seats

  seated-note : (k : Kit) (m : ℕ) (n : NoteState) (at : ℕ) (b : Both) → Seated v b → Seated v (note_started k m n at b)
  unfolding note_started
  seated-note k m n at b seats = seated-all k n _ _ _ (record { few = seats.few; each = seats.each })

  note-id : (k : Kit) (m : ℕ) (n : NoteState) (at : ℕ) (b : Both) → (note_started k m n at b).voice.voice ≡ b.voice.voice
  unfolding note_started
  note-id k m n at b = (starts-all v k n _ _ _).id

-- After a note-on no off time waits on the voice's own records.
pub on-none-left : (k : Kit) (m : ℕ) (x : Strike) (b : Both) → Seated b.voice.voice b
    → off_times (noted_on k m x b).voice.voice (view (noted_on k m x b).session) ≡ []
unfolding noted_on
on-none-left k m x b seats =
    let a = note_started k m (note_state x) x.at b in
    let s = seated-note b.voice.voice k m (note_state x) x.at b seats in
    let p = s.few in let q = s.each in
    let e : a.voice.voice ≡ b.voice.voice = note-id b.voice.voice k m (note_state x) x.at b in
    let f : length (filter (of_voice a.voice.voice) (view a.session)) ≡ length (filter (of_voice b.voice.voice) (view a.session)) = ap (λ (i : ℕ). length (filter (of_voice i) (view a.session))) e in
    none_left k m a (omega arith)
