-- The life of a record: where the records after a chain of moves come from, and that another voice's starts mark a record at most once.
-- Assumes nothing.
use Rattle.std.specs.List.{list_any}
use Rattle.std.specs.Prelude.{cond, filter}
use Prim.Native.Nat.{ℕ, ◌+◌, ◌<◌, ◌≤◌, ◌^◌, ◌%◌}
use mathlib.Core.Path.{◌≡◌, refl, sym, ap, ◌∙◌, subst}
use mathlib.Core.Bool.{Bool, true, false, not}
use mathlib.Core.List.{List, [], ◌∷◌, ◌++◌, append-nil}
use native.Mathlib.Omega.{arith}
use native.Mathlib.Nat.{mod-eq_of_lt}
use lib.ListN.{length, length-append}
use lib.Dec.{eqb, ltb, leb}
use borrow.Author.Tests.{eqb-true, eq-eqb, ltb-true}
use Rattle.session.specs.Changes.{Along, end, one, Marked, unchanged, newly, unmarked}
use Rattle.session.specs.Records.{of_voice, entered, in_slots}
use Rattle.session.specs.Rules.{start_marks, enter, without_slots}
use Rattle.session.specs.State.{view, slot_list}
use Rattle.session.specs.declared.PlayerRecord.{PlayerRecord}
use Rattle.session.specs.declared.Session.{Session}
use Rattle.session.specs.declared.Start.{Start}
use Rattle.session.proofs.Laws.{marks-along, marked-same, along-length, along-self}
use Rattle.session.proofs.Relist.{view-few, view-relist, relist-size, keep-fewer}
use Rattle.std.proofs.lemmas.List.Elements.{filter-append}
use Rattle.players.specs.Seats.{sounding, is_over, reaped}
use Rattle.note.specs.declared.NoteState.{NoteState}
use Rattle.gates.specs.Off.{reaped_both, without_players}
use Rattle.events.specs.Start.{start_in, start_of, started_region, marked_by, entered_by, dropped_one, joined_by, player_of}
use Rattle.events.specs.Voice.{Kit, with_players}
use Rattle.events.specs.declared.Both.{Both}
use Rattle.events.specs.declared.Cause.{Cause}
use Rattle.run.specs.Run.{records_of, Follows, Once, same, marks, In, here, there, Since, new, old, players_in, drops_in, is_dropped}
use Rattle.run.specs.Starts.{Started}
use Rattle.run.proofs.Moves.{Own, own, Move, starts, reaps, keeps, Moves, done, next, Kept}
use Rattle.run.proofs.Moves as moves
use Rattle.run.proofs.Preserved.{kept}
use Rattle.run.proofs.Sums.{clash}

-- ---- another voice's starts

once-twice : {r q t : PlayerRecord} {at : ℕ} → Marked at r q → Once q t → Once r t
once-twice unchanged o = o
once-twice {at = at} (newly e) same = marks at e
once-twice (newly e) (marks k e') = clash e'

once_after : {at : ℕ} {rs qs ts : List PlayerRecord} → Along (Marked at) rs qs → Along Once qs ts → Along Once rs ts
once_after end end = end
once_after (one m rest) (one o rest') = one (once-twice m o) (once_after rest rest')

-- the marks on one voice's records
marks-own : {at : ℕ} (j : ℕ) {rs qs : List PlayerRecord} → Along (Marked at) rs qs → Along (Marked at) (records_of j rs) (records_of j qs)
marks-own j end = end
marks-own {at = at} j (one {x = x} {y = y} {xs = xs} {ys = ys} m rest) =
    let v : y.voice ≡ x.voice = ap (λ (r : PlayerRecord). r.voice) (marked-same m) in
    subst (λ k. Along (Marked at) (records_of j (x ∷ xs)) (cond (eqb k j) (y ∷ records_of j ys) (records_of j ys))) (sym v) (by-case (eqb x.voice j) (marks-own j rest)) where
      by-case : (t : Bool) → Along (Marked at) (records_of j xs) (records_of j ys)
          → Along (Marked at) (cond t (x ∷ records_of j xs) (records_of j xs)) (cond t (y ∷ records_of j ys) (records_of j ys))
      by-case true h = one m h
      by-case false h = h

-- only a record without a mark changes, and so it does once
pub follows-once : (j : ℕ) (xs : List Started) (rs qs : List PlayerRecord) → Follows j xs rs qs → Along Once rs qs
follows-once j [] rs qs e = subst (λ l. Along Once rs l) (sym e) (along-self (λ r. same) rs)
follows-once j (x ∷ xs) rs qs e =
    subst (λ l. Along Once l qs) e.0
    (once_after (marks-own j (marks-along x.start x.list)) (follows-once j xs (records_of j (start_marks x.start x.list)) qs e.1))

-- ---- where a record of the whole list comes from

-- new, of this voice and in a slot from n on, while m players fit in 32 bits; or one that was there
data From (id n m : ℕ) (rs : List PlayerRecord) (q : PlayerRecord) : Type 0 where
  began : q.voice ≡ id → (m < 2 ^ 32 → n ≤ q.slot) → From id n m rs q
  came : {r : PlayerRecord} → In r rs → unmarked q ≡ unmarked r → (r.offed ≡ true → q.offed ≡ true) → From id n m rs q

in_kept : (p : PlayerRecord → Bool) (rs : List PlayerRecord) (q : PlayerRecord) → In q (filter p rs) → In q rs
in_kept p [] q h = elim h [ ]
in_kept p (r ∷ rs) q h = by-case q (p r) (in_kept p rs q) h where
  by-case : (q : PlayerRecord) (t : Bool) → (In q (filter p rs) → In q rs) → In q (cond t (r ∷ filter p rs) (filter p rs)) → In q (r ∷ rs)
  by-case q true f here = here
  by-case q true f (there i) = there (f i)
  by-case q false f i = there (f i)

kept_in : (p : PlayerRecord → Bool) {rs : List PlayerRecord} {q : PlayerRecord} → In q rs → p q ≡ true → In q (filter p rs)
kept_in p (here {r} {rs}) e = subst (λ t. In r (cond t (r ∷ filter p rs) (filter p rs))) (sym e) here
kept_in p (there {r} {q} {rs} i) e = by-case (p q) (kept_in p i e) where
  by-case : (t : Bool) → In r (filter p rs) → In r (cond t (q ∷ filter p rs) (filter p rs))
  by-case true k = there k
  by-case false k = k

kept-holds : (p : PlayerRecord → Bool) (rs : List PlayerRecord) (q : PlayerRecord) → In q (filter p rs) → p q ≡ true
kept-holds p [] q h = elim h [ ]
kept-holds p (r ∷ rs) q h = by-case q (p r) refl (kept-holds p rs q) h where
  by-case : (q : PlayerRecord) (t : Bool) → p r ≡ t → (In q (filter p rs) → p q ≡ true) → In q (cond t (r ∷ filter p rs) (filter p rs)) → p q ≡ true
  by-case q true e f here = e
  by-case q true e f (there i) = f i
  by-case q false e f i = f i

-- a record of a voice that stays was one of its records
pub in-fewer : (p : PlayerRecord → Bool) (j : ℕ) (rs : List PlayerRecord) (q : PlayerRecord) → In q (records_of j (filter p rs)) → In q (records_of j rs)
in-fewer p j rs q i = kept_in (of_voice j) (in_kept p rs q (in_kept (of_voice j) (filter p rs) q i)) (kept-holds (of_voice j) (filter p rs) q i)

in-append : (rs : List PlayerRecord) (e q : PlayerRecord) → In q (rs ++ (e ∷ [])) → (P : PlayerRecord → Type 0) → ((r : PlayerRecord) → In r rs → P r) → P e → P q
in-append [] e q here P f g = g
in-append [] e q (there i) P f g = elim i [ ]
in-append (r ∷ rs) e q here P f g = f r here
in-append (r ∷ rs) e q (there i) P f g = in-append rs e q i P (λ x k. f x (there k)) g

module _ (id n m : ℕ) where
  stayed : (rs : List PlayerRecord) (q : PlayerRecord) → In q rs → From id n m rs q
  stayed rs q i = came i refl (λ e. e)

  later : {r : PlayerRecord} {rs : List PlayerRecord} {q : PlayerRecord} → From id n m rs q → From id n m (r ∷ rs) q
  later (began v s) = began v s
  later (came i u k) = came (there i) u k

  along-from : {R : PlayerRecord → PlayerRecord → Type 0} → ((r q : PlayerRecord) → R r q → (unmarked q ≡ unmarked r) × (r.offed ≡ true → q.offed ≡ true))
      → {rs qs : List PlayerRecord} → Along R rs qs → (q : PlayerRecord) → In q qs → From id n m rs q
  along-from f end q i = elim i [ ]
  along-from f (one {x = x} {y = y} r rest) q here = came here (f x y r).0 (f x y r).1
  along-from f (one r rest) q (there i) = later (along-from f rest q i)

own-keeps : {id : ℕ} (r q : PlayerRecord) → Own id r q → (unmarked q ≡ unmarked r) × (r.offed ≡ true → q.offed ≡ true)
own-keeps r q moves.same = (refl, λ e. e)
own-keeps r q (own v u k) = (u, k)

mark-keeps : {at : ℕ} (r q : PlayerRecord) → Marked at r q → (unmarked q ≡ unmarked r) × (r.offed ≡ true → q.offed ≡ true)
mark-keeps r q unchanged = (refl, λ e. e)
mark-keeps r q (newly e) = (refl, λ k. refl)

-- one list after the other
from-twice : {id n m k : ℕ} {rs qs : List PlayerRecord} → n ≤ m → m ≤ k → ((q : PlayerRecord) → In q qs → From id n m rs q) → (t : PlayerRecord) → From id m k qs t → From id n k rs t
from-twice a b f t (began v s) = began v (λ h. omega (arith, s h, a))
from-twice {id} {n} {m} {k} {rs} a b f t (came {r = q} i u j) = by-case (f q i) where
  by-case : From id n m rs q → From id n k rs t
  by-case (began v s) =
      let x : t.voice ≡ q.voice = ap (λ (r : PlayerRecord). r.voice) u in
      let y : t.slot ≡ q.slot = ap (λ (r : PlayerRecord). r.slot) u in
      began (x ∙ v) (λ h. omega (arith, s (omega (arith, h, b)), y))
  by-case (came i' u' j') = came i' (u ∙ u') (λ e. j (j' e))

-- ---- the moves

module _ (st : Start) (s : Session) (size : length s.players ≡ 512) where
  marked-few : length (start_marks st (view s)) ≤ 512
  marked-few = omega (arith, along-length (marks-along st (view s)), view-few s)

  view-marked : view (marked_by st s) ≡ start_marks st (view s)
  unfolding marked_by
  view-marked = view-relist s size (start_marks st (view s)) marked-few

  marked-size : length (marked_by st s).players ≡ 512
  unfolding marked_by
  marked-size = relist-size s size (start_marks st (view s)) marked-few

  enter-few : (e : PlayerRecord) (rs : List PlayerRecord) → length rs ≤ 512 → length (enter e rs) ≤ 512
  unfolding enter
  enter-few e rs h = by-case (ltb (length rs) 512) refl where
    by-case : (t : Bool) → ltb (length rs) 512 ≡ t → length (cond t (rs ++ (e ∷ [])) rs) ≤ 512
    by-case true p = omega (arith, ltb-true (length rs) 512 p, length-append rs (e ∷ []))
    by-case false p = h

  view-entered : (slot : ℕ) → view (entered_by st slot (marked_by st s)) ≡ enter (entered st slot) (start_marks st (view s))
  unfolding entered_by
  view-entered slot =
      view-relist (marked_by st s) marked-size (enter (entered st slot) (view (marked_by st s))) (enter-few (entered st slot) (view (marked_by st s)) (view-few (marked_by st s)))
      ∙ ap (enter (entered st slot)) view-marked

in-enter : (e q : PlayerRecord) (rs : List PlayerRecord) → In q (enter e rs) → (P : PlayerRecord → Type 0) → ((r : PlayerRecord) → In r rs → P r) → P e → P q
unfolding enter
in-enter e q rs h P f g = by-case (ltb (length rs) 512) h where
  by-case : (t : Bool) → In q (cond t (rs ++ (e ∷ [])) rs) → P q
  by-case true i = in-append rs e q i P f g
  by-case false i = f q i

module _ (id n d : ℕ) (b : Both) (h : Kept id n d b) where
  -- what a start marks, dropped or not
  from-marks : (m : ℕ) (st : Start) (q : PlayerRecord) → In q (start_marks st (view b.session)) → From id n m (view b.session) q
  from-marks m st q i = along-from id n m mark-keeps (marks-along st (view b.session)) q i

  -- a start's own record is in the next slot
  from-new : (m : ℕ) (st : Start) → n ≤ m → st.voice ≡ id → From id n m (view b.session) (entered st b.voice.next_slot)
  from-new m st a e = began e (λ k.
      let f : n < 2 ^ 32 = omega (arith, k, a) in
      let g : n % 2 ^ 32 ≡ n = mod-eq_of_lt f in
      omega (arith, h.next))

  from_start : (k : Kit) (x : NoteState) (c : Cause) (i : ℕ) (m : ℕ) → n ≤ m → (q : PlayerRecord) → In q (view (started_region k x c b i).session) → From id n m (view b.session) q
  unfolding started_region start_of
  from_start k x c i m a q = by-case (leb 32 b.voice.players.count) where
    st : Start
    st = start_in k x c b.voice i

    by-case : (t : Bool) → In q (view (cond {A = Both} t (record { session = marked_by st b.session; voice = dropped_one b.voice })
        (record { session = entered_by st b.voice.next_slot (marked_by st b.session); voice = joined_by (player_of k x c b.voice i) b.voice })).session) → From id n m (view b.session) q
    by-case true j = from-marks m st q (subst (λ l. In q l) (view-marked st b.session h.shape.places) j)
    by-case false j =
        in-enter (entered st b.voice.next_slot) q (start_marks st (view b.session)) (subst (λ l. In q l) (view-entered st b.session h.shape.places b.voice.next_slot) j)
        (λ r. From id n m (view b.session) r) (λ r. from-marks m st r) (from-new m st a h.shape.voice)

  from-reaped : (m : ℕ) (q : PlayerRecord) → In q (view (reaped_both b).session) → From id n m (view b.session) q
  unfolding reaped_both without_slots
  from-reaped m q = by-case (list_any is_over (sounding b.voice.players)) where
    by-case : (t : Bool) → In q (view (cond {A = Both} t (record { session = without_players b.voice.voice (reaped b.voice.players) b.session; voice = with_players (reaped b.voice.players).players b.voice }) b).session)
        → From id n m (view b.session) q
    by-case true j =
        let p : PlayerRecord → Bool = λ r. not (in_slots b.voice.voice (slot_list (reaped b.voice.players).gone) r) in
        stayed id n m (view b.session) q (in_kept p (view b.session) q
        (subst (λ l. In q l) (view-relist b.session h.shape.places (filter p (view b.session)) (omega (arith, keep-fewer p (view b.session), view-few b.session))) j))
    by-case false j = stayed id n m (view b.session) q j

from-move : {id n d : ℕ} {b c : Both} {xs : List Started} → Move id b xs c → Kept id n d b → (q : PlayerRecord) → In q (view c.session) → From id n (n + players_in xs) (view b.session) q
from-move {id} {n} {d} {xs = xs} (starts k x c i b) h q j = from_start id n d b h k x c i (n + players_in xs) (omega arith) q j
from-move {id} {n} {d} (reaps b) h q j = from-reaped id n d b h (n + 0) q j
from-move {id} {n} (keeps e) h q j = along-from id n (n + 0) own-keeps e.list q j

players-append : (xs ys : List Started) → players_in (xs ++ ys) ≡ players_in xs + players_in ys
players-append xs ys = ap length (filter-append (λ x. not (is_dropped x)) xs ys) ∙ length-append (filter (λ x. not (is_dropped x)) xs) (filter (λ x. not (is_dropped x)) ys)

kept-one : {id n d : ℕ} {b c : Both} {xs : List Started} → Move id b xs c → Kept id n d b → Kept id (n + players_in xs) (d + drops_in xs) c
kept-one {id} {n} {d} {c = c} {xs = xs} m h = subst (λ ys. Kept id (n + players_in ys) (d + drops_in ys) c) (append-nil xs) (kept (next m done) h)

from-moves : {id n d : ℕ} {b c : Both} {xs : List Started} → Moves id b xs c → Kept id n d b → (q : PlayerRecord) → In q (view c.session) → From id n (n + players_in xs) (view b.session) q
from-moves {id} {n} {b = b} done h q j = stayed id n (n + 0) (view b.session) q j
from-moves {id} {n} {d} (next {b = b} {d = e} {xs = xs} {ys = ys} m rest) h q j =
    subst (λ k. From id n k (view b.session) q) (sym (omega (arith, players-append xs ys)))
    (from-twice (omega arith) (omega arith) (from-move m h) q (from-moves {n = n + players_in xs} {d = d + drops_in xs} rest (kept-one m h) q j))

-- the records of each voice after a chain of one voice's moves
pub since-moves : {id n d : ℕ} {b c : Both} {xs : List Started} → Moves id b xs c → Kept id n d b → (j k : ℕ) → (j ≡ id → k ≡ n) → (j ≡ id → n + players_in xs < 2 ^ 32)
    → (q : PlayerRecord) → In q (records_of j (view c.session)) → Since k (records_of j (view b.session)) q
since-moves {id} {n} {b = b} {c = c} {xs = xs} m h j k e fits q i =
    let v : q.voice ≡ j = eqb-true q.voice j (kept-holds (of_voice j) (view c.session) q i) in
    by-case v (from-moves m h q (in_kept (of_voice j) (view c.session) q i)) where
      by-case : q.voice ≡ j → From id n (n + players_in xs) (view b.session) q → Since k (records_of j (view b.session)) q
      by-case v (began w s) = let u : j ≡ id = sym v ∙ w in new (omega (arith, e u, s (fits u)))
      by-case v (came {r = r} i' u g) =
          let w : r.voice ≡ q.voice = sym (ap (λ (x : PlayerRecord). x.voice) u) in
          old (kept_in (of_voice j) i' (eq-eqb r.voice j (w ∙ v))) u g
