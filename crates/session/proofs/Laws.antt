-- Laws over the records in use, for the crates above: what a marking, a removal, an entry and a taken off time leave as it was.
-- Assumes nothing.
use Rattle.std.specs.List.{list_any}
use Rattle.std.proofs.Common.{◌≡◌, ℕ, zero, suc, ◌<◌, ◌≤◌, Bool, true, false, not, ◌&&◌, eqb, ltb, leb, List, [], ◌∷◌, ◌++◌, map, length, get_or, sym, refl, ap, ◌∙◌, arith, ltb-false, le-ltb, lt-ltb, ne_eqb, eqb-true, None, Option, Some, is_some, count_by, cond, filter, ◌||◌}
use borrow.Author.Tests.{not-true}
use Rattle.session.specs.Lists.{elem, used_of, change_if, change_where, change_first}
use Rattle.session.specs.Records.{marked, ended, collected, choked_by, shares_note, may_yield, of_region, is_sister, quieter, older, of_voice, in_slots, waits}
use Rattle.session.specs.Rules.{choke, mark_sisters, lowest, or_stop, yield_up, limit_note, after_note_polyphony, end_oldest, limit_region, polyphony, start_marks, enter, without_voice, without_slots, collect, collect_first, mark_ended, surplus_of, slots_of}
use Rattle.session.specs.State.{view, with_players, relist, fresh_session, live_ids}
use Rattle.session.specs.Tests.{stray_record, over_voice}
use Rattle.session.specs.Changes.{Along, end, one, Marked, unchanged, newly, OwnChange, untouched, turned, unmarked}
use Rattle.session.specs.declared.PlayerRecord.{PlayerRecord}
use Rattle.session.specs.declared.Session.{Session}
use Rattle.session.specs.declared.Start.{Start}
use Rattle.session.proofs.Relist.{take-few}
use Rattle.session.proofs.Walks.{used-small}
use Rattle.std.proofs.lemmas.List.Folds.{list_any_none}
use Rattle.std.proofs.lemmas.List.Sums.{length-filter, count_by-le-length}
use Rattle.std.proofs.lemmas.List.Elements.{filter-append}

and_left : (a b : Bool) → a && b ≡ true → a ≡ true
and_left true b e = refl
and_left false b e = e

-- ---- lists along each other

module _ {A : Type 0} {R : A → A → Type 0} where
  pub along-length : {xs ys : List A} → Along R xs ys → length ys ≡ length xs
  along-length end = refl
  along-length (one r rest) = ap suc (along-length rest)

  pub along-map : {B : Type 0} (f : A → B) → ((x y : A) → R x y → f y ≡ f x) → {xs ys : List A} → Along R xs ys → map f ys ≡ map f xs
  along-map f h end = refl
  along-map f h (one {x} {y} {xs} {ys} r rest) = ap (λ z. z ∷ map f ys) (h x y r) ∙ ap (λ l. f x ∷ l) (along-map f h rest)

  pub along-self : ((x : A) → R x x) → (xs : List A) → Along R xs xs
  along-self h [] = end
  along-self h (x ∷ xs) = one (h x) (along-self h xs)

  -- a step at each element
  pub along-each : (f : A → A) → ((x : A) → R x (f x)) → (xs : List A) → Along R xs (map f xs)
  along-each f h [] = end
  along-each f h (x ∷ xs) = one (h x) (along-each f h xs)

-- ---- marking

module _ (at : ℕ) where
  pub marked-twice : {r q t : PlayerRecord} → Marked at r q → Marked at q t → Marked at r t
  marked-twice unchanged m = m
  marked-twice (newly e) unchanged = newly e
  marked-twice (newly e) (newly e') = absurd (let z : ◌≡◌ {A = Bool} true false = e' in never z) where
    never : ◌≡◌ {A = Bool} true false → ⊥
    never p = let z : ◌≡◌ {A = ℕ} 0 1 = cc in omega arith

  pub marked-trans : {xs ys zs : List PlayerRecord} → Along (Marked at) xs ys → Along (Marked at) ys zs → Along (Marked at) xs zs
  marked-trans end end = end
  marked-trans (one m rest) (one m' rest') = one (marked-twice m m') (marked-trans rest rest')

  marked-if : (p : PlayerRecord → Bool) → ((r : PlayerRecord) → p r ≡ true → r.offed ≡ false) → (r : PlayerRecord) → Marked at r (change_if p (marked at) r)
  marked-if p h r = by-case (p r) refl where
    by-case : (t : Bool) → p r ≡ t → Marked at r (cond t (marked at r) r)
    by-case true e = newly (h r e)
    by-case false e = unchanged

  marked-where : (p : PlayerRecord → Bool) → ((r : PlayerRecord) → p r ≡ true → r.offed ≡ false) → (rs : List PlayerRecord)
      → Along (Marked at) rs (change_where p (marked at) rs)
  marked-where p h rs = along-each (change_if p (marked at)) (marked-if p h) rs

  pub sisters-along : (v b : ℕ) (rs : List PlayerRecord) → Along (Marked at) rs (mark_sisters v b at rs)
  unfolding mark_sisters is_sister
  sisters-along v b rs = marked-where (is_sister v b) (λ r e. not-true r.offed (and_left (not r.offed) (eqb r.voice v && eqb r.start b) e)) rs

  one_of : (w : Option PlayerRecord) (rs : List PlayerRecord) (f : PlayerRecord → List PlayerRecord) → ((c : PlayerRecord) → Along (Marked at) rs (f c))
      → Along (Marked at) rs (or_stop w rs f)
  one_of None rs f h = along-self (λ r. unchanged) rs
  one_of (Some c) rs f h = h c

module _ (st : Start) where
  pub choke-along : (rs : List PlayerRecord) → Along (Marked st.at) rs (choke st rs)
  unfolding choke choked_by
  choke-along rs = marked-where st.at (choked_by st) (λ r e. not-true r.offed (and_left (not r.offed) _ e)) rs

  pub yield-along : (k : ℕ) (rs : List PlayerRecord) → Along (Marked st.at) rs (yield_up st k rs)
  unfolding yield_up
  yield-along zero rs = along-self (λ r. unchanged) rs
  yield-along (suc k) rs =
      one_of st.at (lowest (may_yield st) quieter rs) rs (λ c. yield_up st k (mark_sisters c.voice c.start st.at rs))
      (λ c. marked-trans st.at (sisters-along st.at c.voice c.start rs) (yield-along k (mark_sisters c.voice c.start st.at rs)))

  pub note-along : (rs : List PlayerRecord) → Along (Marked st.at) rs (after_note_polyphony st rs)
  unfolding after_note_polyphony
  note-along rs = by-case st.note_polyphony where
    by-case : (l : Option ℕ) → Along (Marked st.at) rs (limit_note l st rs)
    by-case None = along-self (λ r. unchanged) rs
    by-case (Some n) = yield-along (surplus_of (count_by (shares_note st) rs) n) rs

  pub polyphony-along : (rs : List PlayerRecord) → Along (Marked st.at) rs (polyphony st rs)
  unfolding polyphony end_oldest
  polyphony-along rs = by-limit st.polyphony where
    by-test : (t : Bool) → Along (Marked st.at) rs (cond t (end_oldest st rs) rs)
    by-test true =
        one_of st.at (lowest (of_region st) older rs) rs (λ c. mark_sisters c.voice c.start st.at rs)
        (λ c. sisters-along st.at c.voice c.start rs)
    by-test false = along-self (λ r. unchanged) rs

    by-limit : (l : Option ℕ) → Along (Marked st.at) rs (limit_region l st rs)
    by-limit None = along-self (λ r. unchanged) rs
    by-limit (Some p) = by-test (leb p (count_by (of_region st) rs))

  -- a start keeps number, order and all else of the records, and sets marks only where there was none, each with its time
  pub marks-along : (rs : List PlayerRecord) → Along (Marked st.at) rs (start_marks st rs)
  unfolding start_marks
  marks-along rs =
      marked-trans st.at (choke-along rs)
      (marked-trans st.at (note-along (choke st rs)) (polyphony-along (after_note_polyphony st (choke st rs))))

-- what a marking leaves of one record
module _ {at : ℕ} where
  pub marked-same : {r q : PlayerRecord} → Marked at r q → unmarked q ≡ unmarked r
  marked-same unchanged = refl
  marked-same (newly e) = refl

  -- a marked record stays as it is: no mark is taken back, and no time moves
  pub marked-stays : {r q : PlayerRecord} → Marked at r q → r.offed ≡ true → q ≡ r
  marked-stays unchanged h = refl
  marked-stays (newly e) h = absurd (let z : ◌≡◌ {A = ℕ} 0 1 = cc in omega arith)

  -- a mark that is new has the time
  pub marked-time : {r q : PlayerRecord} → Marked at r q → r.offed ≡ false → q.offed ≡ true → q.off_at ≡ Some at
  marked-time unchanged h k = absurd (let z : ◌≡◌ {A = ℕ} 0 1 = cc in omega arith)
  marked-time (newly e) h k = refl

-- the list without its marks is the same after a start
pub marks-same : (st : Start) (rs : List PlayerRecord) → map unmarked (start_marks st rs) ≡ map unmarked rs
marks-same st rs = along-map unmarked (λ r q m. marked-same m) (marks-along st rs)

-- ---- a voice's own changes

module _ (v : ℕ) (g : PlayerRecord → PlayerRecord) where
  own-if : (p : PlayerRecord → Bool) → ((r : PlayerRecord) → p r ≡ true → r.voice ≡ v) → (r : PlayerRecord) → OwnChange v g r (change_if p g r)
  own-if p h r = by-case (p r) refl where
    by-case : (t : Bool) → p r ≡ t → OwnChange v g r (cond t (g r) r)
    by-case true e = turned (h r e)
    by-case false e = untouched

  own_first : (p : PlayerRecord → Bool) → ((r : PlayerRecord) → p r ≡ true → r.voice ≡ v) → (rs : List PlayerRecord)
      → Along (OwnChange v g) rs (change_first p g rs)
  own_first p h [] = end
  own_first p h (r ∷ rs) = by-case (p r) refl (own_first p h rs) where
    by-case : (t : Bool) → p r ≡ t → Along (OwnChange v g) rs (change_first p g rs)
        → Along (OwnChange v g) (r ∷ rs) (cond t (g r ∷ rs) (r ∷ change_first p g rs))
    by-case true e rest = one (turned (h r e)) (along-self (λ x. untouched) rs)
    by-case false e rest = one untouched rest

module _ (v : ℕ) (rs : List PlayerRecord) where
  waits-its : (r : PlayerRecord) → waits v r ≡ true → r.voice ≡ v
  unfolding waits
  waits-its r e = eqb-true r.voice v (and_left (eqb r.voice v) (is_some r.off_at) e)

  pub collect-along : Along (OwnChange v collected) rs (collect v rs)
  unfolding collect
  collect-along = along-each (change_if (waits v) collected) (own-if v collected (waits v) waits-its) rs

  pub first-along : Along (OwnChange v collected) rs (collect_first v rs)
  unfolding collect_first
  first-along = own_first v collected (waits v) waits-its rs

  pub ended-along : (ks : List ℕ) → Along (OwnChange v ended) rs (mark_ended v ks rs)
  unfolding mark_ended in_slots
  ended-along ks =
      along-each (change_if (in_slots v ks) ended)
      (own-if v ended (in_slots v ks) (λ r e. eqb-true r.voice v (and_left (eqb r.voice v) (elem r.slot ks) e))) rs

-- ---- the records and the slots of a voice

-- the voice's records, in list order
abbrev pub records_of : ℕ → List PlayerRecord → List PlayerRecord
records_of v rs = filter (of_voice v) rs

module _ (v : ℕ) where
  slots-one : (r : PlayerRecord) (rs : List PlayerRecord) → slots_of v (r ∷ rs) ≡ cond (eqb r.voice v) (r.slot ∷ slots_of v rs) (slots_of v rs)
  slots-one r rs = by-case (eqb r.voice v) where
    by-case : (t : Bool) → map (λ (x : PlayerRecord). x.slot) (cond t (r ∷ filter (of_voice v) rs) (filter (of_voice v) rs)) ≡ cond t (r.slot ∷ slots_of v rs) (slots_of v rs)
    by-case true = refl
    by-case false = refl

  -- a change that leaves voice and slot of each record leaves the slots of every voice
  pub slots-along : {R : PlayerRecord → PlayerRecord → Type 0} → ((r q : PlayerRecord) → R r q → q.voice ≡ r.voice) → ((r q : PlayerRecord) → R r q → q.slot ≡ r.slot)
      → {rs qs : List PlayerRecord} → Along R rs qs → slots_of v qs ≡ slots_of v rs
  slots-along f g end = refl
  slots-along f g (one {x} {y} {xs} {ys} m rest) =
      slots-one y ys
      ∙ ap (λ k. cond (eqb k v) (y.slot ∷ slots_of v ys) (slots_of v ys)) (f x y m)
      ∙ ap (λ k. cond (eqb x.voice v) (k ∷ slots_of v ys) (slots_of v ys)) (g x y m)
      ∙ ap (λ l. cond (eqb x.voice v) (x.slot ∷ l) l) (slots-along f g rest)
      ∙ sym (slots-one x xs)

  marked-voice : {at : ℕ} (r q : PlayerRecord) → Marked at r q → q.voice ≡ r.voice
  marked-voice r q m = ap (λ (x : PlayerRecord). x.voice) (marked-same m)

  marked-slot : {at : ℕ} (r q : PlayerRecord) → Marked at r q → q.slot ≡ r.slot
  marked-slot r q m = ap (λ (x : PlayerRecord). x.slot) (marked-same m)

  pub slots-marks : (st : Start) (rs : List PlayerRecord) → slots_of v (start_marks st rs) ≡ slots_of v rs
  slots-marks st rs = slots-along marked-voice marked-slot (marks-along st rs)

  module _ (u : ℕ) (g : PlayerRecord → PlayerRecord) (gv : (r : PlayerRecord) → (g r).voice ≡ r.voice) (gs : (r : PlayerRecord) → (g r).slot ≡ r.slot) where
    own-voice : (r q : PlayerRecord) → OwnChange u g r q → q.voice ≡ r.voice
    own-voice r q untouched = refl
    own-voice r q (turned e) = gv r

    own-slot : (r q : PlayerRecord) → OwnChange u g r q → q.slot ≡ r.slot
    own-slot r q untouched = refl
    own-slot r q (turned e) = gs r

    pub slots-own : {rs qs : List PlayerRecord} → Along (OwnChange u g) rs qs → slots_of v qs ≡ slots_of v rs
    slots-own a = slots-along own-voice own-slot a

    -- of another voice not even a mark or a time changes
    pub own-others : (v ≡ u → ⊥) → {rs qs : List PlayerRecord} → Along (OwnChange u g) rs qs → records_of v qs ≡ records_of v rs
    own-others n end = refl
    own-others n (one {x = r} {xs = rs} {ys = qs} untouched rest) = ap (λ l. cond (eqb r.voice v) (r ∷ l) l) (own-others n rest)
    own-others n (one {x = r} {xs = rs} {ys = qs} (turned e) rest) =
        ap (λ t. cond t (g r ∷ records_of v qs) (records_of v qs)) (ap (λ k. eqb k v) (gv r) ∙ ne_eqb r.voice v (λ k. n (sym k ∙ e)))
        ∙ own-others n rest
        ∙ sym (ap (λ t. cond t (r ∷ records_of v rs) (records_of v rs)) (ne_eqb r.voice v (λ k. n (sym k ∙ e))))

  pub slots-collect : (u : ℕ) (rs : List PlayerRecord) → slots_of v (collect u rs) ≡ slots_of v rs
  slots-collect u rs = slots-own u collected (λ r. refl) (λ r. refl) (collect-along u rs)

  pub slots-first : (u : ℕ) (rs : List PlayerRecord) → slots_of v (collect_first u rs) ≡ slots_of v rs
  slots-first u rs = slots-own u collected (λ r. refl) (λ r. refl) (first-along u rs)

  pub slots-ended : (u : ℕ) (ks : List ℕ) (rs : List PlayerRecord) → slots_of v (mark_ended u ks rs) ≡ slots_of v rs
  slots-ended u ks rs = slots-own u ended (λ r. refl) (λ r. refl) (ended-along u rs ks)

  -- ---- removal and entry

  -- one filter after another, where the first lets through all that the second does
  kept-kept : (p : PlayerRecord → Bool) → ((r : PlayerRecord) → of_voice v r ≡ true → p r ≡ true) → (rs : List PlayerRecord) → records_of v (filter p rs) ≡ records_of v rs
  kept-kept p h [] = refl
  kept-kept p h (r ∷ rs) = by-case (p r) (of_voice v r) refl refl (kept-kept p h rs) where
    by-case : (t b : Bool) → p r ≡ t → of_voice v r ≡ b → records_of v (filter p rs) ≡ records_of v rs
        → records_of v (cond t (r ∷ filter p rs) (filter p rs)) ≡ cond b (r ∷ records_of v rs) (records_of v rs)
    by-case true b e f rest = ap (λ k. cond k (r ∷ records_of v (filter p rs)) (records_of v (filter p rs))) f ∙ ap (λ l. cond b (r ∷ l) l) rest
    by-case false true e f rest = absurd (let z : p r ≡ true = h r f in let y : ◌≡◌ {A = ℕ} 0 1 = cc in omega arith)
    by-case false false e f rest = rest

  -- the records of every other voice stay
  pub voice-others : (u : ℕ) → (v ≡ u → ⊥) → (rs : List PlayerRecord) → records_of v (without_voice u rs) ≡ records_of v rs
  unfolding without_voice
  voice-others u n rs =
      kept-kept (λ r. not (of_voice u r)) (λ r e. ap not (ne_eqb r.voice u (λ k. n (sym (eqb-true r.voice v e) ∙ k)))) rs

  pub slots-others : (u : ℕ) (ks : List ℕ) → (v ≡ u → ⊥) → (rs : List PlayerRecord) → records_of v (without_slots u ks rs) ≡ records_of v rs
  unfolding without_slots in_slots
  slots-others u ks n rs =
      kept-kept (λ r. not (in_slots u ks r))
      (λ r e. ap (λ t. not (t && elem r.slot ks)) (ne_eqb r.voice u (λ k. n (sym (eqb-true r.voice v e) ∙ k)))) rs

  -- none of its own stays
  pub voice-gone : (rs : List PlayerRecord) → records_of v (without_voice v rs) ≡ []
  unfolding without_voice
  voice-gone [] = refl
  voice-gone (r ∷ rs) = by-case (of_voice v r) refl (voice-gone rs) where
    by-case : (t : Bool) → of_voice v r ≡ t → records_of v (filter (λ x. not (of_voice v x)) rs) ≡ []
        → records_of v (cond (not t) (r ∷ filter (λ x. not (of_voice v x)) rs) (filter (λ x. not (of_voice v x)) rs)) ≡ []
    by-case true e rest = rest
    by-case false e rest =
        ap (λ t. cond t (r ∷ records_of v (filter (λ x. not (of_voice v x)) rs)) (records_of v (filter (λ x. not (of_voice v x)) rs))) e ∙ rest

  -- of its own slots those named go, and the others keep their order
  pub slots-gone : (ks : List ℕ) (rs : List PlayerRecord) → slots_of v (without_slots v ks rs) ≡ filter (λ k. not (elem k ks)) (slots_of v rs)
  unfolding without_slots in_slots
  slots-gone ks [] = refl
  slots-gone ks (r ∷ rs) = by-case (eqb r.voice v) (elem r.slot ks) refl refl (slots-gone ks rs) ∙ ap (filter (λ k. not (elem k ks))) (sym (slots-one r rs)) where
    rest : List PlayerRecord
    rest = filter (λ x. not (eqb x.voice v && elem x.slot ks)) rs

    by-case : (t b : Bool) → eqb r.voice v ≡ t → elem r.slot ks ≡ b
        → slots_of v rest ≡ filter (λ k. not (elem k ks)) (slots_of v rs)
        → slots_of v (cond (not (eqb r.voice v && elem r.slot ks)) (r ∷ rest) rest)
        ≡ filter (λ k. not (elem k ks)) (cond (eqb r.voice v) (r.slot ∷ slots_of v rs) (slots_of v rs))
    by-case true true e f h = simp (e, f) h
    by-case true false e f h = simp (e, f) (ap (λ l. r.slot ∷ l) h)
    by-case false b e f h = simp e h

-- entering is one at the end
pub enter-room : (r : PlayerRecord) (rs : List PlayerRecord) → length rs < 512 → enter r rs ≡ rs ++ (r ∷ [])
unfolding enter
enter-room r rs h = ap (λ t. cond t (rs ++ (r ∷ [])) rs) (lt-ltb (length rs) 512 h)

pub records-entered : (v : ℕ) (r : PlayerRecord) (rs : List PlayerRecord) → records_of v (rs ++ (r ∷ [])) ≡ records_of v rs ++ cond (of_voice v r) (r ∷ []) []
records-entered v r rs = filter-append (of_voice v) rs (r ∷ [])

-- ---- the session

-- nothing but the list changes
pub relist-rest : (s : Session) (ks : List PlayerRecord) → with_players s.players s.count (relist ks s) ≡ s
relist-rest s ks = refl

pub fresh-empty : view fresh_session ≡ []
unfolding fresh_session
fresh-empty = refl

-- where no record is stray and no live voice has above 32 records, no voice has
any_false : {A : Type 0} (p : A → Bool) (x : A) (xs : List A) → p x || list_any p xs ≡ false → (p x ≡ false) × (list_any p xs ≡ false)
any_false p x xs e = by-case (p x) refl e where
  by-case : (t : Bool) → p x ≡ t → t || list_any p xs ≡ false → (p x ≡ false) × (list_any p xs ≡ false)
  by-case true f h = absurd (let z : ◌≡◌ {A = ℕ} 0 1 = cc in omega arith)
  by-case false f h = (f, h)

-- a voice that stands in no record's live voices has no record
no_stray : (is : List ℕ) (v : ℕ) → elem v is ≡ false → (rs : List PlayerRecord) → list_any (λ (r : PlayerRecord). not (elem r.voice is)) rs ≡ false → records_of v rs ≡ []
no_stray is v n [] e = refl
no_stray is v n (r ∷ rs) e =
    let both = any_false (λ (x : PlayerRecord). not (elem x.voice is)) r rs e in
    by-case (eqb r.voice v) refl both.0 (no_stray is v n rs both.1) where
      by-case : (t : Bool) → eqb r.voice v ≡ t → not (elem r.voice is) ≡ false → records_of v rs ≡ []
          → cond t (r ∷ records_of v rs) (records_of v rs) ≡ []
      by-case true f h rest = absurd (let k : elem r.voice is ≡ elem v is = ap (λ x. elem x is) (eqb-true r.voice v f) in let z : ◌≡◌ {A = ℕ} 0 1 = cc in omega arith)
      by-case false f h rest = rest

pub not-live-none : (s : Session) (v : ℕ) → stray_record s ≡ false → elem v (live_ids s.voices) ≡ false → records_of v (view s) ≡ []
unfolding stray_record
not-live-none s v e n = no_stray (live_ids s.voices) v n (view s) e

among : (is : List ℕ) (v : ℕ) (p : ℕ → Bool) → elem v is ≡ true → list_any p is ≡ false → p v ≡ false
among [] v p e h = absurd (let z : ◌≡◌ {A = ℕ} 0 1 = cc in omega arith)
among (i ∷ is) v p e h =
    let both = any_false p i is h in by-case (eqb i v) refl both.0 (λ k. among is v p k both.1) e where
      by-case : (t : Bool) → eqb i v ≡ t → p i ≡ false → (elem v is ≡ true → p v ≡ false) → t || elem v is ≡ true → p v ≡ false
      by-case true f g rest k = ap p (sym (eqb-true i v f)) ∙ g
      by-case false f g rest k = rest k

-- where no record is stray and no live voice has more than 32 records, no voice has
pub none_over : (s : Session) → stray_record s ≡ false → over_voice s ≡ false → (v : ℕ) → length (records_of v (view s)) ≤ 32
unfolding over_voice
none_over s e h v = by-case (elem v (live_ids s.voices)) refl where
  by-case : (t : Bool) → elem v (live_ids s.voices) ≡ t → length (records_of v (view s)) ≤ 32
  by-case true k =
      let few = ltb-false 32 (count_by (of_voice v) (view s)) (among (live_ids s.voices) v (λ id. ltb 32 (count_by (of_voice id) (view s))) k h) in
      omega (arith, few, length-filter (of_voice v) (view s))
  by-case false k = omega (arith, ap length (not-live-none s v e k))

-- a list of at most 32 records has no more of one voice
pub over-few : (s : Session) → s.count ≤ 32 → false ≡ over_voice s
unfolding over_voice
over-few s h =
    let n = used-small 512 s.count (omega arith) in
    let few : (id : ℕ) → count_by (of_voice id) (view s) ≤ 32 = λ id. omega (arith, count_by-le-length (of_voice id) (view s), take-few (used_of 512 s.count) s.players, n) in
    sym (list_any_none (λ id. ltb 32 (count_by (of_voice id) (view s))) (live_ids s.voices)
    (λ k d inside. le-ltb 32 (count_by (of_voice (get_or (live_ids s.voices) k d)) (view s)) (few (get_or (live_ids s.voices) k d))))
