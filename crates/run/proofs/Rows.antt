-- What a move does to the session's list, over plain lists: the records of the other voices, and that none is of a voice
-- outside. Assumes nothing.
use Rattle.std.specs.List.{list_any}
use Rattle.std.specs.Prelude.{cond, filter, ◌||◌}
use Prim.Native.Nat.{ℕ, suc, ◌+◌, ◌≤◌}
use mathlib.Core.Path.{◌≡◌, refl, sym, ap, subst, ◌∙◌}
use mathlib.Core.Bool.{Bool, true, false, not}
use mathlib.Core.List.{List, [], ◌∷◌, ◌++◌, append-nil}
use native.Mathlib.Omega.{arith}
use lib.ListN.{length}
use lib.Dec.{eqb}
use borrow.Author.Tests.{ne_eqb}
use Rattle.session.specs.Lists.{elem}
use Rattle.session.specs.Changes.{Along, end, one, Marked, unmarked}
use Rattle.session.specs.Records.{of_voice, in_slots}
use Rattle.session.specs.Rules.{start_marks, without_slots}
use Rattle.session.specs.declared.PlayerRecord.{PlayerRecord}
use Rattle.session.specs.declared.Start.{Start}
use Rattle.session.proofs.Laws.{marks-along, marked-same, slots-others, records-entered}
use Rattle.run.specs.Run.{records_of, Follows}
use Rattle.run.specs.Starts.{Started}
use Rattle.run.proofs.Moves.{Own, same, own}

-- what a move does to the list: a start marks it, and enters a record of the voice or not; records of the voice leave; or they change
pub data Row (id : ℕ) : List PlayerRecord → List Started → List PlayerRecord → Type 0 where
  marked : (st : Start) (live : ℕ) (rs : List PlayerRecord) → Row id rs (record { start = st; list = rs; live = live } ∷ []) (start_marks st rs)
  entered : (st : Start) (live : ℕ) (rs : List PlayerRecord) (r : PlayerRecord) → r.voice ≡ id
      → Row id rs (record { start = st; list = rs; live = live } ∷ []) (start_marks st rs ++ (r ∷ []))
  removed : (ks : List ℕ) (rs : List PlayerRecord) → Row id rs [] (without_slots id ks rs)
  changed : {rs qs : List PlayerRecord} → Along (Own id) rs qs → Row id rs [] qs

-- ---- lists along each other

module _ {A : Type 0} {R : A → A → Type 0} (p : A → Bool) (same_test : (x y : A) → R x y → p y ≡ p x) where
  count-along : {xs ys : List A} → Along R xs ys → length (filter p ys) ≡ length (filter p xs)
  count-along end = refl
  count-along (one {x} {y} {xs} {ys} r rest) =
      ap (λ t. length (cond t (y ∷ filter p ys) (filter p ys))) (same_test x y r) ∙ by-case (p x) (count-along rest) where
        by-case : (t : Bool) → length (filter p ys) ≡ length (filter p xs) → length (cond t (y ∷ filter p ys) (filter p ys)) ≡ length (cond t (x ∷ filter p xs) (filter p xs))
        by-case true e = ap suc e
        by-case false e = e

  any-along : {xs ys : List A} → Along R xs ys → list_any p ys ≡ list_any p xs
  any-along end = refl
  any-along (one {x} {y} {xs} {ys} r rest) = ap (λ t. t || list_any p ys) (same_test x y r) ∙ ap (λ t. p x || t) (any-along rest)

-- ---- filters

module _ {A : Type 0} (p : A → Bool) where
  pub parted : (xs : List A) → length xs ≡ length (filter p xs) + length (filter (λ x. not (p x)) xs)
  parted [] = refl
  parted (x ∷ xs) = by-case (p x) (parted xs) where
    by-case : (t : Bool) → length xs ≡ length (filter p xs) + length (filter (λ y. not (p y)) xs)
        → suc (length xs) ≡ length (cond t (x ∷ filter p xs) (filter p xs)) + length (cond (not t) (x ∷ filter (λ y. not (p y)) xs) (filter (λ y. not (p y)) xs))
    by-case true e = omega arith
    by-case false e = omega arith

  pub kept-fewer : (q : A → Bool) (xs : List A) → length (filter p (filter q xs)) ≤ length (filter p xs)
  kept-fewer q [] = omega arith
  kept-fewer q (x ∷ xs) = by-case (q x) (p x) refl (kept-fewer q xs) where
    by-case : (t u : Bool) → p x ≡ u → length (filter p (filter q xs)) ≤ length (filter p xs)
        → length (filter p (cond t (x ∷ filter q xs) (filter q xs))) ≤ length (cond u (x ∷ filter p xs) (filter p xs))
    by-case true true e h = let z = ap (λ u. length (cond u (x ∷ filter p (filter q xs)) (filter p (filter q xs)))) e in omega arith
    by-case true false e h = let z = ap (λ u. length (cond u (x ∷ filter p (filter q xs)) (filter p (filter q xs)))) e in omega arith
    by-case false true e h = omega arith
    by-case false false e h = h

  any-kept : (q : A → Bool) (xs : List A) → list_any p xs ≡ false → list_any p (filter q xs) ≡ false
  any-kept q [] e = refl
  any-kept q (x ∷ xs) e = by-case (q x) (p x) refl e (any-kept q xs) where
    by-case : (t u : Bool) → p x ≡ u → u || list_any p xs ≡ false → (list_any p xs ≡ false → list_any p (filter q xs) ≡ false)
        → list_any p (cond t (x ∷ filter q xs) (filter q xs)) ≡ false
    by-case t true f h rest = absurd (let y : true ≡ false = h in let z : ◌≡◌ {A = ℕ} 0 1 = cc in omega arith)
    by-case true false f h rest = ap (λ u. u || list_any p (filter q xs)) f ∙ rest h
    by-case false false f h rest = rest h

  any-one-more : (x : A) → p x ≡ false → (xs : List A) → list_any p xs ≡ false → list_any p (xs ++ (x ∷ [])) ≡ false
  any-one-more x f [] e = ap (λ t. t || false) f
  any-one-more x f (y ∷ ys) e = by-case (p y) e (any-one-more x f ys) where
    by-case : (t : Bool) → t || list_any p ys ≡ false → (list_any p ys ≡ false → list_any p (ys ++ (x ∷ [])) ≡ false) → t || list_any p (ys ++ (x ∷ [])) ≡ false
    by-case true h rest = h
    by-case false h rest = rest h

-- ---- one record

marked-voice : {at : ℕ} (r q : PlayerRecord) → Marked at r q → q.voice ≡ r.voice
marked-voice r q m = ap (λ (x : PlayerRecord). x.voice) (marked-same m)

module _ {id : ℕ} where
  own_same : (r q : PlayerRecord) → Own id r q → unmarked q ≡ unmarked r
  own_same r q same = refl
  own_same r q (own v e f) = e

  pub own-voice : (r q : PlayerRecord) → Own id r q → q.voice ≡ r.voice
  own-voice r q o = ap (λ (x : PlayerRecord). x.voice) (own_same r q o)

  pub own-slot : (r q : PlayerRecord) → Own id r q → q.slot ≡ r.slot
  own-slot r q o = ap (λ (x : PlayerRecord). x.slot) (own_same r q o)

-- the number of the other voices' records
abbrev pub elsewhere : ℕ → List PlayerRecord → ℕ
elsewhere id rs = length (filter (λ r. not (of_voice id r)) rs)

module _ (id : ℕ) where
  pub elsewhere-along : {R : PlayerRecord → PlayerRecord → Type 0} → ((r q : PlayerRecord) → R r q → q.voice ≡ r.voice) → {rs qs : List PlayerRecord}
      → Along R rs qs → elsewhere id qs ≡ elsewhere id rs
  elsewhere-along f a = count-along (λ (r : PlayerRecord). not (of_voice id r)) (λ r q m. ap (λ (v : ℕ). not (eqb v id)) (f r q m)) a

  pub elsewhere-marks : (st : Start) (rs : List PlayerRecord) → elsewhere id (start_marks st rs) ≡ elsewhere id rs
  elsewhere-marks st rs = elsewhere-along marked-voice (marks-along st rs)

-- ---- the records of another voice

module _ (id j : ℕ) (n : j ≡ id → ⊥) where
  not-its : (r : PlayerRecord) → r.voice ≡ id → of_voice j r ≡ false
  not-its r e = ne_eqb r.voice j (λ k. n (sym k ∙ e))

  own-away : {rs qs : List PlayerRecord} → Along (Own id) rs qs → records_of j qs ≡ records_of j rs
  own-away end = refl
  own-away (one {x = r} same rest) = ap (λ l. cond (of_voice j r) (r ∷ l) l) (own-away rest)
  own-away (one {x = r} {y = q} {xs = rs} {ys = qs} (own v e f) rest) =
      ap (λ t. cond t (q ∷ records_of j qs) (records_of j qs)) (not-its q (own-voice r q (own v e f) ∙ v))
      ∙ own-away rest
      ∙ sym (ap (λ t. cond t (r ∷ records_of j rs) (records_of j rs)) (not-its r v))

  pub row-follows : {rs qs : List PlayerRecord} {xs : List Started} → Row id rs xs qs → Follows j xs (records_of j rs) (records_of j qs)
  row-follows (marked st live rs) = (refl, refl)
  row-follows (entered st live rs r e) = (
    refl,
    records-entered j r (start_marks st rs)
        ∙ ap (λ t. records_of j (start_marks st rs) ++ cond t (r ∷ []) []) (not-its r e)
        ∙ append-nil (records_of j (start_marks st rs)),
  )
  row-follows (removed ks rs) = slots-others j id ks n rs
  row-follows (changed a) = own-away a

follows-from : (j : ℕ) (xs : List Started) (rs qs ts : List PlayerRecord) → qs ≡ rs → Follows j xs qs ts → Follows j xs rs ts
follows-from j xs rs qs ts e f = subst (λ l. Follows j xs l ts) e f

pub follows_then : (j : ℕ) (xs ys : List Started) (rs qs ts : List PlayerRecord) → Follows j xs rs qs → Follows j ys qs ts → Follows j (xs ++ ys) rs ts
follows_then j [] ys rs qs ts f g = follows-from j ys rs qs ts f g
follows_then j (x ∷ xs) ys rs qs ts f g = (f.0, follows_then j xs ys (records_of j (start_marks x.start x.list)) qs ts f.1 g)

-- ---- no record is of a voice outside

-- it is of a voice that is not among these
abbrev stray : List ℕ → PlayerRecord → Bool
stray is r = not (elem r.voice is)

pub row-stray : {id : ℕ} {rs qs : List PlayerRecord} {xs : List Started} → (is : List ℕ) → elem id is ≡ true → Row id rs xs qs
    → list_any (stray is) rs ≡ false → list_any (stray is) qs ≡ false
unfolding without_slots
row-stray is h (marked st live rs) e = any-along (stray is) (λ r q m. ap (λ (v : ℕ). not (elem v is)) (marked-voice r q m)) (marks-along st rs) ∙ e
row-stray is h (entered st live rs r v) e =
    any-one-more (stray is) r (ap (λ (k : ℕ). not (elem k is)) v ∙ ap not h) (start_marks st rs)
    (any-along (stray is) (λ x q m. ap (λ (k : ℕ). not (elem k is)) (marked-voice x q m)) (marks-along st rs) ∙ e)
row-stray {id} is h (removed ks rs) e = any-kept (stray is) (λ r. not (in_slots id ks r)) rs e
row-stray is h (changed a) e = any-along (stray is) (λ r q o. ap (λ (v : ℕ). not (elem v is)) (own-voice r q o)) a ∙ e
