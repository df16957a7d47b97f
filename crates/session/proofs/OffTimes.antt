-- A voice's own off times. Assumes nothing.
use Rattle.std.proofs.Common.{◌≡◌, ℕ, zero, suc, ◌+◌, ◌<◌, ◌≤◌, Bool, true, false, ltb, List, [], ◌∷◌, ◌++◌, map, length, get_or, take, drop, set, replicate, sym, refl, ap, ◌∙◌, append-nil, arith, length-append, length-take-le, take_all, ltb-false, ltb-true, le-ltb, None, Some, Option, not, position, nat_lt, unwrap_or, slice_get, cond, filter}
use mathlib.Core.List.{map-append}
use lib.ListN.{length-replicate}
use lib.Seq.{take-append-le}
use Rattle.session.specs.Lists.{packed, change_first}
use Rattle.session.specs.Records.{waits, collected}
use Rattle.session.specs.Rules.{collect_first}
use Rattle.session.specs.Offs.{off_of, off_for, off_times, no_off, offs_of, add_off, first_at}
use Rattle.std.specs.List.{position_or_len}
use Rattle.std.proofs.lemmas.List.Quantifiers.{position-Some}
use Rattle.session.specs.declared.Off.{Off}
use Rattle.session.specs.declared.Offs.{Offs}
use Rattle.session.specs.declared.PlayerRecord.{PlayerRecord}
use Rattle.session.proofs.Packing.{packed-set}
use Rattle.session.proofs.Search.{rest-step, rest-none}
use Rattle.session.proofs.Walks.{keep-step}

-- ---- the off times handed out

-- one off time more among those handed out
added : (os : List Off) (o : Off) → add_off o (offs_of os) ≡ offs_of (os ++ (o ∷ []))
unfolding add_off
added os o = by-case (ltb (length os) 32) refl where
  by-case : (t : Bool) → ltb (length os) 32 ≡ t
      → cond (ltb (length (take 32 os)) 32) (record { offs = set (packed (take 32 os) (replicate 32 no_off)) (length (take 32 os)) o; count = length (take 32 os) + 1 }) (offs_of os)
      ≡ offs_of (os ++ (o ∷ []))
  by-case true e =
      let h : length os < 32 = ltb-true (length os) 32 e in
      let all : take 32 os ≡ os = take_all 32 os (omega arith) in
      let n : length (os ++ (o ∷ [])) ≡ length os + 1 = length-append os (o ∷ []) in
      let alls : take 32 (os ++ (o ∷ [])) ≡ os ++ (o ∷ []) = take_all 32 (os ++ (o ∷ [])) (omega arith) in
      ap (λ l. cond (ltb (length l) 32) (record { offs = set (packed l (replicate 32 no_off)) (length l) o; count = length l + 1 }) (offs_of os)) all
      ∙ ap (λ t. cond t (record { offs = set (packed os (replicate 32 no_off)) (length os) o; count = length os + 1 }) (offs_of os)) e
      ∙ ap (λ l. record { offs = l; count = length os + 1 }) (packed-set os (replicate 32 no_off) o no_off (omega (arith, length-replicate 32 no_off)))
      ∙ ap (λ k. record { offs = packed (os ++ (o ∷ [])) (replicate 32 no_off); count = k }) (sym n)
      ∙ ap (λ l. record { offs = packed l (replicate 32 no_off); count = length l }) (sym alls)
  by-case false e =
      let h : 32 ≤ length os = ltb-false (length os) 32 e in
      let n : length (take 32 os) ≡ 32 = length-take-le 32 os h in
      let same : take 32 (os ++ (o ∷ [])) ≡ take 32 os = take-append-le 32 os (o ∷ []) h in
      ap (λ t. cond t (record { offs = set (packed (take 32 os) (replicate 32 no_off)) (length (take 32 os)) o; count = length (take 32 os) + 1 }) (offs_of os)) (le-ltb (length (take 32 os)) 32 (omega arith))
      ∙ ap (λ l. record { offs = packed l (replicate 32 no_off); count = length l }) (sym same)

-- what a record's own off time tells of it
module _ (v : ℕ) (r : PlayerRecord) (o : Option Off) (told : o ≡ off_for v r) where
  pub off-some : (w : Off) → o ≡ Some w → (waits v r ≡ true) × (w ≡ off_of r)
  unfolding off_for
  off-some w e = by-case (waits v r) refl (sym e ∙ told) where
    by-case : (t : Bool) → waits v r ≡ t → Some w ≡ cond t (Some (off_of r)) None → (waits v r ≡ true) × (w ≡ off_of r)
    by-case true h q = (h, cc)
    by-case false h q = cc

  pub off-none : o ≡ None → waits v r ≡ false
  unfolding off_for
  off-none e = by-case (waits v r) refl (sym e ∙ told) where
    by-case : (t : Bool) → waits v r ≡ t → None ≡ cond t (Some (off_of r)) None → waits v r ≡ false
    by-case true h q = cc
    by-case false h q = h

-- what is handed out after the first i of the list: b is the answer of the test of the next record
module _ (v : ℕ) (xs : List PlayerRecord) (i : ℕ) (q : Offs) (d : PlayerRecord) (so_far : q ≡ offs_of (off_times v (take i xs))) (inside : i < length xs)
    (b : Bool) (told : b ≡ waits v (get_or xs i d)) where
  next : (t : Bool) → b ≡ t → off_times v (take (i + 1) xs) ≡ off_times v (take i xs) ++ map off_of (cond t (get_or xs i d ∷ []) [])
  next t e =
      ap (map off_of) (keep-step (waits v) xs i d inside ∙ ap (λ k. filter (waits v) (take i xs) ++ cond k (get_or xs i d ∷ []) []) (sym told ∙ e))
      ∙ map-append off_of (filter (waits v) (take i xs)) (cond t (get_or xs i d ∷ []) [])

  pub offs-hit : (o : Off) (p : Offs) → b ≡ true → o ≡ off_of (get_or xs i d) → p ≡ add_off o q → p ≡ offs_of (off_times v (take (i + 1) xs))
  offs-hit o p h e f =
      f ∙ ap (λ x. add_off x q) e ∙ ap (add_off (off_of (get_or xs i d))) so_far ∙ added (off_times v (take i xs)) (off_of (get_or xs i d))
      ∙ ap offs_of (sym (next true h))

  pub offs-miss : b ≡ false → q ≡ offs_of (off_times v (take (i + 1) xs))
  offs-miss h = so_far ∙ ap offs_of (sym (next false h ∙ append-nil (off_times v (take i xs))))

-- ---- the first that p holds of

module _ {A : Type 0} (p : A → Bool) where
  -- the state of the loop: the place in the whole list is i and the place in what is left
  pub record FoundAt (n : ℕ) (xs : List A) (i : ℕ) : Type 0 where
    pub fits : n ≤ length xs
    pub within : i ≤ n
    pub left : first_at p (take n xs) ≡ i + first_at p (drop i (take n xs))

  module _ (n : ℕ) (xs : List A) (i : ℕ) (h : FoundAt n xs i) where
    pub found_none : n ≤ i → i ≡ first_at p (take n xs)
    found_none q = omega (arith, h.left ∙ ap (λ l. i + first_at p l) (rest-none xs n h.fits i q))

    module _ (d : A) (inside : i < n) where
      here : first_at p (take n xs) ≡ i + cond (p (get_or xs i d)) zero (suc (first_at p (drop (i + 1) (take n xs))))
      here = h.left ∙ ap (λ l. i + first_at p l) (rest-step xs n h.fits i d inside)

      pub found_here : p (get_or xs i d) ≡ true → i ≡ first_at p (take n xs)
      found_here e = omega (arith, here ∙ ap (λ t. i + cond t zero (suc (first_at p (drop (i + 1) (take n xs))))) e)

      pub found-later : p (get_or xs i d) ≡ false → FoundAt n xs (i + 1)
      found-later e =
          record {
            fits = h.fits;
            within = omega arith;
            left = omega (arith, here ∙ ap (λ t. i + cond t zero (suc (first_at p (drop (i + 1) (take n xs))))) e);
          }

  module _ (g : A → A) where
    pub first-none : (xs : List A) → length xs ≤ first_at p xs → change_first p g xs ≡ xs
    first-none [] h = refl
    first-none (x ∷ xs) h = by-case (p x) h (first-none xs) where
      by-case : (t : Bool) → suc (length xs) ≤ cond t zero (suc (first_at p xs)) → (length xs ≤ first_at p xs → change_first p g xs ≡ xs)
          → cond t (g x ∷ xs) (x ∷ change_first p g xs) ≡ x ∷ xs
      by-case true k rest = absurd (omega (arith, k))
      by-case false k rest = ap (λ l. x ∷ l) (rest (omega (arith, k)))

    pub first_some : (xs : List A) (d : A) → first_at p xs < length xs → change_first p g xs ≡ set xs (first_at p xs) (g (get_or xs (first_at p xs) d))
    first_some [] d h = refl
    first_some (x ∷ xs) d h = by-case (p x) h (first_some xs d) where
      by-case : (t : Bool) → cond t zero (suc (first_at p xs)) < suc (length xs)
          → (first_at p xs < length xs → change_first p g xs ≡ set xs (first_at p xs) (g (get_or xs (first_at p xs) d)))
          → cond t (g x ∷ xs) (x ∷ change_first p g xs)
          ≡ set (x ∷ xs) (cond t zero (suc (first_at p xs))) (g (get_or (x ∷ xs) (cond t zero (suc (first_at p xs))) d))
      by-case true k rest = refl
      by-case false k rest = ap (λ l. x ∷ l) (rest (omega (arith, k)))

  pub keep-none : (xs : List A) → length xs ≤ first_at p xs → filter p xs ≡ []
  keep-none [] h = refl
  keep-none (x ∷ xs) h = by-case (p x) h (keep-none xs) where
    by-case : (t : Bool) → suc (length xs) ≤ cond t zero (suc (first_at p xs)) → (length xs ≤ first_at p xs → filter p xs ≡ []) → cond t (x ∷ filter p xs) (filter p xs) ≡ []
    by-case true k rest = absurd (omega (arith, k))
    by-case false k rest = rest (omega (arith, k))

  pub keep-first : (xs : List A) (d : A) → first_at p xs < length xs → filter p xs ≡ get_or xs (first_at p xs) d ∷ drop 1 (filter p xs)
  keep-first [] d h = absurd (omega (arith, h))
  keep-first (x ∷ xs) d h = by-case (p x) h (keep-first xs d) where
    by-case : (t : Bool) → cond t zero (suc (first_at p xs)) < suc (length xs)
        → (first_at p xs < length xs → filter p xs ≡ get_or xs (first_at p xs) d ∷ drop 1 (filter p xs))
        → cond t (x ∷ filter p xs) (filter p xs) ≡ get_or (x ∷ xs) (cond t zero (suc (first_at p xs))) d ∷ drop 1 (cond t (x ∷ filter p xs) (filter p xs))
    by-case true k rest = refl
    by-case false k rest = rest (omega (arith, k))

  -- the place that `position` tells
  first_at-place : (xs : List A) → first_at p xs ≡ position_or_len p xs
  first_at-place [] = refl
  first_at-place (x ∷ xs) = by-case (p x) (first_at-place xs) where
    by-case : (t : Bool) → first_at p xs ≡ position_or_len p xs → cond t zero (suc (first_at p xs)) ≡ cond (not t) (1 + position_or_len p xs) 0
    by-case true h = refl
    by-case false h = omega (arith, h)

  place : (xs : List A) (t : Bool) → nat_lt (position_or_len p xs) (length xs) ≡ t → position p xs ≡ cond t (Some (position_or_len p xs)) None
  place xs t e = ap (λ (b : Bool). cond b (Some (position_or_len p xs)) None) e

  not-some : {X : Type 0} {x : X} → ◌≡◌ {A = Option X} (Some x) None → ⊥
  not-some e = let z : ◌≡◌ {A = ℕ} 0 1 = cc in omega arith

  module _ (xs : List A) where
    none-past : position p xs ≡ None → length xs ≤ first_at p xs
    none-past e = by-case (nat_lt (position_or_len p xs) (length xs)) refl where
      by-case : (t : Bool) → nat_lt (position_or_len p xs) (length xs) ≡ t → length xs ≤ first_at p xs
      by-case true h = absurd (not-some (sym (place xs true h) ∙ e))
      by-case false h = omega (arith, ltb-false (position_or_len p xs) (length xs) h, first_at-place xs)

    some-there : (k : ℕ) → position p xs ≡ Some k → (first_at p xs < length xs) × (k ≡ first_at p xs)
    some-there k e = by-case (nat_lt (position_or_len p xs) (length xs)) refl where
      by-case : (t : Bool) → nat_lt (position_or_len p xs) (length xs) ≡ t → (first_at p xs < length xs) × (k ≡ first_at p xs)
      by-case true h =
          let q : position_or_len p xs ≡ k = ap (λ (o : Option ℕ). unwrap_or o 0) (sym (place xs true h) ∙ e) in
          (omega (arith, ltb-true (position_or_len p xs) (length xs) h, first_at-place xs), omega (arith, q, first_at-place xs))
      by-case false h = absurd (not-some (sym e ∙ place xs false h))

-- what `take_first` finds and leaves: w is the place of the first that waits
module _ (v : ℕ) (rs : List PlayerRecord) (w : Option ℕ) (told : w ≡ position (waits v) rs) where
  pub took-none : w ≡ None → rs ≡ collect_first v rs
  unfolding collect_first
  took-none e = sym (first-none (waits v) collected rs (none-past (waits v) rs (sym told ∙ e)))

  pub none-taken : w ≡ None → None ≡ slice_get (off_times v rs) 0
  none-taken e = sym (ap (λ l. slice_get (map off_of l) 0) (keep-none (waits v) rs (none-past (waits v) rs (sym told ∙ e))))

  module _ (k : ℕ) (e : w ≡ Some k) (d : PlayerRecord) where
    pub took_one : (q : PlayerRecord) → q ≡ collected (get_or rs k d) → set rs k q ≡ collect_first v rs
    unfolding collect_first
    took_one q f =
        let there = some-there (waits v) rs k (sym told ∙ e) in
        ap (set rs k) f ∙ ap (λ m. set rs m (collected (get_or rs m d))) there.1 ∙ sym (first_some (waits v) collected rs d there.0)

    pub one-taken : (o : Option Off) → o ≡ off_for v (get_or rs k d) → o ≡ slice_get (off_times v rs) 0
    unfolding off_for
    one-taken o f =
        let there = some-there (waits v) rs k (sym told ∙ e) in
        let w : waits v (get_or rs k d) ≡ true = (position-Some (waits v) rs k d (sym told ∙ e)).1 in
        f ∙ ap (λ t. cond t (Some (off_of (get_or rs k d))) None) w
        ∙ ap (λ m. Some (off_of (get_or rs m d))) there.1 ∙ sym (ap (λ l. slice_get (map off_of l) 0) (keep-first (waits v) rs d there.0))
