-- Lists of slot numbers: some left out, and each above the one before it. Assumes nothing.
use Rattle.std.specs.Prelude.{cond, filter, ◌||◌}
use Prim.Native.Nat.{ℕ, ◌+◌, ◌<◌, ◌≤◌}
use mathlib.Core.Path.{◌≡◌, refl, sym, ap, ◌∙◌}
use mathlib.Core.Bool.{Bool, true, false, not}
use mathlib.Core.List.{List, [], ◌∷◌, ◌++◌, map}
use native.Mathlib.Omega.{arith}
use lib.ListN.{length}
use lib.Dec.{eqb}
use borrow.Author.Tests.{eq-eqb, ne_eqb}
use Rattle.session.specs.Lists.{elem}
use Rattle.run.specs.Run.{Rising}
use Rattle.run.proofs.Moves.{Sub, end, both, more}

-- ---- some left out

pub sub-fewer : {ks js : List ℕ} → Sub ks js → length ks ≤ length js
sub-fewer end = omega arith
sub-fewer (both s) = omega (arith, sub-fewer s)
sub-fewer (more s) = omega (arith, sub-fewer s)

pub sub-one-more : {ks js : List ℕ} → Sub ks js → (k : ℕ) → Sub (ks ++ (k ∷ [])) (js ++ (k ∷ []))
sub-one-more end k = both end
sub-one-more (both s) k = both (sub-one-more s k)
sub-one-more (more s) k = more (sub-one-more s k)

-- those of a filtered list
pub sub-kept : {A : Type 0} (f : A → ℕ) (p : A → Bool) (xs : List A) → Sub (map f (filter p xs)) (map f xs)
sub-kept f p [] = end
sub-kept f p (x ∷ xs) = by-case (p x) (sub-kept f p xs) where
  by-case : (t : Bool) → Sub (map f (filter p xs)) (map f xs) → Sub (map f (cond t (x ∷ filter p xs) (filter p xs))) (f x ∷ map f xs)
  by-case true s = both s
  by-case false s = more s

-- ---- each above the one before it

-- all are above k
abbrev Above : ℕ → List ℕ → Type 0
Above k [] = Unit {0}
Above k (j ∷ js) = (k < j) × Above k js

module _ (k : ℕ) where
  above_lower : (i : ℕ) → i < k → (js : List ℕ) → Above k js → Above i js
  above_lower i h [] a = tt
  above_lower i h (j ∷ js) a = (let b = a.0 in omega arith, above_lower i h js a.1)

  above-sub : {is js : List ℕ} → Sub is js → Above k js → Above k is
  above-sub end a = tt
  above-sub (both s) a = (a.0, above-sub s a.1)
  above-sub (more s) a = above-sub s a.1

  -- it is not among them
  above-none : (js : List ℕ) → Above k js → elem k js ≡ false
  above-none [] a = refl
  above-none (j ∷ js) a =
      let b = a.0 in
      ap (λ t. t || elem k js) (ne_eqb j k (λ e. omega arith)) ∙ above-none js a.1

module _ (n : ℕ) where
  rising-tail : (k : ℕ) (ks : List ℕ) → Rising n (k ∷ ks) → Rising n ks
  rising-tail k [] r = tt
  rising-tail k (j ∷ ks) r = r.1

  rising-above : (k : ℕ) (ks : List ℕ) → Rising n (k ∷ ks) → Above k ks
  rising-above k [] r = tt
  rising-above k (j ∷ ks) r = (r.0, above_lower j k r.0 ks (rising-above j ks r.1))

  rising-first : (k : ℕ) (ks : List ℕ) → Rising n (k ∷ ks) → k < n
  rising-first k [] r = r
  rising-first k (j ∷ ks) r = let a : j < n = rising-first j ks r.1 in let b = r.0 in omega arith

  rising-add : (k : ℕ) (ks : List ℕ) → k < n → Above k ks → Rising n ks → Rising n (k ∷ ks)
  rising-add k [] h a r = h
  rising-add k (j ∷ ks) h a r = (a.0, r)

  pub rising-sub : {ks js : List ℕ} → Sub ks js → Rising n js → Rising n ks
  rising-sub end r = r
  rising-sub (both {k} {ks} {js} s) r = rising-add k ks (rising-first k js r) (above-sub k s (rising-above k js r)) (rising-sub s (rising-tail k js r))
  rising-sub (more {k} {ks} {js} s) r = rising-sub s (rising-tail k js r)

  -- the bound itself comes behind the others
  pub rising-one-more : (ks : List ℕ) → Rising n ks → Rising (n + 1) (ks ++ (n ∷ []))
  rising-one-more [] r = omega arith
  rising-one-more (k ∷ []) r = (r, omega arith)
  rising-one-more (k ∷ j ∷ ks) r = (r.0, rising-one-more (j ∷ ks) r.1)

-- ---- those that are over leave

in-here : (k : ℕ) (ks : List ℕ) → elem k (k ∷ ks) ≡ true
in-here k ks = ap (λ t. t || elem k ks) (eq-eqb k k refl)

in-more : (k j : ℕ) (ks : List ℕ) → elem k ks ≡ true → elem k (j ∷ ks) ≡ true
in-more k j ks e = by-case (eqb j k) where
  by-case : (t : Bool) → t || elem k ks ≡ true
  by-case true = refl
  by-case false = e

-- a number below all others takes none of them away
away : (i : ℕ) (gs js : List ℕ) → Above i js → filter (λ k. not (elem k (i ∷ gs))) js ≡ filter (λ k. not (elem k gs)) js
away i gs [] a = refl
away i gs (j ∷ js) a =
    let b = a.0 in
    let ks : List ℕ = filter (λ k. not (elem k (i ∷ gs))) js in
    ap (λ t. cond (not (t || elem j gs)) (j ∷ ks) ks) (ne_eqb i j (λ e. omega arith))
    ∙ ap (λ l. cond (not (elem j gs)) (j ∷ l) l) (away i gs js a.1)

module _ {A : Type 0} (f : A → ℕ) (over : A → Bool) where
  in_tail : (x : A) (xs : List A) (k : ℕ) → elem k (map f (filter over xs)) ≡ true → elem k (map f (filter over (x ∷ xs))) ≡ true
  in_tail x xs k e = by-case (over x) where
    by-case : (t : Bool) → elem k (map f (cond t (x ∷ filter over xs) (filter over xs))) ≡ true
    by-case true = in-more k (f x) (map f (filter over xs)) e
    by-case false = e

  in-over : (x : A) (xs : List A) → over x ≡ true → elem (f x) (map f (filter over (x ∷ xs))) ≡ true
  in-over x xs e = ap (λ t. elem (f x) (map f (cond t (x ∷ filter over xs) (filter over xs)))) e ∙ in-here (f x) (map f (filter over xs))

  -- where the numbers of those that are over leave both, some are left out as before
  pub sub-left : (gone : List ℕ) (xs : List A) → ((k : ℕ) → elem k (map f (filter over xs)) ≡ true → elem k gone ≡ true) → {ks : List ℕ} → Sub ks (map f xs)
      → Sub (filter (λ k. not (elem k gone)) ks) (map f (filter (λ x. not (over x)) xs))
  sub-left gone [] h end = end
  sub-left gone (x ∷ xs) h (both {k} {ks} {js} s) =
      by-case (over x) (elem (f x) gone) refl refl (sub-left gone xs (λ j e. h j (in_tail x xs j e)) s) where
        by-case : (t u : Bool) → over x ≡ t → elem (f x) gone ≡ u → Sub (filter (λ j. not (elem j gone)) ks) (map f (filter (λ y. not (over y)) xs))
            → Sub (cond (not u) (f x ∷ filter (λ j. not (elem j gone)) ks) (filter (λ j. not (elem j gone)) ks))
            (map f (cond (not t) (x ∷ filter (λ y. not (over y)) xs) (filter (λ y. not (over y)) xs)))
        by-case true true p q r = r
        by-case true false p q r = absurd (let y : true ≡ false = sym (h (f x) (in-over x xs p)) ∙ q in let z : ◌≡◌ {A = ℕ} 0 1 = cc in omega arith)
        by-case false true p q r = more r
        by-case false false p q r = both r
  sub-left gone (x ∷ xs) h (more {k} {ks} {js} s) = by-case (over x) (sub-left gone xs (λ j e. h j (in_tail x xs j e)) s) where
    by-case : (t : Bool) → Sub (filter (λ j. not (elem j gone)) ks) (map f (filter (λ y. not (over y)) xs))
        → Sub (filter (λ j. not (elem j gone)) ks) (map f (cond (not t) (x ∷ filter (λ y. not (over y)) xs) (filter (λ y. not (over y)) xs)))
    by-case true r = r
    by-case false r = more r

  -- where the numbers differ exactly the same ones leave
  pub same_left : (n : ℕ) (xs : List A) → Rising n (map f xs)
      → filter (λ k. not (elem k (map f (filter over xs)))) (map f xs) ≡ map f (filter (λ x. not (over x)) xs)
  same_left n [] r = refl
  same_left n (x ∷ xs) r = by-case (over x) (same_left n xs (rising-tail n (f x) (map f xs) r)) where
    higher : Above (f x) (map f xs)
    higher = rising-above n (f x) (map f xs) r

    by-case : (t : Bool) → filter (λ k. not (elem k (map f (filter over xs)))) (map f xs) ≡ map f (filter (λ y. not (over y)) xs)
        → filter (λ k. not (elem k (map f (cond t (x ∷ filter over xs) (filter over xs))))) (f x ∷ map f xs)
        ≡ map f (cond (not t) (x ∷ filter (λ y. not (over y)) xs) (filter (λ y. not (over y)) xs))
    by-case true e =
        let gs : List ℕ = map f (filter over xs) in
        let ks : List ℕ = filter (λ k. not (elem k (f x ∷ gs))) (map f xs) in
        ap (λ t. cond (not t) (f x ∷ ks) ks) (in-here (f x) gs) ∙ away (f x) gs (map f xs) higher ∙ e
    by-case false e =
        let gs : List ℕ = map f (filter over xs) in
        let ks : List ℕ = filter (λ k. not (elem k gs)) (map f xs) in
        ap (λ t. cond (not t) (f x ∷ ks) ks) (above-none (f x) gs (above-sub (f x) (sub-kept f over xs) higher)) ∙ ap (λ l. f x ∷ l) e
