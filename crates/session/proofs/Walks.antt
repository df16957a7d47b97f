-- Walks over the records in use. Assumes nothing.
use Rattle.std.proofs.Common.{◌≡◌, ℕ, zero, suc, ◌+◌, ◌<◌, ◌≤◌, Bool, true, false, ltb, List, [], ◌∷◌, ◌++◌, map, length, get_or, take, drop, set, sym, refl, ap, ◌∙◌, le_refl, le_of_lt, le_antisymm, add-one, take_all, append-nil, take-suc, ltb-false, ltb-true, cond, filter}
use mathlib.Core.List.{foldl, foldl-append}
use Rattle.std.proofs.lemmas.List.{drop_all}
use Rattle.std.proofs.lemmas.List.Elements.{filter-append}
use Rattle.session.specs.Lists.{used_of, change_if, change_where}

pub used-below : (cap n : ℕ) → used_of cap n ≤ cap
used-below cap n = by-case (ltb n cap) refl where
  by-case : (t : Bool) → ltb n cap ≡ t → cond t n cap ≤ cap
  by-case true e = le_of_lt (ltb-true n cap e)
  by-case false e = le_refl cap

pub used-small : (cap n : ℕ) → n ≤ cap → used_of cap n ≡ n
used-small cap n h = by-case (ltb n cap) refl where
  by-case : (t : Bool) → ltb n cap ≡ t → cond t n cap ≡ n
  by-case true e = refl
  by-case false e = le_antisymm (ltb-false n cap e) h

-- f at each of the first n, and the places from there on as they were
abbrev pub on_first : {A : Type 0} → (A → A) → ℕ → List A → List A
on_first f n xs = map f (take n xs) ++ drop n xs

module _ {A : Type 0} (f : A → A) where
  on_first-suc : (xs : List A) (i : ℕ) (d : A) → set (on_first f i xs) i (f (get_or (on_first f i xs) i d)) ≡ on_first f (suc i) xs
  on_first-suc [] zero d = refl
  on_first-suc [] (suc i) d = refl
  on_first-suc (x ∷ xs) zero d = refl
  on_first-suc (x ∷ xs) (suc i) d = ap (λ l. f x ∷ l) (on_first-suc xs i d)

  pub on_first-step : (xs : List A) (i : ℕ) (d : A) → set (on_first f i xs) i (f (get_or (on_first f i xs) i d)) ≡ on_first f (i + 1) xs
  on_first-step xs i d = rw add-one (on_first-suc xs i d)

  pub on_first-at : (xs : List A) (i : ℕ) (d : A) → get_or (on_first f i xs) i d ≡ get_or xs i d
  on_first-at [] zero d = refl
  on_first-at [] (suc i) d = refl
  on_first-at (x ∷ xs) zero d = refl
  on_first-at (x ∷ xs) (suc i) d = on_first-at xs i d

-- a walk over xs that changes, by g, each element that p holds of: ys is what stands there when the first i are done, and b is the
-- answer of its test of the next
module _ {A : Type 0} (p : A → Bool) (g : A → A) (xs ys : List A) (i : ℕ) (so_far : ys ≡ on_first (change_if p g) i xs) where
  module _ (d : A) (b : Bool) (told : b ≡ p (get_or ys i d)) where
    stored : (q : A) → q ≡ change_if p g (get_or ys i d) → set ys i q ≡ on_first (change_if p g) (i + 1) xs
    stored q e =
        ap (set ys i) e ∙ ap (λ (l : List A). set l i (change_if p g (get_or l i d))) so_far ∙ on_first-step (change_if p g) xs i d

    pub walk-hit : (q : A) → b ≡ true → q ≡ g (get_or ys i d) → set ys i q ≡ on_first (change_if p g) (i + 1) xs
    walk-hit q h e = stored q (e ∙ ap (λ (k : Bool). cond k (g (get_or ys i d)) (get_or ys i d)) (sym h ∙ told))

    pub walk-miss : b ≡ false → set ys i (get_or ys i d) ≡ on_first (change_if p g) (i + 1) xs
    walk-miss h =
        stored (get_or ys i d) (ap (λ (k : Bool). cond k (g (get_or ys i d)) (get_or ys i d)) (sym h ∙ told))

  -- the next is as it was
  pub untouched : (d : A) → get_or ys i d ≡ get_or xs i d
  untouched d = ap (λ (l : List A). get_or l i d) so_far ∙ on_first-at (change_if p g) xs i d

  -- all are done
  pub walk-done : length xs ≤ i → ys ≡ change_where p g xs
  walk-done h = so_far ∙ rw (take_all i xs h, drop_all i xs h) (append-nil (change_where p g xs))

-- a loop that folds a list from left to right: one element more, and the end
module _ {A B : Type 0} (f : B → A → B) (b : B) (xs : List A) (i : ℕ) (best : B) (so_far : best ≡ foldl f b (take i xs)) where
  pub fold_step : (d : A) (w : B) → i < length xs → w ≡ f best (get_or xs i d) → w ≡ foldl f b (take (i + 1) xs)
  fold_step d w h e =
      e ∙ ap (λ (v : B). f v (get_or xs i d)) so_far
      ∙ sym (ap (λ (l : List A). foldl f b l) (ap (λ (k : ℕ). take k xs) (add-one i) ∙ take-suc xs i d h) ∙ foldl-append f b (take i xs) (get_or xs i d ∷ []))

  pub fold_done : (n k : ℕ) → i ≤ n → n ≤ i → n ≡ k → best ≡ foldl f b (take k xs)
  fold_done n k p q e = so_far ∙ ap (λ (m : ℕ). foldl f b (take m xs)) (le_antisymm p q ∙ e)

module _ {A : Type 0} (p : A → Bool) where
  pub keep-step : (xs : List A) (i : ℕ) (d : A) → i < length xs
      → filter p (take (i + 1) xs) ≡ filter p (take i xs) ++ cond (p (get_or xs i d)) (get_or xs i d ∷ []) []
  keep-step xs i d h = rw (add-one, take-suc xs i d h) (filter-append p (take i xs) (get_or xs i d ∷ []))
