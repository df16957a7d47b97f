-- Loops that look for an element: the answer for the whole list is the answer for what is left. Assumes nothing.
use Rattle.std.specs.List.{list_any}
use Rattle.std.proofs.Common.{◌≡◌, ℕ, suc, ◌+◌, ◌<◌, ◌≤◌, Bool, true, false, List, [], ◌∷◌, length, get_or, take, drop, sym, ap, ◌∙◌, add-one, arith, drop_of_length-le, length-take-le, drop-cons, get_or-take, ◌||◌}

module _ {A : Type 0} (xs : List A) (n : ℕ) (h : n ≤ length xs) where
  -- one element is taken from what is left
  pub rest-step : (i : ℕ) (d : A) → i < n → drop i (take n xs) ≡ get_or xs i d ∷ drop (i + 1) (take n xs)
  rest-step i d p =
      let q : length (take n xs) ≡ n = length-take-le n xs h in
      drop-cons (take n xs) i d (omega arith)
      ∙ ap (λ x. x ∷ drop (suc i) (take n xs)) (get_or-take n xs i d p)
      ∙ ap (λ k. get_or xs i d ∷ drop k (take n xs)) (sym (add-one i))

  -- nothing is left
  pub rest-none : (i : ℕ) → n ≤ i → drop i (take n xs) ≡ []
  rest-none i q = drop_of_length-le (take n xs) {i = i} (omega (arith, length-take-le n xs h))

-- the state of the loop: `whole` is the answer, and the answer for what is left from i on
pub record Searched {A : Type 0} (p : A → Bool) (whole : Bool) (n : ℕ) (xs : List A) (i : ℕ) : Type 0 where
  pub fits : n ≤ length xs
  pub left : whole ≡ list_any p (drop i (take n xs))

module _ {A : Type 0} (p : A → Bool) (whole : Bool) (n : ℕ) (xs : List A) (i : ℕ) (h : Searched p whole n xs i) where
  pub search-over : n ≤ i → false ≡ whole
  search-over q = sym (h.left ∙ ap (list_any p) (rest-none xs n h.fits i q))

  module _ (d : A) (inside : i < n) where
    here : whole ≡ p (get_or xs i d) || list_any p (drop (i + 1) (take n xs))
    here = h.left ∙ ap (list_any p) (rest-step xs n h.fits i d inside)

    pub search-found : p (get_or xs i d) ≡ true → true ≡ whole
    search-found e = sym (here ∙ ap (λ (t : Bool). t || list_any p (drop (i + 1) (take n xs))) e)

    pub search-next : p (get_or xs i d) ≡ false → Searched p whole n xs (i + 1)
    search-next e =
        record { fits = h.fits; left = here ∙ ap (λ (t : Bool). t || list_any p (drop (i + 1) (take n xs))) e }
