-- The elements that stay move up. Assumes nothing.
use Rattle.std.proofs.Common.{◌≡◌, ℕ, suc, ◌+◌, ◌-◌, ◌<◌, ◌≤◌, Bool, true, false, List, [], ◌∷◌, ◌++◌, length, get_or, take, drop, set, sym, refl, ap, ◌∙◌, append-nil, add-one, arith, length-append, length-take-le, get_or-drop, drop-cons, get_or-append-add, take_all, cond, filter}
use mathlib.Core.Path.{subst}
use lib.Seq.{append_snoc, set-append_seam, set_split}
use Rattle.session.specs.Lists.{packed}
use Rattle.session.proofs.Walks.{keep-step}

module _ {A : Type 0} where
  packed-at : (ks xs : List A) (i : ℕ) (d : A) → length ks ≤ i → get_or (packed ks xs) i d ≡ get_or xs i d
  packed-at ks xs i d h =
      let e : length ks + (i - length ks) ≡ i = omega arith in
      rw e at (get_or-append-add ks (drop (length ks) xs) (i - length ks) d ∙ get_or-drop (length ks) xs (i - length ks) d)

  pub packed-set : (ks xs : List A) (a d : A) → length ks < length xs → set (packed ks xs) (length ks) a ≡ packed (ks ++ (a ∷ [])) xs
  packed-set ks xs a d h =
      ap (λ l. set (ks ++ l) (length ks) a) (drop-cons xs (length ks) d h)
      ∙ set-append_seam ks (get_or xs (length ks) d) (drop (suc (length ks)) xs) a
      ∙ sym (append_snoc ks a (drop (suc (length ks)) xs))
      ∙ ap (λ k. (ks ++ (a ∷ [])) ++ drop k xs) (sym (length-append ks (a ∷ []) ∙ add-one (length ks)))

  -- one more element behind the first n
  pub put-behind : (xs : List A) (n : ℕ) (a : A) → n < length xs → set xs n a ≡ packed (take n xs ++ (a ∷ [])) xs
  put-behind xs n a h =
      let m : length (take n xs) ≡ n = length-take-le n xs (omega arith) in
      set_split xs n a h ∙ sym (append_snoc (take n xs) a (drop (suc n) xs))
      ∙ ap (λ k. (take n xs ++ (a ∷ [])) ++ drop k xs) (sym (length-append (take n xs) (a ∷ []) ∙ ap (λ k. k + 1) m ∙ add-one n))

  -- the state of a loop over xs: the kept of the first i stand in front, j of them, and the places behind are as they were
  pub record Packed (p : A → Bool) (xs ys : List A) (i j : ℕ) : Type 0 where
    pub counted : j ≡ length (filter p (take i xs))
    pub behind : j ≤ i
    pub so_far : ys ≡ packed (filter p (take i xs)) xs

  pub packed_none : (p : A → Bool) (xs : List A) → Packed p xs xs 0 0
  packed_none p xs = record { counted = refl; behind = omega arith; so_far = refl }

  module _ (p : A → Bool) (xs ys : List A) (i j : ℕ) (d : A) (h : Packed p xs ys i j) (inside : i < length xs) where
    at : get_or ys i d ≡ get_or xs i d
    at = ap (λ (l : List A). get_or l i d) h.so_far ∙ packed-at (filter p (take i xs)) xs i d (omega (arith, h.counted, h.behind))

    next-kept : p (get_or ys i d) ≡ true → filter p (take (i + 1) xs) ≡ filter p (take i xs) ++ (get_or ys i d ∷ [])
    next-kept e =
        keep-step p xs i d inside
        ∙ ap (λ (b : Bool). filter p (take i xs) ++ cond b (get_or xs i d ∷ []) []) (ap p (sym at) ∙ e)
        ∙ ap (λ (x : A). filter p (take i xs) ++ (x ∷ [])) (sym at)

    next-left : p (get_or ys i d) ≡ false → filter p (take (i + 1) xs) ≡ filter p (take i xs)
    next-left e =
        keep-step p xs i d inside
        ∙ ap (λ (b : Bool). filter p (take i xs) ++ cond b (get_or xs i d ∷ []) []) (ap p (sym at) ∙ e)
        ∙ append-nil (filter p (take i xs))

    -- the element is left out
    pub packed-skip : p (get_or ys i d) ≡ false → Packed p xs ys (i + 1) j
    packed-skip e = record {
      counted = h.counted ∙ ap length (sym (next-left e));
      behind = omega (arith, h.behind);
      so_far = h.so_far ∙ ap (λ (l : List A). packed l xs) (sym (next-left e));
    }

    -- the element moves up
    pub packed_keep : p (get_or ys i d) ≡ true → Packed p xs (set ys j (get_or ys i d)) (i + 1) (j + 1)
    packed_keep e = record {
      counted = ap (λ (k : ℕ). k + 1) h.counted ∙ sym (ap length (next-kept e) ∙ length-append (filter p (take i xs)) (get_or ys i d ∷ []));
      behind = omega (arith, h.behind);
      so_far =
          ap (λ (l : List A). set l j (get_or ys i d)) h.so_far
          ∙ ap (λ (k : ℕ). set (packed (filter p (take i xs)) xs) k (get_or ys i d)) h.counted
          ∙ packed-set (filter p (take i xs)) xs (get_or ys i d) d (omega (arith, h.counted, h.behind))
          ∙ ap (λ (l : List A). packed l xs) (sym (next-kept e));
    }

  -- x is the element at i, and b the answer of the test at it
  module _ (p : A → Bool) (xs ys : List A) (i j : ℕ) (x : A) (h : Packed p xs ys i j) (inside : i < length xs) (read : x ≡ get_or ys i x)
      (b : Bool) (told : b ≡ p x) where
    answer : (t : Bool) → b ≡ t → p (get_or ys i x) ≡ t
    answer t e = ap p (sym read) ∙ sym told ∙ e

    pub moves-up : b ≡ true → Packed p xs (set ys j x) (i + 1) (j + 1)
    moves-up e = subst (λ (y : A). Packed p xs (set ys j y) (i + 1) (j + 1)) (sym read) (packed_keep p xs ys i j x h inside (answer true e))

    pub left-out : b ≡ false → Packed p xs ys (i + 1) j
    left-out e = packed-skip p xs ys i j x h inside (answer false e)

  -- all are looked at
  pub packed-all : (p : A → Bool) (xs ys : List A) (i j : ℕ) → Packed p xs ys i j → length xs ≤ i
      → (ys ≡ packed (filter p xs) xs) × (j ≡ length (filter p xs))
  packed-all p xs ys i j h e =
      (h.so_far ∙ ap (λ l. packed (filter p l) xs) (take_all i xs e), h.counted ∙ ap (λ l. length (filter p l)) (take_all i xs e))

-- two tests that agree keep the same
pub keep_same : {A : Type 0} (p q : A → Bool) → ((x : A) → p x ≡ q x) → (xs : List A) → filter p xs ≡ filter q xs
keep_same p q h [] = refl
keep_same p q h (x ∷ xs) =
    ap (λ t. cond t (x ∷ filter p xs) (filter p xs)) (h x) ∙ ap (λ l. cond (q x) (x ∷ l) l) (keep_same p q h xs)
