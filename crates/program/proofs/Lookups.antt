-- Laws of lookup. Assumes nothing.
use Rattle.std.proofs.Common.{◌≡◌, ℕ, zero, suc, ◌+◌, ◌-◌, ◌<◌, ◌≤◌, Bool, true, false, cond, ◌&&◌, ◌||◌, List, [], ◌∷◌, filter, find, Option, None, Some, refl, sym, ap, ◌∙◌, arith}
use Rattle.std.specs.Option.{option_map}
use Rattle.std.specs.List.{range_with_len, list_any}
use native.Mathlib.Nat.{sub-zero}
use lib.Dec.{leb}
use borrow.Author.Tests.{lt-leb, le-leb}
use Rattle.program.specs.Lookup.{holds_key, regions_for_key, regions_from, first_of}

pub no-and : {a : Bool} (b : Bool) → a ≡ false → false ≡ (a && b)
no-and b e = sym (ap (λ t. t && b) e)

-- a number k and a window from a to b, each under another name
module _ (a b k a' b' k' : ℕ) (a-is : a ≡ a') (b-is : b ≡ b') (k-is : k ≡ k') where
  pub below-it : k < a → false ≡ (leb a' k' && leb k' b')
  below-it h = no-and (leb k' b') (ap (λ v. leb v k') (sym a-is) ∙ ap (leb a) (sym k-is) ∙ lt-leb a k h)

  pub not-below : a ≤ k → leb k b ≡ (leb a' k' && leb k' b')
  not-below h =
      ap (λ v. leb v b) k-is ∙ ap (leb k') b-is
      ∙ ap (λ t. t && leb k' b') (sym (le-leb a k h) ∙ ap (λ v. leb v k) a-is ∙ ap (leb a') k-is)

pub same-option : {A : Type 0} (o : Option A) → option_map (λ x. x) o ≡ o
same-option None = refl
same-option (Some x) = refl

-- the first that is found is the first of those that are kept
pub first-kept : (p : ℕ → Bool) (xs : List ℕ) → find p xs ≡ first_of (filter p xs)
first-kept p [] = refl
first-kept p (x ∷ xs) = go (p x) (first-kept p xs) where
  go : (t : Bool) → find p xs ≡ first_of (filter p xs) → cond t (Some x) (find p xs) ≡ first_of (cond t (x ∷ filter p xs) (filter p xs))
  go true e = refl
  go false e = e

-- a test of what is kept is a test of both
pub any-kept : (p q : ℕ → Bool) (xs : List ℕ) → list_any q (filter p xs) ≡ list_any (λ x. p x && q x) xs
any-kept p q [] = refl
any-kept p q (x ∷ xs) = go (p x) (any-kept p q xs) where
  go : (t : Bool) → list_any q (filter p xs) ≡ list_any (λ y. p y && q y) xs
      → list_any q (cond t (x ∷ filter p xs) (filter p xs)) ≡ ((t && q x) || list_any (λ y. p y && q y) xs)
  go true e = ap (λ r. q x || r) e
  go false e = e

-- What `next_for_key` finds, stepped from 0, is `regions_for_key`, region by region: the list starts with what is found, and goes on behind it.
pub from_start : (ws : List ℕ) (n key : ℕ) → regions_from ws n key 0 ≡ regions_for_key ws n key
unfolding regions_from regions_for_key
from_start ws n key = ap (λ k. filter (holds_key ws key) (range_with_len 0 k)) (sub-zero n)

kept-first : (p : ℕ → Bool) (i k x : ℕ) → first_of (filter p (range_with_len i k)) ≡ Some x → filter p (range_with_len i k) ≡ x ∷ filter p (range_with_len (x + 1) (i + k - (x + 1)))
kept-first p i zero x e = absurd (let z : ◌≡◌ {A = ℕ} 0 1 = cc in omega arith)
kept-first p i (suc k) x e = go (p i) e (λ f. kept-first p (i + 1) k x f) where
  go : (t : Bool) → first_of (cond t (i ∷ filter p (range_with_len (i + 1) k)) (filter p (range_with_len (i + 1) k))) ≡ Some x
      → (first_of (filter p (range_with_len (i + 1) k)) ≡ Some x → filter p (range_with_len (i + 1) k) ≡ x ∷ filter p (range_with_len (x + 1) (i + 1 + k - (x + 1))))
      → cond t (i ∷ filter p (range_with_len (i + 1) k)) (filter p (range_with_len (i + 1) k)) ≡ x ∷ filter p (range_with_len (x + 1) (i + suc k - (x + 1)))
  go true f later = let q : i ≡ x = cc in let m : i + suc k - (i + 1) ≡ k = omega arith in rw (sym q, m)
  go false f later = let m : i + suc k - (x + 1) ≡ i + 1 + k - (x + 1) = omega arith in rw m (later f)

pub step-at : (ws : List ℕ) (n key i x : ℕ) → i ≤ n → first_of (regions_from ws n key i) ≡ Some x → regions_from ws n key i ≡ x ∷ regions_from ws n key (x + 1)
unfolding regions_from
step-at ws n key i x h e = let m : n - (x + 1) ≡ i + (n - i) - (x + 1) = omega arith in rw m (kept-first (holds_key ws key) i (n - i) x e)

none_first : (l : List ℕ) → first_of l ≡ None → l ≡ []
none_first [] e = refl
none_first (x ∷ l) e = absurd (let z : ◌≡◌ {A = ℕ} 0 1 = cc in omega arith)

pub step-none : (ws : List ℕ) (n key i : ℕ) → first_of (regions_from ws n key i) ≡ None → regions_from ws n key i ≡ []
step-none ws n key i e = none_first (regions_from ws n key i) e
