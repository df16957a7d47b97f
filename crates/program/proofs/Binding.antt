-- Laws of binding. Assumes nothing.
use Rattle.std.proofs.Common.{◌≡◌, ℕ, zero, suc, ◌+◌, ◌<◌, ◌≤◌, Bool, true, false, not, ◌&&◌, cond, List, [], ◌∷◌, find, get_or, None, Some, refl, sym, ap, ◌∙◌, arith}
use Rattle.std.specs.List.{list_all, range_with_len}
use mathlib.Core.Logic.{◌⊎◌, inl, inr}
use native.Mathlib.Nat.{eq-or-lt_of_le}
use lib.Dec.{leb}
use borrow.Author.Tests.{leb-true, eqb-true}
use Rattle.std.proofs.lemmas.List.Folds.{list_all-append}
use Rattle.program.specs.declared.bind.BoundProgram.{BoundProgram}
use Rattle.program.proofs.Lookups.{no-and}
use Rattle.program.proofs.Checks.{every-at, and_left, and_right, after, final}
use Rattle.program.specs.Valid.{every, counts_tests, CountsIn}
use Rattle.program.specs.Bind.{counts_in, region_in, shape_in, counts_ok, region_count, sample_count, size_tests, program_ok}

-- where p holds of k numbers from i on, it holds of each
pub every-index : (p : ℕ → Bool) (i k j : ℕ) → list_all p (range_with_len i k) ≡ true → i ≤ j → j < i + k → p j ≡ true
every-index p i zero j e lo hi = absurd (omega arith)
every-index p i (suc k) j e lo hi = go (eq-or-lt_of_le lo) (λ q. every-index p (i + 1) k j (and_right (p i) _ e) (omega arith) (omega arith)) where
  go : (i ≡ j) ⊎ (i < j) → (i < j → p j ≡ true) → p j ≡ true
  go (inl q) later = ap p (sym q) ∙ and_left (p i) _ e
  go (inr q) later = later q

pub counts-known : (r : List ℕ) → every (counts_tests r) ≡ true → CountsIn r
counts-known r e = record {
  filters = leb-true (get_or r 27 0) 6 (every-at (counts_tests r) 0 e);
  bands = leb-true (get_or r 28 0) 6 (every-at (counts_tests r) 1 e);
  points = leb-true (get_or r 29 0) 128 (every-at (counts_tests r) 2 e);
}

abbrev counts : List ℕ → List ℕ → List Bool
counts ws ss = leb (region_count ws) 256 ∷ leb (sample_count ss) 256 ∷ list_all (counts_in ws) (range_with_len 0 (region_count ws)) ∷ []

module _ (ws ss : List ℕ) (ok : counts_ok ws ss ≡ true) where
  tests : every (counts ws ss) ≡ true
  unfolding counts_ok
  tests = ok

  pub few-regions : region_count ws ≤ 256
  few-regions = leb-true (region_count ws) 256 (every-at (counts ws ss) 0 tests)

  pub few-samples : sample_count ss ≤ 256
  few-samples = leb-true (sample_count ss) 256 (every-at (counts ws ss) 1 tests)

  pub few-parts : list_all (counts_in ws) (range_with_len 0 (region_count ws)) ≡ true
  few-parts = every-at (counts ws ss) 2 tests

-- where q holds of each, a test of q and p is a test of p
pub find-both : (q p : ℕ → Bool) (xs : List ℕ) → list_all q xs ≡ true → find (λ x. not (q x && p x)) xs ≡ find (λ x. not (p x)) xs
find-both q p [] e = refl
find-both q p (x ∷ xs) e = go (q x) e (find-both q p xs) where
  go : (t : Bool) → (t && list_all q xs) ≡ true → (list_all q xs ≡ true → find (λ y. not (q y && p y)) xs ≡ find (λ y. not (p y)) xs)
      → cond (not (t && p x)) (Some x) (find (λ y. not (q y && p y)) xs) ≡ cond (not (p x)) (Some x) (find (λ y. not (p y)) xs)
  go true f later = ap (cond (not (p x)) (Some x)) (later f)
  go false f later = cc

pub all-both : (q p : ℕ → Bool) (xs : List ℕ) → list_all q xs ≡ true → list_all (λ x. q x && p x) xs ≡ list_all p xs
all-both q p [] e = refl
all-both q p (x ∷ xs) e = go (q x) e (all-both q p xs) where
  go : (t : Bool) → (t && list_all q xs) ≡ true → (list_all q xs ≡ true → list_all (λ y. q y && p y) xs ≡ list_all p xs)
      → ((t && p x) && list_all (λ y. q y && p y) xs) ≡ (p x && list_all p xs)
  go true f later = ap (λ t. p x && t) (later f)
  go false f later = cc

-- nothing is found where the test holds of each
pub none-found : (p : ℕ → Bool) (xs : List ℕ) → find (λ x. not (p x)) xs ≡ None → list_all p xs ≡ true
none-found p [] e = refl
none-found p (x ∷ xs) e = go (p x) e (none-found p xs) where
  go : (t : Bool) → cond (not t) (Some x) (find (λ y. not (p y)) xs) ≡ None → (find (λ y. not (p y)) xs ≡ None → list_all p xs ≡ true) → (t && list_all p xs) ≡ true
  go true f later = later f
  go false f later = cc

-- the block's own test, which goes by the bound program's numbers of regions and samples
module _ (b : BoundProgram) (ws ss : List ℕ) (frames table : ℕ) where
  abbrev sizes : List Bool
  sizes = size_tests b (region_count ws) (sample_count ss) frames table

  abbrev others : List Bool
  others = counts_ok ws ss ∷ list_all (region_in ws (sample_count ss)) (range_with_len 0 (region_count ws)) ∷ list_all (shape_in ss b.frames) (range_with_len 0 (sample_count ss)) ∷ []

  split : program_ok b ws ss frames table ≡ (every sizes && every others)
  unfolding program_ok
  split = list_all-append (λ t. t) sizes others

  pub wrong-sizes : every sizes ≡ false → false ≡ program_ok b ws ss frames table
  wrong-sizes e = no-and (every others) e ∙ sym split

  module _ (right : every sizes ≡ true) where
    pub wrong-counts : counts_ok ws ss ≡ false → false ≡ program_ok b ws ss frames table
    wrong-counts e = after right (no-and _ e) ∙ sym split

    m-is : sample_count ss ≡ b.samples
    m-is = eqb-true (sample_count ss) b.samples (every-at sizes 1 right)

    module _ (ok : counts_ok ws ss ≡ true) where
      module _ (r : Bool) (is : r ≡ list_all (region_in ws b.samples) (range_with_len 0 (region_count ws))) where
        regions-are : r ≡ list_all (region_in ws (sample_count ss)) (range_with_len 0 (region_count ws))
        regions-are = is ∙ ap (λ m. list_all (region_in ws m) (range_with_len 0 (region_count ws))) (sym m-is)

        pub wrong-region : r ≡ false → r ≡ program_ok b ws ss frames table
        wrong-region e = e ∙ after right (after ok (no-and _ (sym regions-are ∙ e))) ∙ sym split

        pub last-test : r ≡ true → (t : Bool) → t ≡ list_all (shape_in ss b.frames) (range_with_len 0 (sample_count ss)) → t ≡ program_ok b ws ss frames table
        last-test e t that = after right (after ok (after (sym regions-are ∙ e) (final that))) ∙ sym split
