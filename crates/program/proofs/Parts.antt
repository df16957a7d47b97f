-- Laws of the parts that a program's words are cut into: what is asked of each part in turn is asked of each number. Assumes nothing.
use Rattle.std.proofs.Common.{◌≡◌, ℕ, zero, suc, ◌+◌, ◌/◌, ◌<◌, Bool, true, false, not, ◌&&◌, cond, List, [], ◌∷◌, map, length, replicate, find, get_or, Option, None, Some, IfSome, refl, sym, ap, ◌∙◌}
use Rattle.std.specs.List.{list_all, range_with_len, position, position_from, position_or_len}
use Rattle.std.specs.Simd.{first_chunks}
use Rattle.std.proofs.lemmas.Iterator.Adapters.{position_from-zero}
use lib.Dec.{ltb}
use borrow.Author.Tests.{ltb-true}
use Rattle.program.specs.declared.sample.Sample.{Sample}
use Rattle.program.specs.Region.{words_of}
use Rattle.program.specs.Sample.{sample_of, sample_at}
use Rattle.program.specs.Bind.{region_count, sample_count}
use Rattle.program.proofs.Words.{part-at, parts-length, made-by, words-are, sample-is}

-- n parts, each by its number
parts-by : (w n : ℕ) (xs d : List ℕ) → first_chunks w n xs ≡ map (λ j. get_or (first_chunks w n xs) j d) (range_with_len 0 n)
parts-by w n xs d = made-by (λ j. get_or (first_chunks w n xs) j d) (first_chunks w n xs) n (parts-length w n xs) (λ i e h. part-at w n i xs e h ∙ sym (part-at w n i xs d h))

-- q of what g gives is p of the number
module _ (q : List ℕ → Bool) (p : ℕ → Bool) (g : ℕ → List ℕ) (same : (j : ℕ) → q (g j) ≡ p j) where
  all-by : (js : List ℕ) → list_all q (map g js) ≡ list_all p js
  all-by [] = refl
  all-by (j ∷ js) = ap (λ t. t && list_all q (map g js)) (same j) ∙ ap (λ t. p j && t) (all-by js)

  found-by : (i n : ℕ) → position_from q i (map g (range_with_len i n)) ≡ find p (range_with_len i n)
  found-by i zero = refl
  found-by i (suc n) =
      ap (λ t. cond t (Some i) (position_from q (i + 1) (map g (range_with_len (i + 1) n)))) (same i) ∙ ap (cond (p i) (Some i)) (found-by (i + 1) n)

  first-by : (xs : List (List ℕ)) (n : ℕ) → xs ≡ map g (range_with_len 0 n) → position q xs ≡ find p (range_with_len 0 n)
  first-by xs n e = position_from-zero q xs ∙ ap (position_from q 0) e ∙ found-by 0 n

-- the regions
module _ (q : List ℕ → Bool) (ws : List ℕ) where
  at : ℕ → List ℕ
  at j = get_or (first_chunks 392 (length ws / 392) ws) j (replicate 392 0)

  is : (j : ℕ) → q (at j) ≡ q (words_of ws j)
  unfolding at
  is j = ap q (words-are ws j)

  pub all-regions : list_all q (first_chunks 392 (length ws / 392) ws) ≡ list_all (λ i. q (words_of ws i)) (range_with_len 0 (region_count ws))
  unfolding at
  all-regions = ap (list_all q) (parts-by 392 (length ws / 392) ws (replicate 392 0)) ∙ all-by q (λ i. q (words_of ws i)) at is (range_with_len 0 (length ws / 392))

  pub first-region : position q (first_chunks 392 (length ws / 392) ws) ≡ find (λ i. q (words_of ws i)) (range_with_len 0 (region_count ws))
  unfolding at
  first-region = first-by q (λ i. q (words_of ws i)) at is (first_chunks 392 (length ws / 392) ws) (length ws / 392) (parts-by 392 (length ws / 392) ws (replicate 392 0))

-- the samples
module _ (p : Sample → Bool) (ss : List ℕ) where
  none : List ℕ
  none = 0 ∷ 0 ∷ 0 ∷ 0 ∷ []

  q : List ℕ → Bool
  q w = p (sample_of w 0)

  part : ℕ → List ℕ
  part j = get_or (first_chunks 4 (length ss / 4) ss) j none

  known : (j : ℕ) → q (part j) ≡ p (sample_at ss j)
  unfolding none q part
  known j = ap p (sample-is ss j (part j) refl)

  pub all-samples : list_all (λ w. p (sample_of w 0)) (first_chunks 4 (length ss / 4) ss) ≡ list_all (λ j. p (sample_at ss j)) (range_with_len 0 (sample_count ss))
  unfolding none q part
  all-samples = ap (list_all q) (parts-by 4 (length ss / 4) ss none) ∙ all-by q (λ j. p (sample_at ss j)) part known (range_with_len 0 (length ss / 4))

  pub first-sample : position (λ w. p (sample_of w 0)) (first_chunks 4 (length ss / 4) ss) ≡ find (λ j. p (sample_at ss j)) (range_with_len 0 (sample_count ss))
  unfolding none q part
  first-sample = first-by q (λ j. p (sample_at ss j)) part known (first_chunks 4 (length ss / 4) ss) (length ss / 4) (parts-by 4 (length ss / 4) ss none)

-- what is found is there
pub inside : {A : Type 0} (q : A → Bool) (xs : List A) (n : ℕ) (r : Option ℕ) → length xs ≡ n → r ≡ position q xs → IfSome r (λ i. i < n)
inside q xs n r long e = rw (e, sym long) (go (ltb (position_or_len q xs) (length xs)) refl) where
  go : (t : Bool) → ltb (position_or_len q xs) (length xs) ≡ t → IfSome (cond t (Some (position_or_len q xs)) None) (λ i. i < length xs)
  go true h = ltb-true _ _ h
  go false h = tt
