-- What a block may count on: a program that was bound passes the block's test, and one that passes it has good regions and samples. Assumes nothing.
use Prim.Native.Nat.{ℕ, zero, suc, ◌+◌, ◌*◌, ◌<◌, ◌≤◌}
use mathlib.Core.Path.{◌≡◌, refl, sym, ap, ◌∙◌}
use mathlib.Core.Bool.{Bool, true, false, cond, ◌&&◌}
use mathlib.Core.List.{List, [], ◌∷◌}
use Rattle.std.proofs.Common.{Option, None, Some}
use Rattle.std.specs.List.{list_all, range_with_len}
use Rattle.std.specs.Option.{option_map_or}
use native.Mathlib.Omega.{arith}
use lib.ListN.{length, get_or}
use lib.Dec.{eqb}
use lib.Ieee.{Float}
use borrow.Author.Tests.{leb-true, eqb-true, eq-eqb, le-leb}
use Rattle.program.specs.declared.bind.BoundProgram.{BoundProgram}
use Rattle.program.specs.Region.{words_of}
use Rattle.program.specs.Valid.{every, all_finite, valid_region, CountsIn}
use Rattle.program.specs.Sample.{sample_at, shape_tests, sample_tests}
use Rattle.program.specs.Bind.{bound, refused, region_count, sample_count, counts_in, counts_ok, region_in, sample_in, shape_in, bad_region, bad_sample, table_ok, bound_of, binding, program_tests, program_ok}
use Rattle.program.proofs.Checks.{and-true, after, final, every-at}
use Rattle.program.proofs.Binding.{every-index, counts-known, few-parts, none-found}

-- p holds of k numbers from i on where it holds of each
pub each-index : (p : ℕ → Bool) (i k : ℕ) → ((j : ℕ) → i ≤ j → j < i + k → p j ≡ true) → list_all p (range_with_len i k) ≡ true
each-index p i zero h = refl
each-index p i (suc k) h = ap (λ t. t && list_all p (range_with_len (i + 1) k)) (h i (omega arith) (omega arith)) ∙ each-index p (i + 1) k (λ j lo hi. h j (omega arith) (omega arith))

final-two : (x y : Bool) {r : Bool} → r ≡ (x && y) → r ≡ every (x ∷ y ∷ [])
final-two x y e = e ∙ ap (λ t. x && t) (sym (and-true y))

clash : {n : ℕ} {vs : List ℕ} {b : BoundProgram} → refused n vs ≡ bound b → ⊥
clash e = let z : ◌≡◌ {A = ℕ} 0 1 = cc in omega arith

-- a program is bound only where all four tests pass
module _ (b' b : BoundProgram) (r1 r4 : List ℕ) where
  pub record Passed (a : Bool) (i j : Option ℕ) (e : Bool) : Type 0 where
    pub first : a ≡ true
    pub second : i ≡ None
    pub third : j ≡ None
    pub fourth : e ≡ true
    pub made : b' ≡ b

  passed : (a : Bool) (i j : Option ℕ) (e : Bool)
      → cond a (option_map_or (λ v. refused 2 (v ∷ [])) i (option_map_or (λ v. refused 3 (v ∷ [])) j (cond e (bound b') (refused 4 r4)))) (refused 1 r1) ≡ bound b
      → Passed a i j e
  passed true None None true q = record { first = refl; second = refl; third = refl; fourth = refl; made = cc }
  passed true None None false q = absurd (clash q)
  passed true None (Some j) e q = absurd (clash q)
  passed true (Some i) j e q = absurd (clash q)
  passed false i j e q = absurd (clash q)

module _ (ws ss : List ℕ) (fs tb : List Float) (b : BoundProgram) (done : binding ws ss fs tb ≡ bound b) where
  known : Passed (bound_of ws ss fs) b [] [] (counts_ok ws ss) (bad_region ws ss) (bad_sample ss fs) (table_ok tb)
  unfolding binding
  known = passed (bound_of ws ss fs) b [] [] _ _ _ _ done

  pub table-length : length tb ≡ 8194
  unfolding table_ok
  table-length = eqb-true (length tb) 8194 (every-at (eqb (length tb) 8194 ∷ all_finite tb ∷ []) 0 (sym (final-two (eqb (length tb) 8194) (all_finite tb) (sym known.fourth))))

  regions : list_all (region_in ws (sample_count ss)) (range_with_len 0 (region_count ws)) ≡ true
  regions = none-found (region_in ws (sample_count ss)) _ known.second

  shapes : list_all (shape_in ss (length fs)) (range_with_len 0 (sample_count ss)) ≡ true
  shapes =
      each-index (shape_in ss (length fs)) 0 (sample_count ss)
      (λ j lo hi. every-at (sample_tests fs (sample_at ss j)) 0 (every-index (sample_in ss fs) 0 (sample_count ss) j (none-found (sample_in ss fs) _ known.third) lo hi))

  -- a bound program passes the block's test with what it was bound to
  pub bound-passes : program_ok b ws ss (length fs) (length tb) ≡ true
  unfolding program_ok
  bound-passes = ap (λ x. every (program_tests x ws ss (length fs) (length tb))) (sym known.made) ∙ sym (
      after (eq-eqb (region_count ws) (region_count ws) refl) (after (eq-eqb (sample_count ss) (sample_count ss) refl)
      (after (le-leb (length fs) (length fs) (omega arith)) (after (le-leb 8194 (length tb) (let e = table-length in omega arith))
      (after known.first (after regions (final (sym shapes))))))))

-- what the block's test shows
module _ (b : BoundProgram) (ws ss : List ℕ) (frames table : ℕ) (ok : program_ok b ws ss frames table ≡ true) where
  fact : (i : ℕ) → get_or (program_tests b ws ss frames table) i true ≡ true
  unfolding program_ok
  fact i = every-at (program_tests b ws ss frames table) i ok

  pub regions-are : region_count ws ≡ b.regions
  regions-are = eqb-true (region_count ws) b.regions (fact 0)

  pub samples-are : sample_count ss ≡ b.samples
  samples-are = eqb-true (sample_count ss) b.samples (fact 1)

  pub frames-enough : b.frames ≤ frames
  frames-enough = leb-true b.frames frames (fact 2)

  pub table-enough : 8194 ≤ table
  table-enough = leb-true 8194 table (fact 3)

  pub region-good : (i : ℕ) → i < b.regions → valid_region b.samples (words_of ws i) ≡ true
  region-good i h =
      ap (λ m. valid_region m (words_of ws i)) (sym samples-are)
      ∙ every-index (region_in ws (sample_count ss)) 0 (region_count ws) i (fact 5) (omega arith) (let e = regions-are in omega arith)

  pub region-counts : (i : ℕ) → i < b.regions → CountsIn (words_of ws i)
  region-counts i h = counts-known (words_of ws i) (every-index (counts_in ws) 0 (region_count ws) i (few-parts ws ss (fact 4)) (omega arith) (let e = regions-are in omega arith))

  pub sample-good : (j : ℕ) → j < b.samples → every (shape_tests b.frames (sample_at ss j)) ≡ true
  sample-good j h = every-index (shape_in ss b.frames) 0 (sample_count ss) j (fact 6) (omega arith) (let e = samples-are in omega arith)

  -- the frames of a good sample are among those bound, and so among those lent
  pub sample-inside : (j : ℕ) → j < b.samples → (sample_at ss j).start + (sample_at ss j).channels * (sample_at ss j).frames ≤ frames
  sample-inside j h =
      let s = sample_at ss j in
      let e = leb-true (s.start + s.channels * s.frames) b.frames (every-at (shape_tests b.frames s) 5 (sample-good j h)) in
      let f = frames-enough in omega arith
