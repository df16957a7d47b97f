-- Laws of lists of tests, and of the runs of words that they ask. Assumes nothing.
use Rattle.std.proofs.Common.{◌≡◌, ℕ, zero, suc, ◌+◌, ◌-◌, ◌*◌, ◌≤◌, Bool, true, false, ◌&&◌, List, [], ◌∷◌, map, length, take, drop, get_or, refl, sym, ap, ◌∙◌, arith}
use Rattle.std.specs.List.{list_all}
use Rattle.std.specs.Float.{float_is_finite}
use Rattle.std.specs.Simd.{first_chunks}
use Rattle.std.proofs.lemmas.List.{take-take, drop-drop, drop-take}
use Rattle.std.proofs.lemmas.List.Folds.{list_all-append}
use Rattle.std.proofs.lemmas.Simd.{pick_l-range_with_len}
use native.Mathlib.Nat.{add_assoc}
use lib.Dec.{leb}
use Rattle.program.specs.Region.{float_of, filter_of, filters_from, filters_of, band_of, bands_from, bands_of, byte_of, word, single, window_of, pitch_of, envelope_of, choke_of, playback_of, level_of, region_of}
use Rattle.program.specs.Valid.{every, all_finite, run, filter_numbers, filters_finite, band_numbers, bands_finite, window_tests, keys_tests, not_above, times_tests, constants, point_tests}

-- one test that fails is enough
pub every-no : (ts : List Bool) (i : ℕ) → get_or ts i true ≡ false → false ≡ every ts
every-no [] i e = sym e
every-no (true ∷ ts) zero e = cc
every-no (true ∷ ts) (suc i) e = every-no ts i e
every-no (false ∷ ts) i e = refl

pub and-true : (b : Bool) → (b && true) ≡ b
and-true true = refl
and-true false = refl

-- a test that holds leaves the others, and the last decides
pub after : {a x r : Bool} → a ≡ true → r ≡ x → r ≡ (a && x)
after {a} {x} {r} h e = e ∙ ap (λ t. t && x) (sym h)

pub final : {t r : Bool} → r ≡ t → r ≡ (t && true)
final {t} {r} e = e ∙ sym (and-true t)

pub and_left : (a b : Bool) → (a && b) ≡ true → a ≡ true
and_left true b e = refl
and_left false b e = e

pub and_right : (a b : Bool) → (a && b) ≡ true → b ≡ true
and_right true b e = e
and_right false b e = cc

-- where every test holds, each does
pub every-at : (ts : List Bool) (i : ℕ) → every ts ≡ true → get_or ts i true ≡ true
every-at [] i e = refl
every-at (t ∷ ts) zero e = and_left t (every ts) e
every-at (t ∷ ts) (suc i) e = every-at ts i (and_right t (every ts) e)

-- a part of a region's words
module _ (r : List ℕ) (long : length r ≡ 392) where
  pub part : (at n : ℕ) → at + n ≤ 392 → take n (drop at r) ≡ run r at n
  part at n h = sym (pick_l-range_with_len 0 r at n (omega arith))

  pub constants_are : all_finite (map float_of (take 19 (drop 39 r))) ≡ all_finite (constants (region_of r))
  unfolding constants region_of pitch_of envelope_of choke_of playback_of level_of
  constants_are = rw (part 39 19 (omega arith)) refl

  pub keys_are : every (keys_tests (region_of r)) ≡ (list_all (λ v. leb v 127) (map byte_of (take 5 (drop 1 r))) && every (window_tests (region_of r)))
  unfolding keys_tests region_of window_of pitch_of
  keys_are = rw (part 1 5 (omega arith)) (list_all-append (λ t. t) (map (λ v. leb v 127) (map byte_of (run r 1 5))) (window_tests (region_of r)))

  pub rand_are : all_finite (map float_of (take 2 (drop 31 r))) ≡ (float_is_finite (single r 31) && (float_is_finite (single r 32) && true))
  rand_are = rw (part 31 2 (omega arith)) refl

  pub crossfade_are : all_finite (map float_of (take 4 (drop 34 r)))
      ≡ (float_is_finite (single r 34) && (float_is_finite (single r 35) && (float_is_finite (single r 36) && (float_is_finite (single r 37) && true))))
  crossfade_are = rw (part 34 4 (omega arith)) refl

  pub times_are : every (times_tests (region_of r)) ≡ list_all (λ w. not_above (float_of 0x4561_0000) (float_of w)) (take 7 (drop 43 r))
  unfolding times_tests region_of envelope_of choke_of playback_of
  times_are = rw (part 43 7 (omega arith)) refl

  pub points_are : word r 29 ≤ 128
      → every (point_tests r) ≡ (list_all (λ v. leb v 127) (map byte_of (take (136 + word r 29 - 136) (drop 136 r))) && (all_finite (map float_of (take (264 + word r 29 - 264) (drop 264 r))) && true))
  unfolding point_tests
  points_are h =
      let k : 136 + word r 29 - 136 ≡ word r 29 = omega arith in
      let g : 264 + word r 29 - 264 ≡ word r 29 = omega arith in
      rw (k, g, part 136 (word r 29) (omega arith), part 264 (word r 29) (omega arith)) refl

  -- n parts of w words from `at` on, as runs
  parts : ℕ → ℕ → ℕ → List (List ℕ)
  parts w at zero = []
  parts w at (suc n) = run r at w ∷ parts w (at + w) n

  parts-are : (w n at : ℕ) → at + n * w ≤ 392 → first_chunks w n (take (n * w) (drop at r)) ≡ parts w at n
  unfolding parts
  parts-are w zero at h = refl
  parts-are w (suc n) at h =
      let m : suc n * w ≡ w + n * w = omega arith in
      let head : take w (take (w + n * w) (drop at r)) ≡ run r at w = take-take w (w + n * w) (drop at r) (omega arith) ∙ part at w (omega arith) in
      let rest : drop w (take (w + n * w) (drop at r)) ≡ take (n * w) (drop (at + w) r) = drop-take w (n * w) (drop at r) ∙ ap (take (n * w)) (drop-drop w at r) in
      rw (m, head, rest) (ap (λ l. run r at w ∷ l) (parts-are w n (at + w) (omega arith)))

  filter-runs : (c n at : ℕ) → list_all (λ f. all_finite (map float_of (take 5 (drop 2 f)))) (take c (parts 7 at n)) ≡ list_all (λ f. all_finite (filter_numbers f)) (take c (filters_from r at n))
  unfolding parts filter_of
  filter-runs zero n at = refl
  filter-runs (suc c) zero at = refl
  filter-runs (suc c) (suc n) at = simp add_assoc (ap (λ t. all_finite (filter_numbers (filter_of r at)) && t) (filter-runs c n (at + 7)))

  band-runs : (c n at : ℕ) → list_all (λ b. all_finite (map float_of (take 5 (drop 1 b)))) (take c (parts 6 at n)) ≡ list_all (λ b. all_finite (band_numbers b)) (take c (bands_from r at n))
  unfolding parts band_of
  band-runs zero n at = refl
  band-runs (suc c) zero at = refl
  band-runs (suc c) (suc n) at = simp add_assoc (ap (λ t. all_finite (band_numbers (band_of r at)) && t) (band-runs c n (at + 6)))

  pub filters_are : list_all (λ f. all_finite (map float_of (take 5 (drop 2 f)))) (take (word r 27) (first_chunks 7 6 (take 42 (drop 58 r)))) ≡ filters_finite (region_of r)
  unfolding region_of filters_of
  filters_are = rw (parts-are 7 6 58 (omega arith)) (filter-runs (word r 27) 6 58)

  pub bands_are : list_all (λ b. all_finite (map float_of (take 5 (drop 1 b)))) (take (word r 28) (first_chunks 6 6 (take 36 (drop 100 r)))) ≡ bands_finite (region_of r)
  unfolding region_of bands_of
  bands_are = rw (parts-are 6 6 100 (omega arith)) (band-runs (word r 28) 6 100)
