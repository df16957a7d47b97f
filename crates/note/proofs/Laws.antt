-- What is chosen, for the crates above: how many, which, and what the sequences keep. Assumes nothing.
use Rattle.session.proofs.Relist.{keep-fewer}
use Rattle.std.specs.Prelude.{filter, ◌||◌}
use Prim.Native.Nat.{ℕ, zero, suc, ◌+◌, ◌<◌, ◌≤◌}
use mathlib.Core.Path.{◌≡◌, refl, ap, ◌∙◌}
use mathlib.Core.Bool.{Bool, true, false, cond}
use mathlib.Core.List.{List, [], ◌∷◌, ◌++◌, foldl}
use native.Mathlib.Omega.{arith}
use lib.ListN.{length, take, drop, replicate, length-append, length-set}
use lib.Seq.{take_all, take-append_seam}
use lib.Dec.{eqb}
use lib.Ieee.{Float}
use borrow.Author.Tests.{eqb-true}
use Rattle.std.specs.List.{range_with_len}
use Rattle.std.specs.List.{filter}
use Rattle.program.specs.Lookup.{holds_key, regions_for_key}
use Rattle.program.specs.Region.{region_at}
use Rattle.session.specs.Lists.{elem, used_of, packed}
use Rattle.session.specs.State.{seq_stepped}
use Rattle.session.specs.declared.Sequences.{Sequences}
use Rattle.session.specs.declared.Session.{Session}
use Rattle.session.proofs.Walks.{used-small}
use Rattle.note.specs.Choice.{Hit, Choosing, moved, starts_on, choose_one, choosing_on, starts_off, chosen_off, chosen_from, chosen_list}

-- ---- the array

-- of at most 256 regions none is lost
pub chosen-list : (is : List ℕ) → length is ≤ 256 → chosen_list (chosen_from is) ≡ is
chosen-list is h =
    ap (λ l. take (used_of 256 (length l)) (packed l (replicate 256 0))) (take_all 256 is h)
    ∙ ap (λ k. take k (packed is (replicate 256 0))) (used-small 256 (length is) h)
    ∙ take-append_seam is (drop (length is) (replicate 256 0))

-- ---- of each in a list

pub data Each (P : ℕ → Type 0) : List ℕ → Type 0 where
  none : Each P []
  also : {i : ℕ} {is : List ℕ} → P i → Each P is → Each P (i ∷ is)

module _ {P : ℕ → Type 0} where
  pub each-elem : {is : List ℕ} (k : ℕ) → Each P is → elem k is ≡ true → P k
  each-elem k none e = absurd (let z : ◌≡◌ {A = ℕ} 0 1 = cc in omega arith)
  each-elem k (also {i} {is} h hs) e = by-case (eqb i k) refl e h (each-elem k hs) where
    by-case : (t : Bool) → eqb i k ≡ t → t || elem k is ≡ true → P i → (elem k is ≡ true → P k) → P k
    by-case true f g here later = rw (eqb-true i k f) at here
    by-case false f g here later = later g

  each_snoc : {is : List ℕ} {i : ℕ} → Each P is → P i → Each P (is ++ (i ∷ []))
  each_snoc none h = also h none
  each_snoc (also k ks) h = also k (each_snoc ks h)

  each_keep : (p : ℕ → Bool) {is : List ℕ} → Each P is → Each P (filter p is)
  each_keep p none = none
  each_keep p (also {i} {is} h hs) = by-case (p i) (each_keep p hs) where
    by-case : (t : Bool) → Each P (filter p is) → Each P (cond t (i ∷ filter p is) (filter p is))
    by-case true rest = also h rest
    by-case false rest = rest

-- ---- the regions of a key

kept-few : (p : ℕ → Bool) (i k : ℕ) → length (filter p (range_with_len i k)) ≤ k
kept-few p i zero = omega arith
kept-few p i (suc k) = by-case (p i) (kept-few p (i + 1) k) where
  by-case : (t : Bool) → length (filter p (range_with_len (i + 1) k)) ≤ k
      → length (cond t (i ∷ filter p (range_with_len (i + 1) k)) (filter p (range_with_len (i + 1) k))) ≤ suc k
  by-case true h = omega arith
  by-case false h = omega arith

kept-below : (p : ℕ → Bool) (n i k : ℕ) → i + k ≤ n → Each (λ j. j < n) (filter p (range_with_len i k))
kept-below p n i zero h = none
kept-below p n i (suc k) h = by-case (p i) (kept-below p n (i + 1) k (omega arith)) where
  by-case : (t : Bool) → Each (λ j. j < n) (filter p (range_with_len (i + 1) k))
      → Each (λ j. j < n) (cond t (i ∷ filter p (range_with_len (i + 1) k)) (filter p (range_with_len (i + 1) k)))
  by-case true rest = let inside : i < n = omega arith in also inside rest
  by-case false rest = rest

module _ (ws : List ℕ) (n key : ℕ) where
  pub regions-few : length (regions_for_key ws n key) ≤ n
  unfolding regions_for_key
  regions-few = kept-few (holds_key ws key) 0 n

  pub regions-below : Each (λ j. j < n) (regions_for_key ws n key)
  unfolding regions_for_key
  regions-below = kept-below (holds_key ws key) n 0 n (omega arith)

-- ---- at a note-on

module _ (h : Hit) where
  one_more : (c : Choosing) (i : ℕ) → length (choose_one h c i).regions ≤ length c.regions + 1
  unfolding choose_one
  one_more c i = by-case (starts_on h (moved (region_at h.words i) i c.seq) i) where
    by-case : (t : Bool) → length (cond t (c.regions ++ (i ∷ [])) c.regions) ≤ length c.regions + 1
    by-case true = omega (arith, length-append c.regions (i ∷ []))
    by-case false = omega arith

  more-few : (c : Choosing) (is : List ℕ) → length (foldl (choose_one h) c is).regions ≤ length c.regions + length is
  more-few c [] = omega arith
  more-few c (i ∷ is) = omega (arith, more-few (choose_one h c i) is, one_more c i)

  one_each : {P : ℕ → Type 0} (c : Choosing) (i : ℕ) → Each P c.regions → P i → Each P (choose_one h c i).regions
  unfolding choose_one
  one_each {P} c i hs k = by-case (starts_on h (moved (region_at h.words i) i c.seq) i) where
    by-case : (t : Bool) → Each P (cond t (c.regions ++ (i ∷ [])) c.regions)
    by-case true = each_snoc hs k
    by-case false = hs

  more-each : {P : ℕ → Type 0} (c : Choosing) {is : List ℕ} → Each P c.regions → Each P is → Each P (foldl (choose_one h) c is).regions
  more-each c hs none = hs
  more-each c hs (also {i} k ks) = more-each (choose_one h c i) (one_each c i hs k) ks

  counters-one : (c : Choosing) (i : ℕ) → length (choose_one h c i).seq.seq_counter ≡ length c.seq.seq_counter
  unfolding choose_one seq_stepped
  counters-one c i = simp length-set

  flags-one : (c : Choosing) (i : ℕ) → length (choose_one h c i).seq.seq_on ≡ length c.seq.seq_on
  unfolding choose_one seq_stepped
  flags-one c i = simp length-set

  counters-more : (c : Choosing) (is : List ℕ) → length (foldl (choose_one h) c is).seq.seq_counter ≡ length c.seq.seq_counter
  counters-more c [] = refl
  counters-more c (i ∷ is) = counters-more (choose_one h c i) is ∙ counters-one c i

  flags-more : (c : Choosing) (is : List ℕ) → length (foldl (choose_one h) c is).seq.seq_on ≡ length c.seq.seq_on
  flags-more c [] = refl
  flags-more c (i ∷ is) = flags-more (choose_one h c i) is ∙ flags-one c i

  module _ (n key : ℕ) (q : Sequences) where
    pub on-few : length (choosing_on h n key q).regions ≤ n
    unfolding choosing_on
    on-few = omega (arith, more-few (record { seq = q; regions = [] }) (regions_for_key h.words n key), regions-few h.words n key)

    pub on_below : Each (λ j. j < n) (choosing_on h n key q).regions
    unfolding choosing_on
    on_below = more-each (record { seq = q; regions = [] }) none (regions-below h.words n key)

    -- each list of the sequences stays as long as it was
    pub on-counters : length (choosing_on h n key q).seq.seq_counter ≡ length q.seq_counter
    unfolding choosing_on
    on-counters = counters-more (record { seq = q; regions = [] }) (regions_for_key h.words n key)

    pub on-flags : length (choosing_on h n key q).seq.seq_on ≡ length q.seq_on
    unfolding choosing_on
    on-flags = flags-more (record { seq = q; regions = [] }) (regions_for_key h.words n key)

-- ---- at a note's release

module _ (ws : List ℕ) (n key vel : ℕ) (draw : Float) (s : Session) where
  pub off-few : length (chosen_off ws n key vel draw s) ≤ n
  unfolding chosen_off
  off-few = omega (arith, keep-fewer (starts_off ws vel draw s) (regions_for_key ws n key), regions-few ws n key)

  pub off-below : Each (λ j. j < n) (chosen_off ws n key vel draw s)
  unfolding chosen_off
  off-below = each_keep (starts_off ws vel draw s) (regions-below ws n key)
