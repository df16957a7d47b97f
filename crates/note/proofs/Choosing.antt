-- The loops that choose regions. Assumes nothing.
use Rattle.std.specs.Prelude.{filter}
use Prim.Native.Nat.{ℕ, ◌+◌, ◌<◌, ◌≤◌}
use mathlib.Core.Path.{◌≡◌, refl, sym, ap, ◌∙◌}
use mathlib.Core.Bool.{Bool, true, false, cond}
use mathlib.Core.List.{List, [], ◌∷◌, ◌++◌, foldl, append-nil, append_assoc}
use native.Mathlib.Omega.{arith}
use lib.ListN.{length, take, replicate, set, length-append, length-replicate}
use lib.Seq.{take_all, take-append-le, length-take-le}
use lib.Dec.{ltb}
use lib.Ieee.{Float}
use borrow.Author.Tests.{ltb-true, ltb-false, le-ltb}
use Rattle.std.specs.List.{range_with_len}
use Rattle.std.specs.List.{filter}
use Rattle.program.specs.Lookup.{holds_key, regions_for_key}
use Rattle.program.specs.Region.{region_at}
use Rattle.session.specs.Lists.{packed}
use Rattle.session.specs.declared.Sequences.{Sequences}
use Rattle.session.specs.declared.Session.{Session}
use Rattle.session.proofs.Packing.{packed-set}
use Rattle.note.specs.Choice.{Hit, Choosing, moved, starts_on, choose_one, choosing_on, starts_off, chosen_off, chosen_from, chosen_on, add_region, chosen_step}
use Rattle.note.specs.declared.Chosen.{Chosen}
use Rattle.note.specs.declared.choice.ChosenOn.{ChosenOn}

-- ---- the array

-- one region more
pub added : (is : List ℕ) (i : ℕ) → add_region i (chosen_from is) ≡ chosen_from (is ++ (i ∷ []))
unfolding add_region
added is i = by-case (ltb (length is) 256) refl where
  by-case : (t : Bool) → ltb (length is) 256 ≡ t
      → cond (ltb (length (take 256 is)) 256) (record { regions = set (packed (take 256 is) (replicate 256 0)) (length (take 256 is)) i; count = length (take 256 is) + 1 }) (chosen_from is)
      ≡ chosen_from (is ++ (i ∷ []))
  by-case true e =
      let h : length is < 256 = ltb-true (length is) 256 e in
      let all : take 256 is ≡ is = take_all 256 is (omega arith) in
      let n : length (is ++ (i ∷ [])) ≡ length is + 1 = length-append is (i ∷ []) in
      let alls : take 256 (is ++ (i ∷ [])) ≡ is ++ (i ∷ []) = take_all 256 (is ++ (i ∷ [])) (omega arith) in
      ap (λ l. cond (ltb (length l) 256) (record { regions = set (packed l (replicate 256 0)) (length l) i; count = length l + 1 }) (chosen_from is)) all
      ∙ ap (λ t. cond t (record { regions = set (packed is (replicate 256 0)) (length is) i; count = length is + 1 }) (chosen_from is)) e
      ∙ ap (λ l. record { regions = l; count = length is + 1 }) (packed-set is (replicate 256 0) i 0 (omega (arith, length-replicate {A = ℕ} 256 0)))
      ∙ ap (λ k. record { regions = packed (is ++ (i ∷ [])) (replicate 256 0); count = k }) (sym n)
      ∙ ap (λ l. record { regions = packed l (replicate 256 0); count = length l }) (sym alls)
  by-case false e =
      let h : 256 ≤ length is = ltb-false (length is) 256 e in
      let n : length (take 256 is) ≡ 256 = length-take-le 256 is h in
      let same : take 256 (is ++ (i ∷ [])) ≡ take 256 is = take-append-le 256 is (i ∷ []) h in
      ap (λ t. cond t (record { regions = set (packed (take 256 is) (replicate 256 0)) (length (take 256 is)) i; count = length (take 256 is) + 1 }) (chosen_from is)) (le-ltb (length (take 256 is)) 256 (omega arith))
      ∙ ap (λ l. record { regions = packed l (replicate 256 0); count = length l }) (sym same)

-- ---- at a note-on

abbrev pub as_array : Choosing → ChosenOn
as_array c = record { seq = c.seq; chosen = chosen_from c.regions }

module _ (h : Hit) where
  step-array : (c : Choosing) (i : ℕ) → chosen_step h (as_array c) i ≡ as_array (choose_one h c i)
  unfolding chosen_step choose_one
  step-array c i = by-case (starts_on h (moved (region_at h.words i) i c.seq) i) where
    by-case : (t : Bool) → (record { seq = moved (region_at h.words i) i c.seq; chosen = cond t (add_region i (chosen_from c.regions)) (chosen_from c.regions) })
        ≡ as_array (record { seq = moved (region_at h.words i) i c.seq; regions = cond t (c.regions ++ (i ∷ [])) c.regions })
    by-case true = ap (λ (x : Chosen). record { seq = moved (region_at h.words i) i c.seq; chosen = x }) (added c.regions i)
    by-case false = refl

  fold-array : (c : Choosing) (is : List ℕ) → foldl (chosen_step h) (as_array c) is ≡ as_array (foldl (choose_one h) c is)
  fold-array c [] = refl
  fold-array c (i ∷ is) = ap (λ x. foldl (chosen_step h) x is) (step-array c i) ∙ fold-array (choose_one h c i) is

  pub array-on : (n key : ℕ) (q : Sequences) (c : Chosen) → c ≡ chosen_from []
      → foldl (chosen_step h) (record { seq = q; chosen = c }) (filter (holds_key h.words key) (range_with_len 0 n)) ≡ chosen_on h n key q
  unfolding chosen_on choosing_on regions_for_key
  array-on n key q c e =
      ap (λ (x : Chosen). foldl (chosen_step h) (record { seq = q; chosen = x }) (filter (holds_key h.words key) (range_with_len 0 n))) e
      ∙ fold-array (record { seq = q; regions = [] }) (regions_for_key h.words n key)

-- ---- at a note's release

fold-added : (ks is : List ℕ) → foldl (λ c i. add_region i c) (chosen_from ks) is ≡ chosen_from (ks ++ is)
fold-added ks [] = ap chosen_from (sym (append-nil ks))
fold-added ks (i ∷ is) = ap (λ x. foldl (λ c k. add_region k c) x is) (added ks i) ∙ fold-added (ks ++ (i ∷ [])) is ∙ ap chosen_from (append_assoc ks (i ∷ []) is)

pub array-off : (ws : List ℕ) (vel : ℕ) (draw : Float) (s : Session) (n key : ℕ) (c : Chosen) → c ≡ chosen_from []
    → foldl (λ d i. add_region i d) c (filter (starts_off ws vel draw s) (filter (holds_key ws key) (range_with_len 0 n))) ≡ chosen_from (chosen_off ws n key vel draw s)
unfolding chosen_off regions_for_key
array-off ws vel draw s n key c e =
    ap (λ (x : Chosen). foldl (λ d i. add_region i d) x (filter (starts_off ws vel draw s) (regions_for_key ws n key))) e
    ∙ fold-added [] (filter (starts_off ws vel draw s) (regions_for_key ws n key))
