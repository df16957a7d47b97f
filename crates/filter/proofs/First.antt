-- The first n of a player's slots, lent to `chain` as a slice. Assumes nothing.
use Rattle.std.proofs.Common.{◌≡◌, ℕ, zero, suc, ◌≤◌, Bool, true, false, List, length, take, refl, ltb, arith, length-take}
use Rattle.std.proofs.Math.Seq.{get_or-take}
use Rattle.std.proofs.Math.ListN.{get_or-eq_default}
use borrow.Author.Tests.{ltb-true, ltb-false}
use Rattle.filter.specs.declared.FilterShape.{FilterShape}
use Rattle.filter.specs.declared.FilterShape.TheVariants.{Off}
use Rattle.filter.specs.Filter.{Paired, stage_count, shape_at, chained, AllStages}

module _ (slots : List FilterShape) (n : ℕ) where
  through : (stereo : Bool) (k : ℕ) (s : Paired) → k ≤ n → chained (take n slots) stereo k s ≡ chained slots stereo k s
  unfolding chained
  through stereo zero s h = refl
  through stereo (suc k) s h = rw (get_or-take n slots k Off (omega arith), through stereo k s (omega arith))

  pub chained-first : (stereo : Bool) (s : Paired) → n ≤ length slots → chained (take n slots) stereo (length (take n slots)) s ≡ chained slots stereo n s
  chained-first stereo s h =
      let e : length (take n slots) ≡ n = omega (arith, length-take n slots) in
      rw e (through stereo n s (omega arith))

  pub AllStages-first : AllStages slots → AllStages (take n slots)
  AllStages-first h k = by-case (ltb k n) refl
    where
      by-case : (t : Bool) → ltb k n ≡ t → stage_count (shape_at (take n slots) k) ≤ 3
      by-case true q = rw (get_or-take n slots k Off (ltb-true k n q)) (h k)
      by-case false q =
          let e : length (take n slots) ≤ k = omega (arith, length-take n slots, ltb-false k n q) in
          rw (get_or-eq_default (take n slots) Off e) (omega arith)
