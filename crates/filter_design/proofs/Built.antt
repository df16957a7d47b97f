-- The slots of a region meet what `filter::chain` requires: at most six of them, and none with more than three stages. Assumes nothing.
use mathlib.Core.List.{List, [], ◌∷◌, ◌++◌, map}
use Prim.Native.Nat.{ℕ, zero, suc, ◌≤◌}
use native.Mathlib.Omega.{arith}
use lib.Dec.{lit≤}
use lib.ListN.{take}
use lib.Ieee.{Float}
use Rattle.program.specs.declared.region.FilterKind.{FilterKind}
use Rattle.program.specs.declared.region.FilterKind.TheVariants.{Lpf1p, Hpf1p, Lpf2p, Hpf2p, Bpf2p, Brf2p, Lpf4p, Hpf4p, Lpf6p, Hpf6p, Peq, Lsh, Hsh}
use Rattle.program.specs.declared.region.EqKind.{EqKind}
use Rattle.program.specs.declared.region.EqKind.TheVariants.{Peak, LowShelf, HighShelf}
use Rattle.program.specs.declared.region.Filter.{Filter}
use Rattle.program.specs.declared.region.EqBand.{EqBand}
use Rattle.program.specs.declared.region.Region.{Region}
use Rattle.filter.specs.declared.FilterShape.{FilterShape}
use Rattle.filter.specs.Filter.{stage_count, AllStages}
use Rattle.filter_design.specs.Slots.{designed, filter_shape, equalized, band_shape, filter_slot, band_slot, run, slot_at, six_of}

designed-stages : (k : FilterKind) (freq q gain rate : Float) → stage_count (designed k freq q gain rate) ≤ 3
unfolding designed
designed-stages Lpf1p freq q gain rate = lit≤ tt
designed-stages Hpf1p freq q gain rate = lit≤ tt
designed-stages Lpf2p freq q gain rate = lit≤ tt
designed-stages Hpf2p freq q gain rate = lit≤ tt
designed-stages Bpf2p freq q gain rate = lit≤ tt
designed-stages Brf2p freq q gain rate = lit≤ tt
designed-stages Lpf4p freq q gain rate = lit≤ tt
designed-stages Hpf4p freq q gain rate = lit≤ tt
designed-stages Lpf6p freq q gain rate = lit≤ tt
designed-stages Hpf6p freq q gain rate = lit≤ tt
designed-stages Peq freq q gain rate = lit≤ tt
designed-stages Lsh freq q gain rate = lit≤ tt
designed-stages Hsh freq q gain rate = lit≤ tt

equalized-stages : (k : EqKind) (freq q gain rate : Float) → stage_count (equalized k freq q gain rate) ≤ 3
unfolding equalized
equalized-stages Peak freq q gain rate = lit≤ tt
equalized-stages LowShelf freq q gain rate = lit≤ tt
equalized-stages HighShelf freq q gain rate = lit≤ tt

abbrev Short : FilterShape → Type 0
Short s = stage_count s ≤ 3

filter-short : (note vel : ℕ) (rate : Float) (f : Filter) → Short (filter_slot note vel rate f)
unfolding filter_shape
filter-short note vel rate f = designed-stages f.kind _ _ _ _

band-short : (vel : ℕ) (rate : Float) (b : EqBand) → Short (band_slot vel rate b)
unfolding band_shape
band-short vel rate b = equalized-stages b.kind _ _ _ _

module _ (note vel : ℕ) (rate : Float) where
  bands-short : (bs : List EqBand) (k : ℕ) → Short (slot_at (map (band_slot vel rate) bs) k)
  bands-short [] k = lit≤ tt
  bands-short (b ∷ bs) zero = band-short vel rate b
  bands-short (b ∷ bs) (suc k) = bands-short bs k

  all_short : (fs : List Filter) (bs : List EqBand) (k : ℕ) → Short (slot_at (map (filter_slot note vel rate) fs ++ map (band_slot vel rate) bs) k)
  all_short [] bs k = bands-short bs k
  all_short (f ∷ fs) bs zero = filter-short note vel rate f
  all_short (f ∷ fs) bs (suc k) = all_short fs bs k

six-short : (l : List FilterShape) → ((k : ℕ) → Short (slot_at l k)) → AllStages (six_of l).slots
unfolding six_of
six-short l h zero = h 0
six-short l h (suc zero) = h 1
six-short l h (suc (suc zero)) = h 2
six-short l h (suc (suc (suc zero))) = h 3
six-short l h (suc (suc (suc (suc zero)))) = h 4
six-short l h (suc (suc (suc (suc (suc zero))))) = h 5
six-short l h (suc (suc (suc (suc (suc (suc k)))))) = lit≤ tt

pub built-stages : (x : Region) (note vel : ℕ) (rate : Float) → AllStages (six_of (run x note vel rate)).slots
built-stages x note vel rate = six-short (run x note vel rate) (all_short note vel rate (take x.filter_count x.filters) (take x.eq_count x.eq))

pub built-count : (l : List FilterShape) → (six_of l).count ≤ 6
unfolding six_of
built-count l = omega arith
