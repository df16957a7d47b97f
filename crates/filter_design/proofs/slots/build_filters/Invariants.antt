-- The first k slots are filled.
use Rattle.std.proofs.Common.{◌≡◌, ◌++◌, ℕ, ◌<◌, map, length, get_or}
use Rattle.filter.specs.declared.FilterShape.TheVariants.{Off}
use Rattle.filter_design.specs.Slots.{filter_slot, band_slot, slot_at}
use Rattle.filter_design.proofs.slots.build_filters.Given as goal

abbrev pub invariant-loop-k : goal.invariant-loop-k
invariant-loop-k l = record { long : length l.slot-items ≡ 6; filled : (i : ℕ) → i < l.k → get_or l.slot-items i Off ≡ slot_at (map (filter_slot l.note l.vel l.sr) l.filters ++ map (band_slot l.vel l.sr) l.bands) i }
