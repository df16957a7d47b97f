use Rattle.std.proofs.Common.{◌≡◌, ℕ, ◌+◌, ◌<◌, ◌++◌, List, length, map, get_or, min, arith, ◌∙◌, length-append, length-set}
use Rattle.std.proofs.lemmas.List.{length-map}
use Rattle.std.proofs.lemmas.List.Edits.{fill_by_more}
use Rattle.std.proofs.lemmas.List.FromFn.{fill_by_all}
use Rattle.filter.specs.declared.FilterShape.{FilterShape}
use Rattle.filter.specs.declared.FilterShape.TheVariants.{Off}
use Rattle.filter_design.specs.Slots.{filter_slot, band_slot, slot_at, six_of}
use Rattle.filter_design.specs.declared.slots.Filters.{Filters}
use Rattle.filter_design.proofs.slots.build_filters.Goals as goal

first_six : (l slots : List FilterShape) (count : ℕ) → length slots ≡ 6 → ((k : ℕ) → k < 6 → get_or slots k Off ≡ slot_at l k) → count ≡ min (length l) 6 → ◌≡◌ {A = Filters} (record { slots = slots; count = count }) (six_of l)
unfolding six_of
first_six l slots count n h e = rw (e, fill_by_all (slot_at l) slots 6 Off n h)

pub loop-k-preserved : goal.loop-k-preserved
loop-k-preserved c = let a = c.args in
    let x = c.loop-k in
    let l = map (filter_slot a.note a.vel a.sr) c.in_use-filters.result.now ++ map (band_slot a.vel a.sr) c.in_use-bands.result.now in
    record {
      long = length-set x.slot-items x.k _ ∙ x.invariant.long;
      filled = rw c.slot_at.ensures (fill_by_more (slot_at l) x.slot-items x.k Off (omega arith) x.invariant.filled);
    }

pub returns : goal.returns
returns c = let a = c.args in
    let fs = c.in_use-filters.result.now in
    let bs = c.in_use-bands.result.now in
    let l = map (filter_slot a.note a.vel a.sr) fs ++ map (band_slot a.vel a.sr) bs in
    let n : length l ≡ length fs + length bs = simp (length-append, length-map) in
    rw (← c.in_use-filters.ensures, ← c.in_use-bands.ensures) (first_six l c.loop-k.slot-items c.min-count.result c.loop-k.invariant.long (λ k h. c.loop-k.invariant.filled k (omega arith)) (rw n c.min-count.ensures))
