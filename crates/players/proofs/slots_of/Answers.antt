use mathlib.Core.Path.{refl, ap, ◌∙◌}
use lib.Seq.{take_all}
use Rattle.players.specs.Seats.{slots_from, slot_numbers}
use Rattle.players.proofs.Kept.{sounding-few}
use Rattle.players.proofs.Places.{slots_next, slots_next-room}
use Rattle.players.proofs.slots_of.Goals as goal

pub loop-p-init : goal.loop-p-init
loop-p-init c = (rw c.as_slice-players.ensures (sounding-few c.args.ps.now), refl)

pub push_slot-requires : goal.push_slot-requires
push_slot-requires c = let l = c.loop-p in slots_next-room c.as_slice-players.result.now l.p-index l.slots l.invariant.1 c.loop-p-test.true l.invariant.0

pub loop-p-preserved : goal.loop-p-preserved
loop-p-preserved c = let l = c.loop-p in
    (l.invariant.0, c.push_slot.ensures ∙ slots_next c.as_slice-players.result.now l.p-index _ l.slots l.invariant.1 c.loop-p-test.true l.invariant.0)

pub returns : goal.returns
returns c = let l = c.loop-p in
    l.invariant.1 ∙ ap (λ k. slots_from (slot_numbers k)) (take_all l.p-index _ c.loop-p-test.false ∙ c.as_slice-players.ensures)
