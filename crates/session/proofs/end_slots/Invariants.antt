use Rattle.std.proofs.Common.{◌≡◌}
use Rattle.session.proofs.Walks.{on_first}
use Rattle.session.specs.Lists.{change_if}
use Rattle.session.specs.Records.{in_slots, ended}
use Rattle.session.proofs.end_slots.Given as goal

abbrev pub invariant-loop-r : goal.invariant-loop-r
invariant-loop-r l = l.r-items ≡ on_first (change_if (in_slots l.voice l.slots) (ended)) l.r-index l.initial.r-items
