use Rattle.std.proofs.Common.{length}
use Rattle.session.proofs.Matching.{Left}
use Rattle.session.proofs.slots_in_order.Given as goal

abbrev pub invariant-loop-r : goal.invariant-loop-r
invariant-loop-r l = Left l.voice (length l.r-items) (length l.slots) l.r-items l.slots l.r-index l.j
