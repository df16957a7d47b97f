use Rattle.elementary.proofs.Root.{Halves}
use Rattle.elementary.proofs.log.root.Given as goal

abbrev pub invariant-loop-w : goal.invariant-loop-w
invariant-loop-w l = Halves l.m l.k l.w

abbrev pub decreases-loop-w : goal.decreases-loop-w
decreases-loop-w l = l.w
