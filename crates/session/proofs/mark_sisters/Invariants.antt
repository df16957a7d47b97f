use Rattle.std.proofs.Common.{◌≡◌}
use Rattle.session.proofs.Walks.{on_first}
use Rattle.session.specs.Lists.{change_if}
use Rattle.session.specs.Records.{is_sister, marked}
use Rattle.session.proofs.mark_sisters.Given as goal

abbrev pub invariant-loop-r : goal.invariant-loop-r
invariant-loop-r l = l.r-items ≡ on_first (change_if (is_sister l.voice l.start) (marked l.at)) l.r-index l.initial.r-items
