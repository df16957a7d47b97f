use Rattle.std.proofs.Common.{◌≡◌}
use Rattle.session.proofs.Walks.{on_first}
use Rattle.session.specs.Lists.{change_if}
use Rattle.session.specs.Records.{choked_by, marked}
use Rattle.session.proofs.choke.Given as goal

abbrev pub invariant-loop-r : goal.invariant-loop-r
invariant-loop-r l = l.r-items ≡ on_first (change_if (choked_by l.st) (marked l.st.at)) l.r-index l.initial.r-items
