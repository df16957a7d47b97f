use Rattle.std.proofs.Common.{length}
use Rattle.session.proofs.+stands_twice.Given as goal

abbrev pub decreases-stands_twice : goal.decreases-stands_twice
decreases-stands_twice l = length l.ids.now
