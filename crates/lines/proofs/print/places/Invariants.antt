use Rattle.std.proofs.Common.{◌≡◌, ◌+◌, ◌-◌}
use Rattle.lines.specs.Print.{places_in}
use Rattle.lines.proofs.print.places.Given as goal

abbrev pub invariant-loop-k : goal.invariant-loop-k
invariant-loop-k l = places_in 19 l.n ≡ l.k - 1 + places_in (20 - l.k) l.rest
