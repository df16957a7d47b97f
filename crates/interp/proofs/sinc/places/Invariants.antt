use Rattle.std.proofs.Common.{◌*◌}
use Rattle.interp.specs.Places.{Placed}
use Rattle.interp.proofs.sinc.places.Given as goal

abbrev pub invariant-loop-j : goal.invariant-loop-j
invariant-loop-j l = Placed l.span l.f l.entries l.parts (4 * l.j)
