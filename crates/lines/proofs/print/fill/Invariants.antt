use Rattle.std.proofs.Common.{◌≡◌}
use Rattle.std.proofs.lemmas.List.Edits.{sets}
use Rattle.lines.specs.Print.{last_digits}
use Rattle.lines.proofs.print.fill.Given as goal

abbrev pub invariant-loop-i : goal.invariant-loop-i
invariant-loop-i l = sets l.initial.out l.at (last_digits l.base l.k l.n) ≡ sets l.out l.at (last_digits l.base l.i l.rest)
