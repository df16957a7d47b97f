use Rattle.lines.proofs.Numerals.{Reading}
use Rattle.lines.proofs.field.numeral.Given as goal

abbrev pub invariant-loop-c : goal.invariant-loop-c
invariant-loop-c l = Reading l.base l.max l.f l.n l.c-index
