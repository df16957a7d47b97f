use Rattle.std.proofs.Common.{◌≡◌, ◌+◌, drop}
use Rattle.lines.specs.Rows.{fields_fit}
use Rattle.lines.proofs.rows.fields_fit.Given as goal

abbrev pub invariant-loop-i : goal.invariant-loop-i
invariant-loop-i l = fields_fit l.line 1 l.rows ≡ fields_fit l.line (l.i + 1) (drop l.i l.rows)
