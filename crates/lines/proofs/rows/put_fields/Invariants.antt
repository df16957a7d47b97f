use Rattle.std.proofs.Common.{◌≡◌, ◌+◌, drop}
use Rattle.lines.specs.Rows.{put_fields}
use Rattle.lines.proofs.rows.put_fields.Given as goal

abbrev pub invariant-loop-i : goal.invariant-loop-i
invariant-loop-i l = put_fields l.line 1 l.rows l.initial.w ≡ put_fields l.line (l.i + 1) (drop l.i l.rows) l.w
