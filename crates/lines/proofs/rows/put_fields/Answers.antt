use mathlib.Core.Path.{sym, ◌∙◌}
use Rattle.lines.proofs.Tables.{row_put, no_row_put}
use Rattle.lines.proofs.rows.put_fields.Goals as goal

pub loop-i-preserved : goal.loop-i-preserved
loop-i-preserved c = c.loop-i.invariant ∙ row_put c.args.line.now c.args.rows.now c.loop-i.i c.loop-i-test.true _ c.field.result.now c.field.ensures _ _ c.put_row.ensures

pub returns : goal.returns
returns c = sym (c.loop-i.invariant ∙ no_row_put c.args.line.now c.args.rows.now c.loop-i.i _ c.loop-i-test.false)
