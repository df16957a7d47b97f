use mathlib.Core.Path.{sym, ◌∙◌}
use Rattle.lines.proofs.Tables.{row_no, row_yes, no_row_fits}
use Rattle.lines.proofs.rows.fields_fit.Goals as goal

pub returns-then-not-row_fits : goal.returns-then-not-row_fits
returns-then-not-row_fits c = sym (c.loop-i.invariant ∙ row_no c.args.line.now c.args.rows.now c.loop-i.i c.loop-i-test.true _ c.field.result.now c.field.ensures c.if-not-row_fits.ensures)

pub loop-i-preserved : goal.loop-i-preserved
loop-i-preserved c = c.loop-i.invariant ∙ row_yes c.args.line.now c.args.rows.now c.loop-i.i c.loop-i-test.true _ c.field.result.now c.field.ensures c.if-not-row_fits.ensures

pub returns : goal.returns
returns c = sym (c.loop-i.invariant ∙ no_row_fits c.args.line.now c.args.rows.now c.loop-i.i c.loop-i-test.false)
