use borrow.Author.Tests.{eq-eqb, ne_eqb}
use Rattle.block.proofs.render.end_records.Goals as goal

pub returns-then-ended-eq0 : goal.returns-then-ended-eq0
returns-then-ended-eq0 c = rw (eq-eqb _ _ c.if-ended-eq0.true)

pub returns : goal.returns
returns c = rw (ne_eqb _ _ c.if-ended-eq0.false) c.mark_ended.ensures
