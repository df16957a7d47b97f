use mathlib.Core.Path.{ap}
use mathlib.Core.Bool.{not}
use borrow.Author.Tests.{eq-eqb, ne_eqb, not-true, not-false}
use Rattle.voice.specs.Calls.{is_finished}
use Rattle.voice.proofs.finished.Goals as goal

pub returns-then-not-v : goal.returns-then-not-v
unfolding is_finished
returns-then-not-v c = simp (not-true c.args.v.started c.if-not-v.true)

pub returns-then-v-ne0 : goal.returns-then-v-ne0
unfolding is_finished
returns-then-v-ne0 c = simp (not-false c.args.v.started c.if-not-v.false, ne_eqb _ _ c.if-v-ne0.true)

pub returns : goal.returns
unfolding is_finished
returns c = simp (not-false c.args.v.started c.if-not-v.false, eq-eqb _ _ c.if-v-ne0.false) (ap not c.may_release.ensures)
