use Rattle.std.proofs.Common.{◌∙◌}
use Rattle.session.proofs.Walks.{walk-hit, walk-miss, walk-done}
use Rattle.session.specs.Records.{choked_by, marked}
use Rattle.session.specs.Rules.{choke}
use Rattle.session.proofs.choke.Goals as goal
use Rattle.session.proofs.choke.Goals.{then-chokes, else-chokes}

pub loop-r-preserved : goal.loop-r-preserved
loop-r-preserved c = elim c.if-chokes.branch [ then-chokes w ↦ w.r-items-is ∙ walk-hit (choked_by c.args.st) (marked c.args.st.at) _ _ _ c.loop-r.invariant _ _ c.chokes.ensures _ w.if-chokes.true w.marked.ensures | else-chokes w ↦ w.r-items-is ∙ walk-miss (choked_by c.args.st) (marked c.args.st.at) _ _ _ c.loop-r.invariant _ _ c.chokes.ensures w.if-chokes.false ]

pub returns : goal.returns
unfolding choke
returns c = walk-done (choked_by c.args.st) (marked c.args.st.at) _ _ _ c.loop-r.invariant c.loop-r-test.false
