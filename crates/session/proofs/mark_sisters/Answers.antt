use Rattle.std.proofs.Common.{◌∙◌}
use Rattle.session.proofs.Walks.{walk-hit, walk-miss, walk-done}
use Rattle.session.specs.Records.{is_sister, marked}
use Rattle.session.specs.Rules.{mark_sisters}
use Rattle.session.proofs.mark_sisters.Goals as goal
use Rattle.session.proofs.mark_sisters.Goals.{then-is_sister, else-is_sister}

pub loop-r-preserved : goal.loop-r-preserved
loop-r-preserved c = elim c.if-is_sister.branch [ then-is_sister w ↦ w.r-items-is ∙ walk-hit (is_sister c.args.voice c.args.start) (marked c.args.at) _ _ _ c.loop-r.invariant _ _ c.is_sister.ensures _ w.if-is_sister.true w.marked.ensures | else-is_sister w ↦ w.r-items-is ∙ walk-miss (is_sister c.args.voice c.args.start) (marked c.args.at) _ _ _ c.loop-r.invariant _ _ c.is_sister.ensures w.if-is_sister.false ]

pub returns : goal.returns
unfolding mark_sisters
returns c = walk-done (is_sister c.args.voice c.args.start) (marked c.args.at) _ _ _ c.loop-r.invariant c.loop-r-test.false
