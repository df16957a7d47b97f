use Rattle.std.proofs.Common.{◌∙◌}
use Rattle.session.proofs.Walks.{walk-hit, walk-miss, walk-done}
use Rattle.session.specs.Records.{in_slots, ended}
use Rattle.session.specs.Rules.{mark_ended}
use Rattle.session.proofs.end_slots.Goals as goal
use Rattle.session.proofs.end_slots.Goals.{then-in_slots, else-in_slots}

pub loop-r-preserved : goal.loop-r-preserved
loop-r-preserved c = elim c.if-in_slots.branch [ then-in_slots w ↦ w.r-items-is ∙ walk-hit (in_slots c.args.voice c.args.slots.now) (ended) _ _ _ c.loop-r.invariant _ _ c.in_slots.ensures _ w.if-in_slots.true w.ended.ensures | else-in_slots w ↦ w.r-items-is ∙ walk-miss (in_slots c.args.voice c.args.slots.now) (ended) _ _ _ c.loop-r.invariant _ _ c.in_slots.ensures w.if-in_slots.false ]

pub returns : goal.returns
unfolding mark_ended
returns c = walk-done (in_slots c.args.voice c.args.slots.now) (ended) _ _ _ c.loop-r.invariant c.loop-r-test.false
