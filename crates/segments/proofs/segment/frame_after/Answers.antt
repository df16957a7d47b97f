use Rattle.segments.specs.Segment.{frame_after}
use Rattle.segments.proofs.segment.frame_after.Goals as goal
use Rattle.segments.proofs.segment.frame_after.Goals.{then-ends_now, else-ends_now}

pub returns : goal.returns
unfolding frame_after
returns c = elim c.if-ends_now.branch [ then-ends_now w ↦ rw (w.hot-is, w.fast_off-hot.ensures, ← c.ends_now.ensures, w.if-ends_now.true) | else-ends_now w ↦ rw (w.hot-is, ← c.ends_now.ensures, w.if-ends_now.false) ]
