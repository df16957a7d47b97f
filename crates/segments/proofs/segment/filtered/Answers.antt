use Rattle.segments.proofs.segment.filtered.Goals as goal

pub returns-then-stereo : goal.returns-then-stereo
returns-then-stereo c = rw c.if-stereo.true c.chain.ensures

pub returns-else-stereo : goal.returns-else-stereo
returns-else-stereo c = rw c.if-stereo.false c.chain-else-stereo.ensures
