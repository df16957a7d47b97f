use Rattle.segments.specs.Source.{frame_of}
use Rattle.segments.proofs.source.incoming.Goals as goal

pub returns-then-stored : goal.returns-then-stored
unfolding frame_of
returns-then-stored c = rw c.if-stored.true c.stored_frame.ensures

pub returns : goal.returns
unfolding frame_of
returns c = rw c.if-stored.false c.read_pair.ensures
