use Rattle.segments.proofs.source.stored_frame.Goals as goal

pub returns-in-Some : goal.returns-in-Some
returns-in-Some c = rw (c.in-Some.is, c.frame_at.ensures, c.frame_at-in-Some.ensures, c.frame_index.ensures.0)

pub returns-in-None : goal.returns-in-None
returns-in-None c = rw (c.in-None.is, c.frame_at-in-None.ensures, c.frame_index.ensures.0)
