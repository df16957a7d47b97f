use Rattle.segments.proofs.ahead.reaches.Goals as goal

pub returns : goal.returns
returns c = rw c.abs_f32.ensures
