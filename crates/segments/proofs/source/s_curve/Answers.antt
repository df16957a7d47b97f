use Rattle.segments.specs.Source.{s_curve}
use Rattle.segments.proofs.source.s_curve.Goals as goal

pub returns : goal.returns
unfolding s_curve
returns c = rw (c.cos.ensures.0, c.clamp_f32.ensures)
