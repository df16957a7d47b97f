use mathlib.Core.Path.{refl}
use Rattle.segments.proofs.segment.share_of.Goals as goal

pub returns : goal.returns
returns c = refl
