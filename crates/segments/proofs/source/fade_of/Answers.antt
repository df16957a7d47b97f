use Rattle.segments.specs.Source.{fade_of}
use Rattle.segments.proofs.source.fade_of.Goals as goal

pub returns : goal.returns
unfolding fade_of
returns c = c.narrow.ensures
