use Rattle.player.specs.Start.{drawn_volume}
use Rattle.player.proofs.start.drawn_volume.Goals as goal

pub returns-then-level : goal.returns-then-level
unfolding drawn_volume
returns-then-level c = rw (c.if-level.true, c.rand01.ensures)

pub returns : goal.returns
unfolding drawn_volume
returns c = rw c.if-level.false
