use Rattle.player.specs.Pitch.{held_step}
use Rattle.player.proofs.pitch.held_step.Goals as goal

pub returns-then-s-2 : goal.returns-then-s-2
unfolding held_step
returns-then-s-2 c = rw (c.if-s.true, c.if-s-2.true)

pub returns-else-s-2 : goal.returns-else-s-2
unfolding held_step
returns-else-s-2 c = rw (c.if-s.true, c.if-s-2.false)

pub returns-else-s : goal.returns-else-s
unfolding held_step
returns-else-s c = rw c.if-s.false
