use Rattle.player.specs.Pitch.{bend_cents}
use Rattle.player.proofs.pitch.bend_cents.Goals as goal

pub returns-then-bend : goal.returns-then-bend
unfolding bend_cents
returns-then-bend c = rw c.if-bend.true

pub returns-else-bend : goal.returns-else-bend
unfolding bend_cents
returns-else-bend c = rw c.if-bend.false
