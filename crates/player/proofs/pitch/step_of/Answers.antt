use Rattle.player.specs.Pitch.{step_of}
use Rattle.player.proofs.pitch.step_of.Goals as goal

pub returns : goal.returns
unfolding step_of
returns c = rw (c.held_step.ensures, c.widen.ensures, c.cents_factor.ensures, c.bend_cents.ensures)
