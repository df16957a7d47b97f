use Rattle.player.specs.Pitch.{pitched}
use Rattle.player.proofs.pitch.set_pitch.Goals as goal

pub returns-then-step-cold : goal.returns-then-step-cold
unfolding pitched
returns-then-step-cold c = rw (← c.step_of-step.ensures, c.if-step-cold.true, c.for_step-span.ensures)

pub returns : goal.returns
unfolding pitched
returns c = rw (← c.step_of-step.ensures, c.if-step-cold.false)
