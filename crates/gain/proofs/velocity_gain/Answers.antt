use Rattle.gain.specs.Gain.{velocity_gain}
use Rattle.gain.proofs.velocity_gain.Goals as goal

pub returns-then-vt : goal.returns-then-vt
unfolding velocity_gain
returns-then-vt c = rw (c.if-vt.true, c.curve_gain.ensures, c.abs_f32.ensures)

pub returns-else-vt : goal.returns-else-vt
unfolding velocity_gain
returns-else-vt c = rw (c.if-vt.false, c.curve_gain.ensures, c.abs_f32.ensures)
