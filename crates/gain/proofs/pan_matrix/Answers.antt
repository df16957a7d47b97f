use Rattle.gain.specs.Gain.{pan_matrix}
use Rattle.gain.proofs.pan_matrix.Goals as goal

pub returns-in-None : goal.returns-in-None
unfolding pan_matrix
returns-in-None c = rw (c.in-None.is, c.sin-pr.ensures.0, c.cos-pl.ensures.0, c.quarter_turn-p.ensures)

pub returns-in-Some : goal.returns-in-Some
unfolding pan_matrix
returns-in-Some c = rw (c.in-Some.is, c.sin-c2.ensures.0, c.cos-c1.ensures.0, c.quarter_turn-turn.ensures, c.sin-pr.ensures.0, c.cos-pl.ensures.0, c.quarter_turn-p.ensures)
