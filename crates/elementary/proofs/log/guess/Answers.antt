use lib.Ieee.{of_bits}
use Rattle.elementary.specs.Logarithm.{guess_of}
use Rattle.elementary.proofs.log.guess.Goals as goal
use Rattle.elementary.proofs.log.guess.Goals.{then-m, else-m}

pub returns : goal.returns
unfolding guess_of of_bits
returns c = elim c.if-m.branch [
  | then-m w ↦ rw (c.units_past_128.ensures, c.log_series.ensures, w.one-is, w.if-m.true)
  | else-m w ↦ rw (c.units_past_128.ensures, c.log_series.ensures, w.one-is, w.if-m.false)
]
