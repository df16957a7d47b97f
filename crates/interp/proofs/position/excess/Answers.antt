use lib.Ieee.{of_int, of_bits}
use Rattle.interp.proofs.position.excess.Goals as goal

pub returns-then-r-x : goal.returns-then-r-x
unfolding of_int of_bits
returns-then-r-x c = rw c.if-r-x.true

pub returns-else-r-x : goal.returns-else-r-x
unfolding of_int of_bits
returns-else-r-x c = rw c.if-r-x.false
