use Rattle.std.proofs.Common.{le_trans, le_of_eq, lit≤}
use lib.Ieee.{binary64}
use lib.Ieee.Positive.{num, den, den_pos}
use Rattle.exact.proofs.Integrals.{whole_float}
use Rattle.elementary.specs.Kernel.{power_down}
use Rattle.elementary.proofs.Whole.{ceil-le}
use Rattle.elementary.proofs.power.Exponent.down.Goals as goal

pub int_to_float-whole : goal.int_to_float-whole
int_to_float-whole c = whole_float binary64 c.ceiling-n.result (le_trans (le_of_eq c.ceiling-n.ensures) (le_trans (ceil-le 128 (num c.args.self.y) (den c.args.self.y) (den_pos c.args.self.y) c.args.self.small.most) (lit≤ tt)))

pub returns : goal.returns
unfolding power_down
returns c = rw (c.series.ensures, c.scale.ensures, c.ceiling-n.ensures)
