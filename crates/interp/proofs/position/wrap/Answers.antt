use Rattle.std.proofs.Common.{◌+◌, ◌^◌, sym, arith, le→leb}
use lib.Ieee.{in_float}
use Rattle.interp.specs.Position.{looped}
use Rattle.interp.proofs.Looping.{still}
use Rattle.interp.proofs.position.wrap.Goals as goal

pub int_to_float-limit : goal.int_to_float-limit
unfolding in_float
int_to_float-limit c = le→leb (c.args.end + 1) (2 ^ 53) (omega arith)

pub returns-then-p-limit : goal.returns-then-p-limit
returns-then-p-limit c = c.turned.ensures

pub returns : goal.returns
unfolding looped
returns c = (sym (still _ _ _ _ c.if-p-limit.false), c.requires.0)
