use mathlib.Core.Path.{sym, subst}
use lib.Dec.{T}
use lib.Ieee.{of_bits}
use Rattle.segments.proofs.Positions.{moved}
use Rattle.segments.proofs.ahead.after.Goals as goal

pub place-requires : goal.place-requires
unfolding of_bits
place-requires c = (c.requires.0, moved c.args.p c.args.step c.requires.1.low (subst T (sym c.if-p.true) tt) c.requires.2)
