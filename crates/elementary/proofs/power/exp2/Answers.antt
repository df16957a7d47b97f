use Rattle.std.proofs.Common.{lit≤}
use lib.Ieee.{binary32, binary64, of_bits, neg}
use Rattle.exact.proofs.Integrals.{yes}
use Rattle.elementary.specs.Functions.{exp2_of}
use Rattle.elementary.proofs.ExpFn.{power-base}
use Rattle.elementary.proofs.power.exp2.Goals as goal

pub invariant_of-base : goal.invariant_of-base
unfolding of_bits neg
invariant_of-base c = record { ranged = record { sign = tt; from = lit≤ tt; to = lit≤ tt; negative = tt; bottom = lit≤ tt; positive = tt; top = lit≤ tt } }

pub returns : goal.returns
unfolding exp2_of of_bits neg
returns c = (c.power.ensures, rw c.power.ensures (power-base 1 1 17 17 (of_bits binary64 0x3ff0000000000000) (neg (of_bits binary32 0x42fc0000)) (of_bits binary32 0x42fe0000) c.args.x tt (yes c.well_formed.0.1)))
