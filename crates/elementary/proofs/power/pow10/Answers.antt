use Rattle.std.proofs.Common.{lit≤}
use lib.Ieee.{binary32, binary64, of_bits, neg}
use Rattle.exact.proofs.Integrals.{yes}
use Rattle.elementary.specs.Functions.{pow10_of}
use Rattle.elementary.proofs.ExpFn.{power-base}
use Rattle.elementary.proofs.power.pow10.Goals as goal

pub invariant_of-base : goal.invariant_of-base
unfolding of_bits neg
invariant_of-base c = record { ranged = record { sign = tt; from = lit≤ tt; to = lit≤ tt; negative = tt; bottom = lit≤ tt; positive = tt; top = lit≤ tt } }

pub returns : goal.returns
unfolding pow10_of of_bits neg
returns c = (c.power.ensures, rw c.power.ensures (power-base 3321928094887362348 1000000000000000000 18 18 (of_bits binary64 0x400a934f0979a371) (neg (of_bits binary32 0x4217b818)) (of_bits binary32 0x4218ec59) c.args.x tt (yes c.well_formed.0.1)))
