use Rattle.std.proofs.Common.{lit≤}
use lib.Ieee.{binary32, binary64, of_bits, neg}
use Rattle.exact.proofs.Integrals.{yes}
use Rattle.elementary.specs.Functions.{exp_of}
use Rattle.elementary.proofs.ExpFn.{power-base}
use Rattle.elementary.proofs.power.exp.Goals as goal

pub invariant_of-base : goal.invariant_of-base
unfolding of_bits neg
invariant_of-base c = record { ranged = record { sign = tt; from = lit≤ tt; to = lit≤ tt; negative = tt; bottom = lit≤ tt; positive = tt; top = lit≤ tt } }

pub returns : goal.returns
unfolding exp_of of_bits neg
returns c = (c.power.ensures, rw c.power.ensures (power-base 1442695040888963407 1000000000000000000 17 17 (of_bits binary64 0x3ff71547652b82fe) (neg (of_bits binary32 0x42aeac4f)) (of_bits binary32 0x42b00f33) c.args.x tt (yes c.well_formed.0.1)))
