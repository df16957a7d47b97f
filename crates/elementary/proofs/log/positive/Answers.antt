use Rattle.std.proofs.Common.{◌%◌, ◌<◌, T, mod-lt, lit<}
use lib.Ieee.{fits, binary64, to_bits}
use Rattle.exact.proofs.Value.{plus-no-nan}
use Rattle.exact.proofs.Integrals.{yes}
use Rattle.elementary.specs.Logarithm.{positive_of, mantissa_of}
use Rattle.elementary.proofs.Root.{fraction-solves}
use Rattle.elementary.proofs.Exponent.{parts, mantissa, mantissa-no-nan}
use Rattle.elementary.proofs.log.positive.Goals as goal

held : (c : goal.Start) → T (fits binary64 c.args.x)
held c = yes c.well_formed.0.1

digit : (c : goal.Start) → to_bits binary64 c.args.x % 4503599627370496 < 4503599627370496
digit c = mod-lt (to_bits binary64 c.args.x) (lit< tt)

pub float_to_bits-bits : goal.float_to_bits-bits
float_to_bits-bits c = plus-no-nan c.args.x c.requires.sign

pub float_from_bits-m : goal.float_from_bits-m
float_from_bits-m c = mantissa-no-nan (to_bits binary64 c.args.x % 4503599627370496) (digit c)

pub nearest_sum-requires : goal.nearest_sum-requires
nearest_sum-requires c = let b = to_bits binary64 c.args.x in
    let p = parts c.args.x (held c.before) c.requires in
    record { least = p.low_end; most = p.high_end; part = rw c.fraction.ensures (fraction-solves (mantissa_of b) (mantissa (b % 4503599627370496) (digit c.before))).room }

pub returns : goal.returns
unfolding positive_of
returns c = rw (c.nearest_sum.ensures, c.fraction.ensures)
