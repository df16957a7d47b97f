use Rattle.std.proofs.Common.{◌<◌, arith}
use Rattle.exact.proofs.Narrowing.{drop-29, done-normal}
use Rattle.exact.proofs.format.normal_bits.Goals as goal

-- digits of a number up to the largest single stay below those of infinity
below : (c : goal.After-nearest_29) → c.nearest_29.result < 9655287808
below c = omega (arith, drop-29 c.args.b, c.nearest_29.ensures, c.requires.most)

pub returns : goal.returns
returns c = done-normal c.args.b c.nearest_29.result c.requires.least c.nearest_29.ensures (below c)
