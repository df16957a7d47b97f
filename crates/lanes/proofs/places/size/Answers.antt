use borrow.Author.Rules.{rules}
use Rattle.exact.proofs.Magnitude.{cleared, cleared-no-nan}
use Rattle.lanes.proofs.places.size.Goals as goal

pub float_to_bits-result : goal.float_to_bits-result
float_to_bits-result c = c.requires

pub float_from_bits-result : goal.float_from_bits-result
float_from_bits-result c = cleared-no-nan c.args.v (search rules) c.requires

pub returns : goal.returns
returns c = cleared c.args.v (search rules)
