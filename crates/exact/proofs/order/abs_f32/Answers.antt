use Rattle.std.proofs.Common.{sym, ◌∙◌, rules}
use Rattle.exact.proofs.Magnitude.{cleared, cleared-no-nan, magnitude-nan, not-nan}
use Rattle.exact.proofs.order.abs_f32.Goals as goal

pub returns-then-is_nan : goal.returns-then-is_nan
returns-then-is_nan c = magnitude-nan c.args.x (sym c.is_nan.ensures.value ∙ c.if-is_nan.true)

pub float_to_bits-result : goal.float_to_bits-result
float_to_bits-result c = not-nan c.args.x (sym c.is_nan.ensures.value ∙ c.if-is_nan.false)

pub float_from_bits-result : goal.float_from_bits-result
float_from_bits-result c = cleared-no-nan c.args.x (search rules) (not-nan c.args.x (sym c.is_nan.ensures.value ∙ c.if-is_nan.false))

pub returns : goal.returns
returns c = cleared c.args.x (search rules)
