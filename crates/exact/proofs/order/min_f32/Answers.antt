use Rattle.std.proofs.Common.{sym, ◌∙◌, rules}
use lib.Ieee.{of_bits}
use Rattle.exact.proofs.Extreme.{min-first, min-second, min-other, min-zeros, min-same}
use Rattle.exact.proofs.order.min_f32.Goals as goal

pub returns-then-x-y : goal.returns-then-x-y
returns-then-x-y c = min-first c.args.x c.args.y c.if-x-y.true

pub returns-then-y-x : goal.returns-then-y-x
returns-then-y-x c = min-second c.args.x c.args.y c.if-y-x.true

pub returns-then-is_nan : goal.returns-then-is_nan
returns-then-is_nan c = min-other c.args.x c.args.y (sym c.is_nan.ensures.value ∙ c.if-is_nan.true)

pub returns-then-y : goal.returns-then-y
unfolding of_bits
returns-then-y c = min-zeros c.args.x c.args.y (search rules) (search rules) c.if-x-y.false c.if-y-x.false (sym c.is_nan.ensures.value ∙ c.if-is_nan.false) c.if-y.true

pub returns : goal.returns
unfolding of_bits
returns c = min-same c.args.x c.args.y c.if-y-x.false (sym c.is_nan.ensures.value ∙ c.if-is_nan.false) c.if-y.false
