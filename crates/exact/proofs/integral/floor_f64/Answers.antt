use Rattle.std.proofs.Common.{T, sym, ◌∙◌, subst}
use lib.Ieee.{binary64, of_bits, neg}
use Rattle.exact.specs.Integral.{toward_negative}
use Rattle.exact.proofs.Small.{one, sized, sized-no-nan, floor-plus, floor-minus, floor-none, end, large, keeps-negative}
use Rattle.exact.proofs.integral.floor_f64.Goals as goal

pub is_sign_negative-requires : goal.is_sign_negative-requires
unfolding of_bits neg
is_sign_negative-requires c = sized-no-nan c.args.x one (sized c.args.x one c.abs-size.result c.abs-size.ensures.value c.if-size-2.true)

pub returns-then-x : goal.returns-then-x
unfolding of_bits neg
returns-then-x c = floor-minus binary64 c.args.x (sized c.args.x one c.abs-size.result c.abs-size.ensures.value c.if-size-2.true) (sym c.is_sign_negative.ensures ∙ c.if-is_sign_negative.true) c.if-x.true

pub returns-else-x : goal.returns-else-x
unfolding of_bits neg
returns-else-x c = floor-none binary64 c.args.x (sized c.args.x one c.abs-size.result c.abs-size.ensures.value c.if-size-2.true) (sym c.is_sign_negative.ensures ∙ c.if-is_sign_negative.true) c.if-x.false

pub returns-then-size-2 : goal.returns-then-size-2
unfolding of_bits neg
returns-then-size-2 c = floor-plus binary64 c.args.x (sized c.args.x one c.abs-size.result c.abs-size.ensures.value c.if-size-2.true) (sym c.is_sign_negative.ensures ∙ c.if-is_sign_negative.false)

pub returns : goal.returns
unfolding of_bits neg
returns c = large binary64 toward_negative keeps-negative c.args.x (subst T (sym c.well_formed.0.1) tt) (sized c.args.x (end binary64) c.abs-size.result c.abs-size.ensures.value c.if-size.false)
