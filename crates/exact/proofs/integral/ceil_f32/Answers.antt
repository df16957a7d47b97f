use Rattle.std.proofs.Common.{T, sym, ◌∙◌, subst}
use lib.Ieee.{binary32, of_bits, neg}
use Rattle.exact.specs.Integral.{toward_positive}
use Rattle.exact.proofs.Small.{one, sized, sized-no-nan, ceil-minus, ceil-plus, ceil-none, end, large, keeps-positive}
use Rattle.exact.proofs.integral.ceil_f32.Goals as goal

pub is_sign_negative-requires : goal.is_sign_negative-requires
unfolding of_bits neg
is_sign_negative-requires c = sized-no-nan c.args.x one (sized c.args.x one c.abs-size.result c.abs-size.ensures.value c.if-size-2.true)

pub returns-then-is_sign_negative : goal.returns-then-is_sign_negative
unfolding of_bits neg
returns-then-is_sign_negative c = ceil-minus binary32 c.args.x (sized c.args.x one c.abs-size.result c.abs-size.ensures.value c.if-size-2.true) (sym c.is_sign_negative.ensures ∙ c.if-is_sign_negative.true)

pub returns-then-x : goal.returns-then-x
unfolding of_bits neg
returns-then-x c = ceil-plus binary32 c.args.x (sized c.args.x one c.abs-size.result c.abs-size.ensures.value c.if-size-2.true) (sym c.is_sign_negative.ensures ∙ c.if-is_sign_negative.false) c.if-x.true

pub returns-else-x : goal.returns-else-x
unfolding of_bits neg
returns-else-x c = ceil-none binary32 c.args.x (sized c.args.x one c.abs-size.result c.abs-size.ensures.value c.if-size-2.true) (sym c.is_sign_negative.ensures ∙ c.if-is_sign_negative.false) c.if-x.false

pub returns : goal.returns
unfolding of_bits neg
returns c = large binary32 toward_positive keeps-positive c.args.x (subst T (sym c.well_formed.0.1) tt) (sized c.args.x (end binary32) c.abs-size.result c.abs-size.ensures.value c.if-size.false)
