use Rattle.std.proofs.Common.{true, false, T, sym, ◌∙◌, subst}
use lib.Ieee.{binary64, of_bits, neg}
use Rattle.exact.specs.Integral.{toward_zero}
use Rattle.exact.proofs.Small.{one, sized, sized-no-nan, small-cut, end, large, keeps-zero}
use Rattle.exact.proofs.integral.trunc_f64.Goals as goal

pub is_sign_negative-requires : goal.is_sign_negative-requires
unfolding of_bits neg
is_sign_negative-requires c = sized-no-nan c.args.x one (sized c.args.x one c.abs-size.result c.abs-size.ensures.value c.if-size-2.true)

pub returns-then-is_sign_negative : goal.returns-then-is_sign_negative
unfolding of_bits neg
returns-then-is_sign_negative c = small-cut binary64 c.args.x true (sized c.args.x one c.abs-size.result c.abs-size.ensures.value c.if-size-2.true) (sym c.is_sign_negative.ensures ∙ c.if-is_sign_negative.true)

pub returns-else-is_sign_negative : goal.returns-else-is_sign_negative
unfolding of_bits neg
returns-else-is_sign_negative c = small-cut binary64 c.args.x false (sized c.args.x one c.abs-size.result c.abs-size.ensures.value c.if-size-2.true) (sym c.is_sign_negative.ensures ∙ c.if-is_sign_negative.false)

pub returns : goal.returns
unfolding of_bits neg
returns c = large binary64 toward_zero keeps-zero c.args.x (subst T (sym c.well_formed.0.1) tt) (sized c.args.x (end binary64) c.abs-size.result c.abs-size.ensures.value c.if-size.false)
