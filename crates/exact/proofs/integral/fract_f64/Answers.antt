use Rattle.std.proofs.Common.{true, false, T, sym, ◌∙◌, subst}
use lib.Ieee.{binary64, of_bits, neg}
use Rattle.exact.proofs.Small.{one, sized, sized-no-nan, small-fraction}
use Rattle.exact.proofs.integral.fract_f64.Goals as goal

pub is_sign_negative-requires : goal.is_sign_negative-requires
unfolding of_bits neg
is_sign_negative-requires c = sized-no-nan c.args.x one (sized c.args.x one c.abs.result c.abs.ensures.value c.if-abs.true)

pub returns-then-is_sign_negative : goal.returns-then-is_sign_negative
unfolding of_bits neg
returns-then-is_sign_negative c = small-fraction binary64 c.args.x true (subst T (sym c.well_formed.0.1) tt) (sized c.args.x one c.abs.result c.abs.ensures.value c.if-abs.true) (sym c.is_sign_negative.ensures ∙ c.if-is_sign_negative.true)

pub returns-else-is_sign_negative : goal.returns-else-is_sign_negative
unfolding of_bits neg
returns-else-is_sign_negative c = small-fraction binary64 c.args.x false (subst T (sym c.well_formed.0.1) tt) (sized c.args.x one c.abs.result c.abs.ensures.value c.if-abs.true) (sym c.is_sign_negative.ensures ∙ c.if-is_sign_negative.false)
