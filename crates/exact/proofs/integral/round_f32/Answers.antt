use Rattle.std.proofs.Common.{true, false, T, sym, ◌∙◌, subst}
use lib.Ieee.{binary32, of_bits, neg}
use Rattle.exact.specs.Integral.{ties_to_away}
use Rattle.exact.proofs.Small.{few, sized, sized-no-nan, small-round, end, large, keeps-away}
use Rattle.exact.proofs.integral.round_f32.Goals as goal

pub is_sign_negative-requires : goal.is_sign_negative-requires
unfolding of_bits neg
is_sign_negative-requires c = sized-no-nan c.args.x few (sized c.args.x few c.abs-size.result c.abs-size.ensures.value c.if-size-2.true)

pub returns-then-is_sign_negative : goal.returns-then-is_sign_negative
unfolding of_bits neg
returns-then-is_sign_negative c = small-round binary32 c.args.x true (sized c.args.x few c.abs-size.result c.abs-size.ensures.value c.if-size-2.true) (sym c.is_sign_negative.ensures ∙ c.if-is_sign_negative.true)

pub returns-else-is_sign_negative : goal.returns-else-is_sign_negative
unfolding of_bits neg
returns-else-is_sign_negative c = small-round binary32 c.args.x false (sized c.args.x few c.abs-size.result c.abs-size.ensures.value c.if-size-2.true) (sym c.is_sign_negative.ensures ∙ c.if-is_sign_negative.false)

pub returns : goal.returns
unfolding of_bits neg
returns c = large binary32 ties_to_away keeps-away c.args.x (subst T (sym c.well_formed.0.1) tt) (sized c.args.x (end binary32) c.abs-size.result c.abs-size.ensures.value c.if-size.false)
