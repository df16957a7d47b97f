use Rattle.std.proofs.Common.{Bool, not, T, ◌∙◌, sym, subst}
use Rattle.exact.proofs.Narrowing.{differs, magnitude-most, small-no-nan, done-plus, done-pattern, done-nan, no_nan}
use Rattle.exact.proofs.format.narrow.Goals as goal

pub returns-then-is_nan : goal.returns-then-is_nan
returns-then-is_nan c = done-nan c.args.x (differs c.args.x c.is_nan.ensures.value c.if-is_nan.true)

pub float_to_bits-bits : goal.float_to_bits-bits
float_to_bits-bits c = subst (λ (b : Bool). T (not b)) (sym (sym c.is_nan.ensures.value ∙ c.if-is_nan.false)) tt

pub float_from_bits-result : goal.float_from_bits-result
float_from_bits-result c = small-no-nan c.normal_bits.result c.normal_bits.ensures.1

pub returns-then-bits-le-LARGEST : goal.returns-then-bits-le-LARGEST
returns-then-bits-le-LARGEST c = done-plus c.args.x c.normal_bits.result (subst T (sym c.well_formed.0.1) tt) c.normal_bits.ensures.0

pub any_narrow-requires : goal.any_narrow-requires
any_narrow-requires c = magnitude-most c.args.x (subst T (sym c.well_formed.0.1) tt) (no_nan c.args.x (differs c.args.x c.is_nan.ensures.value c.if-is_nan.false))

pub returns : goal.returns
returns c = done-pattern c.args.x c.any_narrow.result (subst T (sym c.well_formed.0.1) tt) c.any_narrow.ensures
