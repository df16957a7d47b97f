use Rattle.std.proofs.Common.{ap, ◌∙◌}
use lib.Ieee.{of_bits, div}
use Rattle.exact.specs.Narrow.{narrowed}
use Rattle.exact.proofs.Narrowing.{differs, no_nan, to-double}
use Rattle.exact.proofs.Integrals.{yes}
use Rattle.elementary.proofs.ExpFn.{by-nan, by-under, by_over, by_down, by-up, by_one, ranged-down, ranged-up}
use Rattle.elementary.proofs.power.Base.power.Goals as goal

pub returns-then-is_nan : goal.returns-then-is_nan
returns-then-is_nan c = let a = c.args in by-nan a.self.factor a.self.least a.self.most a.x (differs _ c.is_nan.ensures.value c.if-is_nan.true)

pub returns-then-x-self : goal.returns-then-x-self
unfolding of_bits
returns-then-x-self c = let a = c.args in by-under a.self.factor a.self.least a.self.most a.x (differs _ c.is_nan.ensures.value c.if-is_nan.false) c.if-x-self.true

pub returns-then-x-self-2 : goal.returns-then-x-self-2
unfolding of_bits div
returns-then-x-self-2 c = let a = c.args in by_over a.self.factor a.self.least a.self.most a.x (differs _ c.is_nan.ensures.value c.if-is_nan.false) c.if-x-self.false c.if-x-self-2.true

pub float_to_float-y : goal.float_to_float-y
float_to_float-y c = to-double c.args.x (yes c.well_formed.1.0.1) (no_nan c.args.x (differs _ c.is_nan.ensures.value c.if-is_nan.false))

pub invariant_of-size : goal.invariant_of-size
unfolding of_bits
invariant_of-size c = let a = c.args in
    record { small = ranged-down a.self.factor a.self.least a.self.most a.x a.self.ranged (yes c.well_formed.1.0.1) c.if-x-self.false c.if-y.true }

pub returns-then-y : goal.returns-then-y
unfolding of_bits
returns-then-y c = let a = c.args in
    c.narrow.ensures ∙ ap narrowed c.down.ensures ∙ by_down a.self.factor a.self.least a.self.most a.x (differs _ c.is_nan.ensures.value c.if-is_nan.false) c.if-x-self.false c.if-x-self-2.false c.if-y.true

pub invariant_of-size-then-y-2 : goal.invariant_of-size-then-y-2
unfolding of_bits
invariant_of-size-then-y-2 c = let a = c.args in
    record { small = ranged-up a.self.factor a.self.least a.self.most a.x a.self.ranged (yes c.well_formed.1.0.1) c.if-x-self-2.false c.if-y-2.true }

pub returns-then-y-2 : goal.returns-then-y-2
unfolding of_bits
returns-then-y-2 c = let a = c.args in
    c.narrow-then-y-2.ensures ∙ ap narrowed c.up.ensures ∙ by-up a.self.factor a.self.least a.self.most a.x (differs _ c.is_nan.ensures.value c.if-is_nan.false) c.if-x-self.false c.if-x-self-2.false c.if-y.false c.if-y-2.true

pub returns : goal.returns
unfolding of_bits
returns c = let a = c.args in
    by_one a.self.factor a.self.least a.self.most a.x (differs _ c.is_nan.ensures.value c.if-is_nan.false) c.if-x-self.false c.if-x-self-2.false c.if-y.false c.if-y-2.false
