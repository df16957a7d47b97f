use Rattle.std.proofs.Common.{◌≡◌, true, refl}
use lib.Ieee.{Float, of_bits, div, is_nan, ne}
use Rattle.exact.proofs.Narrowing.{differs, no_nan, number, when-nan, to-double}
use Rattle.exact.proofs.Integrals.{yes}
use Rattle.elementary.specs.Functions.{sinh_of}
use Rattle.elementary.proofs.HalfDifference.{at-nan, below-first, above-last, between, small-between, sinh-between}
use Rattle.elementary.proofs.hyperbolic.sinh.Goals as goal

-- which branch of `sinh_of` each test picks
at-nan-is : (x : Float) → ne x x ≡ true → x ≡ sinh_of x
unfolding sinh_of is_nan
at-nan-is x h = when-nan (λ (y : Float). y ≡ sinh_of y) x h refl

pub returns-then-is_nan : goal.returns-then-is_nan
returns-then-is_nan c = (at-nan-is c.args.x (differs _ c.is_nan.ensures.value c.if-is_nan.true), at-nan c.args.x (differs _ c.is_nan.ensures.value c.if-is_nan.true))

pub returns-then-x : goal.returns-then-x
unfolding sinh_of of_bits div
returns-then-x c = (simp (number c.args.x (differs _ c.is_nan.ensures.value c.if-is_nan.false), c.if-x.true), below-first c.args.x c.if-x.true)

pub returns-then-x-2 : goal.returns-then-x-2
unfolding sinh_of of_bits div
returns-then-x-2 c = (
  simp (number c.args.x (differs _ c.is_nan.ensures.value c.if-is_nan.false), c.if-x.false, c.if-x-2.true),
  above-last c.args.x (yes c.well_formed.0.1) c.if-x-2.true,
)

pub float_to_float-size : goal.float_to_float-size
float_to_float-size c = to-double c.args.x (yes c.well_formed.0.1) (no_nan c.args.x (differs _ c.is_nan.ensures.value c.if-is_nan.false))

pub invariant_of-size : goal.invariant_of-size
unfolding of_bits
invariant_of-size c = record { small = small-between c.args.x (yes c.well_formed.0.1) (between c.args.x (differs _ c.is_nan.ensures.value c.if-is_nan.false) c.if-x.false c.if-x-2.false) }

pub returns : goal.returns
unfolding sinh_of of_bits
returns c = (
  rw (number c.args.x (differs _ c.is_nan.ensures.value c.if-is_nan.false), c.if-x.false, c.if-x-2.false, c.narrow.ensures, c.down.ensures, c.up.ensures),
  rw (c.narrow.ensures, c.down.ensures, c.up.ensures)
      (sinh-between c.args.x (yes c.well_formed.0.1) (between c.args.x (differs _ c.is_nan.ensures.value c.if-is_nan.false) c.if-x.false c.if-x-2.false)),
)
