use Rattle.std.proofs.Common.{◌≡◌, true, refl}
use lib.Ieee.{Float, of_bits, neg, div, is_nan, ne}
use lib.Ieee.Fits.{fits_widens}
use Rattle.exact.proofs.Narrowing.{differs, no_nan, number, when-nan}
use Rattle.exact.proofs.Integrals.{yes}
use Rattle.elementary.specs.Functions.{log2_of}
use Rattle.elementary.proofs.Log2.{at-nan, negative, infinite, ranged, positive-inverts, positive-done, zero-done}
use Rattle.elementary.proofs.log.log2.Goals as goal

at-nan-is : (x : Float) → ne x x ≡ true → x ≡ log2_of x
unfolding log2_of is_nan
at-nan-is x h = when-nan (λ (y : Float). y ≡ log2_of y) x h refl

pub returns-then-is_nan : goal.returns-then-is_nan
returns-then-is_nan c = (at-nan-is c.args.x (differs _ c.is_nan.ensures.value c.if-is_nan.true), at-nan c.args.x (differs _ c.is_nan.ensures.value c.if-is_nan.true))

pub returns-then-x : goal.returns-then-x
unfolding log2_of of_bits div
returns-then-x c = let x = c.args.x in
    (simp (number x (differs _ c.is_nan.ensures.value c.if-is_nan.false), c.if-x.true), negative x (yes c.if-x.true))

pub returns-then-x-2 : goal.returns-then-x-2
unfolding log2_of of_bits div
returns-then-x-2 c = let x = c.args.x in
    (simp (number x (differs _ c.is_nan.ensures.value c.if-is_nan.false), c.if-x.false, c.if-x-2.true), infinite x (yes c.if-x-2.true))

pub positive-requires : goal.positive-requires
unfolding of_bits div
positive-requires c = ranged c.args.x (yes c.well_formed.0.1) c.if-x-2.false (yes c.if-x-3.true)

pub returns-then-x-3 : goal.returns-then-x-3
unfolding log2_of of_bits div
returns-then-x-3 c = let x = c.args.x in
    let r = ranged x (yes c.well_formed.0.1) c.if-x-2.false (yes c.if-x-3.true) in (
      rw (c.positive.ensures, number x (differs _ c.is_nan.ensures.value c.if-is_nan.false), c.if-x.false, c.if-x-2.false, c.if-x-3.true),
      rw c.positive.ensures (positive-done x _ (yes c.if-x-3.true) c.if-x-2.false (positive-inverts x (fits_widens x (yes c.well_formed.0.1)) r)),
    )

pub returns : goal.returns
unfolding log2_of of_bits neg div
returns c = let x = c.args.x in
    let n = (differs _ c.is_nan.ensures.value c.if-is_nan.false) in (
      simp (number x n, c.if-x.false, c.if-x-2.false, c.if-x-3.false),
      zero-done x (no_nan x n) c.if-x.false c.if-x-2.false c.if-x-3.false,
    )
