use lib.Ieee.{binary64, of_bits, div, mul}
use Rattle.exact.specs.Narrow.{narrowed}
use Rattle.exact.proofs.Integrals.{yes}
use Rattle.std.proofs.Common.{◌≡◌}
use Rattle.elementary.specs.Kernel.{horner_f, one}
use Rattle.elementary.specs.Trigonometric.{fourth, over_six, sine_plus, sine_minus, sine_sum}
use Rattle.elementary.specs.Functions.{sin_of}
use Rattle.elementary.proofs.SineCosine.{sine-absolute}
use Rattle.elementary.proofs.SineRelative.{sine-relative}
use Rattle.elementary.proofs.FromZero.{above-range, below-range, argument, up_to, at-argument, no-sine, sine-low}
use Rattle.elementary.proofs.trig.sin.Goals.{After-narrow}
use Rattle.elementary.proofs.trig.sin.Goals as goal

pub returns-then-x : goal.returns-then-x
unfolding sin_of of_bits div
returns-then-x c = (simp c.if-x.true, no-sine c.args.x (above-range c.args.x (yes c.well_formed.0.1) (yes c.if-x.true)))

plus : (c : After-narrow) → c.at-plus.result ≡ horner_f (fourth c.args.x) one sine_plus
unfolding horner_f of_bits
plus c = c.at-plus.ensures

minus : (c : After-narrow) → c.at-minus.result ≡ horner_f (fourth c.args.x) over_six sine_minus
unfolding horner_f of_bits
minus c = c.at-minus.ensures

pub returns-then-x-2 : goal.returns-then-x-2
unfolding sin_of of_bits
returns-then-x-2 c = let x = c.args.x in
    let S = argument x c.if-x.false (yes c.if-x-2.true) in (
      rw (c.if-x.false, c.if-x-2.true, c.narrow.ensures, minus c, plus c),
      rw (c.narrow.ensures, minus c, plus c)
          (record { series = at-argument 1 x (narrowed (mul binary64 x (sine_sum x))) S (sine-absolute x S); part = λ h. sine-relative x S (up_to x S h) }),
    )

pub returns-then-x-3 : goal.returns-then-x-3
unfolding sin_of of_bits
returns-then-x-3 c = (simp (c.if-x.false, c.if-x-2.false, c.if-x-3.true), sine-low c.args.x c.if-x-2.false (yes c.if-x-3.true))

pub returns : goal.returns
unfolding sin_of of_bits div
returns c = (simp (c.if-x.false, c.if-x-2.false, c.if-x-3.false), no-sine c.args.x (below-range c.args.x c.if-x-3.false))
