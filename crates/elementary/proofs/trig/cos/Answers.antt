use lib.Ieee.{of_bits, div}
use Rattle.exact.specs.Narrow.{narrowed}
use Rattle.exact.proofs.Integrals.{yes}
use Rattle.std.proofs.Common.{◌≡◌}
use Rattle.elementary.specs.Kernel.{horner_f, one}
use Rattle.elementary.specs.Trigonometric.{fourth, over_two, cosine_plus, cosine_minus, cosine_sum}
use Rattle.elementary.specs.Functions.{cos_of}
use Rattle.elementary.proofs.SineCosine.{cosine-absolute}
use Rattle.elementary.proofs.FromZero.{above-range, below-range, argument, at-argument, at_none, cosine-low}
use Rattle.elementary.proofs.trig.cos.Goals.{After-narrow}
use Rattle.elementary.proofs.trig.cos.Goals as goal

pub returns-then-x : goal.returns-then-x
unfolding cos_of of_bits div
returns-then-x c = (simp c.if-x.true, at_none 0 c.args.x (above-range c.args.x (yes c.well_formed.0.1) (yes c.if-x.true)))

plus : (c : After-narrow) → c.at-plus.result ≡ horner_f (fourth c.args.x) one cosine_plus
unfolding horner_f of_bits
plus c = c.at-plus.ensures

minus : (c : After-narrow) → c.at-minus.result ≡ horner_f (fourth c.args.x) over_two cosine_minus
unfolding horner_f of_bits
minus c = c.at-minus.ensures

pub returns-then-x-2 : goal.returns-then-x-2
unfolding cos_of of_bits
returns-then-x-2 c = let x = c.args.x in
    let S = argument x c.if-x.false (yes c.if-x-2.true) in (
      rw (c.if-x.false, c.if-x-2.true, c.narrow.ensures, minus c, plus c),
      rw (c.narrow.ensures, minus c, plus c) (at-argument 0 x (narrowed (cosine_sum x)) S (cosine-absolute x S)),
    )

pub returns-then-x-3 : goal.returns-then-x-3
unfolding cos_of of_bits
returns-then-x-3 c = (simp (c.if-x.false, c.if-x-2.false, c.if-x-3.true), cosine-low c.args.x c.if-x-2.false (yes c.if-x-3.true))

pub returns : goal.returns
unfolding cos_of of_bits div
returns c = (simp (c.if-x.false, c.if-x-2.false, c.if-x-3.false), at_none 0 c.args.x (below-range c.args.x c.if-x-3.false))
