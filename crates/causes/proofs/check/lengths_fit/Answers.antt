use mathlib.Core.Path.{ap, ◌∙◌}
use mathlib.Core.Bool.{not}
use borrow.Author.Tests.{eq-eqb, ne_eqb, le-leb, lt-leb}
use Rattle.program.proofs.Checks.{every-no, after}
use Rattle.causes.specs.Tests.{falls_short, lengths_fit, length_tests}
use Rattle.causes.proofs.Passed.{none_short}
use Rattle.causes.proofs.check.lengths_fit.Goals as goal

pub returns-then-frames-eq0 : goal.returns-then-frames-eq0
unfolding lengths_fit
returns-then-frames-eq0 c = every-no (length_tests c.args.frames c.args.x) 0 (ap not (eq-eqb _ _ c.if-frames-eq0.true))

pub returns-then-frames-gt128 : goal.returns-then-frames-gt128
unfolding lengths_fit
returns-then-frames-gt128 c = every-no (length_tests c.args.frames c.args.x) 1 (lt-leb _ _ c.if-frames-gt128.true)

pub returns-then-x-frames : goal.returns-then-x-frames
unfolding lengths_fit
returns-then-x-frames c = every-no (length_tests c.args.frames c.args.x) 2 (lt-leb _ _ c.if-x-frames.true)

pub returns-then-x-frames-2 : goal.returns-then-x-frames-2
unfolding lengths_fit
returns-then-x-frames-2 c = every-no (length_tests c.args.frames c.args.x) 3 (lt-leb _ _ c.if-x-frames-2.true)

pub returns : goal.returns
unfolding lengths_fit
returns c =
    let n = c.args.frames in
    let x = c.args.x in
    after (ap not (ne_eqb _ _ c.if-frames-eq0.false)) (after (le-leb _ _ c.if-frames-gt128.false) (after (le-leb _ _ c.if-x-frames.false) (after (le-leb _ _ c.if-x-frames-2.false) (ap not c.any_short.ensures ∙ none_short (falls_short x.freq n) (falls_short x.gate n) (falls_short x.vel n) (falls_short x.amp n) (falls_short x.seed n) (falls_short x.bend n) (falls_short x.quality n)))))
