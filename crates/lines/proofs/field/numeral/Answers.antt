use mathlib.Core.Path.{◌∙◌, ◌≡◌}
use Rattle.std.proofs.Common.{rules, arith, ◌+◌, ◌*◌}
use Rattle.std.specs.Char.{digit_value}
use Rattle.lines.proofs.Numerals.{empty, ends, no_digit, large, next}
use Rattle.lines.proofs.field.numeral.Goals as goal

pub returns-then-is_empty-clause-value : goal.returns-then-is_empty-clause-value
returns-then-is_empty-clause-value c = empty c.args.base c.args.max c.args.f.now (search rules)

pub returns-in_err-d-clause-value : goal.returns-in_err-d-clause-value
returns-in_err-d-clause-value c = let h = c.in_err-d.ensures.value in c.from_residual.ensures ∙ no_digit c.args.base c.args.max c.args.f.now c.loop-c.n c.loop-c.c-index c.loop-c.invariant c.loop-c-test.true (digit_value c.from.result) (search rules) (omega arith)

pub returns-in_err-checked_mul-clause-value : goal.returns-in_err-checked_mul-clause-value
returns-in_err-checked_mul-clause-value c = let h = c.in_err-checked_mul.ensures in c.from_residual-in_err-checked_mul.ensures ∙ large c.args.base c.args.max c.args.f.now c.loop-c.n c.loop-c.c-index c.loop-c.invariant c.loop-c-test.true c.in_ok-d.d (search rules) (omega arith) (omega (arith, c.ranges.max.fits, h))

pub returns-in_err-n-clause-value : goal.returns-in_err-n-clause-value
returns-in_err-n-clause-value c = let h = c.in_err-n.ensures in c.from_residual-in_err-n.ensures ∙ large c.args.base c.args.max c.args.f.now c.loop-c.n c.loop-c.c-index c.loop-c.invariant c.loop-c-test.true c.in_ok-d.d (search rules) (omega arith) (omega (arith, c.ranges.max.fits, h, c.in_ok-checked_mul.ensures))

pub returns-then-max-n-clause-value : goal.returns-then-max-n-clause-value
returns-then-max-n-clause-value c = large c.args.base c.args.max c.args.f.now c.loop-c.n c.loop-c.c-index c.loop-c.invariant c.loop-c-test.true c.in_ok-d.d (search rules) (omega arith) (omega (arith, c.in_ok-n.ensures, c.in_ok-checked_mul.ensures, c.if-max-n.true))

pub loop-c-preserved : goal.loop-c-preserved
loop-c-preserved c =
    let e : c.in_ok-n.n ≡ c.loop-c.n * c.args.base + c.in_ok-d.d = omega (arith, c.in_ok-n.ensures, c.in_ok-checked_mul.ensures) in
    rw e (next c.args.base c.args.max c.args.f.now c.loop-c.n c.loop-c.c-index c.loop-c.invariant c.loop-c-test.true c.in_ok-d.d (search rules) (search rules) (omega (arith, e, c.if-max-n.false)))

pub returns-clause-value : goal.returns-clause-value
returns-clause-value c = ends c.args.base c.args.max c.args.f.now c.loop-c.n c.loop-c.c-index c.loop-c.invariant c.loop-c-test.false
