use Rattle.std.proofs.Common.{mod-lt, arith}
use Rattle.exact.proofs.Narrowing.{closest-down, closest-up, closest-tie, half-quotient}
use Rattle.exact.proofs.format.nearest_quotient.Goals as goal

pub overflow_mul-twice : goal.overflow_mul-twice
overflow_mul-twice c = omega (arith, mod-lt c.args.v {m = c.args.u} (omega arith))

pub returns-then-twice-u : goal.returns-then-twice-u
returns-then-twice-u c = closest-down c.args.v c.args.u (omega arith)

pub overflow_add-result : goal.overflow_add-result
overflow_add-result c = omega (arith, half-quotient c.args.v c.args.u (omega arith))

pub returns-then-u-twice : goal.returns-then-u-twice
returns-then-u-twice c = closest-up c.args.v c.args.u (omega arith)

pub overflow_add-result-2 : goal.overflow_add-result-2
overflow_add-result-2 c = omega (arith, half-quotient c.args.v c.args.u (omega arith))

pub returns : goal.returns
returns c = closest-tie c.args.v c.args.u (omega arith)
