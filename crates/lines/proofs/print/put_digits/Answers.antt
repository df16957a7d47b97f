use native.Mathlib.Omega.{arith}
use Rattle.lines.specs.Print.{last_digits}
use Rattle.lines.proofs.Printing.{length_digits, no_room, filled}
use Rattle.lines.proofs.print.put_digits.Goals.{then-out-at-via-then-out-at, then-out-at-via-else-out-at+then-out-at-2}
use Rattle.lines.proofs.print.put_digits.Goals as goal

pub returns-then-out-at : goal.returns-then-out-at
returns-then-out-at c = no_room c.args.out.now (last_digits c.args.base c.args.k c.args.n) c.args.at c.args.k (length_digits c.args.base c.args.k c.args.n) (elim c.then-out-at.branch [ then-out-at-via-then-out-at w ↦ omega (arith, w.if-out-at.true) | then-out-at-via-else-out-at+then-out-at-2 w ↦ omega (arith, w.if-out-at.false, w.if-out-at-2.true) ])

pub returns : goal.returns
returns c = filled c.args.out.now (last_digits c.args.base c.args.k c.args.n) c.args.at c.args.k (length_digits c.args.base c.args.k c.args.n) (omega arith) c.fill.ensures
