use native.Mathlib.Omega.{arith}
use Rattle.lines.proofs.Printing.{one_place, more-places, last-place}
use Rattle.lines.proofs.print.places.Goals as goal

pub returns-then-rest-lt10 : goal.returns-then-rest-lt10
returns-then-rest-lt10 c = let e = one_place c.loop-k.k c.loop-k.rest c.loop-k-test.true c.if-rest-lt10.true in (omega arith, omega arith)

pub loop-k-preserved : goal.loop-k-preserved
loop-k-preserved c = let e = more-places c.loop-k.k c.loop-k.rest c.loop-k-test.true c.if-rest-lt10.false in omega arith

pub returns : goal.returns
returns c = let e = last-place c.loop-k.k c.loop-k.rest c.loop-k-test.false in (omega arith, omega arith)
