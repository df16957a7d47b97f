use Rattle.block.proofs.Framing.{times-step, times-done}
use lib.ListN.{length-set}
use native.Mathlib.Omega.{arith}
use mathlib.Core.Path.{refl, ◌∙◌}
use Rattle.block.proofs.frames.amplify.Goals as goal

pub loop-i-init : goal.loop-i-init
loop-i-init c = (refl, refl)

pub loop-i-preserved : goal.loop-i-preserved
loop-i-preserved c = let l = c.loop-i in let a = c.args in
    (length-set l.xs l.i _ ∙ l.invariant.0, times-step a.xs.now a.amp.now l.xs l.i _ _ l.invariant.1 (omega (arith, l.invariant.0, c.loop-i-test.true)) (omega (arith, l.invariant.0, c.loop-i-test.true, c.requires)))

pub returns : goal.returns
returns c = let l = c.loop-i in times-done c.args.xs.now c.args.amp.now l.xs l.i l.invariant.1 (omega (arith, l.invariant.0, c.loop-i-test.false))
