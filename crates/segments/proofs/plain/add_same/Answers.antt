use mathlib.Core.Path.{refl, ◌∙◌}
use native.Mathlib.Nat.{le_antisymm}
use native.Mathlib.Omega.{arith}
use Rattle.segments.specs.Plain.{added_run}
use Rattle.segments.proofs.Resting.{same_more}
use Rattle.segments.proofs.plain.add_same.Goals as goal

pub loop-i-init : goal.loop-i-init
unfolding added_run
loop-i-init c = (refl, refl)

pub overflow_add-j : goal.overflow_add-j
overflow_add-j c = omega (arith, c.requires, c.loop-i-test.true)

pub add_at-requires : goal.add_at-requires
add_at-requires c = omega (arith, c.requires, c.loop-i-test.true, c.loop-i.invariant.0)

pub loop-i-preserved : goal.loop-i-preserved
loop-i-preserved c = let e = c.args in let q = c.loop-i in (c.add_at.auto.out ∙ q.invariant.0, same_more e.v e.j q.i e.out.now q.out c.add_at.new.out q.invariant.1 c.add_at.ensures)

pub shape_of-out : goal.shape_of-out
shape_of-out c = c.loop-i.invariant.0

pub returns : goal.returns
returns c = rw (le_antisymm c.loop-i.auto.i-end c.loop-i-test.false) at c.loop-i.invariant.1
