use mathlib.Core.Path.{refl, ◌∙◌}
use lib.Ieee.{nan}
use Rattle.exact.specs.Single.{f0}
use Rattle.std.proofs.Common.{option_map}
use Rattle.segments.proofs.Resting.{one_more, within}
use Prim.Native.Nat.{◌+◌}
use native.Mathlib.Nat.{le_antisymm}
use native.Mathlib.Omega.{arith}
use Rattle.interp.proofs.Frames.{get_d_any}
use Rattle.segments.specs.Plain.{added_run}
use Rattle.segments.proofs.plain.add_plain.Goals as goal

pub loop-i-init : goal.loop-i-init
unfolding added_run
loop-i-init c = (refl, refl)

pub overflow_add-l : goal.overflow_add-l
overflow_add-l c = omega (arith, c.requires.1.0, c.loop-i-test.true)

pub overflow_add-p : goal.overflow_add-p
overflow_add-p c = omega (arith, c.requires.1.0, c.loop-i-test.true)

pub second_at-r-requires : goal.second_at-r-requires
second_at-r-requires c = within _ _ (c.args.p + c.args.k) (omega (arith, c.loop-i-test.true)) c.requires.1.1

pub overflow_add-j : goal.overflow_add-j
overflow_add-j c = omega (arith, c.requires.0, c.loop-i-test.true)

pub add_at-requires : goal.add_at-requires
add_at-requires c = omega (arith, c.requires.0, c.loop-i-test.true, c.loop-i.invariant.0)

pub loop-i-preserved : goal.loop-i-preserved
loop-i-preserved c = let e = c.args in let q = c.loop-i in (c.add_at.auto.out ∙ q.invariant.0, one_more e.g e.x e.y e.a.now (option_map (λ s. s.now) e.b) e.p e.j q.i e.out.now q.out c.add_at.new.out _ _ _ q.invariant.1 c.add_at.ensures c.share_of.ensures (get_d_any e.a.now (e.p + q.i) nan f0 (omega (arith, c.requires.1.0, c.loop-i-test.true))) c.second_at-r.ensures)

pub shape_of-out : goal.shape_of-out
shape_of-out c = c.loop-i.invariant.0

pub returns : goal.returns
returns c = rw (le_antisymm c.loop-i.auto.i-end c.loop-i-test.false) at c.loop-i.invariant.1
