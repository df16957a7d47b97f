use mathlib.Core.Bool.{true≢false}
use native.Mathlib.Nat.{le_antisymm}
use native.Mathlib.Omega.{arith}
use Rattle.lanes.proofs.Inner.{away-first, away-next}
use Rattle.lanes.proofs.Rows.{rows_none, rows_at, away-at}
use Rattle.lanes.proofs.places.Places.put_all.Goals as goal

pub overflow_sub-last : goal.overflow_sub-last
overflow_sub-last c = omega (arith, c.requires.0.least)

pub put_tap-requires : goal.put_tap-requires
put_tap-requires c = let p = c.requires in (p.0, p.1, omega (arith, p.0.least), λ e. absurd (true≢false e), away-first _ (omega (arith, p.0.least)) p.0.most, rows_none _ _ _ _)

pub loop-k-init : goal.loop-k-init
loop-k-init c = let p = c.requires.0 in
    let r = c.put_tap.ensures in
    (omega arith, omega (arith, p.least), away-next _ 0 _ (omega (arith, p.least)) p.most (omega arith) (away-first _ (omega (arith, p.least)) p.most), r)

pub overflow_step-k : goal.overflow_step-k
overflow_step-k c = omega (arith, c.loop-k-test.true)

pub loop-k-smaller : goal.loop-k-smaller
loop-k-smaller c = omega (arith, c.loop-k-test.true)

pub loop-k-preserved : goal.loop-k-preserved
loop-k-preserved c = let p = c.requires.0 in
    let l = c.loop-k.invariant in
    let t = c.loop-k-test.true in
    let r = c.put_tap-in-loop-k.ensures in
    (omega arith, omega (arith, t), away-next _ _ _ (omega (arith, p.least)) p.most (omega (arith, t, p.most)) l.2, r)

pub put_tap-requires-2 : goal.put_tap-requires-2
put_tap-requires-2 c = let p = c.requires in
    let l = c.loop-k.invariant in
    let e = le_antisymm l.1 c.loop-k-test.false in
    (p.0, p.1, omega (arith, p.0.least), λ u. absurd (true≢false u), away-at _ _ _ _ e l.2, rows_at _ _ _ _ _ _ e l.3)

pub returns : goal.returns
returns c = let r = c.put_tap-2.ensures in rows_at _ _ _ _ _ _ (omega (arith, c.requires.0.least)) r
