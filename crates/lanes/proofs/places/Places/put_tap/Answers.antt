use borrow.Author.Rules.{rules}
use native.Mathlib.Omega.{arith}
use Rattle.interp.proofs.Table.{place-fits}
use Rattle.lanes.proofs.Rows.{tap-number, tap-inside, rows-put}
use Rattle.lanes.proofs.places.Places.put_tap.Goals as goal

pub near-requires : goal.near-requires
near-requires g c = let p = c.requires in (tap-number _ _ _ _ p.4 p.0 p.1.f0 p.2, λ e. let q = p.3 e in tap-inside _ _ _ _ p.4 p.0 p.1.f0 q.0 q.1)

pub near-requires-2 : goal.near-requires-2
near-requires-2 g c = let p = c.requires in (tap-number _ _ _ _ p.4 p.0 p.1.f1 p.2, λ e. let q = p.3 e in tap-inside _ _ _ _ p.4 p.0 p.1.f1 q.0 q.1)

pub near-requires-3 : goal.near-requires-3
near-requires-3 g c = let p = c.requires in (tap-number _ _ _ _ p.4 p.0 p.1.f2 p.2, λ e. let q = p.3 e in tap-inside _ _ _ _ p.4 p.0 p.1.f2 q.0 q.1)

pub near-requires-4 : goal.near-requires-4
near-requires-4 g c = let p = c.requires in (tap-number _ _ _ _ p.4 p.0 p.1.f3 p.2, λ e. let q = p.3 e in tap-inside _ _ _ _ p.4 p.0 p.1.f3 q.0 q.1)

pub put-requires : goal.put-requires
put-requires g c = let p = c.requires in
    let y0 = c.near in
    let y1 = c.near-2 in
    let y2 = c.near-3 in
    let y3 = c.near-4 in
    (omega (arith, p.2, p.0.most), record { x0 = place-fits _ _ y0.ensures; x1 = place-fits _ _ y1.ensures; x2 = place-fits _ _ y2.ensures; x3 = place-fits _ _ y3.ensures })

pub returns : goal.returns
returns g c = let p = c.requires in
    let r = c.put.ensures in
    (rows-put _ _ _ _ p.4 _ _ _ _ c.near.ensures c.near-2.ensures c.near-3.ensures c.near-4.ensures _ _ _ _ (search rules) (search rules) (omega (arith, p.2, p.0.most)) p.5 r.0 r.1).0
