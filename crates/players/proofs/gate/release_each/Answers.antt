use mathlib.Core.Path.{◌∙◌, ap}
use lib.Seq.{take_all}
use Rattle.std.specs.List.{list_any}
use Rattle.session.proofs.Walks.{walk-hit, walk-miss, walk-done, untouched}
use Rattle.players.specs.Gate.{hears_gate, let_go}
use Rattle.players.proofs.Places.{ends, killed-hit, killed-miss}
use Rattle.players.proofs.gate.release_each.Goals as goal
use Rattle.players.proofs.gate.release_each.Goals.{then-hears_gate, else-hears_gate}

pub loop-p-preserved : goal.loop-p-preserved
loop-p-preserved c = let told = c.hears_gate.ensures in
    let g = c.loop-p.invariant in
    let same = untouched hears_gate let_go _ _ c.loop-p.p-index g.0 _ in (
      elim c.if-hears_gate.branch [ then-hears_gate w ↦ w.p-items-is ∙ walk-hit hears_gate let_go _ _ c.loop-p.p-index g.0 _ _ told _ w.if-hears_gate.true w.let_go.ensures | else-hears_gate w ↦ w.p-items-is ∙ walk-miss hears_gate let_go _ _ c.loop-p.p-index g.0 _ _ told w.if-hears_gate.false ],
      elim c.if-hears_gate.branch [ then-hears_gate w ↦ killed-hit c.args.players.now c.loop-p.p-index _ _ c.loop-p-test.true same _ g.1 _ told _ _ w.if-hears_gate.true w.delays-killed.ensures w.killed-is | else-hears_gate w ↦ w.killed-is ∙ killed-miss c.args.players.now c.loop-p.p-index _ _ c.loop-p-test.true same _ g.1 _ told w.if-hears_gate.false ],
    )

pub returns : goal.returns
returns c = let g = c.loop-p.invariant in
    (walk-done hears_gate let_go _ _ c.loop-p.p-index g.0 c.loop-p-test.false, g.1 ∙ ap (list_any ends) (take_all c.loop-p.p-index c.args.players.now c.loop-p-test.false))
