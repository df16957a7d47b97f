use mathlib.Core.Path.{ap, ◌∙◌}
use lib.ListN.{set}
use Rattle.players.specs.Seats.{retuned}
use Rattle.players.proofs.Places.{walk-each, walked-all}
use Rattle.players.proofs.retune_each.Goals as goal

pub loop-p-preserved : goal.loop-p-preserved
loop-p-preserved c = let l = c.loop-p in
    ap (set l.p-items l.p-index) c.retune_one.ensures ∙ walk-each (retuned c.args.tune.note_f c.args.tune.bend) c.args.players.now l.p-items l.p-index _ l.invariant

pub returns : goal.returns
returns c = let l = c.loop-p in
    walked-all (retuned c.args.tune.note_f c.args.tune.bend) c.args.players.now l.p-items l.p-index l.invariant c.loop-p-test.false
