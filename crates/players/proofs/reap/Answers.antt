use mathlib.Core.Path.{sym, subst, ◌∙◌}
use Rattle.players.specs.Seats.{PlayersOk, no_player}
use Rattle.players.proofs.Places.{reaping-none, reaping-room, reaping-seat, reaping_fine, reaping-out, reaping-on, reaped-done}
use Rattle.players.proofs.reap.Goals as goal
use Rattle.players.proofs.reap.Goals.{else-is_over, then-is_over}

pub loop-p-init : goal.loop-p-init
loop-p-init c = reaping-none c.args.ps _ c.requires c.as_slice-players.ensures

pub push_slot-requires : goal.push_slot-requires
push_slot-requires c = let l = c.loop-p in reaping-room c.args.ps c.requires c.as_slice-players.result.now l.p-index l.kept l.gone l.invariant c.loop-p-test.true no_player

pub push-requires : goal.push-requires
push-requires c = let l = c.loop-p in
    (l.invariant.fine, reaping-seat c.args.ps c.requires c.as_slice-players.result.now l.p-index l.kept l.gone l.invariant c.loop-p-test.true no_player, reaping_fine c.args.ps c.requires c.as_slice-players.result.now l.p-index l.kept l.gone l.invariant c.loop-p-test.true _)

pub loop-p-preserved : goal.loop-p-preserved
loop-p-preserved c = let l = c.loop-p in let told = c.is_over.ensures in
    elim c.if-is_over.branch [ then-is_over w ↦ rw (w.kept-is) (reaping-out c.args.ps c.requires c.as_slice-players.result.now l.p-index l.kept l.gone l.invariant c.loop-p-test.true _ _ told w.if-is_over.true _ (w.gone-is ∙ w.push_slot.ensures)) | else-is_over w ↦ rw (w.gone-is) (reaping-on c.args.ps c.requires c.as_slice-players.result.now l.p-index l.kept l.gone l.invariant c.loop-p-test.true _ _ told w.if-is_over.false _ (w.kept-is ∙ w.push.ensures.0) (subst PlayersOk (sym w.kept-is) w.push.ensures.1)) ]

pub returns : goal.returns
returns c = let l = c.loop-p in
    let e = reaped-done c.args.ps c.as_slice-players.result.now l.p-index l.kept l.gone l.invariant c.loop-p-test.false in
    (e, l.invariant.fine)
