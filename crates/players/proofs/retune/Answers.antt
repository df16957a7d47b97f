use mathlib.Core.Path.{sym, subst}
use Rattle.players.specs.declared.Players.{Players}
use Rattle.players.specs.Seats.{PlayersOk, retuned_all}
use Rattle.players.proofs.Kept.{retuned-all-ok}
use Rattle.players.proofs.Places.{in-place}
use Rattle.players.proofs.retune.Goals as goal

pub returns : goal.returns
unfolding retuned_all
returns c = let s = c.split_at_mut-players.ensures in
    let e = in-place c.args.ps c.requires _ _ s.front_len s.front s.back _ _ c.retune_each.ensures in
    (e, subst (λ (x : Players). PlayersOk x) (sym e) (retuned-all-ok c.args.ps c.requires _ _))
