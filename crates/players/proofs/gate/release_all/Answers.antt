use mathlib.Core.Path.{sym, subst}
use Rattle.players.specs.declared.Released.{Released}
use Rattle.players.specs.Seats.{PlayersOk}
use Rattle.players.proofs.Kept.{released-all-ok}
use Rattle.players.proofs.Places.{released-done}
use Rattle.players.proofs.gate.release_all.Goals as goal

pub returns : goal.returns
returns c = let s = c.split_at_mut-players.ensures in
    let r = c.release_each-killed.ensures in
    let e = released-done c.args.ps c.requires _ _ s.front_len s.front s.back _ r.0 _ r.1 in
    (e, subst (λ (x : Released). PlayersOk x.players) (sym e) (released-all-ok c.args.ps c.requires))
