use mathlib.Core.Path.{sym, ap, subst, ◌∙◌}
use Rattle.std.specs.Prelude.{position}
use Rattle.players.specs.declared.Offed.{Offed}
use Rattle.players.specs.Gate.{in_slot}
use Rattle.players.specs.Seats.{PlayersOk}
use Rattle.players.proofs.Kept.{offed-slot-ok}
use Rattle.players.proofs.Places.{met-off, met-on, unmet}
use Rattle.players.proofs.gate.off_slot.Goals as goal

pub returns-in_default : goal.returns-in_default
returns-in_default c =
    (unmet _ c.args.ps c.requires (sym (c.place_of.ensures ∙ ap (position (in_slot c.args.slot)) c.as_slice.ensures) ∙ c.in_default.is), c.requires)

pub returns-then-p : goal.returns-then-p
returns-then-p c =
    (met-off _ c.args.ps c.requires c.in-Some.i _ (sym (c.place_of.ensures ∙ ap (position (in_slot c.args.slot)) c.as_slice.ensures) ∙ c.in-Some.is) c.if-p.true, c.requires)

pub returns : goal.returns
returns c =
    let e = met-on _ c.args.ps c.requires c.in-Some.i _ (sym (c.place_of.ensures ∙ ap (position (in_slot c.args.slot)) c.as_slice.ensures) ∙ c.in-Some.is) _ c.if-p.false c.turned_off.ensures in
    (e, subst (λ (x : Offed). PlayersOk x.players) (sym e) (offed-slot-ok c.args.ps c.requires _))
