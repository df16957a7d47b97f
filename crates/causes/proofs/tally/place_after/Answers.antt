use mathlib.Core.Path.{sym, ◌∙◌, subst}
use Rattle.causes.proofs.Tallies.{place_found, place-again}
use Rattle.causes.specs.Others.{IsPlace}
use Rattle.causes.proofs.tally.place_after.Goals as goal

pub returns-in-Some : goal.returns-in-Some
returns-in-Some c =
    let p = subst (IsPlace c.args.ids.now) c.in-Some.is c.requires in
    (place-again c.args.ids.now c.args.id c.in-Some.k p c.if-ids-k.true, p)

pub returns-in_default : goal.returns-in_default
returns-in_default c = (c.place_of.ensures, place_found c.args.ids.now c.args.id _ c.place_of.ensures)
