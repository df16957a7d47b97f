use Rattle.events.proofs.Starting.{fired, none-started}
use Rattle.std.proofs.Common.{refl}
use Rattle.events.proofs.start.fire_releases.Goals as goal

pub returns-then-chosen-eq0 : goal.returns-then-chosen-eq0
returns-then-chosen-eq0 c = let a = c.args in
    (fired _ a.k.regions a.ns a.at a.b.session a.b.voice a.k.few _ c.next_serial-t.ensures _ c.rand01.ensures _ c.choose_off-chosen.ensures _ refl _ (none-started _ a.ns _ _ _ c.if-chosen-eq0.true), c.requires)

pub returns : goal.returns
returns c = let a = c.args in
    (fired _ a.k.regions a.ns a.at a.b.session a.b.voice a.k.few _ c.next_serial-t.ensures _ c.rand01.ensures _ c.choose_off-chosen.ensures _ c.held_for-held_secs.ensures _ c.start_all.ensures.0, c.start_all.ensures.1)
