use mathlib.Core.Path.{sym, ap, ◌∙◌}
use mathlib.Core.Bool.{Bool, ◌&&◌}
use Rattle.causes.specs.Others.{others_fit}
use Rattle.std.specs.Prelude.{None}
use Rattle.causes.proofs.Tallies.{session-as}
use Rattle.causes.proofs.check.session_fits.Goals as goal

pub returns-then-live_fits : goal.returns-then-live_fits
returns-then-live_fits c = c.others_fit.ensures ∙ sym (ap (λ (t : Bool). t && others_fit None None c.args.s.now) (sym c.live_fits.ensures ∙ c.if-live_fits.true)) ∙ session-as c.args.id c.args.s.now

pub returns-else-live_fits : goal.returns-else-live_fits
returns-else-live_fits c = c.if-live_fits.false ∙ sym (ap (λ (t : Bool). t && others_fit None None c.args.s.now) (sym c.live_fits.ensures ∙ c.if-live_fits.false)) ∙ session-as c.args.id c.args.s.now
