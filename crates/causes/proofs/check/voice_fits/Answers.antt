use mathlib.Core.Path.{sym, ap, ◌∙◌}
use mathlib.Core.Bool.{not}
use Rattle.program.proofs.Checks.{every-no, after, final}
use Rattle.causes.specs.Tests.{voice_tests}
use Rattle.causes.proofs.Formed.{own-slots}
use Rattle.causes.proofs.check.voice_fits.Goals as goal

pub returns-then-over_players : goal.returns-then-over_players
returns-then-over_players c = every-no (voice_tests c.args.s.now c.args.v.now) 0 (ap not (sym c.over_players.ensures ∙ c.if-over_players.true))

pub returns-then-not-rate_fits : goal.returns-then-not-rate_fits
returns-then-not-rate_fits c = every-no (voice_tests c.args.s.now c.args.v.now) 1 (sym c.rate_fits.ensures ∙ c.if-not-rate_fits.true)

pub returns-then-over_held : goal.returns-then-over_held
returns-then-over_held c = every-no (voice_tests c.args.s.now c.args.v.now) 2 (ap not (sym c.over_held.ensures ∙ c.if-over_held.true))

pub returns-then-not-slots_in_order : goal.returns-then-not-slots_in_order
returns-then-not-slots_in_order c = every-no (voice_tests c.args.s.now c.args.v.now) 3 (sym (own-slots c.args.v.now.voice c.args.s.now c.args.v.now.players _ _ c.slots_of-slots.ensures c.slots_in_order.ensures) ∙ c.if-not-slots_in_order.true)

pub returns-then-region_outside : goal.returns-then-region_outside
returns-then-region_outside c = every-no (voice_tests c.args.s.now c.args.v.now) 4 (ap not (sym c.region_outside.ensures ∙ c.if-region_outside.true))

pub returns : goal.returns
returns c = after (ap not (sym c.over_players.ensures ∙ c.if-over_players.false)) (after (sym c.rate_fits.ensures ∙ c.if-not-rate_fits.false) (after (ap not (sym c.over_held.ensures ∙ c.if-over_held.false)) (after (sym (own-slots c.args.v.now.voice c.args.s.now c.args.v.now.players _ _ c.slots_of-slots.ensures c.slots_in_order.ensures) ∙ c.if-not-slots_in_order.false) (after (ap not (sym c.region_outside.ensures ∙ c.if-region_outside.false)) (final c.players_fit.ensures)))))
