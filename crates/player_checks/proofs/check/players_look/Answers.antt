use mathlib.Core.Bool.{Bool}
use mathlib.Core.Path.{sym, ap, ◌∙◌}
use Rattle.std.specs.List.{list_all}
use Rattle.std.specs.Prelude.{cond, None, Some, ◌&&◌}
use Rattle.players.specs.Seats.{sounding, slots_from, slot_numbers}
use Rattle.player_checks.specs.Sound.{player_fits, sample_fits}
use Rattle.player_checks.proofs.Looking.{all_fit}
use Rattle.player_checks.proofs.check.players_look.Goals as goal

pub returns-then-all_pass : goal.returns-then-all_pass
returns-then-all_pass c = let a = c.args in
    let told = all_fit a.b a.samples.now a.ps.now ∙ sym (c.all_pass.ensures ∙ ap (list_all (λ p. player_fits a.b p && sample_fits a.samples.now p)) c.as_slice.ensures) ∙ c.if-all_pass.true in
    ap Some c.slots_of.ensures ∙ sym (ap (λ (t : Bool). cond t (Some (slots_from (slot_numbers (sounding a.ps.now)))) None) told)

pub returns : goal.returns
returns c = let a = c.args in
    let told = all_fit a.b a.samples.now a.ps.now ∙ sym (c.all_pass.ensures ∙ ap (list_all (λ p. player_fits a.b p && sample_fits a.samples.now p)) c.as_slice.ensures) ∙ c.if-all_pass.false in
    sym (ap (λ (t : Bool). cond t (Some (slots_from (slot_numbers (sounding a.ps.now)))) None) told)
