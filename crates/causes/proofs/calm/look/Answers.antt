use mathlib.Core.Path.{sym, ap, ◌∙◌}
use mathlib.Core.Bool.{Bool, not}
use mathlib.Core.List.{List}
use Prim.Native.Nat.{ℕ}
use Rattle.std.specs.Prelude.{Some}
use Rattle.program.proofs.Checks.{every-no, after, final}
use Rattle.session.specs.Tests.{slots_in_order}
use Rattle.causes.specs.Calm.{look_tests, look_fits}
use Rattle.causes.proofs.Calming.{cond-some, none-where, some-where, own-slots, own-listed, own-apart}
use Rattle.causes.proofs.calm.look.Goals as goal

pub returns-then-not-slots_in_order : goal.returns-then-not-slots_in_order
unfolding look_fits
returns-then-not-slots_in_order c =
    let a = c.args in
    let s = a.s.now in
    let v = a.v.now in
    let told = cond-some _ _ _ (sym c.players_look.ensures ∙ c.in_ok-own.was) in
    let apart = ap (λ (ks : List ℕ). slots_in_order v.voice ks s) (sym (own-slots v.players c.in_ok-own.own told.1)) ∙ (sym c.slots_in_order.ensures ∙ c.if-not-slots_in_order.true) in
    none-where _ _ (sym (every-no (look_tests a.t a.words.now a.samples.now a.frames a.table s v) 3 (own-apart v.program.regions v.voice s _ (sym c.others_fit.ensures ∙ c.if-not-others_fit.false) apart)))

pub returns : goal.returns
unfolding look_fits
returns c =
    let a = c.args in
    let s = a.s.now in
    let v = a.v.now in
    let told = cond-some _ _ _ (sym c.players_look.ensures ∙ c.in_ok-own.was) in
    let listed = ap (λ (ks : List ℕ). slots_in_order v.voice ks s) (sym (own-slots v.players c.in_ok-own.own told.1)) ∙ (sym c.slots_in_order.ensures ∙ c.if-not-slots_in_order.false) in
    some-where _ _ _
    (sym (after (sym c.ground_fits.ensures ∙ c.if-not-ground_fits.false) (after (ap not (sym c.over_players.ensures ∙ c.if-over_players.false))
    (after told.0 (final (sym (own-listed v.program.regions v.voice s _ (sym c.others_fit.ensures ∙ c.if-not-others_fit.false) listed)))))))
    (ap (λ (w : Bool). Some w) c.off_waits.ensures)
