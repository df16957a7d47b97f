use mathlib.Core.Path.{refl, sym, ap, ◌∙◌}
use native.Mathlib.Omega.{arith}
use lib.ListN.{take}
use Rattle.causes.proofs.Tallies.{tally-amiss, tally-stray, tally-over, tally-next, tally-done, place_found}
use Rattle.causes.proofs.tally.others_fit.Goals as goal

pub returns-then-is_amiss : goal.returns-then-is_amiss
returns-then-is_amiss c =
    let s = c.args.s.now in
    tally-amiss c.args.regions c.args.own s _ (ap (λ n. take n s.players) c.used-2.ensures) _ (ap (λ n. take n s.voices.ids) c.used.ensures) _ _ c.loop-r.invariant.tallied _ c.loop-r-test.true _ c.is_amiss.ensures c.if-is_amiss.true

pub returns-in_default : goal.returns-in_default
returns-in_default c =
    let s = c.args.s.now in
    tally-stray c.args.regions c.args.own s _ (ap (λ n. take n s.players) c.used-2.ensures) _ (ap (λ n. take n s.voices.ids) c.used.ensures) _ _ c.loop-r.invariant.tallied _ c.loop-r-test.true (sym c.is_amiss.ensures ∙ c.if-is_amiss.false) (sym c.place_after-last.ensures.0 ∙ c.in_default.is)

pub returns-then-counts-p-ge32 : goal.returns-then-counts-p-ge32
returns-then-counts-p-ge32 c =
    let s = c.args.s.now in
    tally-over c.args.regions c.args.own s _ (ap (λ n. take n s.players) c.used-2.ensures) _ (ap (λ n. take n s.voices.ids) c.used.ensures) _ _ c.loop-r.invariant.tallied _ c.loop-r-test.true (sym c.is_amiss.ensures ∙ c.if-is_amiss.false) _ (sym c.place_after-last.ensures.0 ∙ c.in-Some.is) c.if-counts-p-ge32.true

pub loop-r-preserved : goal.loop-r-preserved
loop-r-preserved c =
    let s = c.args.s.now in
    let found = sym c.place_after-last.ensures.0 ∙ c.in-Some.is in
    record {
      tallied = tally-next c.args.regions c.args.own s _ (ap (λ n. take n s.players) c.used-2.ensures) _ (ap (λ n. take n s.voices.ids) c.used.ensures) _ _ c.loop-r.invariant.tallied _ c.loop-r-test.true (sym c.is_amiss.ensures ∙ c.if-is_amiss.false) _ found c.if-counts-p-ge32.false _ refl;
      place = place_found _ _ _ (sym found);
    }

pub returns : goal.returns
returns c =
    let s = c.args.s.now in
    tally-done c.args.regions c.args.own s _ (ap (λ n. take n s.players) c.used-2.ensures) _ (ap (λ n. take n s.voices.ids) c.used.ensures) _ _ c.loop-r.invariant.tallied (omega (arith, c.loop-r-test.false))
