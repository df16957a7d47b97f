use Rattle.std.proofs.Common.{◌∙◌, ap, refl, sym}
use Rattle.session.proofs.Walks.{walk-hit, walk-miss, walk-done, untouched}
use Rattle.session.proofs.OffTimes.{offs-hit, offs-miss, off-some, off-none}
use Rattle.session.specs.Records.{waits, collected}
use Rattle.session.specs.Rules.{collect}
use Rattle.session.specs.Offs.{off_of}
use Rattle.session.proofs.collect.Goals as goal
use Rattle.session.proofs.collect.Goals.{in-Some, in_default}

pub loop-r-preserved : goal.loop-r-preserved
loop-r-preserved c =
    let v = c.loop-r.invariant in
    let p = waits c.args.voice in
    let same = untouched p collected _ _ _ v.0 _ in (
      elim c.match-off_for.branch [
        | in-Some w ↦ w.r-items-is ∙ walk-hit p collected _ _ _ v.0 _ _ refl _ (off-some c.args.voice _ _ c.off_for.ensures w.in-Some.off w.in-Some.is).0 w.collected.ensures
        | in_default w ↦ w.r-items-is ∙ walk-miss p collected _ _ _ v.0 _ _ refl (off-none c.args.voice _ _ c.off_for.ensures w.in_default.is)
      ],
      elim c.match-off_for.branch [
        | in-Some w ↦
            let told = off-some c.args.voice _ _ c.off_for.ensures w.in-Some.off w.in-Some.is in
            w.offs-is ∙ offs-hit c.args.voice _ _ _ _ v.1 c.loop-r-test.true _ (ap p same) _ _ told.0 (told.1 ∙ ap off_of same) w.push.ensures
        | in_default w ↦ w.offs-is ∙ offs-miss c.args.voice _ _ _ _ v.1 c.loop-r-test.true _ (ap p same) (off-none c.args.voice _ _ c.off_for.ensures w.in_default.is)
      ],
    )

pub returns-clause-taken : goal.returns-clause-taken
unfolding collect
returns-clause-taken c = walk-done (waits c.args.voice) collected _ _ _ c.loop-r.invariant.0 c.loop-r-test.false
