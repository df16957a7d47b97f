use Rattle.std.proofs.Common.{refl, sym, ◌∙◌, subst, arith}
use Rattle.players.specs.Seats.{PlayersOk}
use Rattle.session.proofs.Walks.{fold_step}
use Rattle.events.proofs.Split.{carried, fold_over, voice-drops, voice-joins, voices-all}
use Rattle.events.specs.Voice.{Kit}
use Rattle.events.proofs.start.start_players.Goals as goal
use Rattle.events.proofs.start.start_players.Goals.{else-ps-lt32, then-ps-lt32}

pub loop-ri-preserved : goal.loop-ri-preserved
loop-ri-preserved c = let a = c.args in
    let k : Kit = record { words = a.k.words.now; samples = a.k.samples.now } in
    let l = c.loop-ri in (
      fold_step _ _ c.as_slice-regions.result.now l.ri-index (carried l.ps l.next l.dropped a.v) l.invariant.0 0 _ c.loop-ri-test.true
          (elim c.if-ps-lt32.branch [ then-ps-lt32 w ↦ voice-joins k a.x.note a.x.cause a.v l.ps l.next l.dropped _ _ _ _ (omega (arith, w.if-ps-lt32.true)) _ refl _ w.player_of.ensures.0 (w.ps-is ∙ w.push.ensures.0) (w.next-is ∙ w.wrapping_add_u32-next.ensures.value) w.dropped-is | else-ps-lt32 w ↦ voice-drops k a.x.note a.x.cause a.v l.ps l.next l.dropped _ _ _ _ (omega (arith, w.if-ps-lt32.false)) w.ps-is w.next-is (w.dropped-is ∙ w.drop_one-dropped.ensures) ]),
      elim c.if-ps-lt32.branch [ then-ps-lt32 w ↦ subst PlayersOk (sym w.ps-is) w.push.ensures.1 | else-ps-lt32 w ↦ subst PlayersOk (sym w.ps-is) l.invariant.1 ],
    )

pub returns : goal.returns
returns c = let a = c.args in (
  λ s. voices-all (record { words = a.k.words.now; samples = a.k.samples.now }) a.x.note a.x.cause _ (record { session = s; voice = a.v }) _
      (fold_over _ _ c.as_slice-regions.result.now c.loop-ri.ri-index (carried c.loop-ri.ps c.loop-ri.next c.loop-ri.dropped a.v) c.loop-ri.invariant.0 (omega arith) _ c.as_slice-regions.ensures),
  c.loop-ri.invariant.1,
)
