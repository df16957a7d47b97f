use mir.Facts.{to_z-of_z}
use mir.Val.{SFits}
use mir.Syntax.{w64}
use borrow.Author.Rules.{rules}
use Rattle.segments.proofs.Reading.{heard}
use mathlib.Core.Path.{sym, subst}
use Rattle.segments.specs.Source.{read_frame, heard_in}
use Rattle.player.specs.Bounds.{LoopOk}
use Rattle.segments.proofs.Positions.{current-ok, next-position}
use Rattle.segments.proofs.source.read.Goals as goal
use Rattle.segments.proofs.source.read.Goals.{then-cold-via-then-cold, then-cold-via-else-cold+then-hot}

pub returns-then-cold : goal.returns-then-cold
unfolding read_frame
returns-then-cold c = elim c.then-cold.branch [ then-cold-via-then-cold w ↦ (rw w.if-cold.true, c.requires.1) | then-cold-via-else-cold+then-hot w ↦ (rw (w.if-cold.false, w.if-hot.true), c.requires.1) ]

pub place-p-requires : goal.place-p-requires
place-p-requires c = (subst LoopOk (sym c.looping-lp.ensures) (current-ok _ _ _ c.requires.0.lp), c.requires.1)

pub frame-v-requires : goal.frame-v-requires
frame-v-requires c = (c.place-p.ensures.1, c.requires.0.half, c.requires.2)

pub returns-then-at_end : goal.returns-then-at_end
unfolding read_frame heard_in
returns-then-at_end c = let h : SFits w64 c.args.hot.data_delay = search rules in (rw (c.if-cold.false, c.if-hot.false, ← c.looping-lp.ensures, ← c.place-p.ensures.0, ← c.at_end.ensures, c.if-at_end.true, to_z-of_z h), c.place-p.ensures.1)

pub crossfade-heard-requires : goal.crossfade-heard-requires
crossfade-heard-requires c = (subst LoopOk (sym c.looping-lp.ensures) (current-ok _ _ _ c.requires.0.lp), c.place-p.ensures.1, c.requires.0.half)

pub returns : goal.returns
returns c = let a = c.args in let h : SFits w64 a.hot.data_delay = search rules in (rw (to_z-of_z h) (heard a.cold _ a.hot _ _ _ _ _ _ c.if-cold.false c.if-hot.false c.looping-lp.ensures c.place-p.ensures.0 c.at_end.ensures c.if-at_end.false c.unity-stored.ensures c.frame-v.ensures c.crossfade-heard.ensures), next-position _ _ _ _ _ c.requires.0.last c.place-p.ensures.2 c.place-p.ensures.1 c.at_end.ensures c.if-at_end.false c.requires.0.step)
