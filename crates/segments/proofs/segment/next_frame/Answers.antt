use mathlib.Core.Path.{sym, subst}
use mir.Facts.{to_z-of_z}
use mir.Val.{SFits}
use mir.Syntax.{w64}
use Rattle.envelope.proofs.Counts.{lower-bits, lowered}
use Rattle.segments.specs.Segment.{frame_next}
use Rattle.interp.specs.Position.{Position}
use Rattle.segments.specs.declared.segment.Frame.{Frame}
use Rattle.segments.proofs.Positions.{frame-position}
use borrow.Author.Rules.{rules}
use Rattle.segments.proofs.segment.next_frame.Goals as goal

pub returns-then-done : goal.returns-then-done
unfolding frame_next
returns-then-done c = let h : SFits w64 c.args.hot.data_delay = search rules in (rw (← c.next-s.ensures, ← c.done.ensures, c.if-done.true, to_z-of_z h), c.requires.1)

pub overflow_sub-result : goal.overflow_sub-result
overflow_sub-result c = let h : SFits w64 c.args.hot.data_delay = search rules in lower-bits _ h c.if-d-gt0.true

pub returns-then-d-gt0 : goal.returns-then-d-gt0
unfolding frame_next
returns-then-d-gt0 c = let h : SFits w64 c.args.hot.data_delay = search rules in let t = rw (to_z-of_z h) at c.if-d-gt0.true in (rw (lowered _ h c.if-d-gt0.true, ← c.next-s.ensures, ← c.done.ensures, c.if-done.false, t), c.requires.1)

pub returns : goal.returns
unfolding frame_next
returns c = let h : SFits w64 c.args.hot.data_delay = search rules in let t = rw (to_z-of_z h) at c.if-d-gt0.false in (rw (c.frame_after.ensures, c.read-v.ensures.0, to_z-of_z h, ← c.next-s.ensures, ← c.done.ensures, c.if-done.false, t), subst (λ (f : Frame). Position f.hot.pos) (sym c.frame_after.ensures) (frame-position _ _ _ c.read-v.ensures.1))
