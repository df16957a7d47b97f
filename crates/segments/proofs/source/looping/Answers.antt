use Rattle.std.proofs.Common.{inl, inr}
use Rattle.segments.specs.Source.{current_loop}
use Rattle.segments.proofs.source.looping.Goals as goal

pub returns-then-released : goal.returns-then-released
unfolding current_loop
returns-then-released c = let a = c.args in rw (c.in-Sustain.is, ← c.released.ensures, c.if-released.true)

pub returns-in-NoLoop : goal.returns-in-NoLoop
unfolding current_loop
returns-in-NoLoop c = elim c.in-NoLoop.is [ inl e ↦ rw e | inr e ↦ rw e ]

pub returns-in-Continuous : goal.returns-in-Continuous
unfolding current_loop
returns-in-Continuous c = rw c.in-Continuous.is

pub returns-else-released : goal.returns-else-released
unfolding current_loop
returns-else-released c = rw (c.in-Sustain.is, ← c.released.ensures, c.if-released.false)
