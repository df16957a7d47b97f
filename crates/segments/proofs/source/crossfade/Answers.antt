use mathlib.Core.Path.{subst}
use Rattle.segments.specs.Source.{behind, faded, crossfaded}
use Rattle.player.specs.Bounds.{LoopOk}
use Rattle.segments.proofs.source.crossfade.Goals as goal

pub behind-requires : goal.behind-requires
behind-requires c = (subst LoopOk c.in-Some.is c.requires.0, c.requires.1)

pub fade-requires : goal.fade-requires
fade-requires c = (c.behind.ensures.1, c.requires.2)

pub returns-then-in_fade : goal.returns-then-in_fade
unfolding crossfaded faded behind
returns-then-in_fade c = rw (c.in-Some.is, c.in-Some-fade.is, ← c.in_fade.ensures, c.if-in_fade.true, ← c.fade_of.ensures, ← c.behind.ensures.0) c.fade.ensures

pub returns-in-None : goal.returns-in-None
unfolding crossfaded
returns-in-None c = rw c.in-None.is

pub returns-in-None-fade : goal.returns-in-None-fade
unfolding crossfaded
returns-in-None-fade c = rw (c.in-Some.is, c.in-None-fade.is)

pub returns-else-in_fade : goal.returns-else-in_fade
unfolding crossfaded
returns-else-in_fade c = rw (c.in-Some.is, c.in-Some-fade.is, ← c.in_fade.ensures, c.if-in_fade.false)
