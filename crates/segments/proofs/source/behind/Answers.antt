use mathlib.Core.Path.{sym, subst}
use lib.Dec.{T}
use Rattle.segments.specs.Source.{behind}
use Rattle.segments.proofs.Positions.{fade-start}
use Rattle.segments.proofs.source.behind.Goals as goal

pub returns-then-q : goal.returns-then-q
unfolding behind
returns-then-q c = (rw c.if-q.true, record { low = subst T (sym c.if-q.true) tt; high = fade-start _ _ _ _ c.requires.0 c.requires.1 })

pub returns-else-q : goal.returns-else-q
unfolding behind
returns-else-q c = (rw c.if-q.false, tt)
