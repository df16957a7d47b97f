use mathlib.Core.Path.{sym, subst}
use lib.Dec.{T}
use Rattle.segments.specs.Source.{frame_of}
use borrow.Author.Rules.{rules}
use Rattle.segments.proofs.source.frame.Goals as goal

pub returns-then-stored : goal.returns-then-stored
unfolding frame_of
returns-then-stored c = rw c.if-stored.true c.stored_frame.ensures

pub returns-then-k-p : goal.returns-then-k-p
unfolding frame_of
returns-then-k-p c = let h = rw c.in-Some.is at c.requires.2 in rw c.if-stored.false (h c.args.p c.requires.0 (search rules) (subst T (sym c.if-k-p.true) tt))

pub returns : goal.returns
unfolding frame_of
returns c = rw c.if-stored.false c.read_pair.ensures
