use mathlib.Core.Path.{refl}
use native.Mathlib.Omega.{arith}
use Rattle.segments.specs.Plain.{plain_end}
use borrow.Author.Rules.{rules}
use Rattle.segments.proofs.plain.plain_end.Goals as goal

pub returns-in-None : goal.returns-in-None
unfolding plain_end
returns-in-None c = rw c.in-None.is (refl, tt)

pub returns-in-None-fade : goal.returns-in-None-fade
unfolding plain_end
returns-in-None-fade c = rw (c.in-Some.is, c.in-None-fade.is) (refl, tt)

pub returns-in-Some-fade : goal.returns-in-Some-fade
unfolding plain_end
returns-in-Some-fade c = rw (c.in-Some.is, c.in-Some-fade.is) (omega (arith, c.min.ensures), search rules)
