use Rattle.segments.specs.Source.{faded}
use Rattle.segments.proofs.source.fade.Goals as goal

pub incoming-w-requires : goal.incoming-w-requires
incoming-w-requires c = let h = rw c.in-Some.is at c.requires.0 in (h, c.requires.1)

pub returns-in-None : goal.returns-in-None
unfolding faded
returns-in-None c = rw (c.in-None.is, c.s_curve-g_out.ensures)

pub returns-in-Some : goal.returns-in-Some
unfolding faded
returns-in-Some c = rw (c.in-Some.is, c.s_curve-g_in.ensures, c.incoming-w.ensures, c.s_curve-g_out.ensures)
