use mir.Facts.{to_z-of_z}
use mir.Val.{SFits}
use mir.Syntax.{w64}
use Rattle.player.specs.Start.{hot_at}
use borrow.Author.Rules.{rules}
use Rattle.player.proofs.start.hot_at.Goals as goal

pub returns : goal.returns
unfolding hot_at
returns c = let h : SFits w64 c.secs_to_samples-delay.result = search rules in rw (c.new-env.ensures, to_z-of_z h, c.is_one_shot-one.ensures, c.secs_to_samples-delay.ensures)
