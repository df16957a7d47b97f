use mathlib.Core.Path.{sym}
use Rattle.player.proofs.Within.{turned}
use mir.Facts.{to_z-of_z}
use mir.Val.{SFits}
use mir.Syntax.{w32}
use Rattle.player.specs.Start.{cold_at}
use borrow.Author.Rules.{rules}
use Rattle.player.proofs.start.cold_at.Goals as goal

pub returns : goal.returns
unfolding cold_at
returns c = let h : SFits w32 c.args.pitch.transpose = search rules in rw (c.widen-rate.ensures, c.widen-file_rate.ensures, c.u32_to_f32-keycenter.ensures, c.i32_to_f32-transposed.ensures, c.for_step-span.ensures, c.loop_of-lp.ensures, c.last_of-last.ensures, c.frames_of-frames.ensures, c.rate_of-pcm_rate.ensures, c.is_stereo.ensures, sym (turned _ _ c.is_none.ensures), to_z-of_z h)
