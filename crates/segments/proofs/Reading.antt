-- One frame of the sample, put together from its pieces. Assumes nothing.
use Rattle.std.proofs.Common.{Option}
use Rattle.player.specs.declared.LoopRt.{LoopRt}
use mathlib.Core.Path.{◌≡◌}
use mathlib.Core.Bool.{Bool, false}
use lib.Ieee.{Float}
use Rattle.exact.specs.declared.pair.Pair.{Pair}
use Rattle.player.specs.declared.Hot.{Hot}
use Rattle.player.specs.declared.Cold.{Cold}
use Rattle.segments.specs.Source.{Sound, current_loop, place_in, at_end, is_unity, frame_in, crossfaded, stepped, heard_in, read_frame}

-- lp, p, e, u, v and w are what the functions on the way answer
pub heard : (c : Cold) (s : Sound) (h : Hot) (lp : Option LoopRt) (p : Float) (e u : Bool) (v w : Pair Float)
    → c.silent ≡ false
    → h.data_ended ≡ false
    → lp ≡ current_loop h.env.state c.loop_mode c.lp
    → p ≡ place_in lp h.pos
    → e ≡ at_end lp c.last p
    → e ≡ false
    → u ≡ is_unity c.step p
    → v ≡ frame_in c s u p
    → w ≡ crossfaded c s lp u p v
    → stepped c h p w ≡ read_frame c s h
unfolding read_frame heard_in
heard c s h lp p e u v w a b l q d n i f x = rw (x, f, i, a, b, ← l, ← q, ← d, n)
