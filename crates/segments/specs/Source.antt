-- One frame of a player's sample, before its filters. Definitions only.
use Rattle.std.specs.Prelude.{Bool, true, false, ◌&&◌, cond, List, ℕ, ◌+◌, Float, None, Option, Some, option_map, unwrap_or}
use Rattle.std.specs.Float.{binary64, binary32}
use Rattle.std.specs.Float.Ieee.{add, sub, div, le, eq, of_bits, to_unsigned}
use Rattle.exact.specs.Narrow.{narrowed}
use Rattle.exact.specs.Order.{clamped}
use Rattle.elementary.specs.Functions.{cos_of}
use Rattle.envelope.specs.declared.EgState.{EgState}
use Rattle.envelope.specs.Envelope.{is_released}
use Rattle.exact.specs.Single.{◌⊕◌, ◌⊖◌, ◌⊗◌, f0, f0_5, f1}
use Rattle.interp.specs.Position.{first, double, floored, is_whole, looped}
use Rattle.interp.specs.Points.{pad, frame_at}
use Rattle.interp.specs.Read.{pair_at}
use Rattle.interp.specs.declared.Interp.{Interp}
use Rattle.interp.specs.declared.sinc.SincSpan.{SincSpan}
use Rattle.exact.specs.declared.pair.Pair.{Pair}
use Rattle.program.specs.declared.region.LoopMode.{LoopMode}
use Rattle.program.specs.declared.region.LoopMode.TheVariants.{NoLoop, OneShot, Continuous, Sustain}
use Rattle.player.specs.declared.LoopRt.{LoopRt}
use Rattle.player.specs.declared.Fade.{Fade}
use Rattle.player.specs.declared.Hot.{Hot}
use Rattle.player.specs.declared.Cold.{Cold}
use Rattle.segments.specs.declared.source.Lent.{Lent}
use Rattle.segments.specs.declared.source.Source.{Source}

-- what a player is lent: its sample's channels, of which a mono sample has the first alone, and the sinc table
pub record Sound : Type 0 where
  pub a : List Float
  pub b : Option (List Float)
  pub table : List Float

abbrev pub sound_of : Lent → Sound
sound_of x = record { a = x.a.now; b = option_map (λ s. s.now) x.b; table = x.table.now }

-- The loop that a player goes round in. One that sustains ends with the release.
unfoldable pub current_loop : EgState → LoopMode → Option LoopRt → Option LoopRt
current_loop s NoLoop lp = None
current_loop s OneShot lp = None
current_loop s Continuous lp = lp
current_loop s Sustain lp = cond (is_released s) None lp

-- a position in the loop: while it is end + 1 or more, the loop's size comes off
unfoldable pub place_in : Option LoopRt → Float → Float
place_in None pos = pos
place_in (Some l) pos = looped l.start l.end pos

-- a player without a loop ends where its position reaches `last`
unfoldable pub at_end : Option LoopRt → ℕ → Float → Bool
at_end None last p = le (double last) p
at_end (Some l) last p = false

-- a step of exactly 1.0 at a whole position
unfoldable pub is_unity : Float → Float → Bool
is_unity step p = eq step (of_bits binary64 0x3ff0_0000_0000_0000) && is_whole p

-- both channels of the stored frame at p
abbrev pub stored_at : Sound → Float → Pair Float
stored_at s p = let n = to_unsigned 64 p + pad in record { l = frame_at s.a n; r = unwrap_or (option_map (λ b. frame_at b n) s.b) f0 }

-- both channels at p: the stored frame, or between frames by the kernel
unfoldable pub frame_of : Interp → SincSpan → Sound → Bool → Float → Pair Float
frame_of kind span s stored p = cond stored (stored_at s p) (pair_at kind s.a s.b p s.table span)

-- by a player's own kernel
abbrev pub frame_in : Cold → Sound → Bool → Float → Pair Float
frame_in c s stored p = frame_of c.interp c.span s stored p

-- PI to the nearest single
abbrev pub pi : Float
pi = of_bits binary32 0x4049_0fdb

-- 0.5 (1 - cos (PI x)), with x held to 0 and 1
unfoldable pub s_curve : Float → Float
s_curve x = f0_5 ⊗ (f1 ⊖ cos_of (pi ⊗ clamped x f0 f1))

-- whether p lies in the fade of a loop that begins at `start`; a loop shorter than its fade has it from its start on
unfoldable pub in_fade : ℕ → Fade → Float → Bool
in_fade start f p = le (double start) (floored p) && le (double f.start) (floored p)

-- how far p is into the fade, of 1
unfoldable pub fade_of : Fade → Float → Float
fade_of f p = narrowed (div binary64 (sub binary64 p (double f.start)) (double f.frames))

-- each channel by a gain
abbrev pub scaled : Float → Pair Float → Pair Float
scaled g v = record { l = v.l ⊗ g; r = v.r ⊗ g }

-- w comes in by the gain g
abbrev pub joined : Float → Pair Float → Pair Float → Pair Float
joined g w v = record { l = v.l ⊕ g ⊗ w.l; r = v.r ⊕ g ⊗ w.r }

-- What comes in at p, a loop's size before. Where the floor of that is below 0, which is where it is itself, there is no such frame.
unfoldable pub behind : LoopRt → Float → Option Float
behind l p = let q = sub binary64 p l.size in cond (le first q) (Some q) None

-- The fade at t: v goes out, and the frame at q, if there is one, comes in.
unfoldable pub faded : Cold → Sound → Bool → Float → Option Float → Pair Float → Pair Float
faded c s stored t None v = scaled (s_curve (f1 ⊖ t)) v
faded c s stored t (Some q) v = joined (s_curve t) (frame_in c s stored q) (scaled (s_curve (f1 ⊖ t)) v)

abbrev pub with_fade : Cold → Sound → LoopRt → Option Fade → Bool → Float → Pair Float → Pair Float
with_fade c s l None stored p v = v
with_fade c s l (Some f) stored p v = cond (in_fade l.start f p) (faded c s stored (fade_of f p) (behind l p) v) v

-- the frame v, read at p, with the loop's fade
unfoldable pub crossfaded : Cold → Sound → Option LoopRt → Bool → Float → Pair Float → Pair Float
crossfaded c s None stored p v = v
crossfaded c s (Some l) stored p v = with_fade c s l l.fade stored p v

abbrev pub no_sound : Pair Float
no_sound = record { l = f0; r = f0 }

abbrev pub silence : Hot → Source
silence h = record { hot = h; heard = no_sound }

abbrev pub at_pos : Float → Hot → Hot
at_pos p h = record { env = h.env; pos = p; data_delay = h.data_delay; data_ended = h.data_ended; offed = h.offed }

abbrev pub with_data_ended : Float → Hot → Hot
with_data_ended p h = record { env = h.env; pos = p; data_delay = h.data_delay; data_ended = true; offed = h.offed }

-- the frame v, read at p, and the step to the next position
abbrev pub stepped : Cold → Hot → Float → Pair Float → Source
stepped c h p v = record { hot = at_pos (add binary64 p c.step) h; heard = v }

-- a frame of the loop lp, read at p
abbrev pub heard_at : Cold → Sound → Hot → Option LoopRt → Float → Source
heard_at c s h lp p =
    let stored = is_unity c.step p in
    cond (at_end lp c.last p) (silence (with_data_ended p h))
    (stepped c h p (crossfaded c s lp stored p (frame_in c s stored p)))

unfoldable pub heard_in : Cold → Sound → Hot → Option LoopRt → Source
heard_in c s h lp = heard_at c s h lp (place_in lp h.pos)

-- One frame of the sample. Where there is none, and past its end, it is silence and the position stays.
unfoldable pub read_frame : Cold → Sound → Hot → Source
read_frame c s h = cond c.silent (silence h) (cond h.data_ended (silence h) (heard_in c s h (current_loop h.env.state c.loop_mode c.lp)))
