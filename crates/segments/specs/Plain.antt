-- Frames that are read as they are stored, under an envelope that rests and through no filter. Definitions only.
use Rattle.player.specs.declared.LoopRt.{LoopRt}
use Rattle.player.specs.declared.Fade.{Fade}
use Rattle.std.specs.Prelude.{◌≡◌, Bool, true, false, not, ◌&&◌, List, ℕ, zero, suc, ◌+◌, ◌-◌, ◌≤◌, ◌<◌, min, eqb, pos, Float, get_or, length, None, Option, Some, IfSome}
use Rattle.std.specs.Int.Signed.{lt_z}
use Rattle.std.specs.Float.{binary64}
use Rattle.std.specs.Float.Ieee.{lt, eq, of_bits}
use Rattle.exact.specs.Single.{f0}
use Rattle.envelope.specs.declared.EgState.{EgState}
use Rattle.envelope.specs.declared.EgState.TheVariants.{Delay, Attack, Hold, Decay, Sustain, Release, Fadeout, Done}
use Rattle.envelope.specs.declared.Env.{Env}
use Rattle.filter.specs.declared.FilterShape.{FilterShape}
use Rattle.player.specs.declared.Hot.{Hot}
use Rattle.player.specs.declared.Cold.{Cold}
use Rattle.interp.specs.Position.{Position}
use Rattle.segments.specs.declared.plain.Rested.{Rested}
use Rattle.segments.specs.Source.{Sound, at_pos}
use Rattle.segments.specs.Segment.{Run, run_one, added, share}

abbrev pub sustains : EgState → Bool
sustains Delay = false
sustains Attack = false
sustains Hold = false
sustains Decay = false
sustains Sustain = true
sustains Release = false
sustains Fadeout = false
sustains Done = false

-- in its sustain, at or below its level
unfoldable pub is_resting : Env → Bool
is_resting e = sustains e.state && (not e.free_running && not (lt e.sustain e.value))

-- no filter, no delay left and an envelope that rests
unfoldable pub is_steady : Cold → Hot → Bool
is_steady c h = eqb c.n_filters 0 && (not (lt_z (pos 0) h.data_delay) && is_resting h.env)

-- a step of exactly 1.0 through a sample that has not ended
unfoldable pub is_plain : Cold → Hot → Bool
is_plain c h = eq c.step (of_bits binary64 0x3ff0_0000_0000_0000) && (not c.silent && (not h.data_ended && is_steady c h))

-- the same where there is no sample
unfoldable pub is_silent : Cold → Hot → Bool
is_silent c h = c.silent && is_steady c h

-- the frame at which plain frames end: the sample's last, or the first past the loop or of its fade
abbrev pub before_fade : ℕ → Option Fade → ℕ
before_fade end None = end
before_fade end (Some f) = min end f.start

unfoldable pub plain_end : Option LoopRt → ℕ → ℕ
plain_end None last = last
plain_end (Some l) last = before_fade (l.end + 1) l.fade

-- a fade begins at a frame of 32 bits
abbrev pub FadeSmall : Option LoopRt → Type 0
FadeSmall None = Unit {0}
FadeSmall (Some l) = IfSome l.fade (λ f. f.start < 4294967296)

-- frame q of the second channel; a mono sample has none
abbrev pub second_at : Option (List Float) → ℕ → Float
second_at None q = f0
second_at (Some b) q = get_or b q f0

-- every channel has n frames
abbrev pub Reaches : List Float → Option (List Float) → ℕ → Type 0
Reaches a b n = (n ≤ length a) × IfSome b (λ xs. n ≤ length xs)

-- what an output gets of the stored frame i behind frame p
abbrev pub plain_share : Float → Float → Float → List Float → Option (List Float) → ℕ → ℕ → Float
plain_share g x y a b p i = share g x y (get_or a (p + i) f0) (second_at b (p + i))

-- f 0 to f (k - 1), added to an output from frame j on
unfoldable pub added_run : (ℕ → Float) → ℕ → ℕ → List Float → List Float
added_run f j zero out = out
added_run f j (suc k) out = added (added_run f j k out) (j + k) (f k)

-- k frames more from frame j on
unfoldable pub run_from : Cold → List FilterShape → Sound → ℕ → ℕ → Run → Run
run_from c slots s j zero x = x
run_from c slots s j (suc k) x = run_one c slots s (j + k) (run_from c slots s j k x)

-- Frames j to r.next of both outputs are what a run of the player gives, and of the player it changes the position alone. Filters and their
-- states have no part in it, nor has the sinc table.
pub record Goes (c : Cold) (h : Hot) (a : List Float) (b : Option (List Float)) (j : ℕ) (left right : List Float) (r : Rested) (left' right' : List Float) : Type 0 where
  pub from : j ≤ r.next
  pub to : r.next ≤ length left
  pub position : Position r.pos
  pub runs : (slots : List FilterShape) (states table : List Float)
      → ◌≡◌ {A = Run} (record { hot = at_pos r.pos h; states = states; left = left'; right = right'; done = false })
      (run_from c slots (record { a = a; b = b; table = table }) j (r.next - j) (record { hot = h; states = states; left = left; right = right; done = false }))
