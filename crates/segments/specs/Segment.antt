-- A player's frames between two events, added to a part of each output. Definitions only.
use Rattle.std.specs.Prelude.{Bool, true, false, not, ◌&&◌, cond, List, ℕ, zero, suc, ℤ, pos, ◌-ℤ◌, Float, length, get_or, set}
use Rattle.std.specs.Int.Signed.{lt_z}
use Rattle.std.specs.Float.{nan, binary32}
use Rattle.std.specs.Float.Ieee.{of_bits}
use Rattle.envelope.specs.declared.Env.{Env}
use Rattle.envelope.specs.Envelope.{is_done, env_next, released, release_timed}
use Rattle.filter.specs.declared.FilterShape.{FilterShape}
use Rattle.filter.specs.Filter.{Paired, chained}
use Rattle.exact.specs.Single.{◌⊕◌, ◌⊗◌}
use Rattle.player.specs.declared.Hot.{Hot}
use Rattle.player.specs.declared.Cold.{Cold}
use Rattle.player.specs.declared.Player.{Player}
use Rattle.segments.specs.declared.source.Source.{Source}
use Rattle.segments.specs.declared.segment.Frame.{Frame}
use Rattle.segments.specs.declared.segment.Played.{Played}
use Rattle.segments.specs.declared.segment.Turn.{Turn}
use Rattle.segments.specs.declared.segment.Turn.TheVariants.{Over, Sounds}
use Rattle.segments.specs.Source.{Sound, no_sound, read_frame}

-- 6e-3 seconds
abbrev pub off_fast : Float
off_fast = of_bits binary32 0x3bc4_9ba6

-- the data have ended, had not before, and the player is not off
unfoldable pub ends_now : Bool → Hot → Bool
ends_now was h = h.data_ended && (not was && not h.offed)

-- off, with a release of 6 ms
unfoldable pub fast_off : Hot → Hot
fast_off h = record { env = released (release_timed off_fast h.env); pos = h.pos; data_delay = h.data_delay; data_ended = h.data_ended; offed = true }

-- the frame v at the envelope's value e
abbrev pub frame_with : Float → Source → Hot → Frame
frame_with e v h = record { hot = h; value = e; heard = v.heard }

-- where it ends the data, the fast release begins
unfoldable pub frame_after : Float → Bool → Source → Frame
frame_after e was v = frame_with e v (cond (ends_now was v.hot) (fast_off v.hot) v.hot)

abbrev pub silent_frame : Float → Hot → Frame
silent_frame e h = record { hot = h; value = e; heard = no_sound }

abbrev pub with_env : Env → ℤ → Hot → Hot
with_env n d h = record { env = n; pos = h.pos; data_delay = d; data_ended = h.data_ended; offed = h.offed }

-- One frame, with the envelope n after its step and its value e. Nothing comes of it where the envelope is done; during the delay it is
-- silence and the sample waits.
abbrev pub frame_at : Cold → Sound → Hot → Env → Float → Turn
frame_at c s h n e =
    cond (is_done n.state) (Over (with_env n h.data_delay h))
    (cond (lt_z (pos 0) h.data_delay) (Sounds (silent_frame e (with_env n (h.data_delay -ℤ pos 1) h)))
    (Sounds (frame_after e h.data_ended (read_frame c s (with_env n h.data_delay h)))))

-- the envelope's step comes first
unfoldable pub frame_next : Cold → Sound → Hot → Turn
frame_next c s h = frame_at c s h (env_next h.env).env (env_next h.env).value

-- the player after it
abbrev pub hot_of : Turn → Hot
hot_of (Over h) = h
hot_of (Sounds f) = f.hot

-- ---- the mix

-- what one output gets: the gain times the frame through a row of the matrix
abbrev pub share : Float → Float → Float → Float → Float → Float
share g x y l r = g ⊗ (x ⊗ l ⊕ y ⊗ r)

abbrev pub added : List Float → ℕ → Float → List Float
added out j x = set out j (get_or out j nan ⊕ x)

-- a player's frames so far: what they change of it, and both outputs
pub record Run : Type 0 where
  pub hot : Hot
  pub states : List Float
  pub left : List Float
  pub right : List Float
  pub done : Bool

-- frame j, through the filters, is added to both outputs
abbrev pub mixed : Cold → ℕ → Run → Frame → Paired → Run
mixed c j s f v =
    let g = c.gain ⊗ f.value in
    record {
      hot = f.hot;
      states = v.states;
      left = added s.left j (share g c.matrix.ll c.matrix.rl v.l v.r);
      right = added s.right j (share g c.matrix.lr c.matrix.rr v.l v.r);
      done = false;
    }

abbrev pub played : Cold → List FilterShape → ℕ → Run → Turn → Run
played c slots j s (Over h) = record { hot = h; states = s.states; left = s.left; right = s.right; done = true }
played c slots j s (Sounds f) = mixed c j s f (chained slots c.stereo c.n_filters (record { l = f.heard.l; r = f.heard.r; states = s.states }))

-- one frame more, unless the envelope is done
unfoldable pub run_one : Cold → List FilterShape → Sound → ℕ → Run → Run
run_one c slots s j x = cond x.done x (played c slots j x (frame_next c s x.hot))

-- the first k frames
unfoldable pub run_for : Cold → List FilterShape → Sound → ℕ → Run → Run
run_for c slots s zero x = x
run_for c slots s (suc k) x = run_one c slots s k (run_for c slots s k x)

-- what a run of frames leaves
pub record After : Type 0 where
  pub hot : Hot
  pub states : List Float
  pub left : List Float
  pub right : List Float

abbrev pub after_run : Run → After
after_run x = record { hot = x.hot; states = x.states; left = x.left; right = x.right }

-- in a segment only the end of the data sets `offed`
abbrev pub went_off : Bool → Bool → Bool
went_off before after = not before && after

-- a player's segment: the player, whether its data ended in it, and both outputs' parts
pub record Rendered : Type 0 where
  pub played : Played
  pub left : List Float
  pub right : List Float

abbrev pub with_hot : Hot → List Float → Player → Player
with_hot h z p = record { hot = h; cold = p.cold; slots = p.slots; states = z; slot = p.slot; region = p.region; sample = p.sample; on_note = p.on_note }

abbrev pub played_of : Player → After → Rendered
played_of p x = record {
  played = record { player = with_hot x.hot x.states p; ended = went_off p.hot.offed x.hot.offed };
  left = x.left;
  right = x.right;
}

-- as many frames as the left part has
unfoldable pub played_by : Sound → Player → List Float → List Float → Rendered
played_by s p l r =
    played_of p (after_run (run_for p.cold p.slots s (length l) (record { hot = p.hot; states = p.states; left = l; right = r; done = false })))
