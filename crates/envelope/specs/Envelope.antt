-- The envelope's step, stage by stage: each stage either answers, or hands the envelope on to a later stage.
use Rattle.std.specs.Prelude.{Bool, true, false, cond, Float, ℤ, pos, nat_abs, ◌-ℤ◌, ◌+◌, min}
use Rattle.envelope.specs.declared.EgState.{EgState}
use Rattle.envelope.specs.declared.EgState.TheVariants.{Delay, Attack, Hold, Decay, Sustain, Release, Fadeout, Done}
use Rattle.envelope.specs.declared.Env.{Env}
use Rattle.envelope.specs.declared.EnvStep.{EnvStep}
use Rattle.std.specs.Float.{binary32}
use Rattle.std.specs.Float.Ieee.{add, mul, sub, div, neg, lt, le, to_signed, of_bits}
use Rattle.std.specs.Int.Signed.{lt_z, le_z}
use Rattle.exact.specs.Order.{maximum, clamped}
use Rattle.elementary.specs.Functions.{exp_of}
use Rattle.program.specs.declared.region.Envelope.{Envelope}

abbrev pub zero32 : Float
zero32 = of_bits binary32 0

abbrev pub one32 : Float
one32 = of_bits binary32 0x3f80_0000

-- 1e-4, below which a release turns into a fade
abbrev pub threshold : Float
threshold = of_bits binary32 0x38d1_b717

-- 50e-3 seconds
abbrev pub transition_time : Float
transition_time = of_bits binary32 0x3d4c_cccd

-- e in the state s at the value v, with the transition d
abbrev pub env_at : EgState → Float → Float → Env → Env
env_at s v d e = record { state = s; value = v; start = e.start; delay = e.delay; attack_step = e.attack_step; hold = e.hold; decay_rate = e.decay_rate; sustain = e.sustain; release_rate = e.release_rate; transition_delta = d; free_running = e.free_running; sample_rate = e.sample_rate }

abbrev pub at_value : Float → Env → Env
at_value v e = env_at e.state v e.transition_delta e

abbrev pub at_state : EgState → Env → Env
at_state s e = env_at s e.value e.transition_delta e

abbrev pub answer : Env → EnvStep
answer e = record { value = e.value; env = e }

-- the change in a frame that takes v to 0 in the transition time
abbrev pub per_transition : Env → Float → Float
per_transition e x = div binary32 x (mul binary32 e.sample_rate transition_time)

unfoldable pub done_step : Env → EnvStep
done_step e = record { value = zero32; env = e }

unfoldable pub fadeout_step : Env → EnvStep
fadeout_step e = cond (lt zero32 (add binary32 e.value e.transition_delta))
    (answer (at_value (add binary32 e.value e.transition_delta) e))
    (done_step (env_at Done zero32 e.transition_delta e))

unfoldable pub release_step : Env → EnvStep
release_step e = cond (lt threshold (mul binary32 e.value e.release_rate))
    (answer (at_value (mul binary32 e.value e.release_rate) e))
    (fadeout_step (env_at Fadeout e.value (per_transition e (neg (maximum e.value threshold))) e))

unfoldable pub sustain_step : Env → EnvStep
sustain_step e = cond e.free_running (release_step (at_state Release e))
    (cond (lt e.sustain e.value) (answer (at_value (add binary32 e.value e.transition_delta) e)) (answer e))

abbrev pub sustained : Env → Float → Env
sustained e m = env_at Sustain m (per_transition e (sub binary32 e.sustain m)) e

unfoldable pub decay_step : Env → EnvStep
decay_step e = cond (lt e.sustain (mul binary32 e.value e.decay_rate))
    (answer (at_value (mul binary32 e.value e.decay_rate) e))
    (sustain_step (sustained e (maximum (mul binary32 e.value e.decay_rate) e.sustain)))

abbrev pub holding : ℤ → Env → Env
holding h e = record { state = e.state; value = e.value; start = e.start; delay = e.delay; attack_step = e.attack_step; hold = h; decay_rate = e.decay_rate; sustain = e.sustain; release_rate = e.release_rate; transition_delta = e.transition_delta; free_running = e.free_running; sample_rate = e.sample_rate }

unfoldable pub hold_step : Env → EnvStep
hold_step e = cond (lt_z (pos 0) e.hold) (answer (holding (e.hold -ℤ pos 1) e)) (decay_step (at_state Decay e))

unfoldable pub attack_stage_step : Env → EnvStep
attack_stage_step e = cond (lt (add binary32 e.value e.attack_step) one32)
    (answer (at_value (add binary32 e.value e.attack_step) e))
    (hold_step (env_at Hold one32 e.transition_delta e))

abbrev pub delaying : ℤ → Env → Env
delaying d e = record { state = e.state; value = e.start; start = e.start; delay = d; attack_step = e.attack_step; hold = e.hold; decay_rate = e.decay_rate; sustain = e.sustain; release_rate = e.release_rate; transition_delta = e.transition_delta; free_running = e.free_running; sample_rate = e.sample_rate }

unfoldable pub delay_step : Env → EnvStep
delay_step e = cond (lt_z (pos 0) e.delay) (answer (delaying (e.delay -ℤ pos 1) e)) (attack_stage_step (at_state Attack e))

abbrev pub step_in : EgState → Env → EnvStep
step_in Delay e = delay_step e
step_in Attack e = attack_stage_step e
step_in Hold e = hold_step e
step_in Decay e = decay_step e
step_in Sustain e = sustain_step e
step_in Release e = release_step e
step_in Fadeout e = fadeout_step e
step_in Done e = done_step e

unfoldable pub env_next : Env → EnvStep
env_next e = step_in e.state e

-- ---- what the player asks of an envelope

-- `EgState` in its declared order: from `Release` on
abbrev pub is_released : EgState → Bool
is_released Delay = false
is_released Attack = false
is_released Hold = false
is_released Decay = false
is_released Sustain = false
is_released Release = true
is_released Fadeout = true
is_released Done = true

abbrev pub is_done : EgState → Bool
is_done Delay = false
is_done Attack = false
is_done Hold = false
is_done Decay = false
is_done Sustain = false
is_done Release = false
is_done Fadeout = false
is_done Done = true

abbrev pub is_delaying : EgState → Bool
is_delaying Delay = true
is_delaying Attack = false
is_delaying Hold = false
is_delaying Decay = false
is_delaying Sustain = false
is_delaying Release = false
is_delaying Fadeout = false
is_delaying Done = false

unfoldable pub delay_left : Env → ℤ
delay_left e = cond (is_delaying e.state) e.delay (pos 0)

-- the release begins, unless it has
unfoldable pub released : Env → Env
released e = cond (is_released e.state) e (at_state Release e)

-- 1 / (sr * t) a frame: up from 0 to 1 in t seconds
unfoldable pub lin_rate : Float → Float → Float
lin_rate t sr = cond (le t zero32) one32 (div binary32 one32 (mul binary32 sr t))

-- t * sr toward zero, at most 2 ^ 63 - 1; of a NaN 0
unfoldable pub seconds_to_samples : Float → Float → ℤ
seconds_to_samples t sr = cond (le t zero32) (pos 0) (to_signed 63 (mul binary32 t sr))

-- 6e-3 seconds, the shortest decay or release
abbrev pub shortest : Float
shortest = of_bits binary32 0x3bc4_9ba6

-- e ^ (-9 / frames) a frame, so that t seconds take the value to about a ten-thousandth
unfoldable pub exp_rate : Float → Float → Float
exp_rate t sr = cond (le t zero32) zero32 (exp_of (div binary32 (neg (of_bits binary32 0x4110_0000)) (mul binary32 (maximum t shortest) sr)))

abbrev pub with_release : Float → Env → Env
with_release r e = record { state = e.state; value = e.value; start = e.start; delay = e.delay; attack_step = e.attack_step; hold = e.hold; decay_rate = e.decay_rate; sustain = e.sustain; release_rate = r; transition_delta = e.transition_delta; free_running = e.free_running; sample_rate = e.sample_rate }

unfoldable pub release_timed : Float → Env → Env
release_timed t e = with_release (exp_rate t e.sample_rate) e

-- two delays after each other: one below 0 counts as none, and the sum is at most 2 ^ 63 - 1
unfoldable pub delay_sum : ℤ → ℤ → ℤ
delay_sum a b = cond (le_z a (pos 0)) b (cond (le_z b (pos 0)) a (pos (min (nat_abs a + nat_abs b) 9223372036854775807)))

-- 0.0032, up to which a sustain is none
abbrev pub freely : Float
freely = of_bits binary32 0x3b51_b717

unfoldable pub runs_freely : Float → Bool → Bool
runs_freely s one = cond (le s freely) true one

-- a percentage from 0 to 100 as a number from 0 to 1
abbrev pub percent : Float → Float
percent x = clamped (div binary32 x (of_bits binary32 0x42c8_0000)) zero32 one32

-- the envelope of a region's times at the sample rate sr, behind a delay of its own
unfoldable pub started : Envelope → ℤ → Float → Bool → Env
started e delay sr one = record {
  state = Delay;
  value = percent e.start;
  start = percent e.start;
  delay = delay_sum delay (seconds_to_samples e.delay sr);
  attack_step = lin_rate e.attack sr;
  hold = seconds_to_samples e.hold sr;
  decay_rate = exp_rate e.decay sr;
  sustain = percent e.sustain;
  release_rate = exp_rate e.release sr;
  transition_delta = zero32;
  free_running = runs_freely (percent e.sustain) one;
  sample_rate = sr;
}
