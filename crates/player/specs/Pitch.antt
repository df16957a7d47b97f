-- A player's step: sv's `set_pitch`, with 01's limits on the step. Definitions only.
use Rattle.std.specs.Prelude.{cond, Float}
use Rattle.std.specs.Float.{binary64}
use Rattle.std.specs.Float.Ieee.{mul, neg, le, lt, ne}
use Rattle.gain.specs.Gain.{cents_factor}
use Rattle.exact.specs.Single.{◌⊕◌, ◌⊖◌, ◌⊗◌, f0}
use Rattle.interp.specs.Position.{first}
use Rattle.interp.specs.Span.{span_for}
use Rattle.interp.specs.declared.sinc.SincSpan.{SincSpan}
use Rattle.player.specs.Bounds.{most}
use Rattle.player.specs.declared.Cold.{Cold}

-- up by `bend_up`, down by `bend_down`
unfoldable pub bend_cents : Cold → Float → Float
bend_cents c bend = cond (lt f0 bend) (bend ⊗ c.bend_up) (neg bend ⊗ c.bend_down)

-- Above 4,096 it is 4,096, and one that is not a number is 0. So is one below 0, which no rate and no pitch gives.
unfoldable pub held_step : Float → Float
held_step s = cond (le first s) (cond (lt most s) most s) first

-- the cents of note and bend as a factor, times the file's rate over the engine's, in double precision
unfoldable pub step_of : Cold → Float → Float → Float
step_of c note bend =
    let cents = c.keytrack ⊗ (note ⊖ c.keycenter) ⊕ c.base_cents ⊕ bend_cents c bend in
    held_step (mul binary64 (cents_factor cents) c.rate_ratio)

abbrev pub with_step : Float → SincSpan → Cold → Cold
with_step s span c = record {
  step = s;
  span = span;
  last = c.last;
  interp = c.interp;
  stereo = c.stereo;
  silent = c.silent;
  lp = c.lp;
  loop_mode = c.loop_mode;
  n_filters = c.n_filters;
  gain = c.gain;
  matrix = c.matrix;
  rate_ratio = c.rate_ratio;
  base_cents = c.base_cents;
  keytrack = c.keytrack;
  keycenter = c.keycenter;
  bend_up = c.bend_up;
  bend_down = c.bend_down;
  off_mode = c.off_mode;
  off_time = c.off_time;
  release_time = c.release_time;
}

-- the kernel's span is that of the step, and stays where the step does
unfoldable pub pitched : Cold → Float → Float → Cold
pitched c note bend =
    let s = step_of c note bend in
    cond (ne s c.step) (with_step s (span_for s) c) c
