-- 01's table "Marked for proof": every row holds, at every rate above 0. Assumes nothing.
use mathlib.Core.Path.{◌≡◌, refl, ap, ◌∙◌}
use mathlib.Core.Bool.{true, false}
use lib.Dec.{T}
use lib.IntN.{pos}
use lib.Ieee.{Float, binary32, add, mul, sub, div, neg, lt, le, eq, is_nan, of_bits, of_int}
use Rattle.envelope.specs.Envelope.{zero32, env_at, per_transition, is_done, started, env_next, delay_step, attack_stage_step, hold_step, decay_step, sustain_step, release_step, seconds_to_samples, lin_rate, exp_rate, delay_sum, runs_freely}
use Rattle.envelope.specs.declared.EgState.TheVariants.{Release}
use Rattle.envelope.specs.declared.Env.{Env}
use Rattle.envelope.specs.declared.EnvStep.{EnvStep}
use Rattle.exact.specs.Narrow.{narrowed}
use Rattle.exact.specs.Order.{magnitude, maximum, smaller, chosen, negative, clamped}
use Rattle.exact.specs.Single.{f0}
use Rattle.gain.specs.Gain.{velocity_gain}
use Rattle.interp.specs.Points.{weight3}
use Rattle.interp.specs.Span.{ceiling, stretch_of, span_for}
use Rattle.player.specs.Start.{loop_at}
use Rattle.marked.specs.Marked.{sustaining, first_step, Every, table}
use Rattle.marked.proofs.Rates.{ends}

abbrev silent : Float → Env
silent rate = started (sustaining f0) (pos 0) rate false

-- an envelope with nothing to sustain comes to its release in its first step
to-release : (rate : Float) → first_step rate f0 ≡ release_step (env_at Release zero32 (per_transition (silent rate) (sub binary32 zero32 zero32)) (silent rate))
unfolding started env_next delay_step attack_stage_step hold_step decay_step sustain_step seconds_to_samples lin_rate exp_rate delay_sum runs_freely clamped maximum smaller chosen negative add mul sub div lt le eq is_nan of_bits
to-release rate = refl

at-rate : (rate : Float) → T (lt f0 rate) → T (lt zero32 (silent rate).sample_rate)
unfolding started
at-rate rate h = h

at_none : (rate : Float) → T (lt f0 rate) → ((first_step rate f0).value ≡ f0) × (is_done (first_step rate f0).env.state ≡ true)
at_none rate h =
    let e = ends Release _ (silent rate) (at-rate rate h) in
    (ap (λ (x : EnvStep). x.value) (to-release rate) ∙ e.0, ap (λ (x : EnvStep). is_done x.env.state) (to-release rate) ∙ e.1)

pub marked : (rate : Float) → T (lt f0 rate) → Every (table rate)
unfolding started env_next delay_step attack_stage_step hold_step decay_step sustain_step seconds_to_samples lin_rate exp_rate delay_sum runs_freely clamped maximum smaller chosen negative add mul sub div neg lt le eq is_nan of_bits of_int velocity_gain magnitude weight3 span_for stretch_of ceiling narrowed loop_at
marked rate h =
    let none = at_none rate h in
    (refl, (refl, (none.0, (none.1, (refl, (refl, (refl, (refl, (refl, (refl, (refl, (refl, (refl, (refl, (refl, (refl, tt))))))))))))))))
