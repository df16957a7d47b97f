-- A player at its start: a region, a note and a rate. Definitions only.
use Rattle.std.specs.Prelude.{Bool, true, false, ◌&&◌, cond, ℕ, ◌+◌, ◌-◌, min, max, ltb, eqb, Float, replicate, None, Option, Some, is_none}
use Rattle.std.specs.Float.{binary32, binary64}
use Rattle.std.specs.Float.Ieee.{div, lt, of_bits, of_int, to_unsigned}
use Rattle.elementary.specs.Functions.{pow10_of}
use Rattle.envelope.specs.Envelope.{seconds_to_samples, started}
use Rattle.exact.specs.Integral.{integral, ties_to_away}
use Rattle.exact.specs.Random.{drawn}
use Rattle.filter_design.specs.Slots.{run, six_of}
use Rattle.gain.specs.Gain.{velocity_gain, crossfade_gain, pan_matrix}
use Rattle.exact.specs.Single.{f100}
use Rattle.gain.specs.declared.Matrix.{Matrix}
use Rattle.exact.specs.Single.{◌⊕◌, ◌⊖◌, ◌⊗◌, ◌⊘◌, single, f0}
use Rattle.interp.specs.Position.{first, double}
use Rattle.interp.specs.Span.{span_for}
use Rattle.interp.specs.declared.Interp.{Interp}
use Rattle.program.specs.declared.region.Choke.{Choke}
use Rattle.program.specs.declared.region.Envelope.{Envelope}
use Rattle.program.specs.declared.region.Level.{Level}
use Rattle.program.specs.declared.region.LoopMode.{LoopMode}
use Rattle.program.specs.declared.region.LoopMode.TheVariants.{NoLoop, OneShot, Continuous, Sustain}
use Rattle.program.specs.declared.region.LoopPoints.{LoopPoints}
use Rattle.program.specs.declared.region.Pitch.{Pitch}
use Rattle.program.specs.declared.region.Playback.{Playback}
use Rattle.program.specs.declared.region.Region.{Region}
use Rattle.program.specs.declared.region.Trigger.{Trigger}
use Rattle.program.specs.Region.{is_release}
use Rattle.program.specs.declared.sample.Sample.{Sample}
use Rattle.player.specs.declared.LoopRt.{LoopRt}
use Rattle.player.specs.declared.Hot.{Hot}
use Rattle.player.specs.declared.Cold.{Cold}
use Rattle.player.specs.declared.Player.{Player}
use Rattle.player.specs.declared.start.Event.{Event}
use Rattle.player.specs.declared.start.Note.{Note}
use Rattle.player.specs.declared.start.Cause.{Cause}
use Rattle.player.specs.declared.start.Cause.TheVariants.{NoteOn, Release}
use Rattle.player.specs.Pitch.{pitched}

-- what a note-on is
abbrev pub is_note_on : Cause → Bool
is_note_on NoteOn = true
is_note_on Release = false

-- the sample of a region, if it has one
abbrev pub sample_for : Option ℕ → Sample → Option Sample
sample_for None s = None
sample_for (Some i) s = Some s

-- silence counts as 4,294,967,295 frames at the engine's rate
abbrev pub frames_of : Option Sample → ℕ
frames_of None = 0xffff_ffff
frames_of (Some s) = s.frames

abbrev pub rate_of : Option Sample → Float → Float
rate_of None rate = rate
rate_of (Some s) rate = s.rate

abbrev pub is_stereo : Option Sample → Bool
is_stereo None = false
is_stereo (Some s) = eqb s.channels 2

-- the region's end, but at most the sample's last frame
unfoldable pub last_of : Option ℕ → ℕ → ℕ
last_of None frames = frames - 1
last_of (Some e) frames = min e (frames - 1)

-- 1e-3 seconds
abbrev pub crossfade_time : Float
crossfade_time = of_bits binary32 0x3a83_126f

-- 1 ms of the sample, but at most what lies before the loop's start
unfoldable pub fade_frames : Float → ℕ → ℕ
fade_frames rate a = min (to_unsigned 32 (integral binary32 ties_to_away (crossfade_time ⊗ rate))) a

-- its end is the smaller of b and `last`, but never below a
unfoldable pub loop_at : ℕ → ℕ → ℕ → Float → LoopRt
loop_at a b last rate =
    let end = max (min b last) a in
    let n = fade_frames rate a in
    record { start = a; end = end; size = double (end + 1 - a); fade = cond (eqb n 0) None (Some (record { frames = n; start = end + 1 - n })) }

abbrev pub has_loop : LoopMode → Bool
has_loop NoLoop = false
has_loop OneShot = false
has_loop Continuous = true
has_loop Sustain = true

-- a loop (a, b) counts only if b is below the frame count
unfoldable pub loop_of : LoopMode → Option LoopPoints → ℕ → Float → ℕ → Option LoopRt
loop_of mode None frames rate last = None
loop_of mode (Some l) frames rate last =
    cond (has_loop mode && ltb l.end frames) (Some (loop_at l.start l.end last rate)) None

-- the volume with its random part; the draw's salt is 65,536 and the region's number
unfoldable pub drawn_volume : Level → ℕ → ℕ → ℕ → Float
drawn_volume v seed serial region =
    cond (lt f0 v.amp_random_db) (v.volume_db ⊕ v.amp_random_db ⊗ drawn seed serial (0x1_0000 + region)) v.volume_db

-- a release is quieter the longer its note was held
unfoldable pub volume_of : Level → Trigger → Note → Event → Float
volume_of v t n e =
    let x = drawn_volume v n.seed e.serial e.region in
    cond (is_release t) (x ⊖ v.rt_decay_db_per_s ⊗ e.held_secs) x

-- 20.0
abbrev pub f20 : Float
f20 = of_bits binary32 0x41a0_0000

unfoldable pub gain_of : Level → Trigger → Option Float → Note → Event → Float
gain_of v t c n e = pow10_of (volume_of v t n e ⊘ f20) ⊗ velocity_gain v.amp_veltrack c n.vel ⊗ crossfade_gain v.xf_vel n.vel

-- a mono sample's width is not asked
abbrev pub width_of : Level → Option Sample → Option Float
width_of v pcm = cond (is_stereo pcm) (Some v.width) None

-- silence that plays once: its envelope runs freely
abbrev pub is_one_shot : Bool → LoopMode → Bool
is_one_shot silent NoLoop = false
is_one_shot silent OneShot = silent
is_one_shot silent Continuous = false
is_one_shot silent Sustain = false

unfoldable pub hot_at : Playback → Envelope → Bool → Float → Hot
hot_at p ampeg silent rate = record {
  env = started ampeg (seconds_to_samples p.delay_s rate) rate (is_one_shot silent p.loop_mode);
  pos = double p.offset_frames;
  data_delay = seconds_to_samples p.delay_s rate;
  data_ended = false;
  offed = false;
}

-- what frames read, before the note sets the step
unfoldable pub cold_at : Pitch → Playback → Choke → Float → Option Sample → Interp → Float → Matrix → ℕ → Float → Cold
cold_at x p k release pcm kind gain m n rate =
    let last = last_of p.end_frames (frames_of pcm) in
    record {
      step = first;
      span = span_for (of_bits binary64 0x3ff0_0000_0000_0000);
      last = last;
      interp = kind;
      stereo = is_stereo pcm;
      silent = is_none pcm;
      lp = loop_of p.loop_mode p.loop_points (frames_of pcm) (rate_of pcm rate) last;
      loop_mode = p.loop_mode;
      n_filters = n;
      gain = gain;
      matrix = m;
      rate_ratio = div binary64 (rate_of pcm rate) rate;
      base_cents = x.tune_cents ⊕ f100 ⊗ of_int binary32 x.transpose;
      keytrack = x.pitch_keytrack;
      keycenter = single x.pitch_keycenter;
      bend_up = x.bend_up_cents;
      bend_down = x.bend_down_cents;
      off_mode = k.off_mode;
      off_time = k.off_time;
      release_time = release;
    }

-- 4,294,967,295 names no sample
abbrev pub named : Option ℕ → Option ℕ
named None = None
named (Some i) = cond (eqb i 0xffff_ffff) None (Some i)

-- The player of a region at a note's event. Its bend is 0 until the next block.
unfoldable pub started_player : Region → Sample → Option Float → Note → Event → Float → Player
started_player x s c n e rate =
    let pcm = sample_for x.sample s in
    let filters = six_of (run x n.note n.vel rate) in
    let gain = gain_of x.level x.chosen.trigger c n e in
    let m = pan_matrix x.level.pan (width_of x.level pcm) in
    record {
      hot = hot_at x.play x.ampeg (is_none pcm) rate;
      cold = pitched (cold_at x.pitch x.play x.choke x.ampeg.release pcm n.interp gain m filters.count rate) n.note_f f0;
      slots = filters.slots;
      states = replicate 72 f0;
      slot = e.slot;
      region = e.region;
      sample = named x.sample;
      on_note = is_note_on e.cause;
    }
