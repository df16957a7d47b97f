-- A region's words and the region that they mean: docs/PROGRAM.md's table. Definitions only.
use Rattle.program.specs.declared.region.VelCrossfade.{VelCrossfade}
use Rattle.program.specs.declared.region.XfCurve.{XfCurve}
use Rattle.program.specs.declared.region.XfCurve.TheVariants.{Gain, Power}
use Rattle.std.specs.Prelude.{ℕ, zero, suc, ◌+◌, ◌*◌, min, Bool, true, false, cond, List, [], ◌∷◌, length, get_or, take, drop, replicate, leb, eqb, ℤ, Float, None, Option, Some}
use Rattle.std.specs.Int.{w32, cast_signed}
use Rattle.std.specs.Float.{binary32}
use Rattle.std.specs.Float.Ieee.{of_bits}
use Rattle.program.specs.declared.region.LoopMode.{LoopMode}
use Rattle.program.specs.declared.region.LoopMode.TheVariants.{NoLoop, OneShot, Continuous, Sustain}
use Rattle.program.specs.declared.region.LoopSource.{LoopSource}
use Rattle.program.specs.declared.region.LoopSource.TheVariants as Source
use Rattle.program.specs.declared.region.Trigger.{Trigger}
use Rattle.program.specs.declared.region.Trigger.TheVariants.{Attack, Release, ReleaseKey, First, Legato}
use Rattle.program.specs.declared.region.OffMode.{OffMode}
use Rattle.program.specs.declared.region.OffMode.TheVariants.{Fast, Normal, Time}
use Rattle.program.specs.declared.region.FilterKind.{FilterKind}
use Rattle.program.specs.declared.region.FilterKind.TheVariants.{Lpf1p, Hpf1p, Lpf2p, Hpf2p, Bpf2p, Brf2p, Lpf4p, Hpf4p, Lpf6p, Hpf6p, Peq, Lsh, Hsh}
use Rattle.program.specs.declared.region.EqKind.{EqKind}
use Rattle.program.specs.declared.region.EqKind.TheVariants.{Peak, LowShelf, HighShelf}
use Rattle.program.specs.declared.region.LoopPoints.{LoopPoints}
use Rattle.program.specs.declared.region.Seq.{Seq}
use Rattle.program.specs.declared.region.Rand.{Rand}
use Rattle.program.specs.declared.region.Envelope.{Envelope}
use Rattle.program.specs.declared.region.Filter.{Filter}
use Rattle.program.specs.declared.region.EqBand.{EqBand}
use Rattle.program.specs.declared.region.Window.{Window}
use Rattle.program.specs.declared.region.Pitch.{Pitch}
use Rattle.program.specs.declared.region.Playback.{Playback}
use Rattle.program.specs.declared.region.Level.{Level}
use Rattle.program.specs.declared.region.Choice.{Choice}
use Rattle.program.specs.declared.region.Choke.{Choke}
use Rattle.program.specs.declared.region.Region.{Region}

-- the single with these bits, every NaN pattern the one NaN
abbrev pub float_of : ℕ → Float
float_of w = of_bits binary32 w

-- two's complement
abbrev pub signed_of : ℕ → ℤ
signed_of w = cast_signed w32 w

-- a word above 255 counts as 255, which no key and no velocity may be
abbrev pub byte_of : ℕ → ℕ
byte_of w = min w 255

-- an enum's word is its place in the Rust's declaration; any other word means the first
abbrev pub loop_modes : List LoopMode
loop_modes = NoLoop ∷ OneShot ∷ Continuous ∷ Sustain ∷ []

abbrev pub loop_mode_of : ℕ → LoopMode
loop_mode_of w = get_or loop_modes w NoLoop

abbrev pub loop_sources : List LoopSource
loop_sources = Source.None ∷ Source.Sfz ∷ Source.File ∷ Source.Whole ∷ []

abbrev pub loop_source_of : ℕ → LoopSource
loop_source_of w = get_or loop_sources w Source.None

abbrev pub triggers : List Trigger
triggers = Attack ∷ Release ∷ ReleaseKey ∷ First ∷ Legato ∷ []

abbrev pub trigger_of : ℕ → Trigger
trigger_of w = get_or triggers w Attack

abbrev pub off_modes : List OffMode
off_modes = Fast ∷ Normal ∷ Time ∷ []

abbrev pub off_mode_of : ℕ → OffMode
off_mode_of w = get_or off_modes w Fast

abbrev pub filter_kinds : List FilterKind
filter_kinds = Lpf1p ∷ Hpf1p ∷ Lpf2p ∷ Hpf2p ∷ Bpf2p ∷ Brf2p ∷ Lpf4p ∷ Hpf4p ∷ Lpf6p ∷ Hpf6p ∷ Peq ∷ Lsh ∷ Hsh ∷ []

abbrev pub filter_kind_of : ℕ → FilterKind
filter_kind_of w = get_or filter_kinds w Lpf1p

abbrev pub eq_kinds : List EqKind
eq_kinds = Peak ∷ LowShelf ∷ HighShelf ∷ []

abbrev pub eq_kind_of : ℕ → EqKind
eq_kind_of w = get_or eq_kinds w Peak

-- a presence word of 0 is none
abbrev pub maybe_of : {A : Type 0} → ℕ → A → Option A
maybe_of p x = cond (eqb p 0) None (Some x)

abbrev pub off_by_of : ℕ → ℕ → Option ℤ
off_by_of p w = maybe_of p (signed_of w)

abbrev pub loop_points_of : ℕ → ℕ → ℕ → Option LoopPoints
loop_points_of p a b = maybe_of p (record { start = a; end = b })

abbrev pub seq_of : ℕ → ℕ → ℕ → Option Seq
seq_of p n k = maybe_of p (record { length = n; position = k })

abbrev pub rand_of : ℕ → ℕ → ℕ → Option Rand
rand_of p lo hi = maybe_of p (record { lo = float_of lo; hi = float_of hi })

-- the sample that a region's first word names, or silence
abbrev pub sample_named : ℕ → Option ℕ
sample_named w = cond (eqb w 0xffff_ffff) None (Some w)

-- a region that starts when its note ends
abbrev pub is_release : Trigger → Bool
is_release Attack = false
is_release Release = true
is_release ReleaseKey = true
is_release First = false
is_release Legato = false

-- the k-th word of a region's words r, and the single there
abbrev pub word : List ℕ → ℕ → ℕ
word r k = get_or r k 0

abbrev pub single : List ℕ → ℕ → Float
single r k = float_of (word r k)

-- any number but 0 is the `gain` curve
abbrev pub xf_curve_of : ℕ → XfCurve
xf_curve_of w = cond (eqb w 0) Power Gain

unfoldable pub crossfade_of : List ℕ → Option VelCrossfade
crossfade_of r =
    maybe_of (word r 33) (record {
      in_lo = single r 34;
      in_hi = single r 35;
      out_lo = single r 36;
      out_hi = single r 37;
      curve = xf_curve_of (word r 38);
    })

unfoldable pub envelope_of : List ℕ → Envelope
envelope_of r = record {
  delay = single r 43;
  attack = single r 44;
  hold = single r 45;
  decay = single r 46;
  sustain = single r 50;
  release = single r 47;
  start = single r 51;
}

-- the filter whose seven words begin at `at`
unfoldable pub filter_of : List ℕ → ℕ → Filter
filter_of r at = record {
  kind = filter_kind_of (word r at);
  cutoff = single r (at + 2);
  resonance = single r (at + 3);
  keytrack = single r (at + 4);
  keycenter = byte_of (word r (at + 1));
  veltrack = single r (at + 5);
  gain = single r (at + 6);
}

-- n filters from `at` on
abbrev pub filters_from : List ℕ → ℕ → ℕ → List Filter
filters_from r at zero = []
filters_from r at (suc n) = filter_of r at ∷ filters_from r (at + 7) n

unfoldable pub filters_of : List ℕ → List Filter
filters_of r = filters_from r 58 6

-- the band whose six words begin at `at`
unfoldable pub band_of : List ℕ → ℕ → EqBand
band_of r at = record {
  kind = eq_kind_of (word r at);
  freq = single r (at + 1);
  bw = single r (at + 2);
  gain = single r (at + 3);
  vel2freq = single r (at + 4);
  vel2gain = single r (at + 5);
}

-- n bands from `at` on
abbrev pub bands_from : List ℕ → ℕ → ℕ → List EqBand
bands_from r at zero = []
bands_from r at (suc n) = band_of r at ∷ bands_from r (at + 6) n

unfoldable pub bands_of : List ℕ → List EqBand
bands_of r = bands_from r 100 6

unfoldable pub window_of : List ℕ → Window
window_of r = record {
  lokey = byte_of (word r 1);
  hikey = byte_of (word r 2);
  lovel = byte_of (word r 3);
  hivel = byte_of (word r 4);
}

unfoldable pub pitch_of : List ℕ → Pitch
pitch_of r = record {
  pitch_keycenter = byte_of (word r 5);
  pitch_keytrack = single r 39;
  tune_cents = single r 40;
  transpose = signed_of (word r 6);
  bend_up_cents = single r 41;
  bend_down_cents = single r 42;
}

unfoldable pub playback_of : List ℕ → Playback
playback_of r = record {
  offset_frames = word r 7;
  end_frames = maybe_of (word r 8) (word r 9);
  loop_mode = loop_mode_of (word r 10);
  loop_source = loop_source_of (word r 11);
  loop_points = loop_points_of (word r 12) (word r 13) (word r 14);
  delay_s = single r 49;
}

unfoldable pub level_of : List ℕ → Level
level_of r = record {
  volume_db = single r 52;
  amp_random_db = single r 53;
  pan = single r 54;
  width = single r 55;
  amp_veltrack = single r 56;
  velcurve_count = word r 29;
  xf_vel = crossfade_of r;
  rt_decay_db_per_s = single r 57;
}

unfoldable pub choice_of : List ℕ → Choice
choice_of r = record {
  trigger = trigger_of (word r 22);
  seq = seq_of (word r 15) (word r 16) (word r 17);
  rand = rand_of (word r 30) (word r 31) (word r 32);
}

unfoldable pub choke_of : List ℕ → Choke
choke_of r = record {
  group = signed_of (word r 18);
  off_by = off_by_of (word r 19) (word r 20);
  off_mode = off_mode_of (word r 21);
  off_time = single r 48;
  note_polyphony = maybe_of (word r 23) (word r 24);
  polyphony = maybe_of (word r 25) (word r 26);
}

-- the region that these words mean
unfoldable pub region_of : List ℕ → Region
region_of r = record {
  sample = sample_named (word r 0);
  window = window_of r;
  pitch = pitch_of r;
  play = playback_of r;
  level = level_of r;
  chosen = choice_of r;
  choke = choke_of r;
  ampeg = envelope_of r;
  filter_count = word r 27;
  filters = filters_of r;
  eq_count = word r 28;
  eq = bands_of r;
}

-- the words of region i; where there are fewer, every word counts as 0
unfoldable pub words_of : List ℕ → ℕ → List ℕ
words_of ws i = cond (leb (i * 392 + 392) (length ws)) (take 392 (drop (i * 392) ws)) (replicate 392 0)

abbrev pub region_at : List ℕ → ℕ → Region
region_at ws i = region_of (words_of ws i)
