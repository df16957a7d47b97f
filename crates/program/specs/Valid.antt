-- When a region may be bound: the Rust's `validate_region`, with the limits that 01 adds to it. Definitions only.
use Rattle.program.specs.declared.region.VelCrossfade.{VelCrossfade}
use Rattle.std.specs.Prelude.{ℕ, ◌≤◌, Bool, true, not, ◌&&◌, List, [], ◌∷◌, map, take, ltb, leb, ℤ, pos, negsuc, Float, None, Option, Some}
use Rattle.std.specs.List.{list_all, range_with_len}
use Rattle.std.specs.Int.Signed.{le_z}
use Rattle.std.specs.Float.{float_is_finite}
use Rattle.std.specs.Float.Ieee.{lt, neg}
use Rattle.program.specs.declared.region.LoopPoints.{LoopPoints}
use Rattle.program.specs.declared.region.Seq.{Seq}
use Rattle.program.specs.declared.region.Rand.{Rand}
use Rattle.program.specs.declared.region.Filter.{Filter}
use Rattle.program.specs.declared.region.EqBand.{EqBand}
use Rattle.program.specs.declared.region.Region.{Region}
use Rattle.program.specs.Region.{float_of, byte_of, word, region_of}

-- every test of a list holds
abbrev pub every : List Bool → Bool
every ts = list_all (λ t. t) ts

abbrev pub all_finite : List Float → Bool
all_finite xs = list_all float_is_finite xs

-- n words of r from `at` on
abbrev pub run : List ℕ → ℕ → ℕ → List ℕ
run r at n = map (word r) (range_with_len at n)

-- the velocities and the gains of the region's velocity points
abbrev pub velocities : List ℕ → List ℕ
velocities r = map byte_of (run r 136 (word r 29))

abbrev pub gains : List ℕ → List Float
gains r = map float_of (run r 264 (word r 29))

-- no window empty
abbrev pub window_tests : Region → List Bool
window_tests x = leb x.window.lokey x.window.hikey ∷ leb x.window.lovel x.window.hivel ∷ []

-- no key and no velocity above 127
unfoldable pub keys_tests : Region → List Bool
keys_tests x =
    leb x.window.lokey 127 ∷ leb x.window.hikey 127 ∷ leb x.window.lovel 127 ∷ leb x.window.hivel 127
    ∷ leb x.pitch.pitch_keycenter 127 ∷ window_tests x

-- silence, or one of n samples
abbrev pub sample_known : ℕ → Option ℕ → Bool
sample_known n None = true
sample_known n (Some s) = ltb s n

abbrev pub loop_in_order : Option LoopPoints → Bool
loop_in_order None = true
loop_in_order (Some l) = leb l.start l.end

-- the position counts from 1
abbrev pub seq_in_turn : Option Seq → Bool
seq_in_turn None = true
seq_in_turn (Some q) = ltb 0 q.position && leb q.position q.length

-- the numbers that every region has
unfoldable pub constants : Region → List Float
constants x =
    x.pitch.pitch_keytrack ∷ x.pitch.tune_cents ∷ x.pitch.bend_up_cents ∷ x.pitch.bend_down_cents
    ∷ x.ampeg.delay ∷ x.ampeg.attack ∷ x.ampeg.hold ∷ x.ampeg.decay ∷ x.ampeg.release ∷ x.choke.off_time ∷ x.play.delay_s
    ∷ x.ampeg.sustain ∷ x.ampeg.start
    ∷ x.level.volume_db ∷ x.level.amp_random_db ∷ x.level.pan ∷ x.level.width ∷ x.level.amp_veltrack ∷ x.level.rt_decay_db_per_s ∷ []

abbrev pub rand_numbers : Option Rand → List Float
rand_numbers None = []
rand_numbers (Some r) = r.lo ∷ r.hi ∷ []

abbrev pub crossfade_numbers : Option VelCrossfade → List Float
crossfade_numbers None = []
crossfade_numbers (Some v) = v.in_lo ∷ v.in_hi ∷ v.out_lo ∷ v.out_hi ∷ []

abbrev pub filter_numbers : Filter → List Float
filter_numbers f = f.cutoff ∷ f.resonance ∷ f.keytrack ∷ f.veltrack ∷ f.gain ∷ []

abbrev pub band_numbers : EqBand → List Float
band_numbers b = b.freq ∷ b.bw ∷ b.gain ∷ b.vel2freq ∷ b.vel2gain ∷ []

-- the filters and bands that the region's counts take in
abbrev pub filters_finite : Region → Bool
filters_finite x = list_all (λ f. all_finite (filter_numbers f)) (take x.filter_count x.filters)

abbrev pub bands_finite : Region → Bool
bands_finite x = list_all (λ b. all_finite (band_numbers b)) (take x.eq_count x.eq)

-- 01's limits: seconds, cents per key, cents, keys
abbrev pub not_above : Float → Float → Bool
not_above l x = not (lt l x)

abbrev pub within : Float → Float → Bool
within l x = not (lt x (neg l)) && not (lt l x)

abbrev pub times : Region → List Float
times x = x.ampeg.delay ∷ x.ampeg.attack ∷ x.ampeg.hold ∷ x.ampeg.decay ∷ x.ampeg.release ∷ x.choke.off_time ∷ x.play.delay_s ∷ []

unfoldable pub times_tests : Region → List Bool
times_tests x = map (not_above (float_of 0x4561_0000)) (times x)

abbrev pub transpose_tests : ℤ → List Bool
transpose_tests t = le_z (negsuc 126) t ∷ le_z t (pos 127) ∷ []

unfoldable pub pitch_tests : Region → List Bool
pitch_tests x =
    within (float_of 0x4496_0000) x.pitch.pitch_keytrack ∷ within (float_of 0x4616_0000) x.pitch.tune_cents
    ∷ within (float_of 0x4616_0000) x.pitch.bend_up_cents ∷ within (float_of 0x4616_0000) x.pitch.bend_down_cents
    ∷ transpose_tests x.pitch.transpose

unfoldable pub point_tests : List ℕ → List Bool
point_tests r = list_all (λ v. leb v 127) (velocities r) ∷ all_finite (gains r) ∷ []

unfoldable pub limit_tests : Region → List Bool
limit_tests x = every (times_tests x) ∷ every (pitch_tests x) ∷ []

unfoldable pub chosen_tests : Region → List Bool
chosen_tests x = all_finite (rand_numbers x.chosen.rand) ∷ all_finite (crossfade_numbers x.level.xf_vel) ∷ filters_finite x ∷ bands_finite x ∷ []

-- the numbers are finite, and within 01's limits
unfoldable pub number_tests : Region → List Bool
number_tests x = all_finite (constants x) ∷ every (chosen_tests x) ∷ every (limit_tests x) ∷ []

-- a known sample, a loop in order and a place in the turn
unfoldable pub place_tests : ℕ → Region → List Bool
place_tests n x = sample_known n x.sample ∷ loop_in_order x.play.loop_points ∷ seq_in_turn x.chosen.seq ∷ []

-- what `validate_region` and 01 ask of a region x with the words r where there are n samples
abbrev pub region_tests : ℕ → List ℕ → Region → List Bool
region_tests n r x = every (keys_tests x) ∷ every (place_tests n x) ∷ every (point_tests r) ∷ every (number_tests x) ∷ []

unfoldable pub valid_region : ℕ → List ℕ → Bool
valid_region n r = every (region_tests n r (region_of r))

-- 01's first test of one region: at most 6 filters, 6 bands and 128 velocity points
abbrev pub counts_tests : List ℕ → List Bool
counts_tests r = leb (word r 27) 6 ∷ leb (word r 28) 6 ∷ leb (word r 29) 128 ∷ []

-- the same as a fact
pub record CountsIn (r : List ℕ) : Type 0 where
  pub filters : word r 27 ≤ 6
  pub bands : word r 28 ≤ 6
  pub points : word r 29 ≤ 128
