-- The shapes of a region's filters and equaliser bands for one note, as sfizz has them, and the six slots that hold them, in single precision. Definitions only.
use Rattle.std.specs.Prelude.{ℕ, min, List, [], ◌∷◌, ◌++◌, map, length, take, get_or, Float}
use Rattle.std.specs.Float.{binary32}
use Rattle.std.specs.Float.Ieee.{neg, of_bits}
use Rattle.exact.specs.Order.{maximum, minimum, clamped}
use Rattle.elementary.specs.Functions.{exp_of, pow10_of, sinh_of, sin_of}
use Rattle.program.specs.declared.region.FilterKind.{FilterKind}
use Rattle.program.specs.declared.region.FilterKind.TheVariants.{Lpf1p, Hpf1p, Lpf2p, Hpf2p, Bpf2p, Brf2p, Lpf4p, Hpf4p, Lpf6p, Hpf6p, Peq, Lsh, Hsh}
use Rattle.program.specs.declared.region.EqKind.{EqKind}
use Rattle.program.specs.declared.region.EqKind.TheVariants.{Peak, LowShelf, HighShelf}
use Rattle.program.specs.declared.region.Filter.{Filter}
use Rattle.program.specs.declared.region.EqBand.{EqBand}
use Rattle.program.specs.declared.region.Region.{Region}
use Rattle.filter.specs.declared.FilterShape.{FilterShape}
use Rattle.filter.specs.declared.FilterShape.TheVariants.{Off, Lp1, Hp1, Biquad}
use Rattle.exact.specs.Single.{◌⊕◌, ◌⊖◌, ◌⊗◌, ◌⊘◌, single, f0, f0_5, f1}
use Rattle.gain.specs.Gain.{cents_factor, part}
use Rattle.filter_design.specs.Cookbook.{f2, tau, angular, angle_of, amplitude, low_pass, high_pass, band_pass, notch, peaking, low_shelf, high_shelf, normalized}
use Rattle.filter_design.specs.declared.slots.Filters.{Filters}

-- 0.001, 0.499, 20.0 and 20000.0, and ln 2
abbrev pub f0_001 : Float
f0_001 = of_bits binary32 0x3a83_126f

abbrev pub f0_499 : Float
f0_499 = of_bits binary32 0x3eff_7cee

abbrev pub f20 : Float
f20 = of_bits binary32 0x41a0_0000

abbrev pub f20000 : Float
f20000 = of_bits binary32 0x469c_4000

abbrev pub ln2 : Float
ln2 = of_bits binary32 0x3f31_7218

-- the greatest frequency of a design: just below half the rate
abbrev pub highest : Float → Float
highest rate = f0_499 ⊗ rate

-- ---- a filter

-- `fil_keytrack` cents for each key from `fil_keycenter` on, and `fil_veltrack` cents at the greatest velocity
abbrev pub tracked_cutoff : Filter → ℕ → ℕ → Float
tracked_cutoff f note vel =
    f.cutoff ⊗ cents_factor (f.keytrack ⊗ (single note ⊖ single f.keycenter)) ⊗ cents_factor (f.veltrack ⊗ part vel)

-- from 1 Hz to 20 kHz and no higher than the rate allows
unfoldable pub cutoff_of : Filter → ℕ → ℕ → Float → Float
cutoff_of f note vel rate = maximum (minimum (clamped (tracked_cutoff f note vel) f0 f20000) (highest rate)) f1

-- `resonance`, in decibels, as the cookbook's Q
unfoldable pub quality_of : Float → Float
quality_of resonance = maximum (pow10_of (resonance ⊘ f20)) f0_001

-- the pole of a filter with one: e ^ (-2 pi f / rate)
unfoldable pub pole_of : Float → Float → Float
pole_of freq rate = exp_of (neg tau ⊗ freq ⊘ rate)

-- two poles for each time that the biquad is run
unfoldable pub designed : FilterKind → Float → Float → Float → Float → FilterShape
designed Lpf1p freq q gain rate = Lp1 (pole_of freq rate)
designed Hpf1p freq q gain rate = Hp1 (pole_of freq rate)
designed Lpf2p freq q gain rate = Biquad (normalized (low_pass (angle_of freq q rate))) 1
designed Hpf2p freq q gain rate = Biquad (normalized (high_pass (angle_of freq q rate))) 1
designed Bpf2p freq q gain rate = Biquad (normalized (band_pass (angle_of freq q rate))) 1
designed Brf2p freq q gain rate = Biquad (normalized (notch (angle_of freq q rate))) 1
designed Lpf4p freq q gain rate = Biquad (normalized (low_pass (angle_of freq q rate))) 2
designed Hpf4p freq q gain rate = Biquad (normalized (high_pass (angle_of freq q rate))) 2
designed Lpf6p freq q gain rate = Biquad (normalized (low_pass (angle_of freq q rate))) 3
designed Hpf6p freq q gain rate = Biquad (normalized (high_pass (angle_of freq q rate))) 3
designed Peq freq q gain rate = Biquad (normalized (peaking (angle_of freq q rate) (amplitude gain))) 1
designed Lsh freq q gain rate = Biquad (normalized (low_shelf (angle_of freq q rate) (amplitude gain))) 1
designed Hsh freq q gain rate = Biquad (normalized (high_shelf (angle_of freq q rate) (amplitude gain))) 1

unfoldable pub filter_shape : Filter → ℕ → ℕ → Float → FilterShape
filter_shape f note vel rate = designed f.kind (cutoff_of f note vel rate) (quality_of f.resonance) f.gain rate

-- ---- an equaliser band

-- `eqN_freq` and `eqN_gain`, each with its part for the velocity
unfoldable pub band_frequency : EqBand → ℕ → Float → Float
band_frequency b vel rate = clamped (b.freq ⊕ b.vel2freq ⊗ part vel) f1 (highest rate)

abbrev pub band_gain : EqBand → ℕ → Float
band_gain b vel = b.gain ⊕ b.vel2gain ⊗ part vel

-- `eqN_bw` octaves: the cookbook's 1 / Q = 2 sinh (ln 2 / 2 BW w0 / sin w0)
unfoldable pub band_quality : Float → Float → Float
band_quality bw w0 = f1 ⊘ (f2 ⊗ sinh_of (f0_5 ⊗ ln2 ⊗ maximum bw f0_001 ⊗ w0 ⊘ sin_of w0))

unfoldable pub equalized : EqKind → Float → Float → Float → Float → FilterShape
equalized Peak freq q gain rate = Biquad (normalized (peaking (angle_of freq q rate) (amplitude gain))) 1
equalized LowShelf freq q gain rate = Biquad (normalized (low_shelf (angle_of freq q rate) (amplitude gain))) 1
equalized HighShelf freq q gain rate = Biquad (normalized (high_shelf (angle_of freq q rate) (amplitude gain))) 1

unfoldable pub band_shape : EqBand → ℕ → Float → FilterShape
band_shape b vel rate =
    let freq = band_frequency b vel rate in
    equalized b.kind freq (band_quality b.bw (angular freq rate)) (band_gain b vel) rate

-- ---- the slots

abbrev pub filter_slot : ℕ → ℕ → Float → Filter → FilterShape
filter_slot note vel rate f = filter_shape f note vel rate

abbrev pub band_slot : ℕ → Float → EqBand → FilterShape
band_slot vel rate b = band_shape b vel rate

-- every filter that the region has, then every band
abbrev pub run : Region → ℕ → ℕ → Float → List FilterShape
run x note vel rate = map (filter_slot note vel rate) (take x.filter_count x.filters) ++ map (band_slot vel rate) (take x.eq_count x.eq)

-- the k-th of a run; off where it has fewer
abbrev pub slot_at : List FilterShape → ℕ → FilterShape
slot_at l k = get_or l k Off

-- the first six of a run
unfoldable pub six_of : List FilterShape → Filters
six_of l = record {
  slots = slot_at l 0 ∷ slot_at l 1 ∷ slot_at l 2 ∷ slot_at l 3 ∷ slot_at l 4 ∷ slot_at l 5 ∷ [];
  count = min (length l) 6;
}
