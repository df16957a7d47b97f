-- How loud a region plays and where: SFZ's `amp_veltrack`, `xfin_*vel` and `xfout_*vel`, `pan` and `width`, as sfizz has them, in single precision. Each operation is
-- rounded on its own, in the order written. Definitions only.
use Rattle.std.specs.Prelude.{ℕ, ◌&&◌, cond, Float, None, Option, Some}
use Rattle.std.specs.Float.{binary32}
use Rattle.std.specs.Float.Ieee.{lt, of_bits}
use Rattle.exact.specs.Order.{magnitude, clamped}
use Rattle.exact.specs.Root.{square_root}
use Rattle.elementary.specs.Functions.{exp2_of, sin_of, cos_of}
use Rattle.program.specs.declared.region.VelCrossfade.{VelCrossfade}
use Rattle.program.specs.declared.region.XfCurve.{XfCurve}
use Rattle.program.specs.declared.region.XfCurve.TheVariants.{Gain, Power}
use Rattle.exact.specs.Single.{◌⊕◌, ◌⊖◌, ◌⊗◌, ◌⊘◌, single, f0, f0_5, f1, f100, f127, f1200}
use Rattle.gain.specs.declared.Matrix.{Matrix}

-- ---- cents

-- c cents as a factor: 1200 double
unfoldable pub cents_factor : Float → Float
cents_factor c = exp2_of (c ⊘ f1200)

-- ---- velocity

-- a MIDI velocity as a part of the greatest
abbrev pub part : ℕ → Float
part v = single v ⊘ f127

-- what the velocity curve gives: its value, or the part's square where the region has none
abbrev pub curve_gain : Option Float → ℕ → Float
curve_gain None v = part v ⊗ part v
curve_gain (Some g) v = g

-- what `amp_veltrack`, t percent, takes away at the curve's gain g
abbrev pub taken : Float → Float → Float
taken t g = magnitude (t ⊘ f100) ⊗ (f1 ⊖ g)

-- At 100 percent the gain is the curve's, at 0 it is 1; below 0 the loud are taken away instead of the soft.
unfoldable pub velocity_gain : Float → Option Float → ℕ → Float
velocity_gain t c v = cond (lt (t ⊘ f100) f0) (taken t (curve_gain c v)) (f1 ⊖ taken t (curve_gain c v))

-- ---- crossfades by velocity

-- how many velocities a fade from lo to hi takes
abbrev pub fade_length : Float → Float → Float
fade_length lo hi = hi ⊖ lo ⊖ f1

-- where v stands in that fade: 0 at lo
abbrev pub fade_position : Float → Float → Float → Float
fade_position lo hi v = (v ⊖ lo) ⊘ fade_length lo hi

-- `xf_velcurve`: the position for `gain`, its square root for `power`
abbrev pub fade_shape : XfCurve → Float → Float
fade_shape Gain x = x
fade_shape Power x = square_root binary32 x

-- `xfin_lovel` and `xfin_hivel`: silent below the first, faded in between them, and as it is from the second on
unfoldable pub faded_in : VelCrossfade → Float → Float → Float
faded_in x v g =
    cond (lt v x.in_lo) f0
    (cond (lt f0 (fade_length x.in_lo x.in_hi) && lt v x.in_hi) (g ⊗ fade_shape x.curve (fade_position x.in_lo x.in_hi v)) g)

-- `xfout_lovel` and `xfout_hivel`: as it is up to the first, then faded out, and silent where the fade has ended
abbrev pub fade_rest : XfCurve → Float → Float
fade_rest curve x = cond (lt f1 x) f0 (fade_shape curve (f1 ⊖ x))

unfoldable pub faded_out : VelCrossfade → Float → Float → Float
faded_out x v g =
    cond (lt f0 (fade_length x.out_lo x.out_hi) && lt x.out_lo v) (g ⊗ fade_rest x.curve (fade_position x.out_lo x.out_hi v)) g

unfoldable pub crossfade_gain : Option VelCrossfade → ℕ → Float
unfolding faded_in faded_out
crossfade_gain None v = f1
crossfade_gain (Some x) v = faded_out x (single v) (faded_in x (single v) f1)

-- ---- pan and width

-- pi / 2 and 1 / sqrt 2
abbrev pub half_pi : Float
half_pi = of_bits binary32 0x3fc9_0fdb

abbrev pub over_root_two : Float
over_root_two = of_bits binary32 0x3f35_04f3

-- 3 and 6 decibels: what the pan, and the pan with the width, take away in the middle
abbrev pub mono_pan_gain : Float
mono_pan_gain = of_bits binary32 0x3fb4_ce07

abbrev pub stereo_pan_gain : Float
stereo_pan_gain = of_bits binary32 0x3fff_64c1

-- -100 to 100 percent as an angle from 0 to a quarter turn
unfoldable pub quarter_turn : Float → Float
quarter_turn x = clamped ((x ⊘ f100 ⊕ f1) ⊗ f0_5) f0 f1 ⊗ half_pi

-- the two gains of a place: but for rounding, their squares add up to 1
abbrev pub left_gain : Float → Float
left_gain x = cos_of (quarter_turn x)

abbrev pub right_gain : Float → Float
right_gain x = sin_of (quarter_turn x)

-- `pan` places a mono sample. Of a stereo sample it scales the two sides, and then `width` sets how much of each stays and how much crosses over.
unfoldable pub pan_matrix : Float → Option Float → Matrix
pan_matrix pan None = record { ll = left_gain pan ⊗ mono_pan_gain; rl = f0; lr = right_gain pan ⊗ mono_pan_gain; rr = f0 }
pan_matrix pan (Some width) =
    let kept = stereo_pan_gain ⊗ over_root_two ⊗ right_gain width in
    let crossed = stereo_pan_gain ⊗ over_root_two ⊗ left_gain width in
    record { ll = kept ⊗ left_gain pan; rl = crossed ⊗ right_gain pan; lr = crossed ⊗ left_gain pan; rr = kept ⊗ right_gain pan }
