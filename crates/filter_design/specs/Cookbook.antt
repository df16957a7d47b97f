-- The biquads of R. Bristow-Johnson's Audio EQ Cookbook that a region can ask for, in single precision: each operation is rounded on its own, in the order written.
-- Definitions only.
use Rattle.std.specs.Prelude.{Float}
use Rattle.std.specs.Float.{binary32}
use Rattle.std.specs.Float.Ieee.{neg, of_bits}
use Rattle.exact.specs.Root.{square_root}
use Rattle.elementary.specs.Functions.{pow10_of, sin_of, cos_of}
use Rattle.filter.specs.declared.Coefficients.{Coefficients}
use Rattle.exact.specs.Single.{◌⊕◌, ◌⊖◌, ◌⊗◌, ◌⊘◌, f0, f1}
use Rattle.filter_design.specs.declared.cookbook.Angle.{Angle}
use Rattle.filter_design.specs.declared.cookbook.Unscaled.{Unscaled}

-- 2.0, 40.0 and 2 pi
abbrev pub f2 : Float
f2 = of_bits binary32 0x4000_0000

abbrev pub f40 : Float
f40 = of_bits binary32 0x4220_0000

abbrev pub tau : Float
tau = of_bits binary32 0x40c9_0fdb

-- w0 = 2 pi f0 / Fs
abbrev pub angular : Float → Float → Float
angular freq rate = tau ⊗ freq ⊘ rate

-- cos w0, and alpha = sin w0 / (2 Q)
unfoldable pub angle_of : Float → Float → Float → Angle
angle_of freq q rate = record { cos_w0 = cos_of (angular freq rate); alpha = sin_of (angular freq rate) ⊘ (f2 ⊗ q) }

-- A = 10 ^ (dBgain / 40)
abbrev pub amplitude : Float → Float
amplitude gain = pow10_of (gain ⊘ f40)

-- b0, b1 and b2 over the denominator that the first four designs share: a0 = 1 + alpha, a1 = -2 cos w0, a2 = 1 - alpha
abbrev pub over : Float → Float → Float → Angle → Unscaled
over b0 b1 b2 w = record { b0 = b0; b1 = b1; b2 = b2; a0 = f1 ⊕ w.alpha; a1 = neg f2 ⊗ w.cos_w0; a2 = f1 ⊖ w.alpha }

-- LPF
unfoldable pub low_pass : Angle → Unscaled
low_pass w = over ((f1 ⊖ w.cos_w0) ⊘ f2) (f1 ⊖ w.cos_w0) ((f1 ⊖ w.cos_w0) ⊘ f2) w

-- HPF
unfoldable pub high_pass : Angle → Unscaled
high_pass w = over ((f1 ⊕ w.cos_w0) ⊘ f2) (neg (f1 ⊕ w.cos_w0)) ((f1 ⊕ w.cos_w0) ⊘ f2) w

-- BPF with constant 0 dB peak gain
unfoldable pub band_pass : Angle → Unscaled
band_pass w = over w.alpha f0 (neg w.alpha) w

-- notch
unfoldable pub notch : Angle → Unscaled
notch w = over f1 (neg f2 ⊗ w.cos_w0) f1 w

-- peakingEQ
unfoldable pub peaking : Angle → Float → Unscaled
peaking w A = record {
  b0 = f1 ⊕ w.alpha ⊗ A;
  b1 = neg f2 ⊗ w.cos_w0;
  b2 = f1 ⊖ w.alpha ⊗ A;
  a0 = f1 ⊕ w.alpha ⊘ A;
  a1 = neg f2 ⊗ w.cos_w0;
  a2 = f1 ⊖ w.alpha ⊘ A;
}

-- 2 sqrt A alpha
abbrev pub skirt : Angle → Float → Float
skirt w A = f2 ⊗ square_root binary32 A ⊗ w.alpha

-- low_shelf
unfoldable pub low_shelf : Angle → Float → Unscaled
low_shelf w A = record {
  b0 = A ⊗ (A ⊕ f1 ⊖ (A ⊖ f1) ⊗ w.cos_w0 ⊕ skirt w A);
  b1 = f2 ⊗ A ⊗ (A ⊖ f1 ⊖ (A ⊕ f1) ⊗ w.cos_w0);
  b2 = A ⊗ (A ⊕ f1 ⊖ (A ⊖ f1) ⊗ w.cos_w0 ⊖ skirt w A);
  a0 = A ⊕ f1 ⊕ (A ⊖ f1) ⊗ w.cos_w0 ⊕ skirt w A;
  a1 = neg f2 ⊗ (A ⊖ f1 ⊕ (A ⊕ f1) ⊗ w.cos_w0);
  a2 = A ⊕ f1 ⊕ (A ⊖ f1) ⊗ w.cos_w0 ⊖ skirt w A;
}

-- high_shelf
unfoldable pub high_shelf : Angle → Float → Unscaled
high_shelf w A = record {
  b0 = A ⊗ (A ⊕ f1 ⊕ (A ⊖ f1) ⊗ w.cos_w0 ⊕ skirt w A);
  b1 = neg f2 ⊗ A ⊗ (A ⊖ f1 ⊕ (A ⊕ f1) ⊗ w.cos_w0);
  b2 = A ⊗ (A ⊕ f1 ⊕ (A ⊖ f1) ⊗ w.cos_w0 ⊖ skirt w A);
  a0 = A ⊕ f1 ⊖ (A ⊖ f1) ⊗ w.cos_w0 ⊕ skirt w A;
  a1 = f2 ⊗ (A ⊖ f1 ⊖ (A ⊕ f1) ⊗ w.cos_w0);
  a2 = A ⊕ f1 ⊖ (A ⊖ f1) ⊗ w.cos_w0 ⊖ skirt w A;
}

-- by a0: the cookbook divides, and this multiplies by 1 / a0
unfoldable pub normalized : Unscaled → Coefficients
normalized u =
    let r = f1 ⊘ u.a0 in
    record { b0 = u.b0 ⊗ r; b1 = u.b1 ⊗ r; b2 = u.b2 ⊗ r; a1 = u.a1 ⊗ r; a2 = u.a2 ⊗ r }
