-- The seven as functions: which of the results that 01's rules leave open the program gives. What these are near to is in the promises;
-- definitions of what a block holds cite these, so that they are equations to the last bit. Definitions only.
use Rattle.std.specs.Prelude.{true, false, cond, from_bits, is_nan, Float}
use Rattle.std.specs.Float.{nan, inf, binary32, binary64}
use Rattle.std.specs.Float.Ieee.{sub, mul, neg, lt, le, eq}
use Rattle.exact.specs.Narrow.{narrowed}
use Rattle.elementary.specs.Kernel.{power_up, power_down, power_by, zero, one}
use Rattle.elementary.specs.Logarithm.{positive_of}
use Rattle.elementary.specs.Trigonometric.{sine_sum, cosine_sum}

-- log2 e and log2 10, each to the nearest double
abbrev pub log2e : Float
log2e = from_bits binary64 0x3ff71547652b82fe

abbrev pub log2ten : Float
log2ten = from_bits binary64 0x400a934f0979a371

-- from -126 to 127
unfoldable pub exp2_of : Float → Float
exp2_of x = power_by (from_bits binary64 0x3ff0000000000000) (neg (from_bits binary32 0x42fc0000)) (from_bits binary32 0x42fe0000) x

-- from the least single x with x * log2 e ≥ -126 to the greatest with x * log2 e ≤ 127
unfoldable pub exp_of : Float → Float
exp_of x = power_by log2e (neg (from_bits binary32 0x42aeac4f)) (from_bits binary32 0x42b00f33) x

-- likewise, by log2 10
unfoldable pub pow10_of : Float → Float
pow10_of x = power_by log2ten (neg (from_bits binary32 0x4217b818)) (from_bits binary32 0x4218ec59) x

-- 2 ^ -12
abbrev pub least_arg : Float
least_arg = from_bits binary32 0x39800000

-- from there to the greatest single whose hyperbolic sine is at most 2 ^ 127
unfoldable pub sinh_of : Float → Float
sinh_of x =
    let y = mul binary64 x log2e in
    cond (is_nan x) nan
    (cond (lt x least_arg) nan
    (cond (lt (from_bits binary32 0x42b17217) x) (inf false) (narrowed (mul binary64 (sub binary64 (power_up y) (power_down y)) (from_bits binary64 0x3fe0000000000000)))))

-- of a negative number and of an infinity none, of both zeros minus infinity
unfoldable pub log2_of : Float → Float
log2_of x = cond (is_nan x) nan (cond (lt x zero) nan (cond (eq x (inf false)) nan (cond (lt zero x) (positive_of x) (inf true))))

-- the greatest single that is not above 3.2
abbrev pub last_arg : Float
last_arg = from_bits binary32 0x404ccccc

-- from 0 to 3.2: below 2 ^ -12 the sine is x and the cosine 1
unfoldable pub sin_of : Float → Float
sin_of x = cond (lt last_arg x) nan (cond (le least_arg x) (narrowed (mul binary64 x (sine_sum x))) (cond (le zero x) x nan))

unfoldable pub cos_of : Float → Float
cos_of x = cond (lt last_arg x) nan (cond (le least_arg x) (narrowed (cosine_sum x)) (cond (le zero x) one nan))
