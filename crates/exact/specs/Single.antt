-- Single precision: each operation rounds on its own. Definitions only.
use Rattle.std.specs.Prelude.{ℕ, pos, from_bits, Float}
use Rattle.std.specs.Float.{binary32}
use Rattle.std.specs.Float.Ieee.{add, sub, mul, div, of_int}

infixl 6 ◌⊕◌
infixl 6 ◌⊖◌
infixl 7 ◌⊗◌
infixl 7 ◌⊘◌
abbrev pub ◌⊕◌ : Float → Float → Float
a ⊕ b = add binary32 a b

abbrev pub ◌⊖◌ : Float → Float → Float
a ⊖ b = sub binary32 a b

abbrev pub ◌⊗◌ : Float → Float → Float
a ⊗ b = mul binary32 a b

abbrev pub ◌⊘◌ : Float → Float → Float
a ⊘ b = div binary32 a b

-- the single of a whole number
abbrev pub single : ℕ → Float
single n = of_int binary32 (pos n)

-- 0.0, 0.5, 0.88, 1.0, 1.5, 2.0, 2.5, 4.0, 16.0, 100.0, 127.0, 512.0, 1200.0 and 8193.0
abbrev pub f0 : Float
f0 = from_bits binary32 0

abbrev pub f0_5 : Float
f0_5 = from_bits binary32 0x3f00_0000

abbrev pub f0_88 : Float
f0_88 = from_bits binary32 0x3f61_47ae

abbrev pub f1 : Float
f1 = from_bits binary32 0x3f80_0000

abbrev pub f1_5 : Float
f1_5 = from_bits binary32 0x3fc0_0000

abbrev pub f2 : Float
f2 = from_bits binary32 0x4000_0000

abbrev pub f2_5 : Float
f2_5 = from_bits binary32 0x4020_0000

abbrev pub f4 : Float
f4 = from_bits binary32 0x4080_0000

abbrev pub f16 : Float
f16 = from_bits binary32 0x4180_0000

abbrev pub f100 : Float
f100 = from_bits binary32 0x42c8_0000

abbrev pub f127 : Float
f127 = from_bits binary32 0x42fe_0000

abbrev pub f512 : Float
f512 = from_bits binary32 0x4400_0000

abbrev pub f1200 : Float
f1200 = from_bits binary32 0x4496_0000

abbrev pub f8193 : Float
f8193 = from_bits binary32 0x4600_0400
