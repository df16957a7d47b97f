-- SplitMix64 (G. L. Steele Jr., D. Lea, C. H. Flood, Fast Splittable Pseudorandom Number Generators, 2014), and draws from it. Definitions only.
use Rattle.std.specs.Prelude.{ℕ, ◌+◌, ◌*◌, ◌/◌, ◌%◌, ◌^◌, false, bit_xor, Float}
use Rattle.std.specs.Float.{binary32}
use Rattle.std.specs.Float.Ieee.{round}

-- z with its digits from the place k up added on below, without carries: the paper's `z ^ (z >>> k)`
abbrev pub xor_shift : ℕ → ℕ → ℕ
xor_shift k z = bit_xor z (z / 2 ^ k)

-- the paper's `mix64`, with the constants of its variant 13; a product drops what passes 64 bits
unfoldable pub mix : ℕ → ℕ
mix z = xor_shift 31 (xor_shift 27 (xor_shift 30 z * 0xbf58476d1ce4e5b9 % 2 ^ 64) * 0x94d049bb133111eb % 2 ^ 64)

-- the odd number nearest to 2 ^ 64 over the golden ratio, which each step adds to the state
abbrev pub golden_gamma : ℕ
golden_gamma = 0x9e3779b97f4a7c15

-- the output of the step from the state z
unfoldable pub split_mix : ℕ → ℕ
unfolding mix
split_mix z = mix ((z + golden_gamma) % 2 ^ 64)

-- the upper 24 of 64 digits, over 2 ^ 24: a single holds it, so nothing is rounded
unfoldable pub uniform_of : ℕ → Float
unfolding round
uniform_of h = round binary32 false (h / 2 ^ 40) (2 ^ 24)

-- a draw from a seed of 32 bits, a serial and a salt
unfoldable pub drawn : ℕ → ℕ → ℕ → Float
unfolding split_mix uniform_of
drawn seed serial salt = uniform_of (split_mix (bit_xor (split_mix (bit_xor (seed * 2 ^ 32) salt)) serial))
