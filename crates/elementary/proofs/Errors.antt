-- The errors of the program's doubles as factors: upper / lower for one rounding, and how many roundings Horner's rule has. Definitions only.
use Rattle.std.proofs.Common.{ℕ, zero, suc, ◌+◌, ◌*◌, ◌^◌}
use Rattle.elementary.specs.Fraction.{Frac}

-- 2 ^ 53 and 2 ^ 53 - 1
abbrev pub upper : ℕ
upper = 9007199254740992

abbrev pub lower : ℕ
lower = 9007199254740991

-- Horner's rule in floats is near Horner's rule in fractions: two roundings and the argument's own error for each coefficient
abbrev pub errors : ℕ → ℕ → ℕ
errors j zero = 1
errors j (suc n) = suc (1 + suc (j + errors j n))

-- what the powers from the 13th on come to at most
abbrev pub rest : Frac
rest = record { top = 1; bot = 549755813888 }

-- the factor by which the program's 2 ^ y may differ from E at y
abbrev pub big : ℕ
big = upper * (upper ^ errors 1 12 * (rest.bot + rest.top) * 1)

abbrev pub small : ℕ
small = lower * (lower ^ errors 1 12 * rest.bot * 1)
