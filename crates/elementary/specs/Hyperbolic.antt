-- What 01, "The seven float functions", demands of sinh, each sentence beside its clause. Definitions only.
use Rattle.std.specs.Prelude.{◌≡◌, ℕ, ◌-◌, ◌*◌, ◌<◌, ◌≤◌, true, false, Float}
use Rattle.std.specs.Float.{nan, inf, fin}
use Rattle.std.specs.Float.Ieee.{up, down}
use Rattle.elementary.specs.Fraction.{Frac}
use Rattle.elementary.specs.Power.{E}
use Rattle.elementary.specs.Promise.{Answers}

-- (p - q) / 2, for a p that is not below q
abbrev pub half_difference : Frac → Frac → Frac
half_difference p q = record { top = p.top * q.bot - q.top * p.bot; bot = p.bot * q.bot * 2 }

-- "half the difference" of e^x and e^-x, where x is n / d: E(y) and E(-y) at y = x × 1442695040888963407 / 10^18
abbrev pub hyperbolic : ℕ → ℕ → Frac
hyperbolic n d = half_difference (E false (n * 1442695040888963407) (d * 1000000000000000000)) (E true (n * 1442695040888963407) (d * 1000000000000000000))

abbrev pub Sinh : Float → Float → Type 0
-- "All seven turn not-a-number into itself."
Sinh nan r = r ≡ nan
-- plus infinity gives plus infinity, as for the three powers
Sinh (inf false) r = r ≡ inf false
-- "Arguments named nowhere here give not-a-number.": minus infinity, and what is negative or below 2^-12
Sinh (inf true) r = r ≡ nan
Sinh (fin true m e) r = r ≡ nan
-- "For `sinh` from 2^-12 up, the same against half the difference." The rules leave the result open within the part, as for the three powers.
Sinh (fin false m e) r = (m * up e * 4096 < down e → r ≡ nan) × (down e ≤ m * up e * 4096 → Answers (hyperbolic (m * up e) (down e)) r)
