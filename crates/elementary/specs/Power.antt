-- 01's E: 2 ^ n times the power series of 2 ^ r through the 20th power, n the floor of y and r the rest, ln 2 being 693147180559945309 / 10 ^ 18. Definitions only.
use Rattle.std.specs.Prelude.{ℕ, zero, suc, ◌+◌, ◌-◌, ◌*◌, ◌/◌, ◌%◌, ◌^◌, Bool, true, false, List, [], ◌∷◌}
use Rattle.elementary.specs.Fraction.{Frac, horner_q}

unfoldable pub fact : ℕ → ℕ
fact zero = 1
fact (suc n) = suc n * fact n

-- (ln 2) ^ k / k!
unfoldable pub coef : ℕ → Frac
unfolding fact
coef k = record { top = 693147180559945309 ^ k; bot = 1000000000000000000 ^ k * fact k }

-- the n coefficients from the k-th on
unfoldable pub coefs : ℕ → ℕ → List Frac
unfolding coef
coefs k zero = []
coefs k (suc n) = coef k ∷ coefs (suc k) n

unfoldable pub series : Frac → Frac
unfolding horner_q coefs
series X = horner_q X (coef 0) (coefs 1 20)

-- 2 ^ n times the series at r, for the number a / c, negative where s is true: n is its floor and r the rest
abbrev pub ceil : ℕ → ℕ → ℕ
ceil a c = (a + (c - 1)) / c

unfoldable pub E : Bool → ℕ → ℕ → Frac
unfolding series
E false a c = let s = series (record { top = a % c; bot = c }) in record { top = s.top * 2 ^ (a / c); bot = s.bot }
E true a c = let s = series (record { top = ceil a c * c - a; bot = c }) in record { top = s.top; bot = s.bot * 2 ^ ceil a c }
