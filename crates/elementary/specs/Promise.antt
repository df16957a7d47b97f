-- What 01, "The seven float functions", demands of exp2, powf (base 10) and exp, each sentence beside its clause. Definitions only.
-- The rules leave a result from 2 ^ -126 to 2 ^ 127 open within one part in 4,194,304 of the exact figure: there alone the promise limits
-- the result, and everywhere else it says what the result is.
use Rattle.std.specs.Prelude.{◌≡◌, ℕ, ◌+◌, ◌-◌, ◌*◌, ◌^◌, ◌<◌, ◌≤◌, false, cond, T, pos, Float}
use Rattle.std.specs.Float.{nan, inf, fin}
use Rattle.std.specs.Float.Ieee.{up, down}
use Rattle.std.specs.Float.Ieee.Positive.{num, den}
use Rattle.exact.specs.Value.{plus}
use Rattle.elementary.specs.Fraction.{Frac}
use Rattle.elementary.specs.Power.{E}

-- "one part in 4,194,304"
abbrev pub parts : ℕ
parts = 4194304

-- r "within one part" of q: r is finite and not negative, r ≤ q + q / parts and r ≥ q - q / parts
pub record Part (q : Frac) (r : Float) : Type 0 where
  pub sign : T (plus r)
  pub most : num r * q.bot * parts ≤ q.top * den r * (parts + 1)
  pub least : q.top * den r * (parts - 1) ≤ num r * q.bot * parts

-- r is a result for the exact figure q
pub record Answers (q : Frac) (r : Float) : Type 0 where
  -- "Where the exact figure is below 2^-126 they give 0"
  pub under : q.top * 2 ^ 126 < q.bot → r ≡ fin false 0 (pos 0)
  -- "where it is above 2^127 plus infinity"
  pub over : q.bot * 2 ^ 127 < q.top → r ≡ inf false
  -- "Results between 2^-126 and 2^127 .. lie within one part in 4,194,304 of" the figure, the two ends among them
  pub between : q.bot ≤ q.top * 2 ^ 126 → q.top ≤ q.bot * 2 ^ 127 → Part q r

-- r is a result for E(x × a / c)
abbrev pub PowerOf : ℕ → ℕ → Float → Float → Type 0
-- "All seven turn not-a-number into itself."
PowerOf a c nan r = r ≡ nan
-- "minus and plus infinity give the same two": 0 and plus infinity
PowerOf a c (inf s) r = r ≡ cond s (fin false 0 (pos 0)) (inf false)
-- m * up e / down e is the size of x, and s says whether x is negative
PowerOf a c (fin s m e) r = Answers (E s (m * up e * a) (down e * c)) r
