-- Fractions of whole numbers, that nothing here is negative: their sum, product and order, and a polynomial in them. Definitions only.
use Rattle.std.specs.Prelude.{ℕ, ◌+◌, ◌*◌, ◌≤◌, List, [], ◌∷◌}

pub record Frac : Type 0 where
  pub top : ℕ
  pub bot : ℕ

abbrev pub over : ℕ → ℕ → Frac
over x c = record { top = x; bot = c }

abbrev pub one_q : Frac
one_q = record { top = 1; bot = 1 }

abbrev pub plus_q : Frac → Frac → Frac
plus_q p q = record { top = p.top * q.bot + q.top * p.bot; bot = p.bot * q.bot }

abbrev pub times_q : Frac → Frac → Frac
times_q p q = record { top = p.top * q.top; bot = p.bot * q.bot }

unfoldable pub horner_q : Frac → Frac → List Frac → Frac
horner_q x p [] = p
horner_q x p (q ∷ qs) = plus_q p (times_q x (horner_q x q qs))

-- the order of fractions
abbrev pub LeQ : Frac → Frac → Type 0
LeQ p q = p.top * q.bot ≤ q.top * p.bot
