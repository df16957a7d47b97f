-- Floats that are finite and not negative. Assumes nothing.
use Rattle.std.proofs.Common.{◌≡◌, ℕ, ◌*◌, true, false, not, T, ltb, refl, true≢false}
use lib.Ieee.{Float, nan, inf, fin, lt, is_nan}
use lib.Ieee.Exact.{HasValue}
use lib.Ieee.Positive.{num, den}
use Rattle.exact.specs.Value.{plus}

pub value-plus : (x : Float) (a c : ℕ) → HasValue x false a c → T (plus x)
value-plus nan a c h = absurd h
value-plus (inf s) a c h = absurd h
value-plus (fin true m e) a c h = absurd (true≢false h.0)
value-plus (fin false m e) a c h = tt

pub plus-no-nan : (x : Float) → T (plus x) → T (not (is_nan x))
unfolding is_nan
plus-no-nan nan p = absurd p
plus-no-nan (inf s) p = absurd p
plus-no-nan (fin s m e) p = tt

-- the order of two of them is that of their fractions
pub lt-plus : (x y : Float) → T (plus x) → T (plus y) → lt x y ≡ ltb (num x * den y) (num y * den x)
unfolding lt
lt-plus nan y p q = absurd p
lt-plus (inf s) y p q = absurd p
lt-plus (fin true m e) y p q = absurd p
lt-plus (fin false m e) nan p q = absurd q
lt-plus (fin false m e) (inf t) p q = absurd q
lt-plus (fin false m e) (fin true n d) p q = absurd q
lt-plus (fin false m e) (fin false n d) p q = refl
