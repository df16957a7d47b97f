-- An envelope with nothing to sustain ends with its first step, at any rate above 0. Assumes nothing.
use mathlib.Core.Path.{◌≡◌, refl, sym, ap, subst, ◌∙◌}
use mathlib.Core.Bool.{Bool, true, false, cond, true≢false}
use Prim.Native.Nat.{ℕ, zero, suc, ◌+◌, ◌*◌, ◌-◌, ◌^◌, ◌<◌}
use native.Mathlib.Nat.{zero-mul}
use native.Mathlib.Omega.{arith}
use lib.Dec.{T, ltb, eqb, lit<}
use lib.IntN.{ℤ, pos}
use lib.Ieee.{Float, nan, inf, fin, Format, binary32, prec, emax, low, up, down, odd, units, round, unlike, neg, add, mul, div, lt, eq, is_nan, of_bits}
use lib.Ieee.Fits.{round_is, down_pos}
use lib.Ieee.Order.{drop, kept}
use lib.Ieee.Scale.{round_same}
use Rattle.envelope.specs.Envelope.{zero32, threshold, transition_time, env_at, is_done, done_step, fadeout_step, release_step}
use Rattle.envelope.specs.declared.EgState.{EgState}
use Rattle.envelope.specs.declared.Env.{Env}
use Rattle.exact.specs.Order.{maximum, smaller, chosen, negative}

-- ---- the sign goes through rounding

-- a float with the sign s, and no NaN
data Signed (s : Bool) : Float → Type 0 where
  infinite : Signed s (inf s)
  finite : (m : ℕ) (e : ℤ) → Signed s (fin s m e)

odd-signed : (d : ℕ) (s : Bool) (q k l : ℕ) → Signed s (odd d s q k l)
unfolding odd
odd-signed d s zero k l = finite _ _
odd-signed d s (suc q) k l = finite _ _

units-signed : (f : Format) (s : Bool) (q k : ℕ) → Signed s (units f s q k)
unfolding units
units-signed f s q k = go (ltb (q * 2 ^ k) (2 ^ (low f + suc (emax f))))
  where
    go : (b : Bool) → Signed s (cond b (odd (suc (prec f)) s q k (low f)) (inf s))
    go true = odd-signed (suc (prec f)) s q k (low f)
    go false = infinite

round-signed : (f : Format) (s : Bool) (a c : ℕ) → Signed s (round f s a c)
round-signed f s a c = subst (Signed s) (sym (round_is f s a c)) (units-signed f s (kept (prec f) (a * 2 ^ low f) c) (drop (prec f) (a * 2 ^ low f) c))

zero-over-one : (s : Bool) → round binary32 s 0 1 ≡ fin s 0 (pos 0)
unfolding round
zero-over-one true = refl
zero-over-one false = refl

round-zero : (s : Bool) (a c : ℕ) → a ≡ 0 → 0 < c → round binary32 s a c ≡ fin s 0 (pos 0)
round-zero s a c e h = round_same binary32 s a c 0 1 h (lit< tt) (omega (arith, e)) ∙ zero-over-one s

-- ---- a release that starts at 0

-- nothing of it is above the threshold
zero-times : (r : Float) → lt threshold (mul binary32 zero32 r) ≡ false
unfolding mul lt of_bits
zero-times nan = refl
zero-times (inf t) = refl
zero-times (fin t n d) = ap (λ (x : Float). lt threshold x) (round-zero (unlike false t) (0 * (n * up d)) (1 * down d) (zero-mul (n * up d)) (omega (arith, down_pos d))) ∙ small (unlike false t)
  where
    small : (s : Bool) → lt threshold (fin s 0 (pos 0)) ≡ false
    small true = refl
    small false = refl

-- so it fades, from the threshold down
from-threshold : maximum zero32 threshold ≡ threshold
unfolding maximum smaller chosen lt eq is_nan negative of_bits
from-threshold = refl

over : (b z : Bool) (a c : ℕ) → z ≡ false → Signed true (cond b (cond z nan (inf true)) (round binary32 true a c))
over true true a c e = absurd (true≢false e)
over true false a c e = infinite
over false z a c e = round-signed binary32 true a c

quotient : (n : ℕ) (k : ℤ) (y : Float) → eqb n 0 ≡ false → Signed false y → Signed true (div binary32 (fin true n k) y)
unfolding div
quotient n k _ h infinite = finite _ _
quotient n k _ h (finite m e) = over (eqb m 0) (eqb n 0) (n * up k * down e) (m * up e * down k) h

product : (n : ℕ) (k : ℤ) (rate : Float) → eqb n 0 ≡ false → T (lt zero32 rate) → Signed false (mul binary32 rate (fin false n k))
unfolding mul lt of_bits
product n k nan e h = absurd h
product n k (inf true) e h = absurd h
product n k (inf false) e h = rw e infinite
product n k (fin true m d) e h = absurd h
product n k (fin false m d) e h = round-signed binary32 false (m * up d * (n * up k)) (down d * down k)

down-from-threshold : (rate : Float) → T (lt zero32 rate) → Signed true (div binary32 (neg threshold) (mul binary32 rate transition_time))
unfolding neg of_bits
down-from-threshold rate h = quotient _ _ _ refl (product _ _ rate refl h)

not-above : (x : Float) → Signed true x → lt zero32 x ≡ false
unfolding lt of_bits
not-above _ infinite = refl
not-above _ (finite m e) = refl

zero-not-above : lt zero32 (fin false 0 (pos 0)) ≡ false
unfolding lt of_bits
zero-not-above = refl

less : (b : Bool) (x y c : ℕ) → x ≡ 0 → 0 < c → lt zero32 (cond b (round binary32 true (y - x) c) (round binary32 false (x - y) c)) ≡ false
less true x y c e h = not-above _ (round-signed binary32 true (y - x) c)
less false x y c e h = ap (λ (z : Float). lt zero32 z) (round-zero false (x - y) c (omega (arith, e)) h) ∙ zero-not-above

from_zero : (d : Float) → Signed true d → lt zero32 (add binary32 zero32 d) ≡ false
unfolding add of_bits
from_zero _ infinite = not-above _ infinite
from_zero _ (finite m e) = less (ltb (0 * down e) (m * up e * 1)) (0 * down e) (m * up e * 1) (1 * down e) (zero-mul (down e)) (omega (arith, down_pos e))

pub ends : (s : EgState) (d : Float) (e : Env) → T (lt zero32 e.sample_rate)
    → ((release_step (env_at s zero32 d e)).value ≡ zero32) × (is_done (release_step (env_at s zero32 d e)).env.state ≡ true)
unfolding release_step fadeout_step done_step
ends s d e h = rw (zero-times e.release_rate, from-threshold, from_zero _ (down-from-threshold e.sample_rate h)) (refl, refl)
