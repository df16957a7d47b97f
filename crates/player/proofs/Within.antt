-- Floats from 0 to 2 ^ 33, and what zero and a plus sign make of them. Assumes nothing.
use mathlib.Core.Path.{◌≡◌}
use mathlib.Core.Bool.{Bool, true, false, not, ◌||◌}
use Prim.Native.Nat.{ℕ, ◌*◌, ◌≤◌, ◌<◌}
use native.Mathlib.Omega.{arith}
use lib.Dec.{T, eqb, eqb→eq}
use lib.IntN.{ℤ}
use lib.Ieee.Fits.{and_l}
use lib.Ieee.Order.{round_mono}
use lib.Ieee.{fin, binary64, up, down, round, le, lt, eq, of_bits}
use Rattle.interp.specs.Position.{Position, first}

pub round-within : (n C : ℕ) → 0 < C → n ≤ 8589934592 * C → Position (round binary64 false n C)
unfolding of_bits le lt eq round
round-within n C d h =
    record { low = round_mono binary64 0 1 n C (omega arith) d (omega arith); high = round_mono binary64 n C 8589934592 1 d (omega arith) (omega arith) }

-- a minus sign from 0 on is a zero's
pub zero_of : (m : ℕ) (e : ℤ) → T (le first (fin true m e)) → m * up e ≡ 0
unfolding of_bits le lt eq
zero_of m e t =
    let z : 0 * 1 * down e ≡ m * up e * 1 = eqb→eq (0 * 1 * down e) (m * up e * 1) (and_l (eqb (0 * 1 * down e) (m * up e * 1)) _ t) in
    omega arith

pub left : (x y : Bool) → T x → T (x || y)
left true y t = tt
left false y t = elim t [ ]

pub turned : (a b : Bool) → a ≡ not b → not a ≡ b
turned a true e = rw e
turned a false e = rw e
