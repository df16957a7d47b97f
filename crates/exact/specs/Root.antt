-- IEEE 754's square_root (5.4.1), which Rust's `sqrt` is: the float nearest to the exact root, a tie to the even one. Definitions only.
use Rattle.std.specs.Prelude.{ℕ, zero, suc, ◌+◌, ◌-◌, ◌*◌, ◌/◌, ◌^◌, false, cond, nat_le, Float}
use Prim.Native.Nat.{compare}
use Rattle.std.specs.Float.{nan, inf, fin, Format}
use Rattle.std.specs.Float.Ieee.{prec, low, up, down, size, nearest, units}

-- The square root of n, cut to a whole number, for an n below 4 ^ i. Two binary digits of n make one of the root:
-- it is twice the root of n without its last two, or one more.
unfoldable pub root_by : ℕ → ℕ → ℕ
root_by zero n = 0
root_by (suc i) n = let q = 2 * root_by i (n / 4) in cond (nat_le ((q + 1) * (q + 1)) n) (q + 1) q

-- n is below 2 ^ size n
unfoldable pub root : ℕ → ℕ
unfolding root_by size
root n = root_by (size n) n

-- The value of the format f that is nearest to the square root of num / den, for a den above 0. In units of f's smallest value
-- it is the root of n / den. Of its whole part w the format keeps the `prec` leading digits, q, and drops k, as `round` does.
-- The root is compared with the middle, that is q and a half times 2 ^ k, by the squares of twice each.
unfoldable pub rooted : Format → ℕ → ℕ → Float
unfolding root size units
rooted f num den =
    let n = num * 4 ^ low f in
    let w = root (n / den) in
    let k = size w - prec f in
    let q = w / 2 ^ k in
    units f false (nearest q (compare (4 * n) ((2 * q + 1) * (2 * q + 1) * 4 ^ k * den))) k

-- a zero keeps its sign, and a number below zero has no root
unfoldable pub square_root : Format → Float → Float
unfolding rooted
square_root f nan = nan
square_root f (inf s) = cond s nan (inf s)
square_root f (fin s zero e) = fin s zero e
square_root f (fin s (suc m) e) = cond s nan (rooted f (suc m * up e) (down e))
