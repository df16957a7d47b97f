-- A whole number of at most 24 digits over 2 ^ 24, as a single. Assumes nothing.
use Rattle.std.proofs.Common.{◌≡◌, ℕ, ◌*◌, ◌≤◌, true, false, pos, ap, true≢false, mul-pos, arith, lit<}
use lib.Ieee.{Float, nan, inf, fin, binary32, up, down, round, div, of_int}
use lib.Ieee.Back.{round_whole}
use lib.Ieee.Exact.{HasValue}
use lib.Ieee.Fits.{down_pos}
use lib.Ieee.Scale.{round_same}

over-units : (v : Float) (n : ℕ) → HasValue v false n 1 → div binary32 v (fin false 1 (pos 24)) ≡ round binary32 false n 16777216
unfolding div
over-units nan n h = absurd h
over-units (inf s) n h = absurd h
over-units (fin true m e) n h = absurd (true≢false h.0)
over-units (fin false m e) n h =
    round_same binary32 false (m * up e * 1) (1 * 16777216 * down e) n 16777216 (mul-pos {m = 16777216} (lit< tt) (down_pos e)) (lit< tt) (cross (m * up e * 1) n (down e) h.1)
  where
    cross : (a n d : ℕ) → a ≡ n * d → a * 16777216 ≡ n * (1 * 16777216 * d)
    cross a n d h = omega (arith, ap (λ (x : ℕ). x * 16777216) h)

pub over-24 : (n : ℕ) → n ≤ 16777216 → div binary32 (of_int binary32 (pos n)) (fin false 1 (pos 24)) ≡ round binary32 false n 16777216
unfolding of_int
over-24 n h = over-units (round binary32 false n 1) n (round_whole binary32 false n h)
