-- The whole part of a float from 0 to a whole number is within that range, and the machine may cut the float to it. Assumes nothing.
use Rattle.std.proofs.Common.{◌≡◌, ℕ, ◌+◌, ◌*◌, ◌/◌, ◌^◌, ◌<◌, ◌≤◌, Bool, true, false, ◌&&◌, ◌||◌, T, eqb, ltb, ℤ, pos, mul-le-mul_right, arith, eqb→eq, ltb→lt, lt→ltb}
use lib.Pow.{pow-lt}
use lib.Ieee.Fits.{and_l, down_pos}
use lib.Ieee.Nearest.{div_mono}
use lib.Ieee.{Float, nan, inf, fin, up, down, lt, le, eq, of_bits, to_unsigned}
use Rattle.interp.specs.Position.{Position}

pub or_split : (x y : Bool) {P : Type 0} → (T x → P) → (T y → P) → T (x || y) → P
or_split true y f g t = f tt
or_split false y f g t = g t

pub at_most : (a b : ℕ) (s : Bool) → T (ltb a b || eqb a b && s) → a ≤ b
at_most a b s t =
    or_split (ltb a b) (eqb a b && s)
    (λ (p : T (ltb a b)). let h : a < b = ltb→lt a b p in omega arith)
    (λ (p : T (eqb a b && s)). let h : a ≡ b = eqb→eq a b (and_l (eqb a b) s p) in omega arith)
    t

-- what a float from 0 to n has
pub record Within (n : ℕ) (x : Float) : Type 0 where
  pub above : T (lt (fin true 1 (pos 0)) x)
  pub below : T (lt x (fin false 1 (pos 64)))
  pub small : to_unsigned 64 x ≤ n

module _ (m : ℕ) (e : ℤ) (n : ℕ) where
  pub plain : m * up e ≤ n * down e → n < 2 ^ 64 → Within n (fin false m e)
  unfolding lt to_unsigned
  plain h w =
      let d : 0 < down e = down_pos e in
      let q : m * up e / down e ≤ n / 1 = div_mono (m * up e) (down e) n 1 d (omega arith) (omega arith) in
      let k : (n + 1) * down e ≤ 2 ^ 64 * down e = mul-le-mul_right (down e) (omega arith) in
      record {
        above = lt→ltb 0 (1 * up (pos 0) * down e + m * up e * down (pos 0)) (omega arith);
        below = lt→ltb (m * up e * down (pos 64)) (1 * up (pos 64) * down e) (omega arith);
        small = omega arith;
      }

  pub minus-zero : 0 * 1 * down e ≡ m * up e * 1 → Within n (fin true m e)
  unfolding lt to_unsigned
  minus-zero z =
      let d : 0 < down e = down_pos e in
      record {
        above = lt→ltb (m * up e * down (pos 0)) (1 * up (pos 0) * down e) (omega arith);
        below = lt→ltb 0 (m * up e * down (pos 64) + 1 * up (pos 64) * down e) (omega arith);
        small = omega arith;
      }

-- from 0 to 2 ^ k
pub within : (k : ℕ) (x : Float) → k < 64 → T (le (fin false 0 (pos 0)) x) → T (le x (fin false 1 (pos k))) → Within (2 ^ k) x
unfolding le lt eq
within k nan w a b = absurd b
within k (inf true) w a b = absurd a
within k (inf false) w a b = absurd b
within k (fin true m e) w a b =
    minus-zero m e (2 ^ k) (eqb→eq (0 * 1 * down e) (m * up e * 1) (and_l (eqb (0 * 1 * down e) (m * up e * 1)) _ a))
within k (fin false m e) w a b =
    let h : m * up e * 1 ≤ 1 * 2 ^ k * down e = at_most (m * up e * 1) (1 * 2 ^ k * down e) _ b in
    plain m e (2 ^ k) (omega arith) (pow-lt w)

pub position-most : (m : ℕ) (e : ℤ) → Position (fin false m e) → m * up e ≤ 8589934592 * down e
unfolding of_bits le lt eq
position-most m e h =
    let b : m * up e * 1 ≤ 1 * 2 ^ 33 * down e = at_most (m * up e * 1) (1 * 2 ^ 33 * down e) _ h.high in
    omega arith

pub position-within : (p : Float) → Position p → Within 8589934592 p
unfolding of_bits
position-within p h = within 33 p (omega arith) h.low h.high
