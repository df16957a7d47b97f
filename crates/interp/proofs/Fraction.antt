-- What lies between a position and its floor, by the position plus 0.0 and its whole part: the sum is the position but for the sign of
-- a zero, which the difference has not either way. Assumes nothing.
use Rattle.std.proofs.Common.{◌≡◌, ℕ, zero, suc, ◌-◌, ◌*◌, ◌/◌, ◌^◌, ◌≤◌, min, Bool, true, false, T, ℤ, sym, refl, ap, ◌∙◌, subst, mul-one, div-mul-le_self, arith}
use lib.Ieee.Back.{round_whole, whole_unique}
use lib.Ieee.Exact.{HasValue}
use lib.Ieee.Fits.{down_pos, round-fits}
use lib.Ieee.{Float, nan, inf, fin, binary64, up, down, le, lt, add, sub, sum, round, of_int, of_bits, to_unsigned, fits}
use Rattle.interp.specs.Position.{Position, floored, first, double}
use Rattle.interp.proofs.Difference.{differ}
use Rattle.interp.proofs.Floor.{floor-plus, minus-zero}
use Rattle.interp.proofs.Looping.{exact, grid-of, digits, numerator, double-value}
use Rattle.interp.proofs.Range.{position-most, position-within}

abbrev Behind : Float → Type 0
Behind p = sub binary64 (add binary64 p first) (double (to_unsigned 64 p)) ≡ sub binary64 p (floored p)

zero-behind : (s : Bool) → Behind (round binary64 s 0 1)
unfolding to_unsigned of_int of_bits floored add sub
zero-behind true = refl
zero-behind false = refl

-- ---- a position above 0
module _ (m : ℕ) (e : ℤ) (f : T (fits binary64 (fin false (suc m) e))) (h : Position (fin false (suc m) e)) where
  abbrev p : Float
  p = fin false (suc m) e

  sum_is : add binary64 p first ≡ round binary64 false (suc m * up e) (down e)
  unfolding of_bits add sum
  sum_is =
      ap (λ (a : ℕ). round binary64 false a (down e * 1)) (omega arith) ∙ ap (λ (d : ℕ). round binary64 false (suc m * up e) d) (mul-one (down e))

  -- the sum with 0.0 has the position's value
  sum-value : HasValue (add binary64 p first) false (suc m * up e) (down e)
  sum-value =
      subst (λ (x : Float). HasValue x false (suc m * up e) (down e)) (sym sum_is)
      (exact (suc m * up e) (down e) (grid-of e (digits m e f).1) (down_pos e) (numerator m e (digits m e f).0 (position-most (suc m) e h)))

  whole-most : to_unsigned 64 p * down e ≤ suc m * up e
  unfolding to_unsigned
  whole-most =
      let w : min (suc m * up e / down e) (2 ^ 64 - 1) ≤ 8589934592 = (position-within p h).small in
      let q : min (suc m * up e / down e) (2 ^ 64 - 1) ≡ suc m * up e / down e = omega arith in
      subst (λ (k : ℕ). k * down e ≤ suc m * up e) (sym q) (div-mul-le_self (suc m * up e) (down e))

  -- so that the whole part leaves the same of both
  less : (x : Float) → HasValue x false (suc m * up e) (down e) → sub binary64 x (double (to_unsigned 64 p)) ≡ round binary64 false (suc m * up e - to_unsigned 64 p * down e) (down e)
  less x v =
      let w : to_unsigned 64 p ≤ 8589934592 = (position-within p h).small in
      differ binary64 x (double (to_unsigned 64 p)) (suc m * up e) (down e) (to_unsigned 64 p) (down_pos e) v (double-value (to_unsigned 64 p) (omega arith)) whole-most

  plus-behind : Behind p
  plus-behind = less (add binary64 p first) sum-value ∙ sym (less p (refl, refl)) ∙ ap (sub binary64 p) (floor-plus (suc m) e h)

pub behind : (p : Float) → T (fits binary64 p) → Position p → Behind p
unfolding le lt of_bits
behind nan f h = absurd h.high
behind (inf true) f h = absurd h.low
behind (inf false) f h = absurd h.high
behind (fin true m e) f h = subst Behind (sym (minus-zero m e f h)) (zero-behind true)
behind (fin false zero e) f h = subst Behind (sym zero_is) (zero-behind false)
  where
    zero_is : fin false 0 e ≡ round binary64 false 0 1
    zero_is = whole_unique binary64 (fin false 0 e) (round binary64 false 0 1) false 0 f (round-fits binary64 false 0 1) (refl, omega arith) (round_whole binary64 false 0 (omega arith))
behind (fin false (suc m) e) f h = plus-behind m e f h
