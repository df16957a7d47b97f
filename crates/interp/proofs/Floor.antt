-- The floor of a position by its whole part. Assumes nothing.
use Rattle.std.proofs.Common.{◌≡◌, ℕ, ◌-◌, ◌*◌, ◌/◌, ◌^◌, ◌≤◌, min, Bool, true, false, T, eqb, ℤ, pos, sym, refl, ap, ◌∙◌, subst, true≢false, arith, eqb→eq}
use native.Mathlib.Nat.{zero-div}
use lib.Ieee.Back.{round_whole, whole_unique}
use lib.Ieee.Bits.{is_true}
use lib.Ieee.Fits.{and_l, round-fits, eq→eqb}
use lib.Ieee.{Float, nan, inf, fin, binary64, up, down, le, lt, eq, sub, round, of_int, of_bits, to_unsigned, fits}
use Rattle.interp.specs.Position.{Position, floored, first}
use Rattle.interp.proofs.Range.{position-within}

-- a zero is its own floor
pub floor-zero : (p : Float) → T (fits binary64 p) → T (eq p first) → p ≡ floored p
unfolding eq of_bits floored
floor-zero nan h t = absurd t
floor-zero (inf s) h t = absurd t
floor-zero (fin s m e) h t =
    let z : m * up e * 1 ≡ 0 * 1 * down e = eqb→eq (m * up e * 1) (0 * 1 * down e) (and_l (eqb (m * up e * 1) (0 * 1 * down e)) _ t) in
    let y : m * up e ≡ 0 = omega arith in
    let q : m * up e / down e ≡ 0 = ap (λ (a : ℕ). a / down e) y ∙ zero-div (down e) in
    rw q (whole_unique binary64 (fin s m e) (round binary64 s 0 1) s 0 h (round-fits binary64 s 0 1) (refl, omega arith) (round_whole binary64 s 0 (omega arith)))

pub zero-eq : (m : ℕ) (e : ℤ) → 0 * 1 * down e ≡ m * up e * 1 → eq (fin true m e) first ≡ true
unfolding eq of_bits
zero-eq m e z =
    let a : eqb (m * up e * 1) (0 * 1 * down e) ≡ true = is_true _ (eq→eqb (sym z)) in
    let y : m * up e * 1 ≡ 0 = omega arith in
    let b : eqb (m * up e * 1) 0 ≡ true = is_true _ (eq→eqb y) in
    rw (a, b)

-- a position with a sign is -0.0
below-zero : (m : ℕ) (e : ℤ) → Position (fin true m e) → eq (fin true m e) first ≡ true
unfolding le lt eq of_bits
below-zero m e h = zero-eq m e (eqb→eq (0 * 1 * down e) (m * up e * 1) (and_l (eqb (0 * 1 * down e) (m * up e * 1)) _ h.low))

-- that of a position without a sign is its whole part
pub floor-plus : (m : ℕ) (e : ℤ) → Position (fin false m e) → of_int binary64 (pos (to_unsigned 64 (fin false m e))) ≡ floored (fin false m e)
unfolding of_int floored to_unsigned
floor-plus m e h =
    let w : min (m * up e / down e) (2 ^ 64 - 1) ≤ 8589934592 = (position-within (fin false m e) h).small in
    let q : min (m * up e / down e) (2 ^ 64 - 1) ≡ m * up e / down e = omega arith in
    ap (λ (a : ℕ). round binary64 false a 1) q

-- and so is any other position's than a zero's
pub floor-whole : (p : Float) → Position p → eq p first ≡ false → of_int binary64 (pos (to_unsigned 64 p)) ≡ floored p
unfolding le lt of_bits
floor-whole nan h n = absurd h.high
floor-whole (inf true) h n = absurd h.low
floor-whole (inf false) h n = absurd h.high
floor-whole (fin true m e) h n = absurd (true≢false (sym (below-zero m e h) ∙ n))
floor-whole (fin false m e) h n = floor-plus m e h

-- ---- a position is a frame where its whole part is the position
at_zero : (s : Bool) → eq (sub binary64 (round binary64 s 0 1) (of_int binary64 (pos (to_unsigned 64 (round binary64 s 0 1))))) first ≡ eq (sub binary64 (round binary64 s 0 1) (floored (round binary64 s 0 1))) first
unfolding to_unsigned of_int of_bits floored eq sub
at_zero true = refl
at_zero false = refl

zero-round : (s : Bool) (m : ℕ) (e : ℤ) → T (fits binary64 (fin s m e)) → T (eq (fin s m e) first) → fin s m e ≡ round binary64 s 0 1
unfolding eq of_bits
zero-round s m e h t =
    let z : m * up e * 1 ≡ 0 * 1 * down e = eqb→eq (m * up e * 1) (0 * 1 * down e) (and_l (eqb (m * up e * 1) (0 * 1 * down e)) _ t) in
    whole_unique binary64 (fin s m e) (round binary64 s 0 1) s 0 h (round-fits binary64 s 0 1) (refl, omega arith) (round_whole binary64 s 0 (omega arith))

pub minus-zero : (m : ℕ) (e : ℤ) → T (fits binary64 (fin true m e)) → Position (fin true m e) → fin true m e ≡ round binary64 true 0 1
minus-zero m e f h = zero-round true m e f (subst T (sym (below-zero m e h)) tt)

abbrev ByIndex : Float → Type 0
ByIndex p = eq (sub binary64 p (of_int binary64 (pos (to_unsigned 64 p)))) first ≡ eq (sub binary64 p (floored p)) first

zero-by-index : (p : Float) → T (fits binary64 p) → Position p → T (eq p first) → ByIndex p
unfolding le lt of_bits
zero-by-index nan f h t = absurd h.high
zero-by-index (inf true) f h t = absurd h.low
zero-by-index (inf false) f h t = absurd h.high
zero-by-index (fin s m e) f h t = subst ByIndex (sym (zero-round s m e f t)) (at_zero s)

pub whole-by-index : (p : Float) → T (fits binary64 p) → Position p → ByIndex p
whole-by-index p f h = go (eq p first) refl
  where
    go : (b : Bool) → eq p first ≡ b → ByIndex p
    go true e = zero-by-index p f h (subst T (sym e) tt)
    go false e = ap (λ (x : Float). eq (sub binary64 p x) first) (floor-whole p h e)
