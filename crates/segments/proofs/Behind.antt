-- How far a position lies behind its frame, if that is not the first: from 0 to 1. Assumes nothing.
use mathlib.Core.Path.{◌≡◌, refl, sym, subst}
use mathlib.Core.Bool.{true, false, true≢false}
use Prim.Native.Nat.{ℕ, suc, ◌-◌, ◌*◌, ◌/◌, ◌^◌, ◌≤◌, ◌<◌, min}
use native.Mathlib.Nat.{div-mul-le_self, div-lt_iff_lt-mul, lt_irrefl}
use native.Mathlib.Omega.{arith}
use lib.Dec.{T}
use lib.IntN.{pos}
use lib.Ieee.Back.{round_whole}
use lib.Ieee.Exact.{HasValue}
use lib.Ieee.Fits.{down_pos}
use lib.Ieee.Order.{round_mono}
use lib.Ieee.Scale.{finite, round_val, round_under}
use lib.Ieee.{Float, nan, inf, fin, Format, binary32, binary64, up, down, round, le, lt, eq, of_bits, to_unsigned}
use Rattle.exact.specs.Narrow.{narrowed}
use Rattle.exact.specs.Value.{plus}
use Rattle.interp.specs.Position.{Position, floored, fraction}
use Rattle.lanes.specs.Four.{Part}
use Rattle.interp.proofs.Difference.{differ}
use Rattle.interp.proofs.Range.{at_most, position-within}

pos-value : (x : Float) (a c : ℕ) → HasValue x false a c → T (plus x)
pos-value nan a c h = absurd h
pos-value (inf s) a c h = absurd h
pos-value (fin true m e) a c h = absurd (true≢false h.0)
pos-value (fin false m e) a c h = tt

within-one : (x : Float) → T (le (fin false 0 (pos 0)) x) → T (le x (fin false 1 (pos 0))) → T (finite x)
unfolding le lt eq
within-one nan a b = absurd a
within-one (inf true) a b = absurd a
within-one (inf false) a b = absurd b
within-one (fin s m e) a b = tt

-- a rounded fraction from 0 to 1
unit-round : (f : Format) (a c : ℕ) → 0 < c → a ≤ c → round f false 0 1 ≡ fin false 0 (pos 0) → round f false 1 1 ≡ fin false 1 (pos 0)
    → T (plus (round f false a c)) × T (le (round f false a c) (fin false 1 (pos 0)))
unit-round f a c d h z o =
    let lo = subst (λ (x : Float). T (le x (round f false a c))) z (round_mono f 0 1 a c (omega arith) d (omega arith)) in
    let hi = subst (λ (x : Float). T (le (round f false a c) x)) o (round_mono f a c 1 1 d (omega arith) (omega arith)) in
    (pos-value (round f false a c) _ _ (round_val f a c (round_under f a c (within-one (round f false a c) lo hi))), hi)

narrow-part : (x : Float) → T (plus x) → T (le x (fin false 1 (pos 0))) → Part (narrowed x)
unfolding narrowed le lt eq of_bits round
narrow-part nan p h = absurd p
narrow-part (inf s) p h = absurd p
narrow-part (fin true m e) p h = absurd p
narrow-part (fin false m e) p h =
    let b : m * up e * 1 ≤ 1 * 2 ^ 0 * down e = at_most (m * up e * 1) (1 * 2 ^ 0 * down e) _ h in
    unit-round binary32 (m * up e) (down e) (down_pos e) (omega arith) refl refl

pub fraction-part : (p : Float) → Position p → 0 < to_unsigned 64 p → Part (fraction p)
unfolding fraction floored to_unsigned le lt eq of_bits round
fraction-part nan k h = absurd (lt_irrefl 0 h)
fraction-part (inf true) k h = absurd k.low
fraction-part (inf false) k h = absurd k.high
fraction-part (fin true m e) k h = absurd (lt_irrefl 0 h)
fraction-part (fin false m e) k h =
    let A = m * up e in
    let D = down e in
    let S = A / D in
    let d : 0 < D = down_pos e in
    let w : min (A / D) (2 ^ 64 - 1) ≤ 8589934592 = (position-within (fin false m e) k).small in
    let a : S * D ≤ A = div-mul-le_self A D in
    let b : A < suc S * D = (div-lt_iff_lt-mul d).0 (omega arith) in
    let q = differ binary64 (fin false m e) (round binary64 false S 1) A D S d (refl, refl) (round_whole binary64 false S (omega arith)) a in
    let u = unit-round binary64 (A - S * D) D d (omega arith) refl refl in
    subst (λ (x : Float). Part (narrowed x)) (sym q) (narrow-part _ u.0 u.1)
