-- A difference of two floats, rounded: how far it is from the difference of the fractions that the floats are near. Assumes nothing.
use Rattle.std.proofs.Common.{◌≡◌, ℕ, ◌+◌, ◌-◌, ◌*◌, ◌≤◌, sym, ap, le_of_eq, mul-le-mul_right, arith}
use Rattle.elementary.specs.Fraction.{plus_q, LeQ, over}

-- ---- a factor (v + e) / v of a number up to m is a sum with m * e / v
pub rel-abs : (a b A B v e m : ℕ) → a * B * v ≤ A * b * (v + e) → A ≤ m * B → LeQ (over a b) (plus_q (over A B) (over (m * e) v))
rel-abs a b A B v e m h k = omega (arith, h, mul-le-mul_right (b * e) k)

-- the exact difference
pub exact : (a b c d : ℕ) → c * b ≤ a * d → LeQ (plus_q (over (a * d - c * b) (b * d)) (over c d)) (over a b) × LeQ (over a b) (plus_q (over (a * d - c * b) (b * d)) (over c d))
exact a b c d h =
    let e : a * d - c * b + c * b ≡ a * d = omega arith in
    (le_of_eq (one a b c d (a * d - c * b) e), le_of_eq (sym (one a b c d (a * d - c * b) e)))
  where
    one : (a b c d s : ℕ) → s + c * b ≡ a * d → (s * d + c * (b * d)) * b ≡ a * (b * d * d)
    one a b c d s e = omega (arith, ap (λ (z : ℕ). z * (d * b)) e)
