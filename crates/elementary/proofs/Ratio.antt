-- Two fractions a / b and c / d that differ at most by the factor u / v, and a float near a fraction. Assumes nothing.
use Rattle.std.proofs.Common.{◌≡◌, ℕ, ◌+◌, ◌*◌, ◌<◌, ◌≤◌, T, ap, subst, mul-le-mul_right, mul_comm, mul-le-mul, mul-le-mul_left, le_of_mul-le-mul_right, arith}
use lib.Ieee.{Float}
use lib.Ieee.Positive.{num, den}
use Rattle.exact.specs.Value.{plus}

-- a / b ≤ u / v * (c / d)
abbrev pub Le : ℕ → ℕ → ℕ → ℕ → ℕ → ℕ → Type 0
Le u v a b c d = a * d * v ≤ c * b * u

-- each is at most u / v times the other
abbrev pub Within : ℕ → ℕ → ℕ → ℕ → ℕ → ℕ → Type 0
Within u v a b c d = Le u v a b c d × Le u v c d a b

-- x is finite, not negative, and within u / v of the fraction a / c
pub record Near (u v : ℕ) (x : Float) (a c : ℕ) : Type 0 where
  pub sign : T (plus x)
  pub within : Within u v (num x) (den x) a c

pub le-trans-ratio : (u v u' v' a b c d e f : ℕ) → 0 < d → Le u v a b c d → Le u' v' c d e f → Le (u * u') (v * v') a b e f
le-trans-ratio u v u' v' a b c d e f D h k =
    let x : a * d * v * (f * v') ≤ c * b * u * (f * v') = mul-le-mul_right (f * v') h in
    let y : c * f * v' * (b * u) ≤ e * d * u' * (b * u) = mul-le-mul_right (b * u) k in
    let z : a * f * (v * v') * d ≤ e * b * (u * u') * d = omega arith in
    le_of_mul-le-mul_right z D

pub within-trans : (u v u' v' a b c d e f : ℕ) → 0 < d → Within u v a b c d → Within u' v' c d e f → Within (u * u') (v * v') a b e f
within-trans u v u' v' a b c d e f D h k = (
  le-trans-ratio u v u' v' a b c d e f D h.0 k.0,
  subst (λ (z : ℕ). e * b * z ≤ a * f * (u * u')) (mul_comm v' v) (subst (λ (z : ℕ). e * b * (v' * v) ≤ a * f * z) (mul_comm u' u) (le-trans-ratio u' v' u v e f c d a b D k.1 h.1)),
)

pub le-mul : (u v u' v' a b c d a' b' c' d' : ℕ) → Le u v a b c d → Le u' v' a' b' c' d' → Le (u * u') (v * v') (a * a') (b * b') (c * c') (d * d')
le-mul u v u' v' a b c d a' b' c' d' h k = omega (arith, mul-le-mul h k)

pub within-mul : (u v u' v' a b c d a' b' c' d' : ℕ) → Within u v a b c d → Within u' v' a' b' c' d' → Within (u * u') (v * v') (a * a') (b * b') (c * c') (d * d')
within-mul u v u' v' a b c d a' b' c' d' h k = (le-mul u v u' v' a b c d a' b' c' d' h.0 k.0, le-mul u v u' v' c d a b c' d' a' b' h.1 k.1)

pub le-add : (u v a b c d a' b' c' d' : ℕ) → Le u v a b c d → Le u v a' b' c' d' → Le u v (a * b' + a' * b) (b * b') (c * d' + c' * d) (d * d')
le-add u v a b c d a' b' c' d' h k = omega (arith, mul-le-mul_right (b' * d') h, mul-le-mul_right (b * d) k)

pub within-add : (u v a b c d a' b' c' d' : ℕ) → Within u v a b c d → Within u v a' b' c' d' → Within u v (a * b' + a' * b) (b * b') (c * d' + c' * d) (d * d')
within-add u v a b c d a' b' c' d' h k = (le-add u v a b c d a' b' c' d' h.0 k.0, le-add u v c d a b c' d' a' b' h.1 k.1)

-- a larger factor
pub le-weaken : (u v u' v' a b c d : ℕ) → 0 < v → u * v' ≤ u' * v → Le u v a b c d → Le u' v' a b c d
le-weaken u v u' v' a b c d P h k =
    let x : a * d * v * v' ≤ c * b * u * v' = mul-le-mul_right v' k in
    let y : c * b * (u * v') ≤ c * b * (u' * v) = mul-le-mul_left (c * b) h in
    let z : a * d * v' * v ≤ c * b * u' * v = omega arith in
    le_of_mul-le-mul_right z P

pub within-weaken : (u v u' v' a b c d : ℕ) → 0 < v → u * v' ≤ u' * v → Within u v a b c d → Within u' v' a b c d
within-weaken u v u' v' a b c d P h k = (le-weaken u v u' v' a b c d P h k.0, le-weaken u v u' v' c d a b P h k.1)

pub within-sym : (u v a b c d : ℕ) → Within u v a b c d → Within u v c d a b
within-sym u v a b c d h = (h.1, h.0)

pub within-refl : (u v a b : ℕ) → v ≤ u → Within u v a b a b
within-refl u v a b h = (mul-le-mul_left (a * b) h, mul-le-mul_left (a * b) h)

-- the second fraction by an equal one
pub within_same : (u v a b c d c' d' : ℕ) → 0 < d → c * d' ≡ c' * d → Within u v a b c d → Within u v a b c' d'
within_same u v a b c d c' d' D e h =
    let p : a * d * v * d' ≤ c * b * u * d' = mul-le-mul_right d' h.0 in
    let q : c * b * v * d' ≤ a * d * u * d' = mul-le-mul_right d' h.1 in
    let e1 : c * d' * (b * u) ≡ c' * d * (b * u) = ap (λ (z : ℕ). z * (b * u)) e in
    let e2 : c * d' * (b * v) ≡ c' * d * (b * v) = ap (λ (z : ℕ). z * (b * v)) e in
    let x : a * d' * v * d ≤ c' * b * u * d = omega arith in
    let y : c' * b * v * d ≤ a * d' * u * d = omega arith in
    (le_of_mul-le-mul_right x D, le_of_mul-le-mul_right y D)
