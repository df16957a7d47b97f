-- Sums and products of floats that are finite and not negative: each is within the factor (h + 1) / h of the exact one, h = 2 ^ (prec - 1),
-- where the exact one is 0 or in the normal range and not near the overflow. Assumes nothing.
use Rattle.std.proofs.Common.{◌≡◌, ℕ, zero, suc, ◌+◌, ◌-◌, ◌*◌, ◌^◌, ◌<◌, ◌≤◌, true, false, T, ◌⊎◌, sym, refl, ap, ◌∙◌, subst, inl, inr, le_of_eq, lt_of_lt_of_le, mul-le-mul_right, mul_assoc, mul-le-mul_left, mul-pos, pow-suc, lt_of_not-le, zero-mul, le_of_mul-le-mul_right, arith, pow_pos, pow-add}
use lib.Ieee.{Float, nan, inf, fin, Format, prec, emax, low, round, add, sub, mul, sum}
use lib.Ieee.Exact.{HasValue}
use lib.Ieee.Order.{drop, kept}
use lib.Ieee.Scale.{grid, overflow, round_val}
use lib.Ieee.Positive.{num, den, den_pos, value→cross}
use Rattle.exact.proofs.Rounding.{grid-hi, grid-lo, closest-hi}
use Rattle.elementary.proofs.Ratio.{Within, Near, within_same, within-sym, within-trans, within-mul, within-add}
use Rattle.exact.specs.Value.{plus}
use Rattle.exact.proofs.Value.{value-plus}

-- h is at most 2 ^ (prec - 1), at least 4, and w is 2 * h - 1
pub record Fine (f : Format) (h w : ℕ) : Type 0 where
  pub twice : suc w ≡ 2 * h
  pub least : 4 ≤ h
  pub most : h ≤ 2 ^ (prec f - 1)

-- a / c is 0 or reaches h units, and is at most one and a half times 2 ^ emax
pub record Range (f : Format) (h a c : ℕ) : Type 0 where
  pub below : (a ≡ 0) ⊎ (h * c ≤ a * 2 ^ low f)
  pub above : 2 * a ≤ 3 * (c * 2 ^ emax f)

none : (K u : ℕ) → 0 < u → 2 * (K * u) ≤ 2 * 0 + u → K ≡ 0
none zero u U h = refl
none (suc K) u U h = omega arith

zero-grid : (f : Format) (a c : ℕ) → 0 < c → a ≡ 0 → grid f a c ≡ 0
zero-grid f a c C e =
    let p = prec f in
    let n = a * 2 ^ low f in
    let t = 2 ^ drop p n c in
    let z : n ≡ 0 = ap (λ (x : ℕ). x * 2 ^ low f) e ∙ zero-mul (2 ^ low f) in
    let u : 0 < c * t = mul-pos C (pow_pos (drop p n c)) in
    let k : kept p n c ≡ 0 = none (kept p n c) (c * t) u (subst (λ (x : ℕ). 2 * (kept p n c * (c * t)) ≤ 2 * x + c * t) z (closest-hi n (c * t) u)) in
    ap (λ (x : ℕ). x * t) k ∙ zero-mul t

zero_left : (g a c l w : ℕ) → g ≡ 0 → a ≡ 0 → Within (suc w) w g l a c
zero_left g a c l w p q = (subst (λ (x : ℕ). x * c * w ≤ a * l * suc w) (sym p) (omega arith), subst (λ (x : ℕ). x * l * w ≤ g * c * suc w) (sym q) (omega arith))

grid-within : (f : Format) (h w a c : ℕ) → Fine f h w → 0 < c → Range f h a c → Within (suc w) w (grid f a c) (2 ^ low f) a c
grid-within f h w a c F C r = elim r.below [
  | inl z ↦ zero_left (grid f a c) a c (2 ^ low f) w (zero-grid f a c C z) z
  | inr n ↦ (grid-hi f h w a c F.twice C F.most n, grid-lo f h w a c F.twice C F.most n)
]

-- g units do not overflow
cancel : (g w c l j a : ℕ) → 0 < c → g * c * w ≤ a * l * suc w → 2 * a ≤ 3 * (c * j) → 2 * (g * w) ≤ 3 * (l * j * suc w)
cancel g w c l j a C x y = le_of_mul-le-mul_right (omega (arith, mul-le-mul_right (l * suc w) y)) C

strict : (g w h s : ℕ) → suc w ≡ 2 * h → 4 ≤ h → 0 < s → 2 * (g * w) ≤ 3 * (s * suc w) → g < s * 2
strict g w h s e H S x = lt_of_not-le (λ (y : s * 2 ≤ g). bad y)
  where
    bad : s * 2 ≤ g → ⊥
    bad y =
        let seven : 7 ≤ w = omega arith in
        omega (arith, mul-le-mul_right w y, mul-le-mul_left s seven)

no_overflow : (f : Format) (h w a c : ℕ) → Fine f h w → 0 < c → Range f h a c → grid f a c < overflow f
no_overflow f h w a c F C r =
    let g = grid f a c in
    let l = 2 ^ low f in
    let j = 2 ^ emax f in
    let x : 2 * (g * w) ≤ 3 * (l * j * suc w) = cancel g w c l j a C (grid-within f h w a c F C r).0 r.above in
    let z : l * j * 2 ≡ 2 ^ (low f + suc (emax f)) = mul_assoc l j 2 ∙ ap (λ (q : ℕ). l * q) (sym (pow-suc 2 (emax f))) ∙ sym (pow-add 2 (low f) (suc (emax f))) in
    lt_of_lt_of_le (strict g w h (l * j) F.twice F.least (mul-pos (pow_pos (low f)) (pow_pos (emax f))) x) (le_of_eq z)

pub round-within : (f : Format) (h w a c : ℕ) → Fine f h w → 0 < c → Range f h a c → T (plus (round f false a c)) × Within (suc w) w (num (round f false a c)) (den (round f false a c)) a c
round-within f h w a c F C r =
    let z = round f false a c in
    let v : HasValue z false (grid f a c) (2 ^ low f) = round_val f a c (no_overflow f h w a c F C r) in (
      value-plus z (grid f a c) (2 ^ low f) v,
      within-sym (suc w) w a c (num z) (den z)
          (within_same (suc w) w a c (grid f a c) (2 ^ low f) (num z) (den z) (pow_pos (low f)) (sym (value→cross z (grid f a c) (2 ^ low f) v)) (within-sym (suc w) w (grid f a c) (2 ^ low f) a c (grid-within f h w a c F C r))),
    )

-- ---- the operations
pub mul_is : (f : Format) (x y : Float) → T (plus x) → T (plus y) → mul f x y ≡ round f false (num x * num y) (den x * den y)
unfolding mul
mul_is f nan y p q = absurd p
mul_is f (inf s) y p q = absurd p
mul_is f (fin true m e) y p q = absurd p
mul_is f (fin false m e) nan p q = absurd q
mul_is f (fin false m e) (inf t) p q = absurd q
mul_is f (fin false m e) (fin true n d) p q = absurd q
mul_is f (fin false m e) (fin false n d) p q = refl

pub add_is : (f : Format) (x y : Float) → T (plus x) → T (plus y) → add f x y ≡ round f false (num x * den y + num y * den x) (den x * den y)
unfolding add sum
add_is f nan y p q = absurd p
add_is f (inf s) y p q = absurd p
add_is f (fin true m e) y p q = absurd p
add_is f (fin false m e) nan p q = absurd q
add_is f (fin false m e) (inf t) p q = absurd q
add_is f (fin false m e) (fin true n d) p q = absurd q
add_is f (fin false m e) (fin false n d) p q = refl

pub mul-near : (f : Format) (h w u v u' v' : ℕ) (x y : Float) (a c b d : ℕ) → Fine f h w → Near u v x a c → Near u' v' y b d
    → Range f h (num x * num y) (den x * den y) → Near (suc w * (u * u')) (w * (v * v')) (mul f x y) (a * b) (c * d)
mul-near f h w u v u' v' x y a c b d F X Y r =
    let D' : 0 < den x * den y = mul-pos (den_pos x) (den_pos y) in
    let z = round f false (num x * num y) (den x * den y) in
    let i = round-within f h w (num x * num y) (den x * den y) F D' r in
    subst (λ (q : Float). Near (suc w * (u * u')) (w * (v * v')) q (a * b) (c * d)) (sym (mul_is f x y X.sign Y.sign))
    (record {
      sign = i.0;
      within = within-trans (suc w) w (u * u') (v * v') (num z) (den z) (num x * num y) (den x * den y) (a * b) (c * d) D' i.1
          (within-mul u v u' v' (num x) (den x) a c (num y) (den y) b d X.within Y.within);
    })

pub add-near : (f : Format) (h w u v : ℕ) (x y : Float) (a c b d : ℕ) → Fine f h w → Near u v x a c → Near u v y b d
    → Range f h (num x * den y + num y * den x) (den x * den y) → Near (suc w * u) (w * v) (add f x y) (a * d + b * c) (c * d)
add-near f h w u v x y a c b d F X Y r =
    let D' : 0 < den x * den y = mul-pos (den_pos x) (den_pos y) in
    let e = num x * den y + num y * den x in
    let z = round f false e (den x * den y) in
    let i = round-within f h w e (den x * den y) F D' r in
    subst (λ (q : Float). Near (suc w * u) (w * v) q (a * d + b * c) (c * d)) (sym (add_is f x y X.sign Y.sign))
    (record {
      sign = i.0;
      within = within-trans (suc w) w u v (num z) (den z) e (den x * den y) (a * d + b * c) (c * d) D' i.1
          (within-add u v (num x) (den x) a c (num y) (den y) b d X.within Y.within);
    })

-- a difference of two floats that are not negative
pub open-sub : (f : Format) (x y : Float) → T (plus x) → T (plus y) → sub f x y ≡ sum f false (num x * den y) true (num y * den x) (den x * den y)
unfolding sub
open-sub f nan y p q = absurd p
open-sub f (inf s) y p q = absurd p
open-sub f (fin true m e) y p q = absurd p
open-sub f (fin false m e) nan p q = absurd q
open-sub f (fin false m e) (inf t) p q = absurd q
open-sub f (fin false m e) (fin true n d) p q = absurd q
open-sub f (fin false m e) (fin false n d) p q = refl
