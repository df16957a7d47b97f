-- E(y), 2 ^ y by its series, and what the program computes for it. Assumes nothing.
use Rattle.std.proofs.Common.{◌≡◌, ℕ, zero, suc, ◌+◌, ◌-◌, ◌*◌, ◌/◌, ◌%◌, ◌^◌, ◌<◌, ◌≤◌, Bool, true, false, cond, T, ltb, ◌⊎◌, pos, sym, refl, ap, ◌∙◌, subst, ap₂, inl, inr, le_trans, le_of_eq, le_refl, le_of_suc-le-suc, le_of_lt, mul-le-mul_right, mod-lt, mod-eq_of_lt, mul_assoc, mul_comm, eq-zero-or-pos, mul-le-mul, eq-or-lt_of_le, mul-le-mul_left, mul-pos, one-mul, pow-suc, div-add-mod', mul-one, mul_right_comm, div-mul-le_self, le_of_mul-le-mul_right, arith, lit<, lit≤, ltb→lt, pow_pos, pow_mono, pow-add}
use native.Mathlib.Nat.{mul-sub, div-eq_of_lt}
use lib.Ieee.{Float, Format, binary32, binary64, of_bits, of_int, to_unsigned, round, sub, mul, sum}
use lib.Ieee.Exact.{HasValue}
use lib.Ieee.Positive.{num, den, den_pos, value→cross}
use Rattle.elementary.specs.Fraction.{Frac, LeQ, one_q}
use Rattle.elementary.proofs.Ratio.{Within, Near, within_same}
use Rattle.exact.specs.Value.{plus}
use Rattle.elementary.proofs.Errors.{errors, upper, lower, rest, big, small}
use Rattle.elementary.proofs.Operations.{Fine, Range, round-within, mul-near, open-sub}
use Rattle.exact.proofs.Value.{value-plus}
use Rattle.elementary.specs.Kernel.{kernel, power_up, power_down, Small}
use Rattle.elementary.proofs.Horner.{Arg, half, fine, AtLeast, AtMost, range-of, prod-least, prod-most, within-atmost, within-atleast}
use Rattle.elementary.proofs.Scale.{field-value}
use Rattle.elementary.proofs.Whole.{small-trunc, trunc-most, ceil-le}
use Rattle.exact.proofs.Integrals.{whole_of}
use Rattle.elementary.specs.Power.{series, ceil, E}
use Rattle.elementary.proofs.Series.{kernel-near, kernel-val, series-pos, series-least, series-most, series-zero}

-- ---- a difference that is not negative
pick : (f : Format) (a b c : ℕ) → b ≤ a → sum f false a true b c ≡ round f false (a - b) c
unfolding sum
pick f a b c h = go (ltb a b) (ltb→lt a b)
  where
    go : (t : Bool) → (T t → a < b) → cond t (round f true (b - a) c) (round f false (a - b) c) ≡ round f false (a - b) c
    go true k = absurd (bad (k tt))
      where
        bad : a < b → ⊥
        bad l = omega arith
    go false k = refl

pub sub_is : (f : Format) (x y : Float) → T (plus x) → T (plus y) → num y * den x ≤ num x * den y → sub f x y ≡ round f false (num x * den y - num y * den x) (den x * den y)
sub_is f x y p q h = open-sub f x y p q ∙ pick f (num x * den y) (num y * den x) (den x * den y) h

-- ---- the argument r = x - y, as a fraction a / c
no_less : (n d a c : ℕ) → 0 < c → n * c ≡ a * d → a ≡ 0 → n ≡ 0
no_less zero d a c C e z = refl
no_less (suc n) d zero c C e z = absurd (bad e)
  where
    bad : suc n * c ≡ 0 * d → ⊥
    bad e = omega arith
no_less (suc n) d (suc a) c C e z = absurd (bad z)
  where
    bad : suc a ≡ 0 → ⊥
    bad e = omega arith

-- the difference in units of 1 / c is a whole number, so it is 0 or at least 1 / c
least-unit : (n d a c m : ℕ) → 0 < c → c ≤ m → n * c ≡ a * d → (n ≡ 0) ⊎ (d ≤ n * m)
least-unit n d a c m C M e = elim (eq-zero-or-pos a) [
  | inl z ↦ inl (no_less n d a c C e z)
  | inr p ↦ inr (omega (arith, mul-le-mul_right d p, mul-le-mul_left n M))
]

below_one : (n d a c : ℕ) → 0 < c → a ≤ c → n * c ≡ a * d → n ≤ d * 1
below_one n d a c C A e = le_of_mul-le-mul_right {k = c} (omega (arith, mul-le-mul_right d A)) C

vanish : (n d m l u : ℕ) → 0 < d → 0 < l → m ≡ 0 → n * d * l ≤ m * u → n ≡ 0
vanish zero d m l u D L e h = refl
vanish (suc n) d zero l u D L e h = absurd (bad (mul-pos D L))
  where
    bad : 0 < d * l → ⊥
    bad p = omega arith
vanish (suc n) d (suc m) l u D L e h = absurd (bad e)
  where
    bad : suc m ≡ 0 → ⊥
    bad e = omega arith

pub sub-arg : (x y : Float) (a c : ℕ) → T (plus x) → T (plus y) → num y * den x ≤ num x * den y → 0 < c → c ≤ 2 ^ 250 → a ≤ c
    → (num x * den y - num y * den x) * c ≡ a * (den x * den y) → Arg 1 (sub binary64 x y) (record { top = a; bot = c })
sub-arg x y a c p q h C S A e =
    let n = num x * den y - num y * den x in
    let d = den x * den y in
    let D : 0 < d = mul-pos (den_pos x) (den_pos y) in
    let low_end : (n ≡ 0) ⊎ (d ≤ n * 2 ^ 250) = least-unit n d a c (2 ^ 250) C S e in
    let R : Range binary64 half n d = range-of n d 250 0 low_end (below_one n d a c C A e) (lit≤ tt) (lit≤ tt) in
    let z = round binary64 false n d in
    let w = round-within binary64 half lower n d fine D R in
    subst (λ (v : Float). Arg 1 v (record { top = a; bot = c })) (sym (sub_is binary64 x y p q h))
    (record {
      close = record { sign = w.0; within = within_same (upper ^ 1) (lower ^ 1) (num z) (den z) n d a c D e w.1 };
      bot-pos = C;
      least = elim low_end [
        | inl i ↦ inl (vanish (num z) d n lower (den z * upper) D (lit< tt) i (le_trans w.1.0 (le_of_eq (mul_assoc n (den z) upper))))
        | inr i ↦ inr (le_trans (within-atleast lower (num z) (den z) n d (2 ^ 250) (lit< tt) D w.1 i) (mul-le-mul_left {m = 2 ^ 250 * 2} {n = 2 ^ 300} (num z) (lit≤ tt)))
      ];
      most = le_trans (within-atmost lower (num z) (den z) n d 1 (lit< tt) D w.1 (below_one n d a c C A e)) (mul-le-mul_left {m = 2} {n = 128} (den z) (lit≤ tt));
    })

-- ---- times a power of two
value-near : (p : Float) (a c : ℕ) → HasValue p false a c → Near 1 1 p a c
value-near p a c h = record { sign = value-plus p a c h; within = (le_of_eq (ap (λ (z : ℕ). z * 1) (value→cross p a c h)), le_of_eq (ap (λ (z : ℕ). z * 1) (sym (value→cross p a c h)))) }

value-most : (n d a c t : ℕ) → 0 < c → n * c ≡ a * d → a ≤ c * t → n ≤ d * t
value-most n d a c t C e h = le_of_mul-le-mul_right {k = c} (omega (arith, mul-le-mul_right d h)) C

value-least : (n d a c t : ℕ) → 0 < c → n * c ≡ a * d → c ≤ a * t → d ≤ n * t
value-least n d a c t C e h = le_of_mul-le-mul_right {k = c} (omega (arith, mul-le-mul_right d h, ap (λ (z : ℕ). z * t) e)) C

pub power-near : (r : Float) (X : Frac) (p : Float) (n : ℕ) → Arg 1 r X → X.top ≤ X.bot → HasValue p false (2 ^ n) (2 ^ 1023) → 880 ≤ n → n ≤ 1200
    → Near big small (mul binary64 (kernel r) p) ((series X).top * 2 ^ n) ((series X).bot * 2 ^ 1023)
power-near r X p n A x h l u =
    let k = kernel r in
    let c = value→cross p (2 ^ n) (2 ^ 1023) h in
    let P : AtMost 177 p = value-most (num p) (den p) (2 ^ n) (2 ^ 1023) (2 ^ 177) (pow_pos 1023) c (le_trans (pow_mono {i = n} {j = 1200} u) (lit≤ tt)) in
    let Q : AtLeast 143 p = value-least (num p) (den p) (2 ^ n) (2 ^ 1023) (2 ^ 143) (pow_pos 1023) c (le_trans (lit≤ {m = 2 ^ 1023} {n = 2 ^ 880 * 2 ^ 143} tt) (mul-le-mul_right (2 ^ 143) (pow_mono {i = 880} {j = n} l))) in
    let B = kernel-val 1 r X A in
    let R : Range binary64 half (num k * num p) (den k * den p) =
    range-of (num k * num p) (den k * den p) 254 298 (inr (prod-least (num k) (den k) (num p) (den p) (2 ^ 111) (2 ^ 143) B.least Q)) (prod-most (num k) (den k) (num p) (den p) (2 ^ 121) (2 ^ 177) B.most P) (lit≤ tt) (lit≤ tt) in
    mul-near binary64 half lower (upper ^ errors 1 12 * (rest.bot + rest.top)) (lower ^ errors 1 12 * rest.bot) 1 1 k p (series X).top (series X).bot (2 ^ n) (2 ^ 1023) fine (kernel-near 1 r X A x) (value-near p (2 ^ n) (2 ^ 1023) h) R

-- ---- rounded to an `f32`
pub near-least : (n d a c u v t : ℕ) → 0 < v → 0 < c → u ≤ v * 2 → Within u v n d a c → c ≤ a * t → d ≤ n * (t * 2)
near-least n d a c u v t W C uv w k =
    let x : a * d * v * t ≤ n * c * u * t = mul-le-mul_right t w.1 in
    let y : c * (d * v) ≤ a * t * (d * v) = mul-le-mul_right (d * v) k in
    let o : n * c * t * u ≤ n * c * t * (v * 2) = mul-le-mul_left (n * c * t) uv in
    let z : d * (c * v) ≤ n * (t * 2) * (c * v) = omega arith in
    le_of_mul-le-mul_right z (mul-pos C W)

pub near-most : (n d a c u v t : ℕ) → 0 < v → 0 < c → 2 * u ≤ 3 * v → Within u v n d a c → a ≤ c * t → 2 * n ≤ 3 * (d * t)
near-most n d a c u v t W C uv w k =
    let x : n * c * v ≤ a * d * u = w.0 in
    let y : a * (d * u) ≤ c * t * (d * u) = mul-le-mul_right (d * u) k in
    let o : c * t * d * (2 * u) ≤ c * t * d * (3 * v) = mul-le-mul_left (c * t * d) uv in
    let z : 2 * n * (c * v) ≤ 3 * (d * t) * (c * v) = omega arith in
    le_of_mul-le-mul_right z (mul-pos C W)

pub fine32 : Fine binary32 4194304 8388607
fine32 = record { twice = refl; least = lit≤ tt; most = lit≤ tt }

-- ---- where E lies
abbrev pub rest_up : ℕ → ℕ → Frac
rest_up a c = record { top = a % c; bot = c }

abbrev pub rest_down : ℕ → ℕ → Frac
rest_down a c = record { top = ceil a c * c - a; bot = c }

three : (b t p q : ℕ) → 1 * b ≤ t * 1 → 1 ≤ p → 1 ≤ q → b ≤ t * p * q
three b t p q h P Q = omega (arith, mul-le-mul (mul-le-mul h P) Q)

pub up_least : (a c : ℕ) → (E false a c).bot ≤ (E false a c).top * 2 ^ 126
unfolding E
up_least a c = let s = series (rest_up a c) in three s.bot s.top (2 ^ (a / c)) (2 ^ 126) (series-least (rest_up a c)) (pow_pos (a / c)) (pow_pos 126)

at_most : (t k c r : ℕ) → 0 < c → k * c + r ≤ t * c → k ≤ t
at_most t k c r C h = le_of_mul-le-mul_right {k = c} (omega arith) C

whole : (t k c r : ℕ) → k * c + r ≤ t * c → k ≡ t → r ≡ 0
whole t k c r h e = omega (arith, ap (λ (z : ℕ). z * c) e)

up-cases : (t b p q : ℕ) → t * 1 ≤ 2 * b → p ≤ q → t * p ≤ b * (q * 2)
up-cases t b p q h l = le_trans (mul-le-mul (le_trans (le_of_eq (sym (mul-one t))) h) l) (le_of_eq (turn b q))
  where
    turn : (b q : ℕ) → 2 * b * q ≡ b * (q * 2)
    turn b q = omega arith

split : (t k : ℕ) → k ≤ suc t → (k ≡ suc t) ⊎ (k ≤ t)
split t k h = elim (eq-or-lt_of_le h) [ inl e ↦ inl e | inr l ↦ inr (le_of_suc-le-suc l) ]

pub up-most-at : (t a c : ℕ) → 0 < c → a ≤ suc t * c → (E false a c).top ≤ (E false a c).bot * 2 ^ suc t
unfolding E
up-most-at t a c C h =
    let s = series (rest_up a c) in
    let g : a / c * c + a % c ≤ suc t * c = le_trans (le_of_eq (div-add-mod' a c)) h in
    elim (split t (a / c) (at_most (suc t) (a / c) c (a % c) C g)) [
      | inl e ↦ mul-le-mul (le_trans (le_of_eq (sym (mul-one s.top))) (le_trans (series-zero (rest_up a c) (whole (suc t) (a / c) c (a % c) g e)) (le_of_eq (one-mul s.bot)))) (pow_mono (le_of_eq e))
      | inr l ↦ le_trans (up-cases s.top s.bot (2 ^ (a / c)) (2 ^ t) (series-most (rest_up a c) (le_of_lt (mod-lt a C))) (pow_mono l)) (le_of_eq (ap (λ (z : ℕ). s.bot * z) (sym (pow-suc 2 t))))
    ]

pub up-most : (a c : ℕ) → 0 < c → a ≤ 127 * c → (E false a c).top ≤ (E false a c).bot * 2 ^ 127
up-most = up-most-at 126

pub down-rest : (a c : ℕ) → 0 < c → ceil a c * c - a ≤ c
down-rest a c C = omega (arith, div-mul-le_self (a + (c - 1)) c)

pub down-least : (a c : ℕ) → 0 < c → a ≤ 126 * c → (E true a c).bot ≤ (E true a c).top * 2 ^ 126
unfolding E
down-least a c C h =
    let s = series (rest_down a c) in
    mul-le-mul (le_trans (le_of_eq (sym (one-mul s.bot))) (le_trans (series-least (rest_down a c)) (le_of_eq (mul-one s.top)))) (pow_mono (ceil-le 126 a c C h))

pub down-most : (a c : ℕ) → 0 < c → (E true a c).top ≤ (E true a c).bot * 2 ^ 127
unfolding E
down-most a c C =
    let s = series (rest_down a c) in
    up s.top s.bot (2 ^ ceil a c) (2 ^ 126) (series-most (rest_down a c) (down-rest a c C)) (pow_pos (ceil a c)) (pow_pos 126)
  where
    up : (t b p q : ℕ) → t * 1 ≤ 2 * b → 1 ≤ p → 1 ≤ q → t ≤ b * p * (2 * q)
    up t b p q h P Q = omega (arith, h, mul-le-mul (mul-le-mul {n₁ = t} {n₂ = 2 * b} (le_trans (le_of_eq (sym (mul-one t))) h) P) Q)

-- ---- a number that is not negative
whole-cross : (k : Float) (n : ℕ) → HasValue k false n 1 → num k ≡ n * den k
whole-cross k n h = sym (mul-one (num k)) ∙ value→cross k n 1 h

order-up : (a c n K D : ℕ) → K ≡ n * D → n * c ≤ a → K * c ≤ a * D
order-up a c n K D e h = omega (arith, ap (λ (z : ℕ). z * c) e, mul-le-mul_right D h)

-- (a D - K c) c = (a - n c) (c D)
left_up : (a c n K D r : ℕ) → K ≡ n * D → n * c + r ≡ a → (a * D - K * c) * c ≡ r * (c * D)
left_up a c n K D r e h =
    let x : a * D - K * c ≡ r * D = omega (arith, ap (λ (z : ℕ). z * c) e, ap (λ (z : ℕ). z * D) h) in
    ap (λ (z : ℕ). z * c) x ∙ mul_assoc r D c ∙ ap (λ (z : ℕ). r * z) (mul_comm D c)

scale-up : (t b k : ℕ) → t * 2 ^ (k + 1023) * b ≡ t * 2 ^ k * (b * 2 ^ 1023)
scale-up t b k = ap (λ (z : ℕ). t * z * b) (pow-add 2 k 1023) ∙ regroup t b (2 ^ k) (2 ^ 1023)
  where
    regroup : (t b p q : ℕ) → t * (p * q) * b ≡ t * p * (b * q)
    regroup t b p q = omega arith

pub exp2-up : (y k : Float) → T (plus y) → den y ≤ 2 ^ 250 → num y ≤ 128 * den y → HasValue k false (num y / den y) 1
    → Near big small (mul binary64 (kernel (sub binary64 y k)) (of_bits binary64 ((num y / den y + 1023) * 4503599627370496))) (E false (num y) (den y)).top (E false (num y) (den y)).bot
unfolding E
exp2-up y k p f h v =
    let a = num y in
    let c = den y in
    let n = a / c in
    let X = rest_up a c in
    let w = whole-cross k n v in
    let g : n * c + a % c ≤ 128 * c = le_trans (le_of_eq (div-add-mod' a c)) h in
    let N : n ≤ 128 = at_most 128 n c (a % c) (den_pos y) g in
    let A = sub-arg y k (a % c) c p (value-plus k n 1 v) (order-up a c n (num k) (den k) w (div-mul-le_self a c)) (den_pos y) f (le_of_lt (mod-lt a (den_pos y))) (left_up a c n (num k) (den k) (a % c) w (div-add-mod' a c)) in
    let r = sub binary64 y k in
    let z = mul binary64 (kernel r) (of_bits binary64 ((n + 1023) * 4503599627370496)) in
    let q = power-near r X (of_bits binary64 ((n + 1023) * 4503599627370496)) (n + 1023) A (le_of_lt (mod-lt a (den_pos y))) (field-value (n + 1023) (omega arith) (omega arith)) (omega arith) (omega arith) in
    record {
      sign = q.sign;
      within = within_same big small (num z) (den z) ((series X).top * 2 ^ (n + 1023)) ((series X).bot * 2 ^ 1023) ((series X).top * 2 ^ n) (series X).bot (mul-pos (series-pos X (den_pos y)) (pow_pos 1023)) (scale-up (series X).top (series X).bot n) q.within;
    }

-- ---- a negative number
pub ceil-ge : (a c : ℕ) → 0 < c → a ≤ ceil a c * c
ceil-ge a c C = omega (arith, div-add-mod' (a + (c - 1)) c, mod-lt (a + (c - 1)) C)

order-down : (a c n K D : ℕ) → K ≡ n * D → a ≤ n * c → a * D ≤ K * c
order-down a c n K D e h = omega (arith, ap (λ (z : ℕ). z * c) e, mul-le-mul_right D h)

left_down : (a c n K D : ℕ) → K ≡ n * D → a ≤ n * c → (K * c - a * D) * c ≡ (n * c - a) * (D * c)
left_down a c n K D e h =
    let x : K * c - a * D ≡ (n * c - a) * D = ap (λ (z : ℕ). z * c - a * D) e ∙ minus n a c D h in
    ap (λ (z : ℕ). z * c) x ∙ mul_assoc (n * c - a) D c
  where
    minus : (n a c D : ℕ) → a ≤ n * c → n * D * c - a * D ≡ (n * c - a) * D
    minus n a c D h = ap (λ (z : ℕ). z - a * D) (mul_right_comm n D c) ∙ sym (mul_comm (n * c - a) D ∙ mul-sub D (n * c) a ∙ ap₂ (λ (x y : ℕ). x - y) (mul_comm D (n * c)) (mul_comm D a))

scale-down : (t b k : ℕ) → k ≤ 1023 → t * 2 ^ (1023 - k) * (b * 2 ^ k) ≡ t * (b * 2 ^ 1023)
scale-down t b k h = regroup t b (2 ^ (1023 - k)) (2 ^ k) ∙ ap (λ (z : ℕ). t * (b * z)) (sym (pow-add 2 (1023 - k) k) ∙ ap (λ (z : ℕ). 2 ^ z) (back k h))
  where
    regroup : (t b p q : ℕ) → t * p * (b * q) ≡ t * (b * (p * q))
    regroup t b p q = omega arith

    back : (k : ℕ) → k ≤ 1023 → 1023 - k + k ≡ 1023
    back k h = omega arith

pub exp2-down : (y k : Float) → T (plus y) → den y ≤ 2 ^ 250 → num y ≤ 128 * den y → HasValue k false (ceil (num y) (den y)) 1
    → Near big small (mul binary64 (kernel (sub binary64 k y)) (of_bits binary64 ((1023 - ceil (num y) (den y)) * 4503599627370496))) (E true (num y) (den y)).top (E true (num y) (den y)).bot
unfolding E
exp2-down y k p f h v =
    let a = num y in
    let c = den y in
    let n = ceil a c in
    let X = rest_down a c in
    let w = whole-cross k n v in
    let N : n ≤ 128 = ceil-le 128 a c (den_pos y) h in
    let A = sub-arg k y (n * c - a) c (value-plus k n 1 v) p (order-down a c n (num k) (den k) w (ceil-ge a c (den_pos y))) (den_pos y) f (down-rest a c (den_pos y)) (left_down a c n (num k) (den k) w (ceil-ge a c (den_pos y))) in
    let r = sub binary64 k y in
    let z = mul binary64 (kernel r) (of_bits binary64 ((1023 - n) * 4503599627370496)) in
    let q = power-near r X (of_bits binary64 ((1023 - n) * 4503599627370496)) (1023 - n) A (down-rest a c (den_pos y)) (field-value (1023 - n) (omega arith) (omega arith)) (omega arith) (omega arith) in
    record {
      sign = q.sign;
      within = within_same big small (num z) (den z) ((series X).top * 2 ^ (1023 - n)) ((series X).bot * 2 ^ 1023) (series X).top ((series X).bot * 2 ^ n) (mul-pos (series-pos X (den_pos y)) (pow_pos 1023)) (scale-down (series X).top (series X).bot n (omega arith)) q.within;
    }

-- ---- the program's two pieces
pub up-near : (y : Float) → Small 128 y → Near big small (power_up y) (E false (num y) (den y)).top (E false (num y) (den y)).bot
unfolding power_up
up-near y h =
    let n = to_unsigned 64 y in
    let q : n ≡ num y / den y = small-trunc y h in
    let N : n ≤ 2 ^ 53 = le_trans (trunc-most n y h refl) (lit≤ tt) in
    let k = of_int binary64 (pos n) in
    let v : HasValue k false (num y / den y) 1 = subst (λ (x : ℕ). HasValue k false x 1) q (whole_of binary64 n N) in
    subst (λ (x : ℕ). Near big small (mul binary64 (kernel (sub binary64 y k)) (of_bits binary64 ((x + 1023) * 4503599627370496))) (E false (num y) (den y)).top (E false (num y) (den y)).bot) (sym q)
    (exp2-up y k h.sign h.digits h.most v)

pub down-near : (y : Float) → Small 128 y → Near big small (power_down y) (E true (num y) (den y)).top (E true (num y) (den y)).bot
unfolding power_down
down-near y h =
    let n = ceil (num y) (den y) in
    let N : n ≤ 2 ^ 53 = le_trans (ceil-le 128 (num y) (den y) (den_pos y) h.most) (lit≤ tt) in
    exp2-down y (of_int binary64 (pos n)) h.sign h.digits h.most (whole_of binary64 n N)

pub E_pos : (s : Bool) (a c : ℕ) → 0 < c → 0 < (E s a c).bot
unfolding E
E_pos false a c C = series-pos (rest_up a c) C
E_pos true a c C = mul-pos (series-pos (rest_down a c) C) (pow_pos (ceil a c))

-- E at a negative number is at most 1
pub down-one : (a c : ℕ) → 0 < c → 0 < a → (E true a c).top ≤ (E true a c).bot
unfolding E
down-one a c C A =
    let s = series (rest_down a c) in
    le_trans (le_of_eq (sym (mul-one s.top))) (le_trans (series-most (rest_down a c) (down-rest a c C)) (le_trans (le_of_eq (mul_comm 2 s.bot)) (mul-le-mul_left s.bot (pow_mono {i = 1} {j = ceil a c} (some (ceil a c) a c A (ceil-ge a c C))))))
  where
    some : (n a c : ℕ) → 0 < a → a ≤ n * c → 1 ≤ n
    some zero a c h k = absurd (bad h k)
      where
        bad : 0 < a → a ≤ 0 * c → ⊥
        bad h k = omega arith
    some (suc n) a c h k = omega arith

-- ---- at zero it is 1
zero-up : (t b k : ℕ) → k ≡ 0 → t * 1 ≤ 1 * b → t * 2 ^ k * 1 ≤ 1 * b
zero-up t b k e h = subst (λ (x : ℕ). t * 2 ^ x * 1 ≤ 1 * b) (sym e) (omega arith)

zero-down : (t b k : ℕ) → t * 1 ≤ 1 * b → t * 1 ≤ 1 * (b * 2 ^ k)
zero-down t b k h = omega (arith, mul-le-mul_left b (pow_pos k))

zero-down' : (t b k : ℕ) → k ≡ 0 → 1 * b ≤ t * 1 → 1 * (b * 2 ^ k) ≤ t * 1
zero-down' t b k e h = subst (λ (x : ℕ). 1 * (b * 2 ^ x) ≤ t * 1) (sym e) (omega arith)

pub zero-E : (s : Bool) (c : ℕ) → 0 < c → LeQ one_q (E s 0 c) × LeQ (E s 0 c) one_q
unfolding E
zero-E false c C =
    let X = rest_up 0 c in
    let s = series X in (
      le_trans (le_of_eq (one-mul s.bot)) (le_trans (three s.bot s.top (2 ^ (0 / c)) 1 (series-least X) (pow_pos (0 / c)) (lit≤ tt)) (le_refl (s.top * 2 ^ (0 / c) * 1))),
      zero-up s.top s.bot (0 / c) (div-eq_of_lt C) (series-zero X (mod-eq_of_lt C)),
    )
zero-E true c C =
    let X = rest_down 0 c in
    let s = series X in
    let k : ceil 0 c ≡ 0 = div-eq_of_lt (omega arith) in
    let z : ceil 0 c * c - 0 ≡ 0 = ap (λ (x : ℕ). x * c - 0) k ∙ omega arith in
    (zero-down' s.top s.bot (ceil 0 c) k (series-least X), zero-down s.top s.bot (ceil 0 c) (series-zero X z))
