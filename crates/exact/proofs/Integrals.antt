-- Rounding a float to a whole number, over the format and the direction. Assumes nothing.
use Rattle.std.proofs.Common.{◌≡◌, ℕ, zero, suc, ◌+◌, ◌-◌, ◌*◌, ◌/◌, ◌%◌, ◌^◌, ◌<◌, ◌≤◌, min, Bool, true, false, not, ◌&&◌, T, eqb, ltb, leb, ℤ, pos, negsuc, sym, refl, ap, ◌∙◌, subst, ap₂, le_trans, le_of_eq, lt_of_lt_of_le, le_of_suc-le-suc, lt_of_le_of_lt, le_of_lt, mul-le-mul_right, mul_assoc, mul_comm, div-lt_iff_lt-mul, lt_of_mul-lt-mul_right, mul-lt-mul_of_pos_right, mul-pos, one-mul, pow-suc, lt_of_not-le, div-add-mod', zero-mul, mul-one, div-le_self, not-le_of_lt, le_of_mul-le-mul_right, div-one, arith, lit<, lit≤, le→leb, eqb→eq, ltb→lt, lt→ltb, leb→le, pow_pos, pow-add}
use lib.Arith.{le→nltb}
use lib.Pow.{pow-lt}
use lib.Ieee.{Float, nan, inf, fin, Format, binary32, binary64, prec, emax, low, up, down, round, neg, sum, add, sub, lt, of_int, to_unsigned, in_float, fits}
use lib.Ieee.Fits.{down_pos, and_l, and_r}
use lib.Ieee.Bits.{cond_no}
use lib.Ieee.Exact.{HasValue, round_exact}
use lib.Ieee.Back.{round_whole}
use lib.Ieee.Scale.{round_same}
use lib.Ieee.Positive.{num, den, den_pos}
use Rattle.exact.specs.Value.{plus}
use Rattle.exact.specs.Integral.{toward_zero, toward_negative, toward_positive, ties_to_away, integral, fraction}

-- a test's fact, from what it came to
pub no : {b : Bool} → b ≡ false → T (not b)
no e = subst (λ (x : Bool). T (not x)) (sym e) tt

pub yes : {b : Bool} → b ≡ true → T b
yes e = subst T (sym e) tt

-- ---- whole numbers next to a fraction
-- ---- what fitting says of the digits, of the lowest exponent and of the highest
two_up : (p : ℕ) → 0 < p → p * 2 ≡ 1 → ⊥
two_up p h e = omega arith

flat : (e : ℤ) → up e * down e ≡ 1 → down e ≡ 1
flat (pos k) h = refl
flat (negsuc k) h = absurd (two_up (2 ^ k) (pow_pos k) (sym (pow-suc 2 k) ∙ sym (one-mul (2 ^ suc k)) ∙ h))

pub record Held (f : Format) (m : ℕ) (e : ℤ) : Type 0 where
  pub digits : m < 2 ^ prec f
  pub lowest : down e ≤ 2 ^ low f
  pub highest : m * up e < 2 ^ suc (emax f) * down e

pub held : (f : Format) (s : Bool) (m : ℕ) (e : ℤ) → T (fits f (fin s m e)) → Held f m e
unfolding fits
held f s zero e t =
    let z : down e ≡ 1 = flat e (eqb→eq (up e * down e) 1 t) in
    record {
      digits = pow_pos (prec f);
      lowest = le_trans (le_of_eq z) (pow_pos (low f));
      highest = lt_of_le_of_lt (le_of_eq (zero-mul (up e))) (mul-pos (pow_pos (suc (emax f))) (down_pos e));
    }
held f s (suc m) e t =
    let a : Bool = eqb (suc m % 2) 1 in
    let b : Bool = ltb (suc m) (2 ^ prec f) in
    let c : Bool = leb (down e) (2 ^ low f) in
    let d : Bool = ltb (suc m * up e) (2 ^ suc (emax f) * down e) in
    record {
      digits = ltb→lt (suc m) (2 ^ prec f) (and_r a b (and_l (a && b) c (and_l (a && b && c) d t)));
      lowest = leb→le (down e) (2 ^ low f) (and_r (a && b) c (and_l (a && b && c) d t));
      highest = ltb→lt (suc m * up e) (2 ^ suc (emax f) * down e) (and_r (a && b && c) d t);
    }

pub lowest-exponent : (l k : ℕ) → 2 ^ suc k ≤ 2 ^ l → suc k ≤ l
lowest-exponent l k h = le_of_suc-le-suc (lt_of_not-le (λ (g : suc l ≤ suc k). not-le_of_lt (pow-lt g) h))

pub whole-value : (f : Format) (s : Bool) (m k : ℕ) → T (fits f (fin s m (pos k))) → HasValue (round f s (m * 2 ^ k) 1) s (m * 2 ^ k) 1
whole-value f s m k t =
    let h = held f s m (pos k) t in
    let e : m * 2 ^ k * 2 ^ low f ≡ m * 2 ^ (k + low f) = mul_assoc m (2 ^ k) (2 ^ low f) ∙ ap (λ (z : ℕ). m * z) (sym (pow-add 2 k (low f))) in
    let b : m * 2 ^ k * 2 ^ low f < 2 ^ (low f + suc (emax f)) =
    lt_of_lt_of_le (mul-lt-mul_of_pos_right h.highest (pow_pos (low f)))
    (le_of_eq (ap (λ (z : ℕ). z * 2 ^ low f) (mul-one (2 ^ suc (emax f))) ∙ mul_comm (2 ^ suc (emax f)) (2 ^ low f) ∙ sym (pow-add 2 (low f) (suc (emax f))))) in
    round_exact f s (m * 2 ^ k) 1 m (k + low f) (lit< tt) h.digits (subst (λ (z : ℕ). z < 2 ^ (low f + suc (emax f))) e b) (e ∙ sym (mul-one (m * 2 ^ (k + low f))))

-- ---- below 2 ^ (prec - 1) the digits after the point are cut
pub many : (f : Format) → 2 ^ (prec f - 1) * 2 ≡ 2 ^ prec f
many binary32 = refl
many binary64 = refl

pub record Short (f : Format) (x : Float) : Type 0 where
  pub sign : T (plus x)
  pub most : num x < 2 ^ (prec f - 1) * den x

abbrev word : ℕ
word = 18446744073709551616

room : (a d : ℕ) → 0 < d → 0 < 1 * 1 * d + a * 1
room a d h = omega arith

wide : (a d : ℕ) → a < word * d → a * 1 < 1 * word * d
wide a d h = omega arith

pub trunc-requires : (x : Float) → T (plus x) → num x < word * den x → T (lt (fin true 1 (pos 0)) x) × T (lt x (fin false 1 (pos 64)))
unfolding lt
trunc-requires nan p h = absurd p
trunc-requires (inf s) p h = absurd p
trunc-requires (fin true m e) p h = absurd p
trunc-requires (fin false m e) p h = (lt→ltb 0 (1 * 1 * down e + m * up e * 1) (room (m * up e) (down e) (down_pos e)), lt→ltb (m * up e * 1) (1 * word * down e) (wide (m * up e) (down e) h))

capped : (q : ℕ) → q < word → min q 18446744073709551615 ≡ q
capped q h = omega arith

pub trunc-is : (x : Float) → T (plus x) → num x < word * den x → to_unsigned 64 x ≡ num x / den x
unfolding to_unsigned
trunc-is nan p h = absurd p
trunc-is (inf s) p h = absurd p
trunc-is (fin true m e) p h = absurd p
trunc-is (fin false m e) p h = capped (m * up e / down e) ((div-lt_iff_lt-mul (down_pos e)).1 h)

pub narrow-end : (f : Format) → 2 ^ (prec f - 1) * 2 ≤ word
narrow-end binary32 = lit≤ tt
narrow-end binary64 = lit≤ tt

short-word : (f : Format) (x : Float) → Short f x → num x < word * den x
short-word f x h = lt_of_lt_of_le h.most (mul-le-mul_right (den x) (le_trans (twice (2 ^ (prec f - 1))) (narrow-end f)))
  where
    twice : (p : ℕ) → p ≤ p * 2
    twice p = omega arith

pub short-requires : (f : Format) (x : Float) → Short f x → T (lt (fin true 1 (pos 0)) x) × T (lt x (fin false 1 (pos 64)))
short-requires f x h = trunc-requires x h.sign (short-word f x h)

pub short-trunc : (f : Format) (x : Float) → Short f x → to_unsigned 64 x ≡ num x / den x
short-trunc f x h = trunc-is x h.sign (short-word f x h)

pub whole_float : (f : Format) (n : ℕ) → n ≤ 2 ^ prec f → T (in_float f (pos n))
unfolding in_float
whole_float f n h = le→leb n (2 ^ prec f) h

pub whole_of : (f : Format) (n : ℕ) → n ≤ 2 ^ prec f → HasValue (of_int f (pos n)) false n 1
unfolding of_int
whole_of f n h = round_whole f false n h

cut : (f : Format) (x : Float) (n : ℕ) → Short f x → n ≡ to_unsigned 64 x → n < 2 ^ (prec f - 1)
cut f x n h e = lt_of_le_of_lt (le_of_eq (e ∙ short-trunc f x h)) ((div-lt_iff_lt-mul (den_pos x)).1 h.most)

less : (n q : ℕ) → n + 1 ≤ q → n ≤ q
less n q h = omega arith

-- the test for a fraction
more-than : (a c k K D : ℕ) → K * 1 ≡ k * D → K * c < a * D → k * c < a
more-than a c k K D e h = lt_of_mul-lt-mul_right D (omega (arith, ap (λ (x : ℕ). x * c) e))

no_more : (a c k K D : ℕ) → 0 < D → K * 1 ≡ k * D → a * D ≤ K * c → a ≤ k * c
no_more a c k K D P e h = le_of_mul-le-mul_right {k = D} (omega (arith, ap (λ (x : ℕ). x * c) e)) P

-- the least whole number that is not below x, by the whole part n
-- ---- the fraction
sum-off : (f : Format) (s : Bool) (a b c : ℕ) → b ≤ a → sum f s a (not s) b c ≡ round f (s && ltb b a) (a - b) c
unfolding sum
sum-off f true a b c h = cond_no (ltb a b) (round f false (b - a) c) (round f (ltb b a) (a - b) c) (le→nltb a b h)
sum-off f false a b c h = cond_no (ltb a b) (round f true (b - a) c) (round f false (a - b) c) (le→nltb a b h)

same_test : (a b c d : ℕ) → (a < b → c < d) → (c < d → a < b) → ltb a b ≡ ltb c d
same_test a b c d h k = go (ltb a b) (ltb c d) (ltb→lt a b) (lt→ltb a b) (ltb→lt c d) (lt→ltb c d)
  where
    go : (p q : Bool) → (T p → a < b) → (a < b → T p) → (T q → c < d) → (c < d → T q) → p ≡ q
    go true true e e' g g' = refl
    go true false e e' g g' = absurd (g' (h (e tt)))
    go false true e e' g g' = absurd (e' (k (g tt)))
    go false false e e' g g' = refl

-- the whole part q of N / D, written as B / E, off N / D
fraction-off : (f : Format) (s : Bool) (N D B E : ℕ) → 0 < D → 0 < E → B * 1 ≡ N / D * E → sum f s (N * E) (not s) (B * D) (D * E) ≡ round f (s && ltb 0 (N % D)) (N % D) D
fraction-off f s N D B E P Q h =
    let q : N / D * D + N % D ≡ N = div-add-mod' N D in
    let b : B * D + N % D * E ≡ N * E = omega (arith, ap (λ (z : ℕ). z * E) q, ap (λ (z : ℕ). z * D) h) in
    let d : N * E - B * D ≡ N % D * E = off (B * D) (N % D * E) (N * E) b in
    let t : ltb (B * D) (N * E) ≡ ltb 0 (N % D) = same_test (B * D) (N * E) 0 (N % D) (λ (g : B * D < N * E). lt_of_mul-lt-mul_right E (above (B * D) (N % D * E) (N * E) b g)) (λ (g : 0 < N % D). over (B * D) (N % D * E) (N * E) b (mul-pos g Q)) in
    sum-off f s (N * E) (B * D) (D * E) (part (B * D) (N % D * E) (N * E) b)
    ∙ ap₂ (λ (z : Bool) (y : ℕ). round f (s && z) y (D * E)) t d
    ∙ round_same f (s && ltb 0 (N % D)) (N % D * E) (D * E) (N % D) D (mul-pos P Q) P (regroup (N % D) E D)
  where
    off : (a b c : ℕ) → a + b ≡ c → c - a ≡ b
    off a b c h = omega arith

    part : (a b c : ℕ) → a + b ≡ c → a ≤ c
    part a b c h = omega arith

    above : (a b c : ℕ) → a + b ≡ c → a < c → 0 * E < b
    above a b c h g = omega arith

    over : (a b c : ℕ) → a + b ≡ c → 0 < b → a < c
    over a b c h g = omega arith

    regroup : (r E D : ℕ) → r * E * D ≡ r * (D * E)
    regroup r E D = omega arith

-- x - v, where v is the whole part of x
fraction-of : (f : Format) (s : Bool) (m : ℕ) (e : ℤ) (v : Float) → HasValue v s (m * up e / down e) 1 → sub f (fin s m e) v ≡ fraction f (fin s m e)
unfolding sub add neg fraction
fraction-of f s m e nan h = absurd h
fraction-of f s m e (inf t) h = absurd h
fraction-of f s m e (fin t n g) h =
    ap (λ (z : Bool). sum f s (m * up e * down g) (not z) (n * up g * down e) (down e * down g)) h.0
    ∙ fraction-off f s (m * up e) (down e) (n * up g) (down g) (down_pos e) (down_pos g) h.1

cut-self : (f : Format) (s : Bool) (m : ℕ) (e : ℤ) → T (fits f (fin s m e)) → HasValue (integral f toward_zero (fin s m e)) s (m * up e / down e) 1
unfolding integral
cut-self f s m (pos k) t = subst (λ (n : ℕ). HasValue (round f s n 1) s n 1) (sym (div-one (m * 2 ^ k))) (whole-value f s m k t)
cut-self f s m (negsuc k) t =
    round_whole f s (m * 1 / 2 ^ suc k) (le_trans (div-le_self (m * 1) (2 ^ suc k)) (le_trans (le_of_eq (mul-one m)) (le_of_lt (held f s m (negsuc k) t).digits)))

pub fraction-done : (f : Format) (x : Float) → T (fits f x) → sub f x (integral f toward_zero x) ≡ fraction f x
unfolding sub add neg fraction
fraction-done f nan t = unfold integral in refl
fraction-done f (inf true) t = unfold integral in refl
fraction-done f (inf false) t = unfold integral in refl
fraction-done f (fin s m e) t = fraction-of f s m e (integral f toward_zero (fin s m e)) (cut-self f s m e t)

-- ---- examples: the tie, and the zeros
half-even : integral binary32 ties_to_away (fin false 5 (negsuc 0)) ≡ fin false 3 (pos 0)
unfolding integral
half-even = refl

small-negative : integral binary32 toward_positive (fin true 1 (negsuc 0)) ≡ fin true 0 (pos 0)
unfolding integral
small-negative = refl

negative-floor : integral binary64 toward_negative (fin true 1 (negsuc 0)) ≡ fin true 1 (pos 0)
unfolding integral
negative-floor = refl

zero-fraction : fraction binary64 (fin true 0 (pos 0)) ≡ fin false 0 (pos 0)
unfolding fraction
zero-fraction = refl

negative-fraction : fraction binary64 (fin true 11 (negsuc 1)) ≡ fin true 3 (negsuc 1)
unfolding fraction
negative-fraction = refl
