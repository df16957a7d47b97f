-- Twice a short number, cut, tells the whole number nearest to it. Assumes nothing.
use Rattle.std.proofs.Common.{◌≡◌, ℕ, suc, ◌+◌, ◌-◌, ◌*◌, ◌/◌, ◌^◌, ◌<◌, ◌≤◌, true, false, T, ℤ, pos, negsuc, sym, refl, ap, ◌∙◌, subst, le_trans, le_of_eq, lt_of_lt_of_le, lt_of_le_of_lt, mul-le-mul_right, mul_assoc, mul_comm, lt_of_mul-lt-mul_right, mul-lt-mul_of_pos_right, mul-pos, pow-suc, mul-one, mul_right_comm, arith, lit<, lit≤, pow_pos, pow_mono, pow-add}
use native.Mathlib.Nat.{div-div-eq-div-mul, add-mul-div_right, pow-succ'}
use lib.Ieee.{Float, nan, inf, fin, Format, binary32, binary64, prec, emax, low, up, down, round, sum, add, of_int, to_unsigned, fits}
use lib.Ieee.Fits.{down_pos}
use lib.Ieee.Exact.{HasValue, round_exact}
use lib.Ieee.Nearest.{div_same}
use lib.Ieee.Scale.{round_same}
use lib.Ieee.Positive.{num, den, den_pos, value→cross}
use Rattle.exact.specs.Value.{plus}
use Rattle.exact.specs.Integral.{Direction, floor, ties_to_away, integral}
use Rattle.exact.proofs.Value.{value-plus}
use Rattle.exact.proofs.Integrals.{many, held, lowest-exponent, Short, narrow-end, trunc-is}

abbrev word : ℕ
word = 18446744073709551616

abbrev twice : ℕ → ℕ
twice a = a + a

half-more : (n d : ℕ) → 0 < d → ((n + n) / d + 1) / 2 ≡ floor (2 * n + d) (2 * d)
half-more n d D =
    let a : (2 * n + d) / d ≡ (n + n) / d + 1 = ap (λ (z : ℕ). z / d) (the_sum n d) ∙ add-mul-div_right (n + n) 1 D in
    ap (λ (z : ℕ). z / 2) (sym a) ∙ div-div-eq-div-mul (2 * n + d) d 2 ∙ ap (λ (z : ℕ). (2 * n + d) / z) (mul_comm d 2)
  where
    the_sum : (n d : ℕ) → 2 * n + d ≡ n + n + 1 * d
    the_sum n d = omega arith

integral-plus : (f : Format) (how : Direction) (x : Float) → T (plus x) → integral f how x ≡ round f false (how false (num x) (den x)) 1
unfolding integral
integral-plus f how nan p = absurd p
integral-plus f how (inf s) p = absurd p
integral-plus f how (fin true m e) p = absurd p
integral-plus f how (fin false m e) p = refl

whole-done : (f : Format) (how : Direction) (x : Float) (n : ℕ) → T (plus x) → n ≡ how false (num x) (den x) → of_int f (pos n) ≡ integral f how x
unfolding of_int
whole-done f how x n p e = ap (λ (z : ℕ). round f false z 1) e ∙ sym (integral-plus f how x p)

two-times : (a p : ℕ) → a < p → twice a < p * 2
two-times a p h = omega arith

double-bound : (f : Format) (a d q j : ℕ) → 0 < d → a < 2 ^ (prec f - 1) * d → twice a * 2 ^ low f ≡ q * 2 ^ j * d → q * 2 ^ j < 2 ^ (low f + suc (emax f))
double-bound f a d q j D h e =
    let b : twice a < 2 ^ prec f * d = lt_of_lt_of_le (two-times a (2 ^ (prec f - 1) * d) h) (le_of_eq (mul_right_comm (2 ^ (prec f - 1)) d 2 ∙ ap (λ (z : ℕ). z * d) (many f))) in
    let c : twice a * 2 ^ low f < 2 ^ (prec f + low f) * d = lt_of_lt_of_le (mul-lt-mul_of_pos_right b (pow_pos (low f))) (le_of_eq (mul_right_comm (2 ^ prec f) d (2 ^ low f) ∙ ap (λ (z : ℕ). z * d) (sym (pow-add 2 (prec f) (low f))))) in
    lt_of_lt_of_le (lt_of_mul-lt-mul_right d (subst (λ (z : ℕ). z < 2 ^ (prec f + low f) * d) e c)) (pow_mono (reaches f))
  where
    reaches : (f : Format) → prec f + low f ≤ low f + suc (emax f)
    reaches binary32 = lit≤ tt
    reaches binary64 = lit≤ tt

double-up : (m k l : ℕ) → twice (m * 2 ^ k) * 2 ^ l ≡ m * 2 ^ (suc k + l) * 1
double-up m k l = ap (λ (z : ℕ). z * 2 ^ l) (pair (m * 2 ^ k) ∙ mul_assoc m (2 ^ k) 2 ∙ ap (λ (z : ℕ). m * z) (sym (pow-suc 2 k))) ∙ mul_assoc m (2 ^ suc k) (2 ^ l) ∙ ap (λ (z : ℕ). m * z) (sym (pow-add 2 (suc k) l)) ∙ sym (mul-one (m * 2 ^ (suc k + l)))
  where
    pair : (a : ℕ) → twice a ≡ a * 2
    pair a = omega arith

double-down : (m k l : ℕ) → suc k ≤ l → twice (m * 1) * 2 ^ l ≡ m * 2 ^ (l - k) * 2 ^ suc k
double-down m k l h =
    ap (λ (z : ℕ). z * 2 ^ l) (pair m) ∙ mul_assoc m 2 (2 ^ l) ∙ ap (λ (z : ℕ). m * z) (sym (pow-succ' 2 l) ∙ ap (λ (z : ℕ). 2 ^ z) (back l k h) ∙ pow-add 2 (l - k) (suc k)) ∙ sym (mul_assoc m (2 ^ (l - k)) (2 ^ suc k))
  where
    pair : (m : ℕ) → twice (m * 1) ≡ m * 2
    pair m = omega arith

    back : (l k : ℕ) → suc k ≤ l → suc l ≡ l - k + suc k
    back l k h = omega arith

double-at : (f : Format) (m : ℕ) (e : ℤ) → T (fits f (fin false m e)) → m * up e < 2 ^ (prec f - 1) * down e → HasValue (round f false (twice (m * up e)) (down e)) false (twice (m * up e)) (down e)
double-at f m (pos k) t h =
    let e = double-up m k (low f) in
    round_exact f false (twice (m * 2 ^ k)) 1 m (suc k + low f) (lit< tt) (held f false m (pos k) t).digits (double-bound f (m * 2 ^ k) 1 m (suc k + low f) (lit< tt) h e) e
double-at f m (negsuc k) t h =
    let H = held f false m (negsuc k) t in
    let e = double-down m k (low f) (lowest-exponent (low f) k H.lowest) in
    round_exact f false (twice (m * 1)) (2 ^ suc k) m (low f - k) (pow_pos (suc k)) H.digits (double-bound f (m * 1) (2 ^ suc k) m (low f - k) (pow_pos (suc k)) h e) e

double-sum : (f : Format) (m : ℕ) (e : ℤ) → add f (fin false m e) (fin false m e) ≡ round f false (twice (m * up e)) (down e)
unfolding add sum
double-sum f m e =
    let a = m * up e in
    let d = down e in
    round_same f false (a * d + a * d) (d * d) (twice a) d (mul-pos (down_pos e) (down_pos e)) (down_pos e) (same a d)
  where
    same : (a d : ℕ) → (a * d + a * d) * d ≡ (a + a) * (d * d)
    same a d = omega arith

double : (f : Format) (x : Float) → T (fits f x) → Short f x → HasValue (add f x x) false (twice (num x)) (den x)
double f nan t h = absurd h.sign
double f (inf s) t h = absurd h.sign
double f (fin true m e) t h = absurd h.sign
double f (fin false m e) t h = subst (λ (v : Float). HasValue v false (twice (m * up e)) (down e)) (sym (double-sum f m e)) (double-at f m e t h.most)

double-word : (f : Format) (x : Float) → T (fits f x) → Short f x → num (add f x x) < word * den (add f x x)
double-word f x t h =
    let v = add f x x in
    let c : num v * den x ≡ twice (num x) * den v = value→cross v (twice (num x)) (den x) (double f x t h) in
    let b : twice (num x) < word * den x = lt_of_lt_of_le (two-times (num x) (2 ^ (prec f - 1) * den x) h.most) (le_trans (le_of_eq (mul_right_comm (2 ^ (prec f - 1)) (den x) 2)) (mul-le-mul_right (den x) (narrow-end f))) in
    lt_of_mul-lt-mul_right (den x) (lt_of_le_of_lt (le_of_eq c) (lt_of_lt_of_le (mul-lt-mul_of_pos_right b (den_pos v)) (le_of_eq (mul_right_comm word (den x) (den v)))))

double-plus : (f : Format) (x : Float) → T (fits f x) → Short f x → T (plus (add f x x))
double-plus f x t h = value-plus (add f x x) (twice (num x)) (den x) (double f x t h)

double-trunc : (f : Format) (x : Float) → T (fits f x) → Short f x → to_unsigned 64 (add f x x) ≡ twice (num x) / den x
double-trunc f x t h =
    let v = add f x x in
    trunc-is v (double-plus f x t h) (double-word f x t h) ∙ div_same (num v) (den v) (twice (num x)) (den x) (den_pos v) (den_pos x) (value→cross v (twice (num x)) (den x) (double f x t h))

pub nearest-done : (f : Format) (x : Float) (n : ℕ) → T (fits f x) → Short f x → n ≡ to_unsigned 64 (add f x x) → of_int f (pos ((n + 1) / 2)) ≡ integral f ties_to_away x
nearest-done f x n t h e = whole-done f ties_to_away x ((n + 1) / 2) h.sign (ap (λ (z : ℕ). (z + 1) / 2) (e ∙ double-trunc f x t h) ∙ half-more (num x) (den x) (den_pos x))
