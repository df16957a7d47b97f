-- E moved by a whole number k: E at k + y is 2 ^ k times E at y, of either sign. Assumes nothing.
use Rattle.std.proofs.Common.{◌≡◌, ℕ, ◌+◌, ◌-◌, ◌*◌, ◌/◌, ◌%◌, ◌^◌, ◌<◌, ◌≤◌, true, false, sym, ap, ◌∙◌, subst, ap₂, le_of_eq, le_of_suc-le-suc, mul-le-mul_right, mod-lt, mul_comm, div-lt_iff_lt-mul, div-add-mod', div-mul-le_self, arith, pow-add}
use native.Mathlib.Nat.{mul-sub}
use lib.Arith.{digits_div, digits_mod}
use Rattle.elementary.proofs.Ratio.{Within}
use Rattle.elementary.specs.Fraction.{Frac, over}
use Rattle.elementary.specs.Power.{series, E, ceil}
use Rattle.elementary.proofs.Powers.{ceil-ge}

-- E by the whole part n and the rest r
pub E-digits : (n r c : ℕ) → r < c → E false (n * c + r) c ≡ record { top = (series (over r c)).top * 2 ^ n; bot = (series (over r c)).bot }
unfolding E
E-digits n r c h = ap₂ (λ (q m : ℕ). record { top = (series (over m c)).top * 2 ^ q; bot = (series (over m c)).bot }) (digits_div n h) (digits_mod n h)

-- two fractions that are equal
pub within-equal : (a b c d : ℕ) → a * d ≡ c * b → Within 1 1 a b c d
within-equal a b c d e = (le_of_eq (ap (λ (z : ℕ). z * 1) e), le_of_eq (ap (λ (z : ℕ). z * 1) (sym e)))

regroup : (t b p q : ℕ) → t * p * q * b ≡ t * (q * p) * b
regroup t b p q = omega arith

pub E-above : (k a c : ℕ) → 0 < c → Within 1 1 ((E false a c).top * 2 ^ k) (E false a c).bot (E false (k * c + a) c).top (E false (k * c + a) c).bot
unfolding E
E-above k a c C =
    let r = a % c in
    let S = series (over r c) in
    let s : (k + a / c) * c + r ≡ k * c + a = omega (arith, div-add-mod' a c) in
    subst (λ (f : Frac). Within 1 1 (S.top * 2 ^ (a / c) * 2 ^ k) S.bot f.top f.bot) (sym (E-digits (k + a / c) r c (mod-lt a C)) ∙ ap (λ (x : ℕ). E false x c) s)
    (within-equal (S.top * 2 ^ (a / c) * 2 ^ k) S.bot (S.top * 2 ^ (k + a / c)) S.bot (regroup S.top S.bot (2 ^ (a / c)) (2 ^ k) ∙ ap (λ (x : ℕ). S.top * x * S.bot) (sym (pow-add 2 k (a / c)))))

ceil-most : (k a c : ℕ) → 0 < c → a ≤ k * c → ceil a c ≤ k
ceil-most k a c C h = le_of_suc-le-suc ((div-lt_iff_lt-mul C).1 (omega arith))

rest_lt : (a c : ℕ) → 0 < c → ceil a c * c - a < c
rest_lt a c C = omega (arith, div-mul-le_self (a + (c - 1)) c)

split : (k n a c : ℕ) → n ≤ k → a ≤ n * c → (k - n) * c + (n * c - a) ≡ k * c - a
split k n a c h g =
    let e : (k - n) * c ≡ k * c - n * c = mul_comm (k - n) c ∙ mul-sub c k n ∙ ap₂ (λ (x y : ℕ). x - y) (mul_comm c k) (mul_comm c n) in
    ap (λ (x : ℕ). x + (n * c - a)) e ∙ back (k * c) (n * c) a (mul-le-mul_right c h) g
  where
    back : (x y a : ℕ) → y ≤ x → a ≤ y → x - y + (y - a) ≡ x - a
    back x y a h g = omega arith

pub E-below : (k a c : ℕ) → 0 < c → a ≤ k * c → Within 1 1 ((E true a c).top * 2 ^ k) (E true a c).bot (E false (k * c - a) c).top (E false (k * c - a) c).bot
unfolding E
E-below k a c C h =
    let n = ceil a c in
    let N : n ≤ k = ceil-most k a c C h in
    let r = n * c - a in
    let S = series (over r c) in
    let e : k - n + n ≡ k = omega arith in
    subst (λ (f : Frac). Within 1 1 (S.top * 2 ^ k) (S.bot * 2 ^ n) f.top f.bot) (sym (E-digits (k - n) r c (rest_lt a c C)) ∙ ap (λ (x : ℕ). E false x c) (split k n a c N (ceil-ge a c C)))
    (within-equal (S.top * 2 ^ k) (S.bot * 2 ^ n) (S.top * 2 ^ (k - n)) S.bot
    (ap (λ (x : ℕ). S.top * x * S.bot) (ap (λ (x : ℕ). 2 ^ x) (sym e) ∙ pow-add 2 (k - n) n) ∙ turn S.top S.bot (2 ^ (k - n)) (2 ^ n)))
  where
    turn : (t b p q : ℕ) → t * (p * q) * b ≡ t * p * (b * q)
    turn t b p q = omega arith
