-- The whole part of a float x from 0 on. From U = 2 ^ (prec - 1) on a format has no digits behind the point, so that x + U is rounded to a whole
-- number next to x; U comes off exactly, and so does 1 where the number is above x. `cut_by` says it of singles up to 8193,
-- `position-cut` of positions. Assumes nothing.
use Rattle.std.proofs.Common.{◌≡◌, ℕ, zero, suc, ◌+◌, ◌-◌, ◌*◌, ◌/◌, ◌%◌, ◌^◌, ◌<◌, ◌≤◌, Bool, true, false, cond, not, ◌&&◌, T, eqb, ltb, leb, ℤ, pos, negsuc, nat_abs, sym, refl, ap, ◌∙◌, subst, true≢false, le_trans, lt_of_le_of_lt, div-lt_iff_lt-mul, lt_of_mul-lt-mul_right, mul-le-mul_left, mul-one, mul_right_comm, div-mul-le_self, le_of_mul-le-mul_right, add-one, arith, lit≤, le→leb, ltb→lt, nltb→le, pow_mono, w32, w64, Fits, to_z, of_z}
use lib.Signed.{non_neg}
use lib.Ieee.Back.{round_whole, positive_back}
use lib.Ieee.Exact.{HasValue}
use lib.Ieee.Fits.{down_pos, round-fits, and_l, and_r}
use lib.Ieee.Order.{round_mono}
use lib.Ieee.Positive.{num, den, positive, between, own_value, values_of_le, positive_of_value}
use lib.Ieee.{Float, nan, inf, fin, Format, binary32, binary64, prec, emax, low, up, down, round, add, sub, sum, lt, le, eq, of_int, of_bits, to_unsigned, to_signed, in_signed, in_float, fits}
use mir.Syntax.{Width}
use mir.Val.{hbits}
use mir.ValLaws.{to_z_pos, half_full}
use Rattle.exact.specs.Single.{◌⊕◌, ◌⊖◌, single, f0, f1, f8193}
use Rattle.exact.specs.Value.{plus}
use Rattle.interp.specs.Position.{Position, double}
use Rattle.interp.proofs.Difference.{differ}
use Rattle.interp.proofs.Floor.{minus-zero}
use Rattle.interp.proofs.Range.{at_most, plain, position-most, position-within}

-- ---- a format's whole numbers
abbrev U : Format → ℕ
U f = 2 ^ (prec f - 1)

U-twice : (f : Format) → 2 ^ prec f ≡ 2 * U f
U-twice binary32 = refl
U-twice binary64 = refl

U-small : (f : Format) → U f ≤ 2 ^ 63
U-small binary32 = lit≤ tt
U-small binary64 = lit≤ tt

whole-digits : (f : Format) (r : Float) → T (fits f r) → T (positive r) → U f * den r ≤ num r → HasValue r false (num r) 1
unfolding fits
whole-digits f nan h p l = absurd p
whole-digits f (inf s) h p l = absurd p
whole-digits f (fin true m e) h p l = absurd p
whole-digits f (fin false zero e) h p l = absurd p
whole-digits f (fin false (suc m) (pos k)) h p l = (refl, refl)
whole-digits f (fin false (suc m) (negsuc k)) h p l =
    let a : Bool = eqb (suc m % 2) 1 in
    let b : Bool = ltb (suc m) (2 ^ prec f) in
    let c : Bool = leb (2 ^ suc k) (2 ^ low f) in
    let g : Bool = ltb (suc m * 1) (2 ^ suc (emax f) * 2 ^ suc k) in
    let d : suc m < 2 ^ prec f = ltb→lt (suc m) (2 ^ prec f) (and_r a b (and_l (a && b) c (and_l (a && b && c) g h))) in
    let t : 2 ^ 1 ≤ 2 ^ suc k = pow_mono {i = 1} {j = suc k} (omega arith) in
    absurd (none (suc m) (2 ^ suc k) (U f) (subst (λ (z : ℕ). suc m < z) (U-twice f) d) t l)
  where
    none : (a b u : ℕ) → a < 2 * u → 2 ≤ b → u * b ≤ a * 1 → ⊥
    none a b u d t h = let k : u * 2 ≤ u * b = mul-le-mul_left u t in omega arith

-- ---- the order of m * 2 ^ e and a whole number
module _ (m : ℕ) (e : ℤ) (n : ℕ) where
  under : (y : Float) → HasValue y false n 1 → T (lt (fin false m e) y) → m * up e < n * down e
  unfolding lt
  under nan v t = absurd v
  under (inf s) v t = absurd v
  under (fin true q g) v t = absurd (true≢false v.0)
  under (fin false q g) v t =
      let h : m * up e * down g < q * up g * down e = ltb→lt _ _ t in
      let k : q * up g ≡ n * down g = sym (mul-one (q * up g)) ∙ v.1 in
      lt_of_mul-lt-mul_right (down g) (subst (λ (z : ℕ). m * up e * down g < z) (ap (λ (z : ℕ). z * down e) k ∙ mul_right_comm n (down g) (down e)) h)

  over : (y : Float) → HasValue y false n 1 → T (not (lt (fin false m e) y)) → n * down e ≤ m * up e
  unfolding lt
  over nan v t = absurd v
  over (inf s) v t = absurd v
  over (fin true q g) v t = absurd (true≢false v.0)
  over (fin false q g) v t =
      let h : q * up g * down e ≤ m * up e * down g = nltb→le _ _ t in
      let k : q * up g ≡ n * down g = sym (mul-one (q * up g)) ∙ v.1 in
      le_of_mul-le-mul_right (subst (λ (z : ℕ). z ≤ m * up e * down g) (ap (λ (z : ℕ). z * down e) k ∙ mul_right_comm n (down g) (down e)) h) (down_pos g)

-- ---- x = m * 2 ^ e, at most L, and its whole part w
module _ (f : Format) (L : ℕ) (fit : L < U f) (m : ℕ) (e : ℤ) (h : m * up e ≤ L * down e) where
  abbrev whole : ℕ → Float
  whole k = of_int f (pos k)

  whole-value : (k : ℕ) → k ≤ 2 * U f → HasValue (whole k) false k 1
  unfolding of_int
  whole-value k l = round_whole f false k (subst (λ (z : ℕ). k ≤ z) (sym (U-twice f)) l)

  abbrev x : Float
  x = fin false m e

  abbrev above : Float
  above = fin false 1 (pos (prec f - 1))

  abbrev one : Float
  one = fin false 1 (pos 0)

  abbrev none : Float
  none = fin false 0 (pos 0)

  abbrev w : ℕ
  w = m * up e / down e

  w_le : w * down e ≤ m * up e
  w_le = div-mul-le_self (m * up e) (down e)

  w-lt : m * up e < (w + 1) * down e
  w-lt = subst (λ (k : ℕ). m * up e < k * down e) (sym (add-one w)) ((div-lt_iff_lt-mul (down_pos e)).0 (omega arith))

  w-small : w ≤ L
  w-small = le_of_mul-le-mul_right (le_trans w_le h) (down_pos e)

  abbrev r : Float
  r = round f false (m * up e * 1 + 1 * U f * down e) (down e * 1)

  lo : T (le (whole (w + U f)) r)
  unfolding of_int
  lo = round_mono f (w + U f) 1 (m * up e * 1 + 1 * U f * down e) (down e * 1) (omega arith) (omega (arith, down_pos e)) (omega (arith, w_le))

  hi : T (le r (whole (w + U f + 1)))
  unfolding of_int
  hi = round_mono f (m * up e * 1 + 1 * U f * down e) (down e * 1) (w + U f + 1) 1 (omega (arith, down_pos e)) (omega arith) (omega (arith, w-lt))

  lo-value : HasValue (whole (w + U f)) false (w + U f) 1
  lo-value = whole-value (w + U f) (omega (arith, w-small))

  hi-value : HasValue (whole (w + U f + 1)) false (w + U f + 1) 1
  hi-value = whole-value (w + U f + 1) (omega (arith, w-small))

  lo-pos : T (positive (whole (w + U f)))
  lo-pos = positive_of_value (whole (w + U f)) (w + U f) 1 lo-value (omega (arith, fit))

  hi-pos : T (positive (whole (w + U f + 1)))
  hi-pos = positive_of_value (whole (w + U f + 1)) (w + U f + 1) 1 hi-value (omega arith)

  r-pos : T (positive r)
  r-pos = between (whole (w + U f)) r (whole (w + U f + 1)) lo-pos hi-pos lo hi

  r-lo : (w + U f) * den r ≤ num r * 1
  r-lo = values_of_le (whole (w + U f)) r (w + U f) 1 (num r) (den r) lo-pos r-pos lo-value (own_value r r-pos) lo

  r-whole : HasValue r false (num r) 1
  r-whole = whole-digits f r (round-fits f false (m * up e * 1 + 1 * U f * down e) (down e * 1)) r-pos (at_least w (U f) (den r) (num r) r-lo)
    where
      at_least : (k u d a : ℕ) → (k + u) * d ≤ a * 1 → u * d ≤ a
      at_least k u d a h = omega arith

  r-from : w + U f ≤ num r
  r-from = omega (arith, values_of_le (whole (w + U f)) r (w + U f) 1 (num r) 1 lo-pos r-pos lo-value r-whole lo)

  r-to : num r ≤ w + U f + 1
  r-to = omega (arith, values_of_le r (whole (w + U f + 1)) (num r) 1 (w + U f + 1) 1 r-pos hi-pos r-whole hi-value hi)

  -- the whole number next to x
  abbrev n : ℕ
  n = num r - U f * 1

  n-from : w ≤ n
  n-from = omega (arith, r-from)

  n-to : n ≤ w + 1
  n-to = omega (arith, r-to)

  n-value : HasValue (whole n) false n 1
  n-value = whole-value n (omega (arith, n-to, w-small))

  abbrev next : Float
  next = sub f (add f x above) above

  came-off : next ≡ whole n
  unfolding of_int add sum
  came-off = differ f r above (num r) 1 (U f) (omega arith) r-whole (refl, omega arith) (omega (arith, r-from))

  one-off : T (lt x (whole n)) → sub f (whole n) one ≡ whole w
  unfolding of_int
  one-off t =
      let a : m * up e < n * down e = under m e n (whole n) n-value t in
      let b : w < n = lt_of_mul-lt-mul_right (down e) (lt_of_le_of_lt w_le a) in
      let c : n - 1 * 1 ≡ w = omega (arith, n-to) in
      differ f (whole n) one n 1 1 (omega arith) n-value (refl, refl) (omega arith) ∙ ap (λ (k : ℕ). round f false k 1) c

  none-off : T (not (lt x (whole n))) → sub f (whole n) none ≡ whole w
  unfolding of_int
  none-off t =
      let a : n * down e ≤ m * up e = over m e n (whole n) n-value t in
      let b : n < w + 1 = lt_of_mul-lt-mul_right (down e) (lt_of_le_of_lt a w-lt) in
      let c : n - 0 * 1 ≡ w = omega (arith, n-from) in
      differ f (whole n) none n 1 0 (omega arith) n-value (refl, refl) (omega arith) ∙ ap (λ (k : ℕ). round f false k 1) c

  unsigned : w ≡ to_unsigned 64 x
  unfolding to_unsigned
  unsigned = omega (arith, w-small, U-small f)

  by-test : (b : Bool) → lt x (whole n) ≡ b → sub f (whole n) (cond b one none) ≡ whole w
  by-test true l = one-off (subst T (sym l) tt)
  by-test false l = none-off (subst (λ (b : Bool). T (not b)) (sym l) tt)

  cut : (d : Float) → d ≡ cond (lt x next) one none → sub f next d ≡ whole (to_unsigned 64 x)
  cut d q =
      let c = q ∙ ap (λ (y : Float). cond (lt x y) one none) came-off in
      ap (λ (y : Float). sub f y d) came-off ∙ ap (λ (y : Float). sub f (whole n) y) c ∙ by-test (lt x (whole n)) refl ∙ ap whole unsigned

-- ---- a single up to 8193
most : (m : ℕ) (e : ℤ) → T (le (fin false m e) f8193) → m * up e ≤ 8193 * down e
unfolding le lt eq of_bits
most m e t =
    let b : m * up e * 1 ≤ 8193 * 1 * down e = at_most (m * up e * 1) (8193 * 1 * down e) _ t in
    omega arith

-- 8388608.0
abbrev f8388608 : Float
f8388608 = of_bits binary32 0x4b00_0000

pub cut_by : (x d : Float) → T (plus x) → T (le x f8193) → d ≡ cond (lt x (x ⊕ f8388608 ⊖ f8388608)) f1 f0 → x ⊕ f8388608 ⊖ f8388608 ⊖ d ≡ single (to_unsigned 64 x)
unfolding of_bits
cut_by nan d p t q = absurd p
cut_by (inf s) d p t q = absurd p
cut_by (fin true m e) d p t q = absurd p
cut_by (fin false m e) d p t q = cut binary32 8193 (omega arith) m e (most m e t) d q

unsigned-most : (x : Float) → T (plus x) → T (le x f8193) → to_unsigned 64 x ≤ 8193
unsigned-most nan p t = absurd p
unsigned-most (inf s) p t = absurd p
unsigned-most (fin true m e) p t = absurd p
unsigned-most (fin false m e) p t = (plain m e 8193 (most m e t) (omega arith)).small

-- ---- a position
-- 4503599627370496.0
abbrev d4503599627370496 : Float
d4503599627370496 = of_bits binary64 0x4330_0000_0000_0000

abbrev next_to : Float → Float
next_to p = sub binary64 (add binary64 p d4503599627370496) d4503599627370496

abbrev Cut : Float → Type 0
Cut p = (d : Float) → d ≡ cond (lt p (next_to p)) (double 1) (double 0) → sub binary64 (next_to p) d ≡ double (to_unsigned 64 p)

zero-cut : Cut (round binary64 true 0 1)
unfolding lt add sub of_bits of_int to_unsigned
zero-cut d q = ap (λ (y : Float). sub binary64 (fin false 0 (pos 0)) y) q

pub position-cut : (p : Float) → T (fits binary64 p) → Position p → Cut p
unfolding le lt of_bits of_int
position-cut nan f h = absurd h.high
position-cut (inf true) f h = absurd h.low
position-cut (inf false) f h = absurd h.high
position-cut (fin true m e) f h = subst Cut (sym (minus-zero m e f h)) zero-cut
position-cut (fin false m e) f h = cut binary64 8589934592 (omega arith) m e (position-most m e h)

-- ---- the whole part w of x as a signed integer, whose number is z, and that as an unsigned one
abbrev z : Width → Float → ℤ
z W w = to_z W (of_z W (to_signed (hbits W) w))

pub record Cast (f : Format) (W : Width) (x w : Float) : Type 0 where
  pub signed : T (in_signed f (hbits W) w)
  pub fits : T (non_neg (z W w)) × Fits W (nat_abs (z W w))
  pub is : nat_abs (z W w) ≡ to_unsigned 64 x

casts : (f : Format) (W : Width) (x w : Float) → to_unsigned 64 x ≤ 2 ^ prec f → to_unsigned 64 x < 2 ^ hbits W → w ≡ of_int f (pos (to_unsigned 64 x)) → Cast f W x w
unfolding in_float
casts f W x w a s q =
    let n = to_unsigned 64 x in
    let b = positive_back f (hbits W) n (le→leb n (2 ^ prec f) a) s in
    let i : z W w ≡ pos n = ap (z W) q ∙ ap (λ (y : ℤ). to_z W (of_z W y)) b.1 ∙ to_z_pos W n s in
    record { signed = subst (λ (y : Float). T (in_signed f (hbits W) y)) (sym q) b.0; fits = rw i (tt, record { fits = half_full W s }); is = ap nat_abs i }

pub cast : (x w : Float) → T (plus x) × T (le x f8193) → w ≡ single (to_unsigned 64 x) → Cast binary32 w32 x w
cast x w p q = let m = unsigned-most x p.0 p.1 in casts binary32 w32 x w (omega arith) (omega arith) q

pub position-cast : (p w : Float) → Position p → w ≡ double (to_unsigned 64 p) → Cast binary64 w64 p w
position-cast p w h q = let m = (position-within p h).small in casts binary64 w64 p w (omega arith) (omega arith) q
