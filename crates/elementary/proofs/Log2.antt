-- What `log2` returns, for every `f32`. Assumes nothing.
use Rattle.std.proofs.Common.{◌≡◌, ℕ, zero, suc, ◌+◌, ◌-◌, ◌*◌, ◌%◌, ◌^◌, ◌<◌, ◌≤◌, Bool, true, false, cond, not, ◌&&◌, T, eqb, ltb, leb, ◌⊎◌, pos, sym, refl, ap, ◌∙◌, subst, inl, inr, true≢false, le_trans, le_of_eq, lt_of_lt_of_le, mul-le-mul_right, mod-lt, mul_assoc, mul_comm, eq-zero-or-pos, mul-le-mul_left, mul-pos, le_of_mul-le-mul_right, arith, lit<, lit≤, le→leb, ltb→lt, leb→le, nltb→le, pow_pos}
use lib.Dec.{nleb→lt}
use lib.Arith.{lt→nleb}
use lib.Ieee.{Float, nan, inf, fin, binary32, binary64, round, to_bits, neg, up, down, fits, is_nan, lt, eq, ne}
use lib.Ieee.Exact.{HasValue}
use lib.Ieee.Fits.{and_l, and_r, up_pos}
use lib.Ieee.Bits.{is_true, is_false}
use lib.Ieee.Scale.{round_same}
use lib.Ieee.Positive.{num, den, den_pos, value→cross}
use Rattle.exact.specs.Value.{plus}
use Rattle.exact.specs.Narrow.{narrowed}
use Rattle.exact.proofs.Value.{value-plus}
use Rattle.exact.proofs.Narrowing.{narrowed-plus, when-nan}
use Rattle.exact.proofs.Integrals.{no}
use Rattle.elementary.specs.Fraction.{Frac}
use Rattle.elementary.specs.Power.{E}
use Rattle.elementary.specs.Logarithm.{unit, log2_parts, PartOf, Inverts, Log2, Ranged, fixed_at, fraction_of, nearest_sum, exponent_of, mantissa_of, positive_of}
use Rattle.elementary.proofs.Root.{series_at, Solves, fixed-value, fraction-solves}
use Rattle.elementary.proofs.Exponent.{digits_of, parts, mantissa, mantissa-value}
use Rattle.elementary.proofs.Ratio.{Le, Within, le-weaken, within-trans, within_same, within-sym}
use Rattle.elementary.proofs.Operations.{Fine, round-within}
use Rattle.elementary.proofs.Powers.{E_pos}
use Rattle.elementary.proofs.Near.{E-scale}
use Rattle.elementary.proofs.Mean.{E-mean}
use Rattle.elementary.proofs.Offset.{E-digits, E-above, E-below}

-- ---- what `nearest_sum` returns
pick-above : (n : ℕ) (x y : Float) → 1023 ≤ n → x ≡ cond (leb 1023 n) x y
pick-above n x y h = ap (λ (b : Bool). cond b x y) (sym (is_true (leb 1023 n) (le→leb 1023 n h)))

pick-below : (n : ℕ) (x y : Float) → n < 1023 → y ≡ cond (leb 1023 n) x y
pick-below n x y h = ap (λ (b : Bool). cond b x y) (sym (is_false (leb 1023 n) (lt→nleb 1023 n h)))

narrowed_at : (a : ℕ) → a ≤ 150 * unit → narrowed (fixed_at a) ≡ round binary32 false a unit
narrowed_at a h =
    let z = fixed_at a in
    let v = fixed-value a h in
    narrowed-plus z (value-plus z a unit v) ∙ round_same binary32 false (num z) (den z) a unit (den_pos z) (lit< tt) (value→cross z a unit v)

pub sum-above : (n k : ℕ) → 1023 ≤ n → n ≤ 1150 → k < unit → narrowed (fixed_at ((n - 1023) * unit + k)) ≡ nearest_sum n k
unfolding nearest_sum
sum-above n k h g i = narrowed_at ((n - 1023) * unit + k) (omega arith) ∙ pick-above n (round binary32 false ((n - 1023) * unit + k) unit) (neg (round binary32 false ((1023 - n) * unit - k) unit)) h

pub sum_below : (n k : ℕ) → n < 1023 → 874 ≤ n → neg (narrowed (fixed_at ((1023 - n) * unit - k))) ≡ nearest_sum n k
unfolding nearest_sum
sum_below n k h g = ap neg (narrowed_at ((1023 - n) * unit - k) (omega arith)) ∙ pick-below n (round binary32 false ((n - 1023) * unit + k) unit) (neg (round binary32 false ((1023 - n) * unit - k) unit)) h

-- ---- a number up to 149 rounded to an `f32`, and E of both: one part in 2 ^ 24 - 1 of 150 moves E by less than 105 parts of 2 ^ 24 - 1
fine : Fine binary32 8388608 16777215
fine = record { twice = refl; least = lit≤ tt; most = lit≤ tt }

rounded : (a : ℕ) → a ≤ 149 * unit → T (plus (round binary32 false a unit)) × Within 16777216 16777215 (num (round binary32 false a unit)) (den (round binary32 false a unit)) a unit
rounded a h = round-within binary32 8388608 16777215 a unit fine (lit< tt) (record { below = low_end (eq-zero-or-pos a); above = le_trans (mul-le-mul_left 2 h) (lit≤ tt) })
  where
    low_end : (a ≡ 0) ⊎ (0 < a) → (a ≡ 0) ⊎ (8388608 * unit ≤ a * 2 ^ 149)
    low_end (inl z) = inl z
    low_end (inr p) = inr (le_trans (lit≤ {m = 8388608 * unit} {n = 1 * 2 ^ 149} tt) (mul-le-mul_right (2 ^ 149) p))

-- w / D is 1 - ln 2 * e / c, and e / c at most 150 / (2 ^ 24 - 1)
left-most : (c e w l D : ℕ) → e * 16777215 ≤ 150 * c → 150 * l * c ≤ 104 * D → w + e * l ≡ D → D * 16777111 ≤ w * 16777215
left-most c e w l D h k g = omega (arith, mul-le-mul_right l h)

left-factor : (D w p q : ℕ) → 16777110 * p ≤ 16777111 * q → D * 16777111 ≤ w * 16777215 → D * p * 16777110 ≤ 16777215 * (w * q)
left-factor D w p q h k = omega (arith, mul-le-mul_left D h, mul-le-mul_right q k)

near-mean : (c e a b : ℕ) → 0 < c → e * 16777215 ≤ 150 * c → b ≤ a + e → Le 16777215 16777110 (E false b c).top (E false b c).bot (E false a c).top (E false a c).bot
near-mean c e a b C h k =
    let D = 1000000000000000000 * c in
    let w = D - e * 693147180559945309 in
    let s : e ≤ c = short c e h in
    let g : w + e * 693147180559945309 ≡ D = back D (e * 693147180559945309) (way-most c e s) in
    let i : D * 16777111 ≤ w * 16777215 = left-most c e w 693147180559945309 D h (way-all c) g in
    let P : 0 < w = left-pos D w i (mul-pos (lit< tt) C) in
    le-weaken (D * 1099511627776) (w * 1099511627775) 16777215 16777110 (E false b c).top (E false b c).bot (E false a c).top (E false a c).bot (mul-pos P (lit< tt)) (left-factor D w 1099511627776 1099511627775 (lit≤ tt) i) (E-mean c e w C s g a b k)
  where
    short : (c e : ℕ) → e * 16777215 ≤ 150 * c → e ≤ c
    short c e h = omega arith

    way-most : (c e : ℕ) → e ≤ c → e * 693147180559945309 ≤ 1000000000000000000 * c
    way-most c e h = omega arith

    way-all : (c : ℕ) → 150 * 693147180559945309 * c ≤ 104 * (1000000000000000000 * c)
    way-all c = omega arith

    back : (D p : ℕ) → p ≤ D → D - p + p ≡ D
    back D p h = omega arith

    left-pos : (D w : ℕ) → D * 16777111 ≤ w * 16777215 → 0 < D → 0 < w
    left-pos D w h k = omega arith

-- x / d and y / u, whose difference is at most e / (d * u)
close : (x d y u e : ℕ) → 0 < d → 0 < u → e * 16777215 ≤ 150 * (d * u) → x * u ≤ y * d + e → y * d ≤ x * u + e
    → Within 16777215 16777110 (E false x d).top (E false x d).bot (E false y u).top (E false y u).bot
close x d y u e D U h i j =
    let c = d * u in
    let C : 0 < c = mul-pos D U in
    let s = E-scale x d u D U in
    let t : Within 1 1 (E false (y * d) c).top (E false (y * d) c).bot (E false y u).top (E false y u).bot = subst (λ (z : ℕ). Within 1 1 (E false (y * d) z).top (E false (y * d) z).bot (E false y u).top (E false y u).bot) (mul_comm u d) (E-scale y u d U D) in
    let k : Within 16777215 16777110 (E false (x * u) c).top (E false (x * u) c).bot (E false (y * d) c).top (E false (y * d) c).bot = (near-mean c e (y * d) (x * u) C h i, near-mean c e (x * u) (y * d) C h j) in
    within-trans 1 1 16777215 16777110 (E false x d).top (E false x d).bot (E false (x * u) c).top (E false (x * u) c).bot (E false y u).top (E false y u).bot (E_pos false (x * u) c C) (within-sym 1 1 (E false (x * u) c).top (E false (x * u) c).bot (E false x d).top (E false x d).bot s)
    (within-trans 16777215 16777110 1 1 (E false (x * u) c).top (E false (x * u) c).bot (E false (y * d) c).top (E false (y * d) c).bot (E false y u).top (E false y u).bot (E_pos false (y * d) c C) k t)

gap : (p q c : ℕ) → p * 16777215 ≤ q * 16777216 → q * 16777215 ≤ p * 16777216 → p ≤ 150 * c → q ≤ 150 * c → (p - q + (q - p)) * 16777215 ≤ 150 * c
gap p q c h i j k = omega arith

quotient-most : (n d a : ℕ) → a ≤ 149 * unit → n * unit * 16777215 ≤ a * d * 16777216 → n ≤ 150 * d
quotient-most n d a h k = omega (arith, mul-le-mul_right d h)

module _ (n d a : ℕ) (D : 0 < d) (h : a ≤ 149 * unit) (w : Within 16777216 16777215 n d a unit) where
  most : n ≤ 150 * d
  most = quotient-most n d a h w.0

  spread : (n * unit - a * d + (a * d - n * unit)) * 16777215 ≤ 150 * (d * unit)
  spread = gap (n * unit) (a * d) (d * unit) w.0 w.1 (first n d most) (second a d h)
    where
      first : (n d : ℕ) → n ≤ 150 * d → n * unit ≤ 150 * (d * unit)
      first n d h = omega arith

      second : (a d : ℕ) → a ≤ 149 * unit → a * d ≤ 150 * (d * unit)
      second a d h = omega (arith, mul-le-mul_right d h)

  near-above : Within 16777215 16777110 ((E false n d).top * 2 ^ 150) (E false n d).bot (E false (150 * unit + a) unit).top (E false (150 * unit + a) unit).bot
  near-above =
      within-trans 1 1 16777215 16777110 ((E false n d).top * 2 ^ 150) (E false n d).bot (E false (150 * d + n) d).top (E false (150 * d + n) d).bot (E false (150 * unit + a) unit).top (E false (150 * unit + a) unit).bot (E_pos false (150 * d + n) d D) (E-above 150 n d D)
      (close (150 * d + n) d (150 * unit + a) unit (n * unit - a * d + (a * d - n * unit)) D (lit< tt) spread (up n d a) (down' n d a))
    where
      up : (n d a : ℕ) → (150 * d + n) * unit ≤ (150 * unit + a) * d + (n * unit - a * d + (a * d - n * unit))
      up n d a = omega arith

      down' : (n d a : ℕ) → (150 * unit + a) * d ≤ (150 * d + n) * unit + (n * unit - a * d + (a * d - n * unit))
      down' n d a = omega arith

  near-below : Within 16777215 16777110 ((E true n d).top * 2 ^ 150) (E true n d).bot (E false (150 * unit - a) unit).top (E false (150 * unit - a) unit).bot
  near-below =
      let x : 150 * d - n + n ≡ 150 * d = omega (arith, most) in
      let y : 150 * unit - a + a ≡ 150 * unit = omega arith in
      within-trans 1 1 16777215 16777110 ((E true n d).top * 2 ^ 150) (E true n d).bot (E false (150 * d - n) d).top (E false (150 * d - n) d).bot (E false (150 * unit - a) unit).top (E false (150 * unit - a) unit).bot (E_pos false (150 * d - n) d D) (E-below 150 n d D most)
      (close (150 * d - n) d (150 * unit - a) unit (n * unit - a * d + (a * d - n * unit)) D (lit< tt) spread (up (150 * d - n) (150 * unit - a) n d a x y) (down' (150 * d - n) (150 * unit - a) n d a x y))
    where
      up : (x y n d a : ℕ) → x + n ≡ 150 * d → y + a ≡ 150 * unit → x * unit ≤ y * d + (n * unit - a * d + (a * d - n * unit))
      up x y n d a e f = omega (arith, ap (λ (z : ℕ). z * d) f)

      down' : (x y n d a : ℕ) → x + n ≡ 150 * d → y + a ≡ 150 * unit → y * d ≤ x * unit + (n * unit - a * d + (a * d - n * unit))
      down' x y n d a e f = omega (arith, ap (λ (z : ℕ). z * d) f)

-- ---- from the digits' logarithm to the number's
with-power : (u v a b c d p : ℕ) → Within u v a b c d → Within u v (a * p) b (c * p) d
with-power u v a b c d p h = (omega (arith, mul-le-mul_right p h.0), omega (arith, mul-le-mul_right p h.1))

solved : (x m : Float) (M n k : ℕ) → HasValue m false M (2 ^ 52) → HasValue x false (M * 2 ^ n) (2 ^ 202) → Solves m k
    → Within 1048577 1048576 (E false (n * unit + k) unit).top (E false (n * unit + k) unit).bot (num x * 2 ^ 150) (den x)
solved x m M n k vm vx s =
    let S = series_at k in
    let p = 2 ^ n in
    let a = within_same 1048577 1048576 S.top S.bot (num m) (den m) M (2 ^ 52) (den_pos m) (value→cross m M (2 ^ 52) vm) s.near in
    let b = with-power 1048577 1048576 S.top S.bot M (2 ^ 52) p a in
    let e : M * p * den x ≡ num x * 2 ^ 150 * 2 ^ 52 = sym (mul_assoc (num x) (2 ^ 150) (2 ^ 52) ∙ value→cross x (M * p) (2 ^ 202) vx) in
    subst (λ (f : Frac). Within 1048577 1048576 f.top f.bot (num x * 2 ^ 150) (den x)) (sym (E-digits n k unit s.room))
    (within_same 1048577 1048576 (S.top * p) S.bot (M * p) (2 ^ 52) (num x * 2 ^ 150) (den x) (pow_pos 52) e b)

-- both factors come to less than one part in 131072
cancel : (t b a c p u v : ℕ) → 0 < p → t * p * c * v ≤ a * p * b * u → t * c * v ≤ a * b * u
cancel t b a c p u v P h = le_of_mul-le-mul_right {k = p} (omega arith) P

cancel' : (t b a c p u v : ℕ) → 0 < p → a * p * b * v ≤ t * p * c * u → a * b * v ≤ t * c * u
cancel' t b a c p u v P h = le_of_mul-le-mul_right {k = p} (omega arith) P

part_of : (q f : Frac) (a c : ℕ) → 0 < f.bot → Within 16777215 16777110 (q.top * 2 ^ 150) q.bot f.top f.bot → Within 1048577 1048576 f.top f.bot (a * 2 ^ 150) c → PartOf q a c
part_of q f a c F h k =
    let w = within-trans 16777215 16777110 1048577 1048576 (q.top * 2 ^ 150) q.bot f.top f.bot (a * 2 ^ 150) c F h k in
    record {
      most = cancel q.top q.bot a c (2 ^ 150) (log2_parts + 1) log2_parts (pow_pos 150) (le-weaken (16777215 * 1048577) (16777110 * 1048576) (log2_parts + 1) log2_parts (q.top * 2 ^ 150) q.bot (a * 2 ^ 150) c (lit< tt) (lit≤ tt) w.0);
      least = cancel' q.top q.bot a c (2 ^ 150) log2_parts (log2_parts - 1) (pow_pos 150) (le-weaken (16777215 * 1048577) (16777110 * 1048576) log2_parts (log2_parts - 1) (a * 2 ^ 150) c (q.top * 2 ^ 150) q.bot (lit< tt) (lit≤ tt) w.1);
    }

-- ---- by the sign of the logarithm
inverts-plus : (r : Float) (a c : ℕ) → T (plus r) → PartOf (E false (num r) (den r)) a c → Inverts a c r
inverts-plus nan a c p h = absurd p
inverts-plus (inf s) a c p h = absurd p
inverts-plus (fin true m e) a c p h = absurd p
inverts-plus (fin false m e) a c p h = h

inverts-minus : (r : Float) (a c : ℕ) → T (plus r) → PartOf (E true (num r) (den r)) a c → Inverts a c (neg r)
unfolding neg
inverts-minus nan a c p h = absurd p
inverts-minus (inf s) a c p h = absurd p
inverts-minus (fin true m e) a c p h = absurd p
inverts-minus (fin false m e) a c p h = h

module _ (x m : Float) (M n k : ℕ) (low_end : 874 ≤ n) (high_end : n ≤ 1150) (vm : HasValue m false M (2 ^ 52)) (vx : HasValue x false (M * 2 ^ (n - 873)) (2 ^ 202)) (s : Solves m k) where
  sum-inverts : (b : Bool) → (T b → 1023 ≤ n) → (T (not b) → n < 1023) → Inverts (num x) (den x) (cond b (round binary32 false ((n - 1023) * unit + k) unit) (neg (round binary32 false ((1023 - n) * unit - k) unit)))
  sum-inverts true h g =
      let l : 1023 ≤ n = h tt in
      let a = (n - 1023) * unit + k in
      let A : a ≤ 149 * unit = omega (arith, s.room) in
      let r = round binary32 false a unit in
      let w = rounded a A in
      let e : 150 * unit + a ≡ (n - 873) * unit + k = omega arith in
      let f = E false (150 * unit + a) unit in
      inverts-plus r (num x) (den x) w.0
      (part_of (E false (num r) (den r)) f (num x) (den x) (E_pos false (150 * unit + a) unit (lit< tt)) (near-above (num r) (den r) a (den_pos r) A w.1)
      (subst (λ (z : ℕ). Within 1048577 1048576 (E false z unit).top (E false z unit).bot (num x * 2 ^ 150) (den x)) (sym e) (solved x m M (n - 873) k vm vx s)))
  sum-inverts false h g =
      let l : n < 1023 = g tt in
      let a = (1023 - n) * unit - k in
      let A : a ≤ 149 * unit = omega arith in
      let r = round binary32 false a unit in
      let w = rounded a A in
      let e : 150 * unit - a ≡ (n - 873) * unit + k = omega (arith, s.room) in
      let f = E false (150 * unit - a) unit in
      inverts-minus r (num x) (den x) w.0
      (part_of (E true (num r) (den r)) f (num x) (den x) (E_pos false (150 * unit - a) unit (lit< tt)) (near-below (num r) (den r) a (den_pos r) A w.1)
      (subst (λ (z : ℕ). Within 1048577 1048576 (E false z unit).top (E false z unit).bot (num x * 2 ^ 150) (den x)) (sym e) (solved x m M (n - 873) k vm vx s)))

  inverts : Inverts (num x) (den x) (nearest_sum n k)
  unfolding nearest_sum
  inverts = sum-inverts (leb 1023 n) (leb→le 1023 n) (nleb→lt 1023 n)

pub positive-inverts : (x : Float) → T (fits binary64 x) → Ranged x → Inverts (num x) (den x) (positive_of x)
unfolding positive_of
positive-inverts x f r =
    let b = to_bits binary64 x in
    let p = parts x f r in
    let t : b % 4503599627370496 < 4503599627370496 = mod-lt b (lit< tt) in
    let m = mantissa_of b in
    inverts x m (digits_of b) (exponent_of b) (fraction_of m) p.low_end p.high_end (mantissa-value (b % 4503599627370496) t) p.value (fraction-solves m (mantissa (b % 4503599627370496) t))

-- ---- by the argument
pub at-nan : (x : Float) → ne x x ≡ true → Log2 x x
at-nan x h = when-nan (λ (y : Float). Log2 y y) x h refl

zero-below : (u d : ℕ) → 0 < 0 * u * 1 + 0 * d → ⊥
zero-below u d h = omega arith

zero-above : (u d : ℕ) → 0 * d < 0 * u * 1 → ⊥
zero-above u d h = omega arith

pub negative : (x : Float) → T (lt x (fin false 0 (pos 0))) → Log2 x nan
unfolding lt
negative nan h = absurd h
negative (inf s) h = refl
negative (fin true zero e) h = absurd (zero-below (up e) (down e) (ltb→lt 0 (0 * up e * 1 + 0 * down e) h))
negative (fin true (suc m) e) h = refl
negative (fin false m e) h = absurd (none (m * up e) (down e) (ltb→lt (m * up e * 1) (0 * down e) h))
  where
    none : (a d : ℕ) → a * 1 < 0 * d → ⊥
    none a d h = omega arith

pub infinite : (x : Float) → T (eq x (inf false)) → Log2 x nan
unfolding eq
infinite nan h = absurd h
infinite (inf s) h = refl
infinite (fin s m e) h = absurd h

pub ranged : (x : Float) → T (fits binary32 x) → eq x (inf false) ≡ false → T (lt (fin false 0 (pos 0)) x) → Ranged x
unfolding lt eq fits
ranged nan f i h = absurd h
ranged (inf false) f i h = absurd (true≢false i)
ranged (inf true) f i h = absurd h
ranged (fin true m e) f i h = absurd h
ranged (fin false zero e) f i h = absurd (zero-above (up e) (down e) (ltb→lt (0 * down e) (0 * up e * 1) h))
ranged (fin false (suc m) e) f i h =
    let A = eqb (suc m % 2) 1 in
    let B = ltb (suc m) (2 ^ 24) in
    let C = leb (down e) (2 ^ 149) in
    let D = ltb (suc m * up e) (2 ^ 128 * down e) in
    record {
      sign = tt;
      least = le_trans (leb→le (down e) (2 ^ 149) (and_r (A && B) C (and_l (A && B && C) D f))) (le_trans (lit≤ {m = 2 ^ 149} {n = 1 * 2 ^ 149} tt) (mul-le-mul_right (2 ^ 149) (mul-pos {m = suc m} (omega arith) (up_pos e))));
      most = lt_of_lt_of_le (ltb→lt (suc m * up e) (2 ^ 128 * down e) (and_r (A && B && C) D f)) (le_of_eq (mul_comm (2 ^ 128) (down e)));
    }

pub positive-done : (x r : Float) → T (lt (fin false 0 (pos 0)) x) → eq x (inf false) ≡ false → Inverts (num x) (den x) r → Log2 x r
unfolding lt eq
positive-done nan r h i p = absurd h
positive-done (inf false) r h i p = absurd (true≢false i)
positive-done (inf true) r h i p = absurd h
positive-done (fin true m e) r h i p = absurd h
positive-done (fin false zero e) r h i p = absurd (zero-above (up e) (down e) (ltb→lt (0 * down e) (0 * up e * 1) h))
positive-done (fin false (suc m) e) r h i p = p

pub zero-done : (x : Float) → T (not (is_nan x)) → lt x (fin false 0 (pos 0)) ≡ false → eq x (inf false) ≡ false → lt (fin false 0 (pos 0)) x ≡ false → Log2 x (inf true)
unfolding lt eq is_nan
zero-done nan n l i g = absurd n
zero-done (inf false) n l i g = absurd (true≢false i)
zero-done (inf true) n l i g = absurd (true≢false l)
zero-done (fin s zero e) n l i g = refl
zero-done (fin true (suc m) e) n l i g = absurd (some (suc m * up e) (down e) (mul-pos {m = suc m} (omega arith) (up_pos e)) (nltb→le 0 (suc m * up e * 1 + 0 * 1 * down e) (no l)))
  where
    some : (a d : ℕ) → 0 < a → a * 1 + 0 * 1 * d ≤ 0 → ⊥
    some a d h k = omega arith
zero-done (fin false (suc m) e) n l i g = absurd (some (suc m * up e) (down e) (mul-pos {m = suc m} (omega arith) (up_pos e)) (nltb→le (0 * 1 * down e) (suc m * up e * 1) (no g)))
  where
    some : (a d : ℕ) → 0 < a → a * 1 ≤ 0 * 1 * d → ⊥
    some a d h k = omega arith
