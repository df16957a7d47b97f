-- Half the difference of e ^ x and e ^ -x, as the program computes it, against the exact one. Assumes nothing.
use Rattle.std.proofs.Common.{◌≡◌, ℕ, ◌+◌, ◌-◌, ◌*◌, ◌^◌, ◌<◌, ◌≤◌, Bool, true, false, not, T, ℤ, negsuc, sym, refl, ap, subst, inr, true≢false, le_trans, le_of_eq, lt_of_lt_of_le, lt_of_le_of_lt, le_of_lt, mul-le-mul_right, mul_assoc, mul-le-mul, lt_of_mul-lt-mul_right, mul-le-mul_left, mul-lt-mul_of_pos_right, mul-pos, mul-one, not-le_of_lt, le_of_mul-le-mul_right, arith, lit<, lit≤, ltb→lt, nltb→le}
use lib.Ieee.{Float, nan, inf, fin, binary32, binary64, up, down, lt, fits, ne, is_nan, round, sub, mul, of_bits}
use lib.Ieee.Fits.{down_pos}
use lib.Ieee.Positive.{num, den, den_pos}
use Rattle.exact.specs.Value.{plus}
use Rattle.exact.specs.Narrow.{narrowed}
use Rattle.exact.proofs.Narrowing.{no_nan, when-nan}
use Rattle.exact.proofs.Integrals.{yes}
use Rattle.elementary.specs.Fraction.{Frac}
use Rattle.elementary.specs.Power.{E}
use Rattle.elementary.specs.Kernel.{power_up, power_down, Small}
use Rattle.elementary.specs.Promise.{Answers}
use Rattle.elementary.specs.Hyperbolic.{Sinh, hyperbolic}
use Rattle.elementary.proofs.Errors.{upper, lower}
use Rattle.elementary.proofs.Ratio.{Within, Near, within-trans, within-weaken}
use Rattle.elementary.proofs.Operations.{Range, round-within, mul-near}
use Rattle.elementary.proofs.Horner.{half, fine, range-of, within-atleast, within-atmost}
use Rattle.elementary.proofs.Powers.{sub_is, E_pos, up-most-at, down-one}
use Rattle.elementary.proofs.Line.{E-line}
use Rattle.elementary.proofs.ExpFn.{Factor, factor-of, Cap, Argument, Tight, End, beyond, inside, product_small, up-wide, down-wide, wide-top, wide-bot, narrowed-part, in-range, over-range, few-digits}

-- ---- a difference: p and n within one part in 10 ^ 11 of P and N, N at most 4097 / 4098 of P; then p - n is within 8203 parts in 10 ^ 11 of P - N
abbrev Close11 : ℕ → ℕ → Type 0
Close11 x y = x * 100000000000 ≤ y * 100000000001

rough : (x y : ℕ) → Close11 x y → x * 1000000 ≤ y * 1000001
rough x y h = omega arith

order : (p n P N : ℕ) → Close11 P p → Close11 n N → N * 4098 ≤ P * 4097 → n ≤ p
order p n P N h k g = go (rough P p h) (rough n N k)
  where
    go : P * 1000000 ≤ p * 1000001 → n * 1000000 ≤ N * 1000001 → n ≤ p
    go h k = omega (arith, g)

-- one difference against another, with what the two errors come to
off : (p n P N s S : ℕ) → p * 100000000000 ≤ P * 100000000001 → N * 100000000000 ≤ n * 100000000001 → s + n ≡ p → S + N ≡ P → s * 100000000000 ≤ S * 100000000000 + (P + n)
off p n P N s S h k e f = omega arith

share : (P N S : ℕ) → S + N ≡ P → N * 4098 ≤ P * 4097 → P ≤ 4098 * S
share P N S f g = omega arith

-- with what the two come to at most
sum-most : (P N n S : ℕ) → n * 1000000 ≤ N * 1000001 → N ≤ P → P ≤ 4098 * S → P + n ≤ 8203 * S
sum-most P N n S h l b = omega arith

joined : (x y e : ℕ) → x * 100000000000 ≤ y * 100000000000 + e → e ≤ 8203 * y → x * 100000000000 ≤ y * 100000008203
joined x y e a b = omega arith

part-of-sum : (S N P : ℕ) → S + N ≡ P → N ≤ P
part-of-sum S N P f = omega arith

most-off : (p n P N s S : ℕ) → Close11 p P → Close11 n N → Close11 N n → s + n ≡ p → S + N ≡ P → N * 4098 ≤ P * 4097 → s * 100000000000 ≤ S * 100000008203
most-off p n P N s S h l k e f g = joined s S (P + n) (off p n P N s S h k e f) (sum-most P N n S (rough n N l) (part-of-sum S N P f) (share P N S f g))

third : (p P N : ℕ) → p * 1000000 ≤ P * 1000001 → N ≤ P → p + N ≤ 3 * P
third p P N a f = omega arith

under : (P S s x : ℕ) → P ≤ 4098 * S → S * 100000000000 ≤ s * 100000000000 + x → x ≤ 3 * P → P * 100000000000 ≤ 4098 * (s * 100000000000 + 3 * P)
under P S s x a b c = omega arith

back : (P s : ℕ) → P * 100000000000 ≤ 4098 * (s * 100000000000 + 3 * P) → P ≤ 4099 * s
back P s b = omega arith

both : (p N P s : ℕ) → p * 1000000 ≤ P * 1000001 → N ≤ P → N * 4098 ≤ P * 4097 → P ≤ 4099 * s → p + N ≤ 8203 * s
both p N P s a c g b = omega arith

least-off : (p n P N s S : ℕ) → Close11 P p → Close11 p P → Close11 n N → s + n ≡ p → S + N ≡ P → N * 4098 ≤ P * 4097 → S * 100000000000 ≤ s * 100000008203
least-off p n P N s S h l k e f g =
    let o = off P N p n S s h k f e in
    let r = rough p P l in
    let q = part-of-sum S N P f in
    joined S s (p + N) o (both p N P s r q g (back P s (under P S s (p + N) (share P N S f g) o (third p P N r q))))

-- ---- the same of fractions
cancel-order : (x y b : ℕ) → 0 < b → x * b ≤ y * b → x ≤ y
cancel-order x y b B h = le_of_mul-le-mul_right h B

add_back : (x y : ℕ) → y ≤ x → x - y + y ≡ x
add_back x y h = omega arith

spread : (s x y b : ℕ) → s + x ≡ y → s * b + x * b ≡ y * b
spread s x y b e = omega (arith, ap (λ (z : ℕ). z * b) e)

module _ (pn pd nn nd A B C D : ℕ) (B-pos : 0 < B) (D-pos : 0 < D)
    (hp : Within 100000000001 100000000000 pn pd A B) (hn : Within 100000000001 100000000000 nn nd C D) (g : C * B * 4098 ≤ A * D * 4097) where
  -- over one denominator
  p-most : Close11 (pn * nd * (B * D)) (A * D * (pd * nd))
  p-most = omega (arith, mul-le-mul_right (nd * D) hp.0)

  p-least : Close11 (A * D * (pd * nd)) (pn * nd * (B * D))
  p-least = omega (arith, mul-le-mul_right (nd * D) hp.1)

  n-most : Close11 (nn * pd * (B * D)) (C * B * (pd * nd))
  n-most = omega (arith, mul-le-mul_right (pd * B) hn.0)

  n-least : Close11 (C * B * (pd * nd)) (nn * pd * (B * D))
  n-least = omega (arith, mul-le-mul_right (pd * B) hn.1)

  apart : C * B * (pd * nd) * 4098 ≤ A * D * (pd * nd) * 4097
  apart = omega (arith, mul-le-mul_right (pd * nd) g)

  floats_order : nn * pd ≤ pn * nd
  floats_order = cancel-order (nn * pd) (pn * nd) (B * D) (mul-pos B-pos D-pos) (order (pn * nd * (B * D)) (nn * pd * (B * D)) (A * D * (pd * nd)) (C * B * (pd * nd)) p-least n-most apart)

  figures-order : C * B ≤ A * D
  figures-order = less (C * B) (A * D) g
    where
      less : (x y : ℕ) → x * 4098 ≤ y * 4097 → x ≤ y
      less x y h = omega arith

  figures-share : A * D ≤ 4098 * (A * D - C * B)
  figures-share = share (A * D) (C * B) (A * D - C * B) (add_back (A * D) (C * B) figures-order) g

  pub difference : Within 100000008203 100000000000 (pn * nd - nn * pd) (pd * nd) (A * D - C * B) (B * D)
  difference =
      let s = pn * nd - nn * pd in
      let S = A * D - C * B in
      let e : s * (B * D) + nn * pd * (B * D) ≡ pn * nd * (B * D) = spread s (nn * pd) (pn * nd) (B * D) (add_back (pn * nd) (nn * pd) floats_order) in
      let f : S * (pd * nd) + C * B * (pd * nd) ≡ A * D * (pd * nd) = spread S (C * B) (A * D) (pd * nd) (add_back (A * D) (C * B) figures-order) in (
        most-off (pn * nd * (B * D)) (nn * pd * (B * D)) (A * D * (pd * nd)) (C * B * (pd * nd)) (s * (B * D)) (S * (pd * nd)) p-most n-most n-least e f apart,
        least-off (pn * nd * (B * D)) (nn * pd * (B * D)) (A * D * (pd * nd)) (C * B * (pd * nd)) (s * (B * D)) (S * (pd * nd)) p-least p-most n-most e f apart,
      )

-- ---- and of floats: the difference rounded, then halved
least-range : (s d S b : ℕ) → 0 < b → b ≤ 4098 * S → S * d * 100000000000 ≤ s * b * 100000008203 → d ≤ s * 2 ^ 13
least-range s d S b B h k = le_of_mul-le-mul_right {k = b} (omega (arith, mul-le-mul_right d h)) B

most-range : (s d S b K : ℕ) → 0 < b → S ≤ b * K → s * b * 100000000000 ≤ S * d * 100000008203 → s ≤ d * (K * 2)
most-range s d S b K B h k = le_of_mul-le-mul_right {k = b} (omega (arith, mul-le-mul_right d h)) B

abbrev u : ℕ
u = upper * (upper * 100000008203 * 1)

abbrev v : ℕ
v = lower * (lower * 100000000000 * 1)

-- 0.5
abbrev one-half : Float
one-half = fin false 1 (negsuc 0)

half-near : Near 1 1 one-half 1 2
half-near = record { sign = tt; within = (lit≤ tt, lit≤ tt) }

module _ (p n : Float) (P N : Frac) (P_pos : 0 < P.bot) (N-pos : 0 < N.bot) (hp : Near 100000000001 100000000000 p P.top P.bot) (hn : Near 100000000001 100000000000 n N.top N.bot)
    (g : N.top * P.bot * 4098 ≤ P.top * N.bot * 4097) (least : P.bot ≤ P.top) (most : P.top ≤ P.bot * 2 ^ 128) where
  abbrev s : ℕ
  s = num p * den n - num n * den p

  abbrev d : ℕ
  d = den p * den n

  abbrev S : ℕ
  S = P.top * N.bot - N.top * P.bot

  abbrev b : ℕ
  b = P.bot * N.bot

  d-pos : 0 < d
  d-pos = mul-pos (den_pos p) (den_pos n)

  b-pos : 0 < b
  b-pos = mul-pos P_pos N-pos

  exact : Within 100000008203 100000000000 s d S b
  exact = difference (num p) (den p) (num n) (den n) P.top P.bot N.top N.bot P_pos N-pos hp.within hn.within g

  pub S-least : b ≤ 4098 * S
  S-least = le_trans (mul-le-mul_right N.bot least) (figures-share (num p) (den p) (num n) (den n) P.top P.bot N.top N.bot P_pos N-pos hp.within hn.within g)

  pub S-most : S ≤ b * 2 ^ 128
  S-most = le_trans (less (P.top * N.bot) (N.top * P.bot)) (le_trans (mul-le-mul_right N.bot most) (le_of_eq (turn P.bot N.bot (2 ^ 128))))
    where
      less : (x y : ℕ) → x - y ≤ x
      less x y = omega arith

      turn : (x y p : ℕ) → x * p * y ≡ x * y * p
      turn x y p = omega arith

  range : Range binary64 half s d
  range = range-of s d 13 129 (inr (least-range s d S b b-pos S-least exact.1)) (most-range s d S b (2 ^ 128) b-pos S-most exact.0) (lit≤ tt) (lit≤ tt)

  abbrev r : Float
  r = round binary64 false s d

  rounded : T (plus r) × Within upper lower (num r) (den r) s d
  rounded = round-within binary64 half lower s d fine d-pos range

  near : Near (upper * 100000008203) (lower * 100000000000) r S b
  near = record { sign = rounded.0; within = within-trans upper lower 100000008203 100000000000 (num r) (den r) s d S b d-pos rounded.1 exact }

  halved-range : Range binary64 half (num r * num one-half) (den r * den one-half)
  halved-range = range-of (num r * 1) (den r * 2) 15 130 (inr (down_by (num r) (den r) (within-atleast lower (num r) (den r) s d (2 ^ 13) (lit< tt) d-pos rounded.1 (least-range s d S b b-pos S-least exact.1))))
      (up_by (num r) (den r) (2 ^ 130) (within-atmost lower (num r) (den r) s d (2 ^ 129) (lit< tt) d-pos rounded.1 (most-range s d S b (2 ^ 128) b-pos S-most exact.0))) (lit≤ tt) (lit≤ tt)
    where
      down_by : (x y : ℕ) → y ≤ x * 16384 → y * 2 ≤ x * 1 * 32768
      down_by x y h = omega arith

      up_by : (x y p : ℕ) → x ≤ y * p → x * 1 ≤ y * 2 * p
      up_by x y p h = omega arith

  pub half-difference : Near u v (mul binary64 (sub binary64 p n) one-half) S (b * 2)
  half-difference =
      let e : sub binary64 p n ≡ r = sub_is binary64 p n hp.sign hn.sign (floats_order (num p) (den p) (num n) (den n) P.top P.bot N.top N.bot P_pos N-pos hp.within hn.within g) in
      subst (λ (z : Float). Near u v (mul binary64 z one-half) S (b * 2)) (sym e)
      (subst (λ (z : ℕ). Near u v (mul binary64 r one-half) z (b * 2)) (mul-one S)
      (mul-near binary64 half lower (upper * 100000008203) (lower * 100000000000) 1 1 r one-half S b 1 2 fine near half-near halved-range))

tight : Tight u v
tight = record { v-pos = lit< tt; twice = lit≤ tt; half-more = lit≤ tt; part = lit≤ tt }

eleven : (z : Float) (q : Frac) → Near wide-top wide-bot z q.top q.bot → Near 100000000001 100000000000 z q.top q.bot
eleven z q h = record { sign = h.sign; within = within-weaken wide-top wide-bot 100000000001 100000000000 (num z) (den z) q.top q.bot (lit< tt) (lit≤ tt) h.within }

-- ---- the argument n / d from 2 ^ -12 on, times a / c
abbrev a : ℕ
a = 1442695040888963407

abbrev c : ℕ
c = 1000000000000000000

ratio : (x y k l : ℕ) → 0 < l → x * 1 * k ≤ y * l → 4098 * l ≤ 4097 * k → x * 4098 ≤ y * 4097
ratio x y k l L h g = le_of_mul-le-mul_right {k = l} (omega (arith, mul-le-mul_left x g, h)) L

-- E(y) is at least 4098 / 4097
above-one : (n d : ℕ) → 0 < d → d ≤ n * 4096 → (E false (n * a) (d * c)).bot * 4098 ≤ (E false (n * a) (d * c)).top * 4097
above-one n d D h =
    ratio (E false (n * a) (d * c)).bot (E false (n * a) (d * c)).top (4096 * c * c + a * 693147180559945309) (4096 * c * c) (lit< tt)
    (E-line 0 a (4096 * c) (n * a) (d * c) (mul-pos D (lit< {m = 0} {n = c} tt)) (lit< tt) (lit≤ tt) (reach n d a c h)) (lit≤ tt)
  where
    reach : (n d a c : ℕ) → d ≤ n * 4096 → (0 * (4096 * c) + a) * (d * c) ≤ n * a * (4096 * c)
    reach n d a c h = omega (arith, mul-le-mul_right (a * c) h)

-- and E(-y) at most 1
gap : (n d : ℕ) → 0 < d → 0 < n → d ≤ n * 4096 → (E true (n * a) (d * c)).top * (E false (n * a) (d * c)).bot * 4098 ≤ (E false (n * a) (d * c)).top * (E true (n * a) (d * c)).bot * 4097
gap n d D N h = wide (E true (n * a) (d * c)).top (E false (n * a) (d * c)).bot (E false (n * a) (d * c)).top (E true (n * a) (d * c)).bot (down-one (n * a) (d * c) (mul-pos D (lit< {m = 0} {n = c} tt)) (mul-pos N (lit< {m = 0} {n = a} tt))) (above-one n d D h)
  where
    wide : (w x y z : ℕ) → w ≤ z → x * 4098 ≤ y * 4097 → w * x * 4098 ≤ y * z * 4097
    wide w x y z h k = omega (arith, mul-le-mul h k)

-- ---- within the range
factor : Factor (of_bits binary64 0x3ff71547652b82fe) a c
unfolding of_bits
factor = factor-of (of_bits binary64 0x3ff71547652b82fe) a c tt

top-last : End 12799999 11629079 (negsuc 16) 17 11629079 (a * 100000) c
top-last = record { same = refl; normal = lit≤ tt; last = lit≤ tt; next = lit< tt }

cap : Cap 12799999 100000
cap = record { b-pos = lit< tt; under = lit≤ tt; room = lit≤ tt }

module _ (m : ℕ) (e : ℤ) (F : T (fits binary32 (fin false m e))) (low_end : down e ≤ m * up e * 4096) (high_end : m * up e * 2 ^ 17 ≤ 11629079 * 1 * down e) where
  abbrev x : Float
  x = fin false m e

  some : 0 < m * up e
  some = go (m * up e) (down e) (down_pos e) low_end
    where
      go : (n d : ℕ) → 0 < d → d ≤ n * 4096 → 0 < n
      go n d D h = omega arith

  argument : Argument 12799999 100000 a c x
  argument = record { sign = tt; digits = few-digits false m e F; some = some; most = le_trans (le_of_eq (mul_assoc (m * up e) a 100000)) (inside top-last m e high_end) }

  abbrev l : Float
  l = of_bits binary64 0x3ff71547652b82fe

  pub sinh-small : Small 128 (mul binary64 x l)
  sinh-small = product_small l x a c 12799999 100000 factor argument cap

  abbrev P : Frac
  P = E false (m * up e * a) (down e * c)

  abbrev N : Frac
  N = E true (m * up e * a) (down e * c)

  C-pos : 0 < down e * c
  C-pos = mul-pos (down_pos e) (lit< {m = 0} {n = c} tt)

  P-least : P.bot ≤ P.top
  P-least = go P.bot P.top (above-one (m * up e) (down e) (down_pos e) low_end)
    where
      go : (x y : ℕ) → x * 4098 ≤ y * 4097 → x ≤ y
      go x y h = omega arith

  P-most : P.top ≤ P.bot * 2 ^ 128
  P-most = up-most-at 127 (m * up e * a) (down e * c) C-pos (go (m * up e * a) (down e * c) argument.most)
    where
      go : (A C : ℕ) → A * 100000 ≤ 12799999 * C → A ≤ 128 * C
      go A C h = omega arith

  abbrev p : Float
  p = power_up (mul binary64 x l)

  abbrev n : Float
  n = power_down (mul binary64 x l)

  p-near : Near 100000000001 100000000000 p P.top P.bot
  p-near = eleven p P (up-wide l x a c 12799999 100000 factor argument cap)

  n-near : Near 100000000001 100000000000 n N.top N.bot
  n-near = eleven n N (down-wide l x a c 12799999 100000 factor argument cap)

  P_pos : 0 < P.bot
  P_pos = E_pos false (m * up e * a) (down e * c) C-pos

  N-pos : 0 < N.bot
  N-pos = E_pos true (m * up e * a) (down e * c) C-pos

  abbrev q : Frac
  q = hyperbolic (m * up e) (down e)

  -- the figure from 2 ^ -126 to 2 ^ 127
  q-least : q.bot ≤ q.top * 2 ^ 126
  q-least = go (P.bot * N.bot) q.top (2 ^ 126) (lit≤ tt) (S-least p n P N P_pos N-pos p-near n-near (gap (m * up e) (down e) (down_pos e) some low_end) P-least P-most)
    where
      go : (b S p : ℕ) → 8196 ≤ p → b ≤ 4098 * S → b * 2 ≤ S * p
      go b S p h k = omega (arith, mul-le-mul_left S h)

  q-most : q.top ≤ q.bot * 2 ^ 127
  q-most = le_trans (S-most p n P N P_pos N-pos p-near n-near (gap (m * up e) (down e) (down_pos e) some low_end) P-least P-most) (le_of_eq (sym (mul_assoc (P.bot * N.bot) 2 (2 ^ 127))))

  pub sinh-part : Answers q (narrowed (mul binary64 (sub binary64 p n) one-half))
  sinh-part = in-range q (narrowed (mul binary64 (sub binary64 p n) one-half)) q-least q-most
      (narrowed-part u v tight (mul binary64 (sub binary64 p n) one-half) q (mul-pos (mul-pos P_pos N-pos) (lit< {m = 0} {n = 2} tt)) (half-difference p n P N P_pos N-pos p-near n-near (gap (m * up e) (down e) (down_pos e) some low_end) P-least P-most) q-least q-most)

-- ---- above it
top-next : End 1280000003 11629079 (negsuc 16) 17 11629079 (a * 10000000) c
top-next = record { same = refl; normal = lit≤ tt; last = lit≤ tt; next = lit< tt }

ample : (A B p k l : ℕ) → 0 < B → B * p * k ≤ A * l → (p + 1) * l < p * k → B * (p + 1) < A
ample A B p k l Q h g = lt_of_mul-lt-mul_right l (lt_of_le_of_lt (le_of_eq (turn B (p + 1) l)) (lt_of_lt_of_le (mul-lt-mul_of_pos_right g Q) (le_trans (le_of_eq (sym (turn B p k))) h)))
  where
    turn : (x y z : ℕ) → x * y * z ≡ y * z * x
    turn x y z = omega arith

remains : (A B C D p : ℕ) → 0 < D → B * (2 * p + 1) < A → C ≤ D → B * D * 2 * p < A * D - C * B
remains A B C D p Q h k = omega (arith, mul-lt-mul_of_pos_right h Q, mul-le-mul_right B k)

pub sinh-over : (m : ℕ) (e : ℤ) → T (fits binary32 (fin false m e)) → 11629079 * 1 * down e < m * up e * 2 ^ 17 → Answers (hyperbolic (m * up e) (down e)) (inf false)
sinh-over m e F h =
    let A = m * up e * a in
    let C = down e * c in
    let P = E false A C in
    let N = E true A C in
    let C-pos : 0 < C = mul-pos (down_pos e) (lit< {m = 0} {n = c} tt) in
    let reach : 1280000003 * C ≤ A * 10000000 = le_trans (le_of_lt (beyond top-next false m e F h)) (le_of_eq (sym (mul_assoc (m * up e) a 10000000))) in
    let line : P.bot * 2 ^ 128 * (10000000 * 1000000000000000000 + 3 * 693147180559945309) ≤ P.top * (10000000 * 1000000000000000000) = E-line 128 3 10000000 A C C-pos (lit< tt) (lit≤ tt) reach in
    over-range (hyperbolic (m * up e) (down e))
    (remains P.top P.bot N.top N.bot (2 ^ 127) (E_pos true A C C-pos)
    (ample P.top P.bot (2 ^ 128) (10000000 * 1000000000000000000 + 3 * 693147180559945309) (10000000 * 1000000000000000000) (E_pos false A C C-pos) line (lit< tt))
    (down-one A C C-pos (mul-pos (some (m * up e) (11629079 * 1 * down e) h) (lit< {m = 0} {n = a} tt))))
  where
    some : (x y : ℕ) → y < x * 2 ^ 17 → 0 < x
    some x y h = omega arith

-- ---- `sinh`, branch by branch
fail : {b : Bool} → b ≡ false → T (not b)
fail e = subst (λ (x : Bool). T (not x)) (sym e) tt

-- 2 ^ -12, and the last single whose figure is not above 2 ^ 127
abbrev first : Float
first = fin false 1 (negsuc 11)

abbrev last : Float
last = fin false 11629079 (negsuc 16)

pub at-nan : (x : Float) → ne x x ≡ true → Sinh x x
at-nan x h = when-nan (λ (y : Float). Sinh y y) x h refl

pub below-first : (x : Float) → lt x first ≡ true → Sinh x nan
unfolding lt
below-first nan h = refl
below-first (inf false) h = absurd (true≢false (sym h))
below-first (inf true) h = refl
below-first (fin true m e) h = refl
below-first (fin false m e) h = (λ _. refl, λ k. absurd (bad (m * up e) (down e) (ltb→lt (m * up e * 4096) (1 * down e) (yes h)) k))
  where
    bad : (n d : ℕ) → n * 4096 < 1 * d → d ≤ n * 4096 → ⊥
    bad n d h k = omega arith

pub above-last : (x : Float) → T (fits binary32 x) → lt last x ≡ true → Sinh x (inf false)
unfolding lt
above-last nan F h = absurd (true≢false (sym h))
above-last (inf false) F h = refl
above-last (inf true) F h = absurd (true≢false (sym h))
above-last (fin true m e) F h = absurd (true≢false (sym h))
above-last (fin false m e) F h =
    let g = ltb→lt (11629079 * 1 * down e) (m * up e * 2 ^ 17) (yes h) in
    (λ k. absurd (bad (m * up e) (down e) g k), λ _. sinh-over m e F g)
  where
    bad : (n d : ℕ) → 11629079 * 1 * d < n * 131072 → n * 4096 < d → ⊥
    bad n d h k = omega arith

-- what lies between, as a number
pub data Between : Float → Type 0 where
  number : (m : ℕ) (e : ℤ) → down e ≤ m * up e * 4096 → m * up e * 2 ^ 17 ≤ 11629079 * 1 * down e → Between (fin false m e)

pub between : (x : Float) → ne x x ≡ false → lt x first ≡ false → lt last x ≡ false → Between x
unfolding lt is_nan
between nan n h k = absurd (no_nan nan n)
between (inf false) n h k = absurd (true≢false k)
between (inf true) n h k = absurd (true≢false h)
between (fin true m e) n h k = absurd (bad (m * up e) (down e) (down_pos e) (nltb→le 0 (m * up e * 4096 + 1 * down e) (fail h)))
  where
    bad : (n d : ℕ) → 0 < d → n * 4096 + 1 * d ≤ 0 → ⊥
    bad n d D h = omega arith
between (fin false m e) n h k = number m e (go (m * up e) (down e) (nltb→le (m * up e * 4096) (1 * down e) (fail h))) (nltb→le (11629079 * 1 * down e) (m * up e * 2 ^ 17) (fail k))
  where
    go : (n d : ℕ) → 1 * d ≤ n * 4096 → d ≤ n * 4096
    go n d h = omega arith

abbrev exponent : Float → Float
exponent x = mul binary64 x (of_bits binary64 0x3ff71547652b82fe)

pub small-between : (x : Float) → T (fits binary32 x) → Between x → Small 128 (exponent x)
small-between x F (number m e h k) = sinh-small m e F h k

pub sinh-between : (x : Float) → T (fits binary32 x) → Between x → Sinh x (narrowed (mul binary64 (sub binary64 (power_up (exponent x)) (power_down (exponent x))) one-half))
sinh-between x F (number m e h k) = (λ g. absurd (not-le_of_lt g h), λ _. sinh-part m e F h k)
