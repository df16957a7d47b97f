-- The logarithm of a number from 1 to 2, in units of 2 ^ -45, by the series of 2 ^ t. Assumes nothing.
use Rattle.std.proofs.Common.{◌≡◌, ℕ, zero, suc, ◌+◌, ◌-◌, ◌*◌, ◌/◌, ◌%◌, ◌^◌, ◌<◌, ◌≤◌, Bool, true, false, cond, ◌||◌, T, ltb, ◌⊎◌, pos, sym, refl, ap, ◌∙◌, subst, subst₂, inl, inr, le_trans, lt_of_le_of_lt, le_of_lt, mul-le-mul_right, mul_assoc, mul_comm, eq-zero-or-pos, mul-le-mul, mul-le-mul_left, mul-pos, pow-suc, arith, lit<, lit≤, ltb→lt, lt→ltb, nltb→le, pow_pos}
use lib.Ieee.{Float, binary64, of_int, of_bits, to_bits, mul, lt, is_nan}
use lib.Ieee.Exact.{HasValue, round_exact}
use lib.Ieee.Scale.{round_same}
use lib.Ieee.Positive.{num, den, den_pos, value→cross}
use Rattle.exact.specs.Value.{plus}
use Rattle.exact.proofs.Value.{value-plus, lt-plus}
use Rattle.exact.proofs.Integrals.{yes, no, whole_of}
use Rattle.elementary.specs.Fraction.{Frac, over}
use Rattle.elementary.proofs.Errors.{upper, lower, errors, rest}
use Rattle.elementary.specs.Power.{series}
use Rattle.elementary.specs.Logarithm.{unit, fixed_at, power_at, units_past128, guess_of, halving, root_of, slack, fraction_of}
use Rattle.elementary.proofs.Ratio.{Le, Within, Near, le-trans-ratio, le-weaken, within-weaken}
use Rattle.elementary.proofs.Operations.{Range, mul_is, mul-near}
use Rattle.elementary.proofs.Horner.{Arg, half, fine, range-of, within-atmost, within-atleast}
use Rattle.elementary.proofs.Series.{kernel-near, series-pos, series-least, series-most, series-zero}
use Rattle.elementary.proofs.Lipschitz.{series-bot}
use Rattle.elementary.proofs.Mean.{series-mean, at-whole}
use Rattle.elementary.proofs.Offset.{within-equal}

-- the series of 2 ^ (k / 2 ^ 45)
abbrev pub series_at : ℕ → Frac
series_at k = series (over k unit)

-- from 1 to 2
pub record Mantissa (m : Float) : Type 0 where
  pub sign : T (plus m)
  pub least : den m ≤ num m
  pub most : num m ≤ 2 * den m

-- k units are the logarithm of m: the series there is within one part in 1,048,576 of m
pub record Solves (m : Float) (k : ℕ) : Type 0 where
  pub room : k < unit
  pub near : Within 1048577 1048576 (series_at k).top (series_at k).bot (num m) (den m)

-- ---- a / 2 ^ 45
pub fixed-room : {a : ℕ} → a ≤ 150 * unit → a ≤ 2 ^ 53
fixed-room h = le_trans h (lit≤ tt)

pub fixed-is : (a : ℕ) → a ≤ 150 * unit → mul binary64 (of_int binary64 (pos a)) (of_bits binary64 0x3d20000000000000) ≡ fixed_at a
unfolding of_bits
fixed-is a h =
    let x = of_int binary64 (pos a) in
    let v = whole_of binary64 a (fixed-room h) in
    let y = of_bits binary64 0x3d20000000000000 in
    let e : num x * 1 * unit ≡ a * (den x * unit) = ap (λ (z : ℕ). z * unit) (value→cross x a 1 v) ∙ mul_assoc a (den x) unit in
    mul_is binary64 x y (value-plus x a 1 v) tt ∙ round_same binary64 false (num x * 1) (den x * unit) a unit (mul-pos (den_pos x) (lit< tt)) (lit< tt) e

pub fixed-value : (a : ℕ) → a ≤ 150 * unit → HasValue (fixed_at a) false a unit
fixed-value a h = round_exact binary64 false a unit a 1029 (lit< tt) (lt_of_le_of_lt h (lit< tt)) (lt_of_le_of_lt (mul-le-mul_right (2 ^ 1029) h) (lit< tt)) (sym (mul_assoc a (2 ^ 1029) unit))

-- ---- the series there
least-of : (n d k : ℕ) → n * unit ≡ k * d → (n ≡ 0) ⊎ (d ≤ n * 2 ^ 300)
least-of n d k e = elim (eq-zero-or-pos k) [
  | inl z ↦ inl (none n (e ∙ ap (λ (x : ℕ). x * d) z))
  | inr p ↦ inr (le_trans (some n d k e p) (mul-le-mul_left n (lit≤ {m = unit} {n = 2 ^ 300} tt)))
]
  where
    none : (n : ℕ) → n * unit ≡ 0 * d → n ≡ 0
    none n h = omega arith

    some : (n d k : ℕ) → n * unit ≡ k * d → 0 < k → d ≤ n * unit
    some n d k e p = omega (arith, mul-le-mul_right d p)

most-of : (n d k : ℕ) → n * unit ≡ k * d → k ≤ unit → n ≤ d * 128
most-of n d k e h = omega (arith, mul-le-mul_right d h)

fixed-arg : (k : ℕ) → k ≤ unit → Arg 0 (fixed_at k) (over k unit)
fixed-arg k h =
    let t = fixed_at k in
    let v = fixed-value k (le_trans h (lit≤ tt)) in
    let e = value→cross t k unit v in
    record {
      close = record { sign = value-plus t k unit v; within = within-equal (num t) (den t) k unit e };
      bot-pos = lit< tt;
      least = least-of (num t) (den t) k e;
      most = most-of (num t) (den t) k e h;
    }

power-near : (k : ℕ) → k ≤ unit → Near 274877906945 274877906944 (power_at k) (series_at k).top (series_at k).bot
power-near k h =
    let n = kernel-near 0 (fixed_at k) (over k unit) (fixed-arg k h) h in
    record {
      sign = n.sign;
      within = within-weaken (upper ^ errors 0 12 * (rest.bot + rest.top)) (lower ^ errors 0 12 * rest.bot) 274877906945 274877906944 (num (power_at k)) (den (power_at k)) (series_at k).top (series_at k).bot (lit< tt) (lit≤ tt) n.within;
    }

-- ---- what a comparison says
below : (x y : Float) → T (plus x) → T (plus y) → lt x y ≡ true → Le 1 1 (num x) (den x) (num y) (den y)
below x y p q h = mul-le-mul_right 1 (le_of_lt (ltb→lt (num x * den y) (num y * den x) (yes (sym (lt-plus x y p q) ∙ h))))

not-below : (x y : Float) → T (plus x) → T (plus y) → lt x y ≡ false → Le 1 1 (num y) (den y) (num x) (den x)
not-below x y p q h = mul-le-mul_right 1 (nltb→le (num x * den y) (num y * den x) (no (sym (lt-plus x y p q) ∙ h)))

-- ---- the bisection: the series at k / 2 ^ 45 is at most m, and at (k + w) / 2 ^ 45 at least m, but for one part in 2 ^ 38
record Bracket (m : Float) (k w : ℕ) : Type 0 where
  pub some : 1 ≤ w
  pub room : k + w ≤ unit
  pub low_end : Le 274877906945 274877906944 (series_at k).top (series_at k).bot (num m) (den m)
  pub high_end : Le 274877906945 274877906944 (num m) (den m) (series_at (k + w)).top (series_at (k + w)).bot

start : (m : Float) → Mantissa m → Bracket m 0 unit
start m h = record {
  some = lit≤ tt;
  room = lit≤ tt;
  low_end = first (series_at 0).top (series_at 0).bot (num m) (den m) (series-zero (over 0 unit) refl) h.least;
  high_end = le-weaken 1099511627776 1099511627775 274877906945 274877906944 (num m) (den m) (series_at unit).top (series_at unit).bot (lit< tt) (lit≤ tt) (last (num m) (den m) (series_at unit).top (series_at unit).bot 1099511627775 549755813888 h.most (at-whole unit));
}
  where
    first : (t b n d : ℕ) → t * 1 ≤ 1 * b → d ≤ n → t * d * 274877906944 ≤ n * b * 274877906945
    first t b n d h k = omega (arith, mul-le-mul h k)

    last : (n d t b p q : ℕ) → n ≤ 2 * d → p * b ≤ t * q → n * b * p ≤ t * d * (q * 2)
    last n d t b p q h k = omega (arith, mul-le-mul_right (b * p) h, mul-le-mul_right d k)

module _ (m : Float) (k w : ℕ) (M : Mantissa m) (b : Bracket m k (w + w)) (W : 1 ≤ w) where
  abbrev v : Float
  v = power_at (k + w)

  near : Near 274877906945 274877906944 v (series_at (k + w)).top (series_at (k + w)).bot
  near = power-near (k + w) (omega (arith, b.room))

  step_down : lt m v ≡ true → Bracket m k w
  step_down l = record {
    some = W;
    room = omega (arith, b.room);
    low_end = b.low_end;
    high_end = le-trans-ratio 1 1 274877906945 274877906944 (num m) (den m) (num v) (den v) (series_at (k + w)).top (series_at (k + w)).bot (den_pos v) (below m v M.sign near.sign l) near.within.0;
  }

  step-up : lt m v ≡ false → Bracket m (k + w) w
  step-up l = record {
    some = W;
    room = omega (arith, b.room);
    low_end = le-trans-ratio 274877906945 274877906944 1 1 (series_at (k + w)).top (series_at (k + w)).bot (num v) (den v) (num m) (den m) (den_pos v) near.within.1 (not-below m v M.sign near.sign l);
    high_end = subst (λ (x : ℕ). Le 274877906945 274877906944 (num m) (den m) (series_at x).top (series_at x).bot) (whole k w) b.high_end;
  }
    where
      whole : (k w : ℕ) → k + (w + w) ≡ k + w + w
      whole k w = omega arith

-- 2 ^ -20 further on, the series is at most seven parts in ten million larger
jump : (k w : ℕ) → w ≤ 33554432 → Le 10000007 10000000 (series_at (k + w)).top (series_at (k + w)).bot (series_at k).top (series_at k).bot
jump k w h =
    le-weaken 35184372088832000000000000000000 35184348830672063909593205440512 10000007 10000000 (series_at (k + w)).top (series_at (k + w)).bot (series_at k).top (series_at k).bot (lit< tt) (lit≤ tt)
    (subst (λ (b : ℕ). (series_at (k + w)).top * b * 35184348830672063909593205440512 ≤ (series_at k).top * (series_at (k + w)).bot * 35184372088832000000000000000000) (series-bot (k + w) k unit)
    (scaled (series_at (k + w)).top (series_at k).top w (series_at (k + w)).bot 33554432 693147180559945309 35184348830672063909593205440512 35184372088832000000000000000000 h refl (series-mean k (k + w) unit w (lit< tt) refl)))
  where
    scaled : (x y w b m l q p : ℕ) → w ≤ m → q + m * l ≡ p → x * p ≤ y * p + w * l * x → x * b * q ≤ y * b * p
    scaled x y w b m l q p h e k =
        let a : w * (l * x) ≤ m * (l * x) = mul-le-mul_right (l * x) h in
        let i : x * (q + m * l) ≡ x * p = ap (λ (z : ℕ). x * z) e in
        let j : x * q ≤ y * p = omega arith in
        omega (arith, mul-le-mul_right b j)

bracket-solves : (m : Float) (k w : ℕ) → Bracket m k w → w ≤ 33554432 → Solves m k
bracket-solves m k w b h = record {
  room = omega (arith, b.room, b.some);
  near = (
    le-weaken 274877906945 274877906944 1048577 1048576 (series_at k).top (series_at k).bot (num m) (den m) (lit< tt) (lit≤ tt) b.low_end,
    le-weaken (274877906945 * 10000007) (274877906944 * 10000000) 1048577 1048576 (num m) (den m) (series_at k).top (series_at k).bot (lit< tt) (lit≤ tt)
        (le-trans-ratio 274877906945 274877906944 10000007 10000000 (num m) (den m) (series_at (k + w)).top (series_at (k + w)).bot (series_at k).top (series_at k).bot (series-pos (over (k + w) unit) (lit< tt)) b.high_end (jump k w h)),
  );
}

-- ---- what the halving finds
double : (n : ℕ) → 33554432 * 2 ^ suc n ≡ 33554432 * 2 ^ n + 33554432 * 2 ^ n
double n = omega (arith, pow-suc 2 n)

halving-solves : (m : Float) → Mantissa m → (n k : ℕ) → Bracket m k (33554432 * 2 ^ n) → Solves m (halving m n k)
unfolding halving
halving-solves m M zero k b = bracket-solves m k (33554432 * 2 ^ 0) b (lit≤ tt)
halving-solves m M (suc n) k b =
    let w = 33554432 * 2 ^ n in
    let d : Bracket m k (w + w) = subst (λ (x : ℕ). Bracket m k x) (double n) b in
    let W : 1 ≤ w = omega (arith, pow_pos n) in
    by-test (lt m (power_at (k + w))) (λ e. halving-solves m M n k (step_down m k w M d W e)) (λ e. halving-solves m M n (k + w) (step-up m k w M d W e))
  where
    by-test : (t : Bool) → (t ≡ true → Solves m (halving m n k)) → (t ≡ false → Solves m (halving m n (k + 33554432 * 2 ^ n))) → Solves m (halving m n (cond t k (k + 33554432 * 2 ^ n)))
    by-test true h g = h refl
    by-test false h g = g refl

root-solves : (m : Float) → Mantissa m → Solves m (root_of m)
root-solves m M = halving-solves m M 20 0 (start m M)

-- what the loop keeps: `left` halvings of the w units from k on still find the root
pub record Halves (m : Float) (k w : ℕ) : Type 0 where
  pub left : ℕ
  pub width : w ≡ 33554432 * 2 ^ left
  pub same : halving m left k ≡ root_of m
  pub room : k + w ≤ unit

pub first : (m : Float) → Halves m 0 unit
first m = record { left = 20; width = refl; same = refl; room = lit≤ tt }

half_is : (w p : ℕ) → w ≡ p + p → w / 2 ≡ p
half_is w p e = omega arith

rest-is : (w p : ℕ) → w ≡ p + p → w - w / 2 ≡ p
rest-is w p e = omega arith

room-low : (k w : ℕ) → k + w ≤ unit → k + w / 2 ≤ unit
room-low k w h = omega arith

room-high : (k w : ℕ) → k + w ≤ unit → k + w / 2 + (w - w / 2) ≤ unit
room-high k w h = omega arith

not_more : (w : ℕ) → w ≡ 33554432 * 1 → 33554432 < w → ⊥
not_more w e h = omega arith

not-less : (w q : ℕ) → 0 < q → w ≡ 33554432 * q + 33554432 * q → w ≤ 33554432 → ⊥
not-less w q p e h = omega arith

module _ (m : Float) (k w : ℕ) (h : Halves m k w) (wide : 33554432 < w) where
  goes : (n : ℕ) → w ≡ 33554432 * 2 ^ n → halving m n k ≡ root_of m → (lt m (power_at (k + w / 2)) ≡ true → Halves m k (w / 2)) × (lt m (power_at (k + w / 2)) ≡ false → Halves m (k + w / 2) (w - w / 2))
  unfolding halving
  goes zero e s = absurd (not_more w e wide)
  goes (suc n) e s =
      let H = 33554432 * 2 ^ n in
      let d : w / 2 ≡ H = half_is w H (e ∙ double n) in (
        λ l. record { left = n; width = d; same = ap (λ (b : Bool). halving m n (cond b k (k + H))) (sym (subst (λ (z : ℕ). lt m (power_at (k + z)) ≡ true) d l)) ∙ s; room = room-low k w h.room },
        λ l. record {
          left = n;
          width = rest-is w H (e ∙ double n);
          same = ap (λ (z : ℕ). halving m n (k + z)) d ∙ ap (λ (b : Bool). halving m n (cond b k (k + H))) (sym (subst (λ (z : ℕ). lt m (power_at (k + z)) ≡ false) d l)) ∙ s;
          room = room-high k w h.room;
        },
      )

  pub halved : (v : Float) → v ≡ power_at (k + w / 2) → lt m v ≡ true → Halves m k (w / 2)
  halved v e l = (goes h.left h.width h.same).0 (subst (λ (z : Float). lt m z ≡ true) e l)

  pub raised-half : (v : Float) → v ≡ power_at (k + w / 2) → lt m v ≡ false → Halves m (k + w / 2) (w - w / 2)
  raised-half v e l = (goes h.left h.width h.same).1 (subst (λ (z : Float). lt m z ≡ false) e l)

pub found : (m : Float) (k w : ℕ) → Halves m k w → w ≤ 33554432 → k ≡ root_of m
unfolding halving
found m k w h l = go h.left h.width h.same
  where
    go : (n : ℕ) → w ≡ 33554432 * 2 ^ n → halving m n k ≡ root_of m → k ≡ root_of m
    go zero e s = s
    go (suc n) e s = absurd (not-less w (2 ^ n) (pow_pos n) (e ∙ double n) l)

-- ---- the test of a guess: y is not above x times f, rounded
-- a factor from 1 to 2 that leaves room for the error of the series
record Factor (f : Float) : Type 0 where
  pub sign : T (plus f)
  pub least : den f ≤ num f
  pub most : num f ≤ den f * 2
  pub room : 274877906945 * (upper * num f) * 1048576 ≤ 1048577 * (274877906944 * (lower * den f))

raised : (f x y : Float) → Factor f → T (plus x) → T (plus y) → den x ≤ num x * 2 → num x ≤ den x * 4 → lt (mul binary64 x f) y ≡ false
    → Le (upper * num f) (lower * den f) (num y) (den y) (num x) (den x)
raised f x y F p q l h t =
    let z = mul binary64 x f in
    let R : Range binary64 half (num x * num f) (den x * den f) = range-of (num x * num f) (den x * den f) 1 3 (inr (low_end (num x) (den x) (num f) (den f) l F.least)) (high_end (num x) (den x) (num f) (den f) h F.most) (lit≤ tt) (lit≤ tt) in
    let n = mul-near binary64 half lower 1 1 1 1 x f (num x) (den x) (num f) (den f) fine (own x p) (own f F.sign) R in
    regroup upper lower (num f) (den f) (num y) (den y) (num x) (den x)
    (le-trans-ratio 1 1 upper lower (num y) (den y) (num z) (den z) (num x * num f) (den x * den f) (den_pos z) (not-below z y n.sign q t) n.within.0)
  where
    own : (x : Float) → T (plus x) → Near 1 1 x (num x) (den x)
    own x p = record { sign = p; within = within-equal (num x) (den x) (num x) (den x) refl }

    low_end : (n d p q : ℕ) → d ≤ n * 2 → q ≤ p → d * q ≤ n * p * 2
    low_end n d p q h k = omega (arith, mul-le-mul h k)

    high_end : (n d p q : ℕ) → n ≤ d * 4 → p ≤ q * 2 → n * p ≤ d * q * 8
    high_end n d p q h k = omega (arith, mul-le-mul h k)

    regroup : (u v p q a b c d : ℕ) → a * (d * q) * v ≤ c * p * b * u → a * d * (v * q) ≤ c * b * (u * p)
    regroup u v p q a b c d h = omega arith

test-solves : (f m v : Float) (k : ℕ) → Mantissa m → k < unit → Near 274877906945 274877906944 v (series_at k).top (series_at k).bot
    → lt (mul binary64 m f) v ≡ false → lt (mul binary64 v f) m ≡ false → Factor f → Solves m k
test-solves f m v k M K n h l F =
    let S = series_at k in
    let P : 0 < S.bot = series-pos (over k unit) (lit< tt) in
    let u = upper * num f in
    let w = lower * den f in
    let W : 0 < 274877906944 * w = mul-pos (lit< tt) (mul-pos (lit< tt) (den_pos f)) in
    let low_end : den v ≤ num v * 2 = within-atleast 274877906944 (num v) (den v) S.top S.bot 1 (lit< tt) P n.within (omega (arith, series-least (over k unit))) in
    let high_end : num v ≤ den v * 4 = within-atmost 274877906944 (num v) (den v) S.top S.bot 2 (lit< tt) P n.within (omega (arith, series-most (over k unit) (le_of_lt K))) in
    let a = le-trans-ratio 274877906945 274877906944 u w S.top S.bot (num v) (den v) (num m) (den m) (den_pos v) n.within.1 (raised f m v F M.sign n.sign (omega (arith, M.least)) (omega (arith, M.most)) h) in
    let b = le-trans-ratio u w 274877906945 274877906944 (num m) (den m) (num v) (den v) S.top S.bot (den_pos v) (raised f v m F n.sign M.sign low_end high_end l) n.within.0 in
    let c = subst₂ (λ (x y : ℕ). Le x y (num m) (den m) S.top S.bot) (mul_comm u 274877906945) (mul_comm w 274877906944) b in
    record {
      room = K;
      near = (
        le-weaken (274877906945 * u) (274877906944 * w) 1048577 1048576 S.top S.bot (num m) (den m) W F.room a,
        le-weaken (274877906945 * u) (274877906944 * w) 1048577 1048576 (num m) (den m) S.top S.bot W F.room c,
      );
    }

-- ---- the units of a guess
pub past_room : (y : Float) → units_past128 y < unit
unfolding units_past128
past_room y = go (is_nan y) (to_bits binary64 y - 4638707616191610880)
  where
    pick : (k : ℕ) (t : Bool) → (T t → k < unit) → cond t k 0 < unit
    pick k true h = h tt
    pick k false h = lit< tt

    go : (b : Bool) (k : ℕ) → cond b 0 (cond (ltb k unit) k 0) < unit
    go true k = lit< tt
    go false k = pick k (ltb k unit) (ltb→lt k unit)

pub past_is : (b k : ℕ) → k < unit → (k + 4638707616191610880) % 18446744073709551616 ≡ b → k ≡ cond (ltb (b - 4638707616191610880) unit) (b - 4638707616191610880) 0
past_is b k h e =
    let d : k ≡ b - 4638707616191610880 = omega arith in
    d ∙ sym (cond_yes (ltb (b - 4638707616191610880) unit) (b - 4638707616191610880) 0 (lt→ltb (b - 4638707616191610880) unit (subst (λ (z : ℕ). z < unit) d h)))
  where
    cond_yes : (t : Bool) (x y : ℕ) → T t → cond t x y ≡ x
    cond_yes true x y h = refl
    cond_yes false x y h = absurd h

pub past-none : (b k : ℕ) → k < 18446744073709551616 → unit ≤ k → (k + 4638707616191610880) % 18446744073709551616 ≡ b → 0 ≡ cond (ltb (b - 4638707616191610880) unit) (b - 4638707616191610880) 0
past-none b k h l e = go (ltb (b - 4638707616191610880) unit) (ltb→lt (b - 4638707616191610880) unit)
  where
    go : (t : Bool) → (T t → b - 4638707616191610880 < unit) → 0 ≡ cond t (b - 4638707616191610880) 0
    go true g = let i : b - 4638707616191610880 < unit = g tt in omega arith
    go false g = refl

-- ---- the fraction
pub tested : (m v : Float) (k : ℕ) (t : Bool) → k ≡ guess_of m → v ≡ power_at k → (lt (mul binary64 m slack) v || lt (mul binary64 v slack) m) ≡ t → cond t (root_of m) k ≡ fraction_of m
unfolding fraction_of
tested m v k t e f h =
    ap (λ (z : Bool). cond z (root_of m) k) (sym h)
    ∙ ap (λ (z : Float). cond (lt (mul binary64 m slack) z || lt (mul binary64 z slack) m) (root_of m) k) f
    ∙ ap (λ (z : ℕ). cond (lt (mul binary64 m slack) (power_at z) || lt (mul binary64 (power_at z) slack) m) (root_of m) z) e

pub fraction-solves : (m : Float) → Mantissa m → Solves m (fraction_of m)
unfolding fraction_of guess_of of_bits
fraction-solves m M = go (lt (mul binary64 m slack) v) (lt (mul binary64 v slack) m) (λ h g. test-solves slack m v k M K (power-near k (le_of_lt K)) h g (record { sign = tt; least = lit≤ tt; most = lit≤ tt; room = lit≤ tt }))
  where
    k : ℕ
    k = guess_of m

    K : k < unit
    K = past_room _

    v : Float
    v = power_at k

    go : (s t : Bool) → (s ≡ false → t ≡ false → Solves m k) → Solves m (cond (s || t) (root_of m) k)
    go true t h = root-solves m M
    go false true h = root-solves m M
    go false false h = h refl refl
