-- Every tap but the first and the last lies in the window where half - 1 frames do, and no tap's distance is a NaN. Assumes nothing.
-- The part of the way is from 0 to 1, so its sum with a whole number of frames is, rounded, no further away than the next whole number.
use mathlib.Core.Path.{◌≡◌, refl, sym, ap, subst, ◌∙◌}
use mathlib.Core.Bool.{Bool, true, false, not, cond, true≢false, ◌&&◌}
use Prim.Native.Nat.{ℕ, ◌+◌, ◌-◌, ◌*◌, ◌^◌, ◌≤◌, ◌<◌}
use native.Mathlib.Nat.{mul-one, mul_assoc, mul_comm, mul_left_comm, mul-pos, mul-sub, mul-le-mul_right, mul-lt-mul_of_pos_right, lt_of_mul-lt-mul_right}
use native.Mathlib.Omega.{arith}
use borrow.Author.Tests.{lt-ltb}
use lib.Dec.{T, ltb, leb, eqb, ltb→lt, lt→ltb, leb→le, nleb→lt}
use lib.IntN.{ℤ}
use lib.Ieee.Back.{round_whole}
use lib.Ieee.Exact.{HasValue}
use lib.Ieee.Fits.{down_pos}
use lib.Ieee.Order.{round_mono}
use lib.Ieee.Scale.{round_same}
use lib.Ieee.{Float, nan, inf, fin, binary32, up, down, round, add, sub, neg, sum, mul, unlike, lt, le, eq, is_nan, of_int, of_bits}
use Rattle.exact.proofs.Negation.{neg-round}
use Rattle.exact.specs.Value.{plus}
use Rattle.exact.specs.Single.{◌⊕◌, ◌⊖◌, ◌⊗◌, single, f1, f16}
use Rattle.exact.specs.Order.{magnitude}
use Rattle.interp.specs.Sinc.{crossings_of}
use Rattle.interp.specs.Places.{place_of, entry_of}
use Rattle.lanes.specs.Four.{Part, Inside}
use Rattle.interp.specs.declared.sinc.SincSpan.{SincSpan}
use Rattle.interp.proofs.Difference.{differ}
use Rattle.interp.proofs.Looping.{le-values}
use Rattle.interp.proofs.Range.{at_most}
use Rattle.interp.proofs.Table.{signless, round-signless, bounded, in_table, magnitude-plus, true_of}

single-value : (n : ℕ) → n ≤ 2 ^ 24 → HasValue (single n) false n 1
unfolding of_int
single-value n h = round_whole binary32 false n h

-- ---- whole numbers of frames
apart : (M N A B E G : ℕ) → M ≡ A * E → N ≡ B * G → A < B → 0 < E → 0 < G → (M * G < N * E) × ((N * E - M * G) * 1 ≡ (B - A) * (E * G))
apart M N A B E G p q h e g =
    let x : M * G ≡ A * (E * G) = ap (λ (z : ℕ). z * G) p ∙ simp (mul_assoc, mul_comm, mul_left_comm) in
    let y : N * E ≡ B * (E * G) = ap (λ (z : ℕ). z * E) q ∙ simp (mul_assoc, mul_comm, mul_left_comm) in
    let l : A * (E * G) < B * (E * G) = mul-lt-mul_of_pos_right h (mul-pos e g) in
    let d : E * G * (B - A) ≡ E * G * B - E * G * A = mul-sub (E * G) B A in
    (omega arith, omega arith)

minus : (x y : Float) (A B : ℕ) → HasValue x false A 1 → HasValue y false B 1 → A < B → x ⊖ y ≡ round binary32 true (B - A) 1
unfolding sub neg add sum
minus nan y A B p q h = absurd p
minus (inf s) y A B p q h = absurd p
minus (fin true m e) y A B p q h = absurd (true≢false p.0)
minus (fin false m e) nan A B p q h = absurd q
minus (fin false m e) (inf s) A B p q h = absurd q
minus (fin false m e) (fin true n g) A B p q h = absurd (true≢false q.0)
minus (fin false m e) (fin false n g) A B p q h =
    let a : m * up e ≡ A * down e = sym (mul-one (m * up e)) ∙ p.1 in
    let b : n * up g ≡ B * down g = sym (mul-one (n * up g)) ∙ q.1 in
    let k = apart (m * up e) (n * up g) A B (down e) (down g) a b h (down_pos e) (down_pos g) in
    rw (lt-ltb (m * up e * down g) (n * up g * down e) k.0)
    (round_same binary32 true (n * up g * down e - m * up e * down g) (down e * down g) (B - A) 1 (mul-pos (down_pos e) (down_pos g)) (omega arith) k.1)

less_one : (h : ℕ) → 1 ≤ h → h ≤ 40 → single h ⊖ f1 ≡ single (h - 1)
unfolding of_int of_bits
less_one h a b =
    let e : h - 1 * 1 ≡ h - 1 = omega arith in
    differ binary32 (single h) f1 h 1 1 (omega arith) (single-value h (omega arith)) (refl, refl) (omega arith) ∙ ap (λ (k : ℕ). round binary32 false k 1) e

less-whole : (a b : ℕ) → a ≤ 80 → b ≤ a → single a ⊖ single b ≡ single (a - b)
unfolding of_int
less-whole a b h l =
    let e : a - b * 1 ≡ a - b = omega arith in
    differ binary32 (single a) (single b) a 1 b (omega arith) (single-value a (omega arith)) (single-value b (omega arith)) (omega arith) ∙ ap (λ (k : ℕ). round binary32 false k 1) e

-- a count down in floats
lower : (x : Float) (j : ℕ) → HasValue x true j 1 → x ⊖ f1 ≡ round binary32 true (j + 1) 1
unfolding sub neg add sum of_bits
lower nan j v = absurd v
lower (inf s) j v = absurd v
lower (fin false m e) j v = absurd (true≢false (sym v.0))
lower (fin true m e) j v =
    let a : m * up e * 1 ≡ j * down e = v.1 in
    round_same binary32 true (m * up e * 1 + 1 * 1 * down e) (down e * 1) (j + 1) 1 (omega (arith, down_pos e)) (omega arith) (omega arith)

minus-value : (j : ℕ) → j ≤ 80 → HasValue (round binary32 true j 1) true j 1
minus-value j h = round_whole binary32 true j (omega arith)

one : f1 ≡ single 1
unfolding of_int of_bits
one = refl

less-next : (a k : ℕ) → a ≤ 40 → k ≤ 80 → single a ⊖ single k ⊖ f1 ≡ single a ⊖ single (k + 1)
less-next a k h l = go (leb (k + 1) a) (leb→le (k + 1) a) (nleb→lt (k + 1) a)
  where
    below-it : a < k + 1 → single a ⊖ single (k + 1) ≡ round binary32 true (k + 1 - a) 1
    below-it y = minus (single a) (single (k + 1)) a (k + 1) (single-value a (omega arith)) (single-value (k + 1) (omega arith)) y

    under : (t : Bool) → (T t → k ≤ a) → (T (not t) → a < k) → a < k + 1 → single a ⊖ single k ⊖ f1 ≡ round binary32 true (k + 1 - a) 1
    under true x z y =
        let o : a - k ≡ 0 = omega arith in
        let i : k + 1 - a ≡ 1 - 0 = omega (arith, x tt) in
        rw (less-whole a k (omega arith) (x tt), o, one) (minus (single 0) (single 1) 0 1 (single-value 0 (omega arith)) (single-value 1 (omega arith)) (omega arith) ∙ ap (λ (j : ℕ). round binary32 true j 1) (sym i))
    under false x z y =
        let i : k - a + 1 ≡ k + 1 - a = omega (arith, z tt) in
        rw (minus (single a) (single k) a k (single-value a (omega arith)) (single-value k (omega arith)) (z tt)) (lower (round binary32 true (k - a) 1) (k - a) (minus-value (k - a) (omega arith)) ∙ ap (λ (j : ℕ). round binary32 true j 1) i)

    go : (t : Bool) → (T t → k + 1 ≤ a) → (T (not t) → a < k + 1) → single a ⊖ single k ⊖ f1 ≡ single a ⊖ single (k + 1)
    go true x y =
        let m = x tt in
        let i : a - k - 1 ≡ a - (k + 1) = omega arith in
        rw (less-whole a k (omega arith) (omega arith), less-whole a (k + 1) (omega arith) m) (less_one (a - k) (omega arith) (omega arith) ∙ ap single i)
    go false x y = under (leb k a) (leb→le k a) (nleb→lt k a) (y tt) ∙ sym (below-it (y tt))

pub away-first : (half : ℕ) → 1 ≤ half → half ≤ 40 → single half ⊖ f1 ≡ single half ⊖ f1 ⊖ single 0
away-first half a b =
    let i : half - 1 ≡ half - 1 - 0 = omega arith in
    rw (less_one half a b) (ap single i ∙ sym (less-whole (half - 1) 0 (omega arith) (omega arith)))

pub away-next : (half k : ℕ) (d : Float) → 1 ≤ half → half ≤ 40 → k ≤ 80 → d ≡ single half ⊖ f1 ⊖ single k → d ⊖ f1 ≡ single half ⊖ f1 ⊖ single (k + 1)
away-next half k d a b c e = rw (e, less_one half a b) (less-next (half - 1) k (omega arith) c)

-- ---- a sum, as it is rounded: its size is at most B
pub record Rounded (B : ℕ) (x : Float) : Type 0 where
  pub s : Bool
  pub N : ℕ
  pub C : ℕ
  pub some : 0 < C
  pub most : N ≤ B * C
  pub is : x ≡ round binary32 s N C

up-most : (M E N G j B : ℕ) → M ≤ E → N ≡ j * G → j + 1 ≤ B → M * G + N * E ≤ B * (E * G)
up-most M E N G j B a b c =
    let x : M * G ≤ E * G = mul-le-mul_right G a in
    let y : N * E ≡ j * (E * G) = ap (λ (z : ℕ). z * E) b ∙ simp (mul_assoc, mul_comm, mul_left_comm) in
    let z : (j + 1) * (E * G) ≤ B * (E * G) = mul-le-mul_right (E * G) c in
    omega arith

down-most : (M E N G j B : ℕ) → M ≤ E → N ≡ j * G → j ≤ B → 1 ≤ B → (N * E - M * G ≤ B * (E * G)) × (M * G - N * E ≤ B * (E * G))
down-most M E N G j B a b c d =
    let x : M * G ≤ E * G = mul-le-mul_right G a in
    let y : N * E ≡ j * (E * G) = ap (λ (z : ℕ). z * E) b ∙ simp (mul_assoc, mul_comm, mul_left_comm) in
    let z : j * (E * G) ≤ B * (E * G) = mul-le-mul_right (E * G) c in
    let w : 1 * (E * G) ≤ B * (E * G) = mul-le-mul_right (E * G) d in
    (omega arith, omega arith)

module _ (m : ℕ) (e : ℤ) (h : m * up e ≤ down e) (j B : ℕ) where
  sum-up : (y : Float) → HasValue y false j 1 → j + 1 ≤ B → Rounded B (fin false m e ⊕ y)
  unfolding add sum
  sum-up nan v b = absurd v
  sum-up (inf s) v b = absurd v
  sum-up (fin true n g) v b = absurd (true≢false v.0)
  sum-up (fin false n g) v b =
      record {
        s = false;
        N = m * up e * down g + n * up g * down e;
        C = down e * down g;
        some = mul-pos (down_pos e) (down_pos g);
        most = up-most (m * up e) (down e) (n * up g) (down g) j B h (sym (mul-one (n * up g)) ∙ v.1) b;
        is = refl;
      }

  sum-down : (y : Float) → HasValue y true j 1 → j ≤ B → 1 ≤ B → Rounded B (fin false m e ⊕ y)
  unfolding add sum
  sum-down nan v b c = absurd v
  sum-down (inf s) v b c = absurd v
  sum-down (fin false n g) v b c = absurd (true≢false (sym v.0))
  sum-down (fin true n g) v b c = go (ltb (m * up e * down g) (n * up g * down e))
    where
      k : (n * up g * down e - m * up e * down g ≤ B * (down e * down g)) × (m * up e * down g - n * up g * down e ≤ B * (down e * down g))
      k = down-most (m * up e) (down e) (n * up g) (down g) j B h (sym (mul-one (n * up g)) ∙ v.1) b c

      go : (t : Bool) → Rounded B (cond t (round binary32 true (n * up g * down e - m * up e * down g) (down e * down g)) (round binary32 (false && ltb (n * up g * down e) (m * up e * down g)) (m * up e * down g - n * up g * down e) (down e * down g)))
      go true = record { s = true; N = n * up g * down e - m * up e * down g; C = down e * down g; some = mul-pos (down_pos e) (down_pos g); most = k.0; is = refl }
      go false = record { s = false; N = m * up e * down g - n * up g * down e; C = down e * down g; some = mul-pos (down_pos e) (down_pos g); most = k.1; is = refl }

part-most : (m : ℕ) (e : ℤ) → T (le (fin false m e) f1) → m * up e ≤ down e
unfolding le lt eq of_bits
part-most m e t = let b : m * up e * 1 ≤ 1 * 1 * down e = at_most (m * up e * 1) (1 * 1 * down e) _ t in omega arith

-- f and half - 1 - k frames, where the next whole number is at most B
distance : (f : Float) (half k B : ℕ) → Part f → 1 ≤ half → half ≤ 40 → k ≤ 80 → 1 ≤ B → half ≤ B + k → k + 1 ≤ B + half
    → Rounded B (f ⊕ (single half ⊖ f1 ⊖ single k))
distance nan half k B p a b c d u v = absurd p.0
distance (inf s) half k B p a b c d u v = absurd p.0
distance (fin true m e) half k B p a b c d u v = absurd p.0
distance (fin false m e) half k B p a b c d u v = rw (less_one half a b) (go (leb k (half - 1)) (leb→le k (half - 1)) (nleb→lt k (half - 1)))
  where
    go : (t : Bool) → (T t → k ≤ half - 1) → (T (not t) → half - 1 < k) → Rounded B (fin false m e ⊕ (single (half - 1) ⊖ single k))
    go true x y =
        let l = x tt in
        rw (less-whole (half - 1) k (omega arith) l) (sum-up m e (part-most m e p.1) (half - 1 - k) B (single (half - 1 - k)) (single-value (half - 1 - k) (omega arith)) (omega arith))
    go false x y =
        let l = y tt in
        rw (minus (single (half - 1)) (single k) (half - 1) k (single-value (half - 1) (omega arith)) (single-value k (omega arith)) l)
        (sum-down m e (part-most m e p.1) (k - (half - 1)) B (round binary32 true (k - (half - 1)) 1) (minus-value (k - (half - 1)) (omega arith)) (omega arith) d)

-- ---- the float itself
record Held (B : ℕ) (x : Float) : Type 0 where
  s : Bool
  m : ℕ
  e : ℤ
  most : m * up e ≤ B * down e
  is : x ≡ fin s m e

as-held : (B : ℕ) (s : Bool) (x r : Float) → T (plus r) → T (le r (single B)) → B ≤ 80 → x ≡ cond s (neg r) r → Held B x
unfolding neg
as-held B s x nan p l b i = absurd p
as-held B s x (inf t) p l b i = absurd p
as-held B s x (fin true m e) p l b i = absurd p
as-held B s x (fin false m e) p l b i =
    let v : m * up e * 1 ≤ B * down e = le-values (fin false m e) (single B) (m * up e) (down e) B 1 (refl, refl) (single-value B (omega arith)) l in
    record { s = s; m = m; e = e; most = omega arith; is = i ∙ either s }
  where
    either : (t : Bool) → cond t (fin true m e) (fin false m e) ≡ fin t m e
    either true = refl
    either false = refl

by_sign : (s : Bool) (N C : ℕ) → round binary32 s N C ≡ cond s (neg (round binary32 false N C)) (round binary32 false N C)
by_sign true N C = neg-round binary32 N C
by_sign false N C = refl

to_held : (B : ℕ) (x : Float) → B ≤ 80 → Rounded B x → Held B x
unfolding of_int of_bits le lt eq
to_held B x b r =
    let n : r.N ≤ B * r.C = r.most in
    let w : B * r.C ≤ 8193 * r.C = mul-le-mul_right r.C (omega arith) in
    as-held B r.s x (round binary32 false r.N r.C)
    (bounded (round binary32 false r.N r.C) (round-signless binary32 r.N r.C) (round_mono binary32 r.N r.C 8193 1 r.some (omega arith) (omega arith)))
    (round_mono binary32 r.N r.C B 1 r.some (omega arith) (omega arith))
    b
    (r.is ∙ by_sign r.s r.N r.C)

-- ---- the product with the cutoff
mag-signless : (x : Float) → T (signless x) → magnitude x ≡ x
unfolding magnitude
mag-signless nan t = absurd t
mag-signless (inf true) t = absurd t
mag-signless (inf false) t = refl
mag-signless (fin true m e) t = absurd t
mag-signless (fin false m e) t = refl

mag-neg : (x : Float) → magnitude (neg x) ≡ magnitude x
unfolding magnitude neg
mag-neg nan = refl
mag-neg (inf s) = refl
mag-neg (fin s m e) = refl

mag-round : (s : Bool) (a c : ℕ) → magnitude (round binary32 s a c) ≡ round binary32 false a c
mag-round true a c = ap magnitude (neg-round binary32 a c) ∙ mag-neg (round binary32 false a c) ∙ mag-signless (round binary32 false a c) (round-signless binary32 a c)
mag-round false a c = mag-signless (round binary32 false a c) (round-signless binary32 a c)

below : (X Y E G : ℕ) → 0 < G → X * G ≤ Y * E → Y * 1 < 1 * 2 ^ 4 * G → 0 < E → X * 1 < 1 * 2 ^ 4 * E
below X Y E G g a b e =
    let c : Y * E < 16 * G * E = mul-lt-mul_of_pos_right (omega arith) e in
    let d : X * G < 16 * E * G = omega arith in
    let f : X < 16 * E = lt_of_mul-lt-mul_right G d in
    omega arith

le-lt : (u w : Float) → T (signless u) → T (signless w) → T (le u w) → T (lt w f16) → T (lt u f16)
unfolding le lt eq of_bits
le-lt nan w a b l t = absurd a
le-lt (inf true) w a b l t = absurd a
le-lt (inf false) nan a b l t = absurd b
le-lt (inf false) (inf true) a b l t = absurd b
le-lt (inf false) (inf false) a b l t = absurd t
le-lt (inf false) (fin s n g) a b l t = absurd l
le-lt (fin true m e) w a b l t = absurd a
le-lt (fin false m e) nan a b l t = absurd b
le-lt (fin false m e) (inf true) a b l t = absurd b
le-lt (fin false m e) (inf false) a b l t = absurd t
le-lt (fin false m e) (fin true n g) a b l t = absurd b
le-lt (fin false m e) (fin false n g) a b l t =
    lt→ltb (m * up e * 1) (1 * 2 ^ 4 * down e)
    (below (m * up e) (n * up g) (down e) (down g) (down_pos g) (at_most (m * up e * down g) (n * up g * down e) _ l) (ltb→lt (n * up g * 1) (1 * 2 ^ 4 * down g) t) (down_pos e))

no-inf : (b s : Bool) → T (lt (magnitude (cond b nan (inf s))) f16) → ⊥
unfolding magnitude lt of_bits
no-inf true s t = t
no-inf false s t = t

product : (P Q A B N G H : ℕ) → P ≤ H * Q → A ≡ H * B → P * N * (B * G) ≤ A * N * (Q * G)
product P Q A B N G H p a =
    let x : P * (N * B * G) ≤ H * Q * (N * B * G) = mul-le-mul_right (N * B * G) p in
    let y : A * N * (Q * G) ≡ H * Q * (N * B * G) = ap (λ (z : ℕ). z * N * (Q * G)) a ∙ simp (mul_assoc, mul_comm, mul_left_comm) in
    let z : P * N * (B * G) ≡ P * (N * B * G) = simp (mul_assoc, mul_comm, mul_left_comm) in
    omega arith

module _ (s : Bool) (p : ℕ) (q : ℤ) (H : ℕ) (h : p * up q ≤ H * down q) where
  within : (y fc : Float) → HasValue y false H 1 → T (lt (magnitude (y ⊗ fc)) f16) → T (lt (magnitude (fin s p q ⊗ fc)) f16)
  unfolding mul
  within nan fc v t = absurd v
  within (inf u) fc v t = absurd v
  within (fin true a b) fc v t = absurd (true≢false v.0)
  within (fin false a b) nan v t = absurd (no-inf true true t)
  within (fin false a b) (inf u) v t = absurd (no-inf (eqb a 0) _ t)
  within (fin false a b) (fin u n g) v t =
      let k : a * up b ≡ H * down b = sym (mul-one (a * up b)) ∙ v.1 in
      let w0 = round binary32 false (p * up q * (n * up g)) (down q * down g) in
      let w1 = round binary32 false (a * up b * (n * up g)) (down b * down g) in
      rw (mag-round (unlike s u) (p * up q * (n * up g)) (down q * down g))
      (le-lt w0 w1 (round-signless binary32 (p * up q * (n * up g)) (down q * down g)) (round-signless binary32 (a * up b * (n * up g)) (down b * down g))
      (round_mono binary32 (p * up q * (n * up g)) (down q * down g) (a * up b * (n * up g)) (down b * down g) (mul-pos (down_pos q) (down_pos g)) (mul-pos (down_pos b) (down_pos g)) (product (p * up q) (down q) (a * up b) (down b) (n * up g) (down g) H h k))
      (subst (λ (z : Float). T (lt z f16)) (mag-round (unlike false u) (a * up b * (n * up g)) (down b * down g)) t))

no-nan-signless : (x : Float) → T (signless x) → T (not (is_nan x))
unfolding is_nan
no-nan-signless nan t = absurd t
no-nan-signless (inf s) t = tt
no-nan-signless (fin s m e) t = tt

no-nan-neg : (x : Float) → T (signless x) → T (not (is_nan (neg x)))
unfolding is_nan neg
no-nan-neg nan t = absurd t
no-nan-neg (inf s) t = tt
no-nan-neg (fin s m e) t = tt

no-nan-round : (s : Bool) (a c : ℕ) → T (not (is_nan (round binary32 s a c)))
no-nan-round true a c = rw neg-round (no-nan-neg (round binary32 false a c) (round-signless binary32 a c))
no-nan-round false a c = no-nan-signless (round binary32 false a c) (round-signless binary32 a c)

number : (s : Bool) (p : ℕ) (q : ℤ) (y fc : Float) (H : ℕ) → HasValue y false H 1 → T (lt (magnitude (y ⊗ fc)) f16) → T (not (is_nan (fin s p q ⊗ fc)))
unfolding mul
number s p q nan fc H v t = absurd v
number s p q (inf u) fc H v t = absurd v
number s p q (fin true a b) fc H v t = absurd (true≢false v.0)
number s p q (fin false a b) nan H v t = absurd (no-inf true true t)
number s p q (fin false a b) (inf u) H v t = absurd (no-inf (eqb a 0) _ t)
number s p q (fin false a b) (fin u n g) H v t = no-nan-round (unlike s u) (p * up q * (n * up g)) (down q * down g)

-- ---- a tap
module _ (span : SincSpan) (f : Float) (k : ℕ) (i : Inside span) (p : Part f) where
  reach : T (lt (magnitude (single (span.half - 1) ⊗ span.fc)) f16)
  reach = subst (λ (z : Float). T (lt (magnitude (z ⊗ span.fc)) f16)) (less_one span.half (omega (arith, i.least)) i.most) i.reach

  whole : HasValue (single (span.half - 1)) false (span.half - 1) 1
  whole = single-value (span.half - 1) (omega (arith, i.most))

  pub inside : 0 < k → k + 1 < 2 * span.half → T (lt (magnitude (crossings_of span f k)) f16)
  unfolding crossings_of
  inside a b =
      let h : 2 ≤ span.half = i.least in
      let g : span.half ≤ 40 = i.most in
      let r = to_held (span.half - 1) _ (omega arith) (distance f span.half k (span.half - 1) p (omega arith) g (omega arith) (omega arith) (omega arith) (omega arith)) in
      subst (λ (z : Float). T (lt (magnitude (z ⊗ span.fc)) f16)) (sym r.is)
      (within r.s r.m r.e (span.half - 1) r.most (single (span.half - 1)) span.fc whole reach)

  pub no_nan : k < 2 * span.half → T (not (is_nan (crossings_of span f k)))
  unfolding crossings_of
  no_nan b =
      let h : 2 ≤ span.half = i.least in
      let g : span.half ≤ 40 = i.most in
      let r = to_held span.half _ (omega arith) (distance f span.half k span.half p (omega arith) g (omega arith) (omega arith) (omega arith) (omega arith)) in
      subst (λ (z : Float). T (not (is_nan (z ⊗ span.fc)))) (sym r.is)
      (number r.s r.m r.e (single (span.half - 1)) span.fc (span.half - 1) whole reach)

  pub entry-low : 0 < k → k + 1 < 2 * span.half → entry_of (crossings_of span f k) ≤ 8192
  unfolding place_of
  entry-low a b =
      let t = inside a b in
      rw (true_of (lt (magnitude (crossings_of span f k)) f16) t) (in_table (magnitude (crossings_of span f k)) (magnitude-plus (crossings_of span f k) t) t).small
