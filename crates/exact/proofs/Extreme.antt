-- The larger and the smaller of two floats, by tests of their order. Assumes nothing.
use Rattle.std.proofs.Common.{◌≡◌, ℕ, ◌+◌, ◌*◌, ◌≤◌, Bool, true, false, cond, ◌&&◌, ◌||◌, T, eqb, ltb, pos, sym, refl, ◌∙◌, subst, ap₂, true≢false, le_of_lt, zero-mul, arith, eqb→eq, ltb-false, ltb-true, le-ltb}
use mathlib.Core.Bool.{beq}
use lib.Ieee.{Float, nan, inf, fin, binary32, up, down, is_nan, fits, lt, eq, below, level, add, sub, neg}
use lib.Ieee.Fits.{down_pos, and_l}
use Rattle.exact.proofs.Magnitude.{equals-zero, zero-form}
use Rattle.exact.specs.Order.{smaller, chosen, maximum, minimum}

-- ---- the chosen one of two
takes-second : (b : Bool) (x y : Float) → b ≡ true → is_nan y ≡ false → y ≡ chosen b x y
unfolding chosen
takes-second true x y h n = go (is_nan x) (is_nan y) n
  where
    go : (p q : Bool) → q ≡ false → y ≡ cond p y (cond q x y)
    go true q e = refl
    go false true e = absurd (true≢false e)
    go false false e = refl
takes-second false x y h n = absurd (true≢false (sym h))

takes_first : (b : Bool) (x y : Float) → b ≡ false → is_nan x ≡ false → x ≡ chosen b x y
unfolding chosen
takes_first false x y h n = go (is_nan x) (is_nan y) n
  where
    go : (p q : Bool) → p ≡ false → x ≡ cond p y (cond q x x)
    go true q e = absurd (true≢false e)
    go false true e = refl
    go false false e = refl
takes_first true x y h n = absurd (true≢false h)

takes-other : (b : Bool) (x y : Float) → is_nan x ≡ true → y ≡ chosen b x y
unfolding chosen
takes-other b x y h = rw h

-- ---- what a test says of a NaN
lt-first : (x y : Float) → lt x y ≡ true → is_nan x ≡ false
unfolding lt is_nan
lt-first nan y h = sym h
lt-first (inf s) y h = refl
lt-first (fin s m e) y h = refl

lt-second : (x y : Float) → lt x y ≡ true → is_nan y ≡ false
unfolding lt is_nan
lt-second nan y h = absurd (true≢false (sym h))
lt-second (inf s) nan h = sym h
lt-second (inf s) (inf t) h = refl
lt-second (inf s) (fin t n d) h = refl
lt-second (fin s m e) nan h = sym h
lt-second (fin s m e) (inf t) h = refl
lt-second (fin s m e) (fin t n d) h = refl

-- ---- `smaller`, by the tests
or_no : (p q : Bool) → p ≡ false → (p || (q && false)) ≡ false
or_no true q h = absurd (true≢false h)
or_no false true h = refl
or_no false false h = refl

smaller-lt : (x y : Float) → lt x y ≡ true → smaller x y ≡ true
unfolding smaller
smaller-lt x y h = rw h

-- the other way round
asym : (a b : ℕ) → ltb b a ≡ true → ltb a b ≡ false
asym a b h = le-ltb a b (le_of_lt (ltb-true b a h))

smaller-gt : (x y : Float) → lt y x ≡ true → smaller x y ≡ false
unfolding smaller
smaller-gt nan y h = refl
smaller-gt (inf s) nan h = refl
smaller-gt (inf true) (inf true) h = refl
smaller-gt (inf true) (inf false) h = absurd (true≢false (sym h))
smaller-gt (inf false) (inf true) h = refl
smaller-gt (inf false) (inf false) h = refl
smaller-gt (inf true) (fin t n d) h = absurd (true≢false (sym h))
smaller-gt (inf false) (fin t n d) h = refl
smaller-gt (fin s m e) nan h = refl
smaller-gt (fin s m e) (inf true) h = refl
smaller-gt (fin s m e) (inf false) h = absurd (true≢false (sym h))
smaller-gt (fin true m e) (fin true n d) h = or_no (ltb (n * up d * down e) (m * up e * down d)) (level true (m * up e * down d) true (n * up d * down e)) (asym (n * up d * down e) (m * up e * down d) h)
smaller-gt (fin true m e) (fin false n d) h = absurd (true≢false (sym h))
smaller-gt (fin false m e) (fin true n d) h = or_no false (level false (m * up e * down d) true (n * up d * down e)) refl
smaller-gt (fin false m e) (fin false n d) h = or_no (ltb (m * up e * down d) (n * up d * down e)) (level false (m * up e * down d) false (n * up d * down e)) (asym (m * up e * down d) (n * up d * down e) h)

-- neither below the other, and not both zeros
abbrev Zero : Float → Type 0
Zero v = eq v (fin false 0 (pos 0)) ≡ true

smaller-level : (x y : Float) → lt x y ≡ false → (Zero x → Zero y → ⊥) → smaller x y ≡ false
unfolding smaller
smaller-level nan y h z = refl
smaller-level (inf s) nan h z = refl
smaller-level (inf true) (inf true) h z = refl
smaller-level (inf true) (inf false) h z = absurd (true≢false h)
smaller-level (inf false) (inf true) h z = refl
smaller-level (inf false) (inf false) h z = refl
smaller-level (inf true) (fin t n d) h z = absurd (true≢false h)
smaller-level (inf false) (fin t n d) h z = refl
smaller-level (fin s m e) nan h z = refl
smaller-level (fin s m e) (inf true) h z = refl
smaller-level (fin s m e) (inf false) h z = absurd (true≢false h)
smaller-level (fin true m e) (fin true n d) h z = or_no (ltb (n * up d * down e) (m * up e * down d)) (level true (m * up e * down d) true (n * up d * down e)) h
smaller-level (fin true m e) (fin false n d) h z =
    let s : m * up e * down d + n * up d * down e ≤ 0 = ltb-false 0 (m * up e * down d + n * up d * down e) h in
    absurd (z (equals-zero true m e (down d) (down_pos d) (omega arith)) (equals-zero false n d (down e) (down_pos e) (omega arith)))
smaller-level (fin false m e) (fin t n d) h z = or_no (below false (m * up e * down d) t (n * up d * down e)) (level false (m * up e * down d) t (n * up d * down e)) h

-- ---- two zeros
zero_of : (y : Float) → T (fits binary32 y) → Zero y → (t : Bool) × (y ≡ fin t 0 (pos 0))
unfolding eq
zero_of nan f h = absurd (true≢false (sym h))
zero_of (inf t) f h = absurd (true≢false (sym h))
zero_of (fin t n d) f h = (t, zero-form t n d 1 (omega arith) f (eqb→eq (n * up d * 1) (0 * down d) (and_l (eqb (n * up d * 1) (0 * down d)) (beq t false || eqb (n * up d * 1) 0) (subst T (sym h) tt)) ∙ zero-mul (down d)))

least : (s t : Bool) (a d : ℕ) → below s (a * 1) t (0 * d) ≡ false → below t (0 * d) s (a * 1) ≡ false → a * 1 ≡ 0
least true true a d h k = omega (arith, ltb-false (0 * d) (a * 1) h, zero-mul d)
least true false a d h k = omega (arith, ltb-false 0 (a * 1 + 0 * d) h)
least false true a d h k = omega (arith, ltb-false 0 (0 * d + a * 1) k)
least false false a d h k = omega (arith, ltb-false (0 * d) (a * 1) k, zero-mul d)

zero-beside : (x : Float) (t : Bool) → T (fits binary32 x) → is_nan x ≡ false → lt x (fin t 0 (pos 0)) ≡ false → lt (fin t 0 (pos 0)) x ≡ false → (s : Bool) × (x ≡ fin s 0 (pos 0))
unfolding lt is_nan
zero-beside nan t f n h k = absurd (true≢false n)
zero-beside (inf true) t f n h k = absurd (true≢false h)
zero-beside (inf false) t f n h k = absurd (true≢false k)
zero-beside (fin s m e) t f n h k = (s, zero-form s m e 1 (omega arith) f (least s t (m * up e) (down e) h k))

sum-largest : (s t : Bool) → add binary32 (fin s 0 (pos 0)) (fin t 0 (pos 0)) ≡ maximum (fin s 0 (pos 0)) (fin t 0 (pos 0))
unfolding add maximum
sum-largest true true = refl
sum-largest true false = refl
sum-largest false true = refl
sum-largest false false = refl

sum-smallest : (s t : Bool) → neg (sub binary32 (neg (fin s 0 (pos 0))) (fin t 0 (pos 0))) ≡ minimum (fin s 0 (pos 0)) (fin t 0 (pos 0))
unfolding sub minimum
sum-smallest true true = refl
sum-smallest true false = refl
sum-smallest false true = refl
sum-smallest false false = refl

-- ---- by the tests of the code
pub max-second : (x y : Float) → lt x y ≡ true → y ≡ maximum x y
unfolding maximum
max-second x y h = takes-second (smaller x y) x y (smaller-lt x y h) (lt-second x y h)

pub max-first : (x y : Float) → lt y x ≡ true → x ≡ maximum x y
unfolding maximum
max-first x y h = takes_first (smaller x y) x y (smaller-gt x y h) (lt-second y x h)

pub max-other : (x y : Float) → is_nan x ≡ true → y ≡ maximum x y
unfolding maximum
max-other x y h = takes-other (smaller x y) x y h

pub max-zeros : (x y : Float) → T (fits binary32 x) → T (fits binary32 y) → lt x y ≡ false → lt y x ≡ false → is_nan x ≡ false → Zero y → add binary32 x y ≡ maximum x y
max-zeros x y f g h k n z =
    let q = zero_of y g z in
    let p = zero-beside x q.0 f n (subst (λ (v : Float). lt x v ≡ false) q.1 h) (subst (λ (v : Float). lt v x ≡ false) q.1 k) in
    ap₂ (λ (v w : Float). add binary32 v w) p.1 q.1 ∙ sum-largest p.0 q.0 ∙ sym (ap₂ maximum p.1 q.1)

pub max-same : (x y : Float) → lt x y ≡ false → is_nan x ≡ false → eq y (fin false 0 (pos 0)) ≡ false → x ≡ maximum x y
unfolding maximum
max-same x y h n z = takes_first (smaller x y) x y (smaller-level x y h (λ p q. true≢false (sym q ∙ z))) n

pub min-first : (x y : Float) → lt x y ≡ true → x ≡ minimum x y
unfolding minimum
min-first x y h = takes_first (smaller y x) x y (smaller-gt y x h) (lt-first x y h)

pub min-second : (x y : Float) → lt y x ≡ true → y ≡ minimum x y
unfolding minimum
min-second x y h = takes-second (smaller y x) x y (smaller-lt y x h) (lt-first y x h)

pub min-other : (x y : Float) → is_nan x ≡ true → y ≡ minimum x y
unfolding minimum
min-other x y h = takes-other (smaller y x) x y h

pub min-zeros : (x y : Float) → T (fits binary32 x) → T (fits binary32 y) → lt x y ≡ false → lt y x ≡ false → is_nan x ≡ false → Zero y → neg (sub binary32 (neg x) y) ≡ minimum x y
min-zeros x y f g h k n z =
    let q = zero_of y g z in
    let p = zero-beside x q.0 f n (subst (λ (v : Float). lt x v ≡ false) q.1 h) (subst (λ (v : Float). lt v x ≡ false) q.1 k) in
    ap₂ (λ (v w : Float). neg (sub binary32 (neg v) w)) p.1 q.1 ∙ sum-smallest p.0 q.0 ∙ sym (ap₂ minimum p.1 q.1)

pub min-same : (x y : Float) → lt y x ≡ false → is_nan x ≡ false → eq y (fin false 0 (pos 0)) ≡ false → x ≡ minimum x y
unfolding minimum
min-same x y h n z = takes_first (smaller y x) x y (smaller-level y x h (λ p q. true≢false (sym p ∙ z))) n
