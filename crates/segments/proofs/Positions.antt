-- A position stays within 0 to 2 ^ 33: where a frame is read it is at most 2 ^ 32, and a step is at most 4,096. Assumes nothing.
use Rattle.std.proofs.Common.{None, Option, Some}
use Rattle.player.specs.declared.LoopRt.{LoopRt}
use mathlib.Core.Path.{◌≡◌, refl, sym, ap, subst, ◌∙◌}
use mathlib.Core.Bool.{Bool, true, false, not, true≢false, ◌&&◌, cond}
use Prim.Native.Nat.{ℕ, suc, ◌+◌, ◌-◌, ◌*◌, ◌/◌, ◌^◌, ◌≤◌, ◌<◌, min}
use native.Mathlib.Nat.{lt_irrefl, mul-le-mul_right, mul-pos, zero-mul, div-mul-le_self, div-lt_iff_lt-mul}
use native.Mathlib.Numerals.{add-one}
use native.Mathlib.Omega.{arith}
use borrow.Author.Tests.{le-ltb}
use lib.Dec.{T, ltb, leb, ltb→lt, lt→ltb, leb→le, nleb→lt, nltb→le}
use lib.IntN.{ℤ, pos}
use lib.Ieee.Bits.{is_true}
use lib.Ieee.Exact.{HasValue}
use lib.Ieee.Fits.{down_pos}
use lib.Ieee.Order.{le_of_values, round_mono}
use lib.Ieee.Scale.{round_same}
use lib.Ieee.{Float, nan, inf, fin, binary64, up, down, round, sum, add, sub, neg, le, lt, eq, of_bits, to_unsigned, fits}
use Rattle.exact.proofs.Negation.{neg-round}
use Rattle.envelope.specs.declared.EgState.{EgState}
use Rattle.envelope.specs.Envelope.{is_released}
use Rattle.interp.specs.Position.{Position, first, furthest, double, looped, less_while}
use Rattle.interp.proofs.Range.{at_most, position-within}
use Rattle.interp.proofs.Difference.{differ}
use Rattle.interp.proofs.Looping.{double-value, wraps, stays}
use Rattle.program.specs.declared.region.LoopMode.{LoopMode}
use Rattle.program.specs.declared.region.LoopMode.TheVariants.{NoLoop, OneShot, Continuous, Sustain}
use Rattle.player.proofs.Within.{round-within, zero_of, left}
use Rattle.player.specs.Bounds.{Step, LoopOk, Wrapped, bound}
use Rattle.segments.specs.Source.{at_end, current_loop}
use Rattle.segments.specs.Segment.{ends_now, fast_off, frame_after}
use Rattle.segments.specs.declared.source.Source.{Source}

-- ---- a sum
-- of X / C and Y / C, each with its sign, where a minus sign is a zero's
sum-within : (s t : Bool) (X Y C : ℕ) → 0 < C → X + Y ≤ 8589934592 * C → (T s → X ≡ 0) → (T t → Y ≡ 0) → Position (sum binary64 s X t Y C)
unfolding sum of_bits le lt eq
sum-within false false X Y C d h f g = round-within (X + Y) C d h
sum-within true true X Y C d h f g =
    let x : X ≡ 0 = f tt in
    let y : Y ≡ 0 = g tt in
    let z : X + Y ≡ 0 = omega arith in
    subst Position (sym (ap (λ (n : ℕ). round binary64 true n C) z ∙ round_same binary64 true 0 C 0 1 d (omega arith) (omega arith))) (record { low = tt; high = tt })
sum-within false true X Y C d h f g =
    let y : Y ≡ 0 = g tt in
    let z : 0 ≤ X = omega arith in
    rw (y, le-ltb X 0) (round-within (X - 0) C d (omega arith))
sum-within true false X Y C d h f g = rw (f tt) (go (ltb 0 Y))
  where
    go : (b : Bool) → Position (cond b (round binary64 false (Y - 0) C) (round binary64 (true && ltb Y 0) (0 - Y) C))
    go true = round-within (Y - 0) C d (omega arith)
    go false = let z : 0 ≤ Y = omega arith in rw (le-ltb Y 0) (round-within (0 - Y) C d (omega arith))

-- what a float from 0 to 2 ^ k is: a zero, or a fraction with a plus sign
most-of : (k m : ℕ) (e : ℤ) → T (le (fin false m e) (fin false 1 (pos k))) → m * up e ≤ 2 ^ k * down e
unfolding le lt eq
most-of k m e t = let b : m * up e * 1 ≤ 1 * 2 ^ k * down e = at_most (m * up e * 1) (1 * 2 ^ k * down e) _ t in omega arith

-- the size of a float from 0 to 2 ^ k, by its sign
size_of : (k : ℕ) (s : Bool) (m : ℕ) (e : ℤ) → T (le first (fin s m e)) → T (le (fin s m e) (fin false 1 (pos k))) → (m * up e ≤ 2 ^ k * down e) × (T s → m * up e ≡ 0)
size_of k true m e a b = let z : m * up e ≡ 0 = zero_of m e a in (omega arith, λ (t : T true). z)
size_of k false m e a b = (most-of k m e b, λ (t : T false). absurd t)

total : (A B D E : ℕ) → A ≤ 2 ^ 32 * D → B ≤ 2 ^ 12 * E → A * E + B * D ≤ 8589934592 * (D * E)
total A B D E a b =
    let x : A * E ≤ 2 ^ 32 * D * E = mul-le-mul_right E a in
    let y : B * D ≤ 2 ^ 12 * E * D = mul-le-mul_right D b in
    omega arith

nothing : (A E : ℕ) → A ≡ 0 → A * E ≡ 0
nothing A E z = ap (λ (n : ℕ). n * E) z ∙ zero-mul E

pub moved : (p s : Float) → T (le first p) → T (le p bound) → Step s → Position (add binary64 p s)
unfolding add of_bits le lt eq
moved nan s a b h = absurd b
moved (inf true) s a b h = absurd a
moved (inf false) s a b h = absurd b
moved (fin u m e) nan a b h = absurd h.high
moved (fin u m e) (inf true) a b h = absurd h.low
moved (fin u m e) (inf false) a b h = absurd h.high
moved (fin u m e) (fin v n d) a b h =
    let x = size_of 32 u m e a b in
    let y = size_of 12 v n d h.low h.high in
    sum-within u v (m * up e * down d) (n * up d * down e) (down e * down d) (mul-pos (down_pos e) (down_pos d))
    (total (m * up e) (n * up d) (down e) (down d) x.0 y.0)
    (λ (t : T u). nothing (m * up e) (down d) (x.1 t))
    (λ (t : T v). nothing (n * up d) (down e) (y.1 t))

-- ---- a loop's size taken off: the result is at most 2 ^ 33
neg-most : (x : Float) → T (le first x) → T (le (neg x) furthest)
unfolding neg of_bits le lt eq
neg-most nan t = absurd t
neg-most (inf true) t = absurd t
neg-most (inf false) t = tt
neg-most (fin true m e) t =
    let z : m * up e ≡ 0 = zero_of m e t in
    let d : 0 < down e = down_pos e in
    left (ltb (m * up e * 1) (1 * 2 ^ 33 * down e)) _ (lt→ltb (m * up e * 1) (1 * 2 ^ 33 * down e) (omega arith))
neg-most (fin false m e) t =
    let d : 0 < down e = down_pos e in
    left (ltb 0 (m * up e * 1 + 1 * 2 ^ 33 * down e)) _ (lt→ltb 0 (m * up e * 1 + 1 * 2 ^ 33 * down e) (omega arith))

minus-most : (n C : ℕ) → 0 < C → T (le (round binary64 true n C) furthest)
unfolding round of_bits
minus-most n C d = rw neg-round (neg-most (round binary64 false n C) (round_mono binary64 0 1 n C (omega arith) d (omega arith)))

-- X / C, with a minus sign only where it is a zero, less Y / C
less-most : (s : Bool) (X Y C : ℕ) → 0 < C → X ≤ 8589934592 * C → T (le (sum binary64 s X true Y C) furthest)
unfolding sum
less-most true X Y C d h = minus-most (X + Y) C d
less-most false X Y C d h = go (ltb X Y)
  where
    go : (b : Bool) → T (le (cond b (round binary64 true (Y - X) C) (round binary64 (false && ltb Y X) (X - Y) C)) furthest)
    go true = minus-most (Y - X) C d
    go false = (round-within (X - Y) C d (omega arith)).high

less-value : (x y : Float) (n : ℕ) → Position x → HasValue y false n 1 → T (le (sub binary64 x y) furthest)
unfolding sub neg add of_bits le lt eq
less-value nan y n h v = absurd h.high
less-value (inf true) y n h v = absurd h.low
less-value (inf false) y n h v = absurd h.high
less-value (fin s m e) nan n h v = absurd v
less-value (fin s m e) (inf u) n h v = absurd v
less-value (fin s m e) (fin true q g) n h v = absurd (true≢false v.0)
less-value (fin s m e) (fin false q g) n h v =
    less-most s (m * up e * down g) (q * up g * down e) (down e * down g) (mul-pos (down_pos e) (down_pos g))
    (spread (m * up e) (down e) (down g) (size_of 33 s m e h.low h.high).0)
  where
    spread : (A D G : ℕ) → A ≤ 2 ^ 33 * D → A * G ≤ 8589934592 * (D * G)
    spread A D G a = let x : A * G ≤ 2 ^ 33 * D * G = mul-le-mul_right G a in omega arith

pub less : (p : Float) (n : ℕ) → Position p → n ≤ 2 ^ 53 → T (le (sub binary64 p (double n)) furthest)
less p n h l = less-value p (double n) n h (double-value n l)

-- ---- where a frame is read
-- a float from 0 on whose whole part is below 2 ^ 32
part-below : (p : Float) → Position p → to_unsigned 64 p < 4294967296 → T (le p bound)
unfolding to_unsigned of_bits le lt eq
part-below nan h w = absurd h.high
part-below (inf true) h w = absurd h.low
part-below (inf false) h w = absurd h.high
part-below (fin true m e) h w =
    let z : m * up e ≡ 0 = zero_of m e h.low in
    let d : 0 < down e = down_pos e in
    left (ltb 0 (m * up e * 1 + 1 * 2 ^ 32 * down e)) _ (lt→ltb 0 (m * up e * 1 + 1 * 2 ^ 32 * down e) (omega arith))
part-below (fin false m e) h w =
    let d : 0 < down e = down_pos e in
    let q : m * up e / down e < 4294967296 = omega arith in
    let r : m * up e < 4294967296 * down e = (div-lt_iff_lt-mul d).0 q in
    left (ltb (m * up e * 1) (1 * 2 ^ 32 * down e)) _ (lt→ltb (m * up e * 1) (1 * 2 ^ 32 * down e) (omega arith))

-- the turns' sizes, N frames, taken off a position whose whole part is t: what is left is at most L
turned : (A D t N L : ℕ) → 0 < D → t * D ≤ A → A < (t + 1) * D → N ≤ t → t < L + N → L ≤ 4294967296 → (N * D ≤ A) × (A - N * D ≤ 4294967296 * D)
turned A D t N L d a b n l k =
    let x : N * D ≤ t * D = mul-le-mul_right D n in
    let y : (t + 1) * D ≤ (L + N) * D = mul-le-mul_right D (omega arith) in
    let z : L * D ≤ 4294967296 * D = mul-le-mul_right D k in
    (omega arith, omega arith)

taken-off : (p : Float) (t N L : ℕ) → Position p → t ≡ to_unsigned 64 p → 0 < t → N ≤ t → t < L + N → L ≤ 4294967296 → T (le (sub binary64 p (double N)) bound)
unfolding to_unsigned of_bits le lt eq round
taken-off nan t N L h q z n l k = absurd h.high
taken-off (inf true) t N L h q z n l k = absurd h.low
taken-off (inf false) t N L h q z n l k = absurd h.high
taken-off (fin true m e) t N L h q z n l k = absurd (lt_irrefl 0 (subst (λ (i : ℕ). 0 < i) q z))
taken-off (fin false m e) t N L h q z n l k =
    let D = down e in
    let A = m * up e in
    let d : 0 < D = down_pos e in
    let w : min (A / D) (2 ^ 64 - 1) ≤ 8589934592 = (position-within (fin false m e) h).small in
    let f : t ≡ A / D = omega arith in
    let a : t * D ≤ A = subst (λ (i : ℕ). i * D ≤ A) (sym f) (div-mul-le_self A D) in
    let b : A < (t + 1) * D = subst (λ (i : ℕ). A < i * D) (sym (ap suc f) ∙ sym (add-one t)) ((div-lt_iff_lt-mul d).0 (omega arith)) in
    let g = turned A D t N L d a b n l k in
    subst (λ (x : Float). T (le x bound)) (sym (differ binary64 (fin false m e) (double N) A D N d (refl, refl) (double-value N (omega arith)) g.0))
    (round_mono binary64 (A - N * D) D 4294967296 1 d (omega arith) (omega (arith, g.1)))

-- the turns that a whole part t asks for
count : (t L S : ℕ) → 0 < S → S ≤ L → L ≤ t → (((t - L) / S + 1) * S ≤ t) × (t < L + ((t - L) / S + 1) * S)
count t L S z s h =
    let a : (t - L) / S * S ≤ t - L = div-mul-le_self (t - L) S in
    let b : t - L < suc ((t - L) / S) * S = (div-lt_iff_lt-mul z).0 (omega arith) in
    (omega arith, omega arith)

pub looped-low : (a b : ℕ) (p : Float) → a ≤ b → b < 4294967295 → Position p → T (fits binary64 p) → T (le (looped a b p) bound)
unfolding looped
looped-low a b p l k h f = go (leb (b + 1) t) (leb→le (b + 1) t) (nleb→lt (b + 1) t)
  where
    t : ℕ
    t = to_unsigned 64 p

    go : (x : Bool) → (T x → b + 1 ≤ t) → (T (not x) → t < b + 1) → T (le (less_while (double (b + 1)) (double (b + 1 - a)) 8589934592 p) bound)
    go true y n =
        let g : b + 1 ≤ t = y tt in
        let c = count t (b + 1) (b + 1 - a) (omega arith) (omega arith) g in
        subst (λ (x : Float). T (le x bound)) (wraps p t (b + 1) (b + 1 - a) h f refl (omega arith) (omega arith) g).0
        (taken-off p t (((t - (b + 1)) / (b + 1 - a) + 1) * (b + 1 - a)) (b + 1) h refl (omega arith) c.0 c.1 (omega arith))
    go false y n =
        let g : t < b + 1 = n tt in
        subst (λ (x : Float). T (le x bound)) (stays p t (b + 1) (double (b + 1 - a)) 8589934592 h refl g (omega arith)) (part-below p h (omega arith))

-- before `last`
endless : Position (inf false) → ⊥
unfolding of_bits le lt eq
endless h = h.high

far : (last m : ℕ) (e : ℤ) → last < 4294967296 → 4294967296 ≤ m * up e / down e → T (le (double last) (fin false m e))
far last m e l h =
    let a : m * up e / down e * down e ≤ m * up e = div-mul-le_self (m * up e) (down e) in
    let b : last * down e ≤ m * up e / down e * down e = mul-le-mul_right (down e) (omega arith) in
    le_of_values (double last) (fin false m e) last 1 (m * up e) (down e) (omega arith) (down_pos e) (double-value last (omega arith)) (refl, refl) (omega arith)

not-far : (last : ℕ) (p : Float) → last < 4294967296 → Position p → le (double last) p ≡ false → 4294967296 ≤ to_unsigned 64 p → ⊥
unfolding to_unsigned
not-far last nan l h q w = let z : 4294967296 ≤ 0 = w in omega arith
not-far last (inf true) l h q w = let z : 4294967296 ≤ 0 = w in omega arith
not-far last (inf false) l h q w = absurd (endless h)
not-far last (fin true m e) l h q w = let z : 4294967296 ≤ 0 = w in omega arith
not-far last (fin false m e) l h q w = true≢false (sym (is_true _ (far last m e l (omega arith))) ∙ q)

before_last : (last : ℕ) (p : Float) → last < 4294967295 → Position p → le (double last) p ≡ false → T (le p bound)
before_last last p l h q = go (ltb (to_unsigned 64 p) 4294967296) (ltb→lt _ _) (nltb→le _ _)
  where
    go : (x : Bool) → (T x → to_unsigned 64 p < 4294967296) → (T (not x) → 4294967296 ≤ to_unsigned 64 p) → T (le p bound)
    go true y n = part-below p h (y tt)
    go false y n = absurd (not-far last p (omega arith) h q (n tt))

low : (lp : Option LoopRt) (last : ℕ) (p : Float) → last < 4294967295 → Wrapped lp p → Position p → at_end lp last p ≡ false → T (le p bound)
unfolding at_end
low None last p l w h q = before_last last p l h q
low (Some lp) last p l w h q = w

pub current-ok : (s : EgState) (mode : LoopMode) (lp : Option LoopRt) → LoopOk lp → LoopOk (current_loop s mode lp)
unfolding current_loop
current-ok s NoLoop lp ok = tt
current-ok s OneShot lp ok = tt
current-ok s Continuous lp ok = ok
current-ok s Sustain lp ok = go (is_released s)
  where
    go : (b : Bool) → LoopOk (cond b None lp)
    go true = tt
    go false = ok

-- the position of the fade's frame is at most 2 ^ 33
pub fade-start : (a b : ℕ) (size p : Float) → (a ≤ b) × (b < 4294967295) × (size ≡ double (b + 1 - a)) → Position p → T (le (sub binary64 p size) furthest)
fade-start a b size p ok h =
    subst (λ (x : Float). T (le (sub binary64 p x) furthest)) (sym ok.2) (less p (b + 1 - a) h (omega (arith, ok.1)))

-- the position after a frame at p
pub next-position : (s : Float) (last : ℕ) (lp : Option LoopRt) (p : Float) (e : Bool) → last < 4294967295 → Wrapped lp p → Position p → e ≡ at_end lp last p → e ≡ false → Step s
    → Position (add binary64 p s)
next-position s last lp p e l w h d n st = moved p s h.low (low lp last p l w h (sym d ∙ n)) st

-- the fast release leaves the position
pub frame-position : (e : Float) (was : Bool) (v : Source) → Position v.hot.pos → Position (frame_after e was v).hot.pos
unfolding frame_after fast_off
frame-position e was v h = go (ends_now was v.hot)
  where
    go : (b : Bool) → Position (cond b (fast_off v.hot) v.hot).pos
    go true = h
    go false = h
