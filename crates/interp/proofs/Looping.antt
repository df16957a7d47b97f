-- A loop's size comes off a position exactly, so that any number of turns is one difference. Assumes nothing.
use Rattle.std.proofs.Common.{◌≡◌, ℕ, zero, suc, ◌+◌, ◌-◌, ◌*◌, ◌/◌, ◌%◌, ◌^◌, ◌<◌, ◌≤◌, min, Bool, true, false, not, ◌&&◌, T, eqb, ltb, leb, ℤ, pos, negsuc, sym, refl, ap, ◌∙◌, subst, true≢false, le_trans, le_refl, lt_of_lt_of_le, lt_irrefl, mul-le-mul_right, mul_assoc, div-lt_iff_lt-mul, mul-le-mul_left, mul-pos, zero-mul, mul-one, div-mul-le_self, add-one, arith, eqb→eq, ltb→lt, leb→le, pow_mono, pow-add, shl_lt}
use native.Mathlib.Nat.{zero-div}
use lib.Dec.{nleb→lt}
use lib.Pow.{pow-lt}
use lib.Ieee.Back.{round_whole}
use lib.Ieee.Bits.{is_true}
use lib.Ieee.Digits.{back}
use lib.Ieee.Exact.{HasValue, round_exact}
use lib.Ieee.Fits.{down_pos, and_l, and_r}
use lib.Ieee.Order.{transfer, le_of_values}
use lib.Ieee.{Float, nan, inf, fin, binary64, prec, low, up, down, round, sub, le, lt, eq, of_int, of_bits, to_unsigned, fits}
use Rattle.interp.specs.Position.{Position, double, floored, less_while, first, furthest}
use Rattle.interp.proofs.Difference.{differ}
use Rattle.interp.proofs.Floor.{floor-zero, zero-eq}
use Rattle.interp.proofs.Range.{at_most, position-within, position-most}

-- ---- a denominator of doubles
pub record Grid (D : ℕ) : Type 0 where
  pub j : ℕ
  pub few : j ≤ low binary64
  pub is : 2 ^ j * D ≡ 2 ^ low binary64

room : (j l : ℕ) → j ≤ l → 53 + j ≤ l + 1024
room j l h = omega arith

pub exact : (u D : ℕ) → Grid D → 0 < D → u < 2 ^ prec binary64 → HasValue (round binary64 false u D) false u D
exact u D g d h =
    round_exact binary64 false u D u g.j d h
    (lt_of_lt_of_le (shl_lt (prec binary64) g.j h) (pow_mono (room g.j (low binary64) g.few)))
    (ap (λ (z : ℕ). u * z) (sym g.is) ∙ sym (mul_assoc u (2 ^ g.j) D))

shifts : (k l : ℕ) → 2 ^ k ≤ 2 ^ l → k ≤ l
shifts k l h = go (leb k l) (leb→le k l) (nleb→lt k l)
  where
    go : (b : Bool) → (T b → k ≤ l) → (T (not b) → l < k) → k ≤ l
    go true f g = f tt
    go false f g = absurd (lt_irrefl (2 ^ l) (lt_of_lt_of_le (pow-lt (g tt)) h))

less-le : (l k : ℕ) → l - k ≤ l
less-le l k = omega arith

pub grid-of : (e : ℤ) → down e ≤ 2 ^ low binary64 → Grid (down e)
grid-of (pos k) h = record { j = low binary64; few = le_refl (low binary64); is = mul-one (2 ^ low binary64) }
grid-of (negsuc k) h =
    let s : suc k ≤ low binary64 = shifts (suc k) (low binary64) h in
    record {
      j = low binary64 - suc k;
      few = less-le (low binary64) (suc k);
      is = sym (pow-add 2 (low binary64 - suc k) (suc k)) ∙ ap (λ (z : ℕ). 2 ^ z) (back (low binary64) (suc k) s);
    }

-- ---- a whole number comes off
pub double-value : (n : ℕ) → n ≤ 2 ^ 53 → HasValue (double n) false n 1
unfolding of_int
double-value n h = round_whole binary64 false n h

-- ---- the test of the loop
refute : (b : Bool) → (T b → ⊥) → b ≡ false
refute true f = absurd (f tt)
refute false f = refl

pub le-values : (x y : Float) (a c b d : ℕ) → HasValue x false a c → HasValue y false b d → T (le x y) → a * d ≤ b * c
unfolding le lt eq
le-values nan y a c b d p q t = absurd p
le-values (inf s) y a c b d p q t = absurd p
le-values (fin true m e) y a c b d p q t = absurd (true≢false p.0)
le-values (fin false m e) nan a c b d p q t = absurd q
le-values (fin false m e) (inf s) a c b d p q t = absurd q
le-values (fin false m e) (fin true n g) a c b d p q t = absurd (true≢false q.0)
le-values (fin false m e) (fin false n g) a c b d p q t =
    transfer a b c d (m * up e) (n * up g) (down e) (down g) (down_pos e) (down_pos g) (sym p.1) (sym q.1)
    (at_most (m * up e * down g) (n * up g * down e) _ t)

module _ (L D : ℕ) (d : 0 < D) (l : L ≤ 2 ^ 53) (x : Float) (A : ℕ) (v : HasValue x false A D) where
  reaches : L * D ≤ A → le (double L) x ≡ true
  reaches h = is_true _ (le_of_values (double L) x L 1 A D (omega arith) d (double-value L l) v (omega arith))

  short : A < L * D → le (double L) x ≡ false
  short h = refute (le (double L) x) (λ (t : T (le (double L) x)). clash (L * D) A (le-values (double L) x L 1 A D (double-value L l) v t) h)
    where
      clash : (a b : ℕ) → a ≤ b * 1 → b < a → ⊥
      clash a b p q = omega arith

-- ---- the turns
pub still : (limit size : Float) (n : ℕ) (x : Float) → le limit x ≡ false → less_while limit size n x ≡ x
unfolding less_while
still limit size zero x p = refl
still limit size (suc n) x p = rw p

turn : (limit size : Float) (n : ℕ) (x : Float) → le limit x ≡ true → less_while limit size (suc n) x ≡ less_while limit size n (sub binary64 x size)
unfolding less_while
turn limit size n x p = rw p

module _ (L S D : ℕ) (d : 0 < D) (g : Grid D) (l : L ≤ 2 ^ 53) (s : S ≤ L) where
  -- j + 1 of them, where the value A / D is that far above the limit
  turns : (j n : ℕ) (x : Float) (A : ℕ) → j < n → HasValue x false A D → A < 2 ^ 53 → (L + j * S) * D ≤ A → A < (L + suc j * S) * D
      → less_while (double L) (double S) n x ≡ round binary64 false (A - suc j * S * D) D
  turns j zero x A h v b lo hi = absurd (none j h)
    where
      none : (k : ℕ) → k < 0 → ⊥
      none k h = omega arith
  turns zero (suc n) x A h v b lo hi =
      let sd : S * D ≤ L * D = mul-le-mul_right D s in
      let y = round binary64 false (A - S * D) D in
      let e : sub binary64 x (double S) ≡ y = differ binary64 x (double S) A D S d v (double-value S (omega arith)) (omega arith) in
      turn (double L) (double S) n x (reaches L D d l x A v (omega arith))
      ∙ ap (less_while (double L) (double S) n) e
      ∙ still (double L) (double S) n y (short L D d l y (A - S * D) (exact (A - S * D) D g d (omega arith)) (omega arith))
      ∙ ap (λ (z : ℕ). round binary64 false z D) (omega arith)
  turns (suc j) (suc n) x A h v b lo hi =
      let sd : S * D ≤ L * D = mul-le-mul_right D s in
      let y = round binary64 false (A - S * D) D in
      let e : sub binary64 x (double S) ≡ y = differ binary64 x (double S) A D S d v (double-value S (omega arith)) (omega arith) in
      turn (double L) (double S) n x (reaches L D d l x A v (omega arith))
      ∙ ap (less_while (double L) (double S) n) e
      ∙ turns j n y (A - S * D) (omega arith) (exact (A - S * D) D g d (omega arith)) (omega arith) (omega arith) (omega arith)
      ∙ ap (λ (z : ℕ). round binary64 false z D) (omega arith)

-- ---- a position
-- its digits: a numerator below 2 ^ 53 and a denominator of doubles
pub digits : (m : ℕ) (e : ℤ) → T (fits binary64 (fin false (suc m) e)) → (suc m < 2 ^ 53) × (down e ≤ 2 ^ low binary64)
unfolding fits
digits m e t =
    let a : Bool = eqb (suc m % 2) 1 in
    let b : Bool = ltb (suc m) (2 ^ 53) in
    let c : Bool = leb (down e) (2 ^ 1074) in
    let f : Bool = ltb (suc m * up e) (2 ^ 1024 * down e) in
    (ltb→lt (suc m) (2 ^ 53) (and_r a b (and_l (a && b) c (and_l (a && b && c) f t))), leb→le (down e) (2 ^ 1074) (and_r (a && b) c (and_l (a && b && c) f t)))

pub numerator : (m : ℕ) (e : ℤ) → suc m < 2 ^ 53 → suc m * up e ≤ 8589934592 * down e → suc m * up e < 2 ^ 53
numerator m (pos k) a b = omega arith
numerator m (negsuc k) a b = omega arith

-- the whole part t of A / D, and the turns that it asks for
module _ (A D t L S : ℕ) (d : 0 < D) (T0 : t * D ≤ A) (T1 : A < (t + 1) * D) (z : 0 < S) (h : L ≤ t) where
  count : ((t - L) / S * S ≤ t - L) × (t - L < ((t - L) / S + 1) * S)
  count =
      (div-mul-le_self (t - L) S, subst (λ (k : ℕ). t - L < k * S) (sym (add-one ((t - L) / S))) ((div-lt_iff_lt-mul z).0 (omega arith)))

  enough : (L + (t - L) / S * S) * D ≤ A
  enough = le_trans (mul-le-mul_right D (omega (arith, count.0))) T0

  no_more : A < (L + suc ((t - L) / S) * S) * D
  no_more = lt_of_lt_of_le T1 (mul-le-mul_right D (omega (arith, count.1)))

  few-turns : t ≤ 8589934592 → 0 < L → (t - L) / S < 8589934592
  few-turns k p = omega (arith, count.0, mul-le-mul_left ((t - L) / S) z)

-- p less the turns' sizes at once
module _ (t L S : ℕ) (z : 0 < S) (s : S ≤ L) (h : L ≤ t) (w : t ≤ 8589934592) where
  far : (m : ℕ) (e : ℤ) → Position (fin false (suc m) e) → T (fits binary64 (fin false (suc m) e)) → t ≡ suc m * up e / down e
      → (sub binary64 (fin false (suc m) e) (double (((t - L) / S + 1) * S)) ≡ less_while (double L) (double S) 8589934592 (fin false (suc m) e))
      × Position (sub binary64 (fin false (suc m) e) (double (((t - L) / S + 1) * S)))
  unfolding of_bits
  far m e p f q =
      let A = suc m * up e in
      let D = down e in
      let d : 0 < D = down_pos e in
      let j = (t - L) / S in
      let g : Grid D = grid-of e (digits m e f).1 in
      let most : A ≤ 8589934592 * D = position-most (suc m) e p in
      let small : A < 2 ^ 53 = numerator m e (digits m e f).0 most in
      let T0 : t * D ≤ A = subst (λ (k : ℕ). k * D ≤ A) (sym q) (div-mul-le_self A D) in
      let T1 : A < (t + 1) * D = subst (λ (k : ℕ). A < k * D) (sym (ap suc q) ∙ sym (add-one t)) ((div-lt_iff_lt-mul d).0 (omega arith)) in
      let lo : (L + j * S) * D ≤ A = enough A D t L S d T0 T1 z h in
      let hi : A < (L + suc j * S) * D = no_more A D t L S d T0 T1 z h in
      let c : j * S ≤ t - L = (count A D t L S d T0 T1 z h).0 in
      let sd : S * D ≤ L * D = mul-le-mul_right D s in
      let one : j + 1 ≡ suc j = add-one j in
      let all : suc j * S ≤ 2 ^ 53 = omega arith in
      let fits_in : suc j * S * D ≤ A = omega arith in
      let x = fin false (suc m) e in
      let e1 : sub binary64 x (double ((j + 1) * S)) ≡ round binary64 false (A - suc j * S * D) D = ap (λ (k : ℕ). sub binary64 x (double (k * S))) one ∙ differ binary64 x (double (suc j * S)) A D (suc j * S) d (refl, refl) (double-value (suc j * S) all) fits_in in
      let e2 = turns L S D d g (omega arith) s j 8589934592 x A (few-turns A D t L S d T0 T1 z h w (omega arith)) (refl, refl) small lo hi in
      let v : HasValue (round binary64 false (A - suc j * S * D) D) false (A - suc j * S * D) D = exact (A - suc j * S * D) D g d (omega arith) in (
        e1 ∙ sym e2,
        subst (λ (y : Float). Position y) (sym e1)
            record {
              low = le_of_values first (round binary64 false (A - suc j * S * D) D) 0 1 (A - suc j * S * D) D (omega arith) d (refl, refl) v (omega arith);
              high = le_of_values (round binary64 false (A - suc j * S * D) D) furthest (A - suc j * S * D) D 8589934592 1 d (omega arith) v (refl, refl) (omega arith);
            },
      )

pub turns-small : (t L S : ℕ) → 0 < S → L ≤ t → t ≤ 8589934592 → ((t - L) / S + 1 ≤ 8589934593) × (((t - L) / S + 1) * S ≤ t - L + S)
turns-small t L S z h w =
    let c : (t - L) / S * S ≤ t - L = div-mul-le_self (t - L) S in
    let k : (t - L) / S * 1 ≤ (t - L) / S * S = mul-le-mul_left ((t - L) / S) z in
    (omega arith, omega arith)

no_room : (t L S : ℕ) → 0 < S → S ≤ L → L ≤ t → t ≡ 0 → ⊥
no_room t L S z s h q = omega arith

uncut : (a c w : ℕ) → min a c ≤ w → w < c → min a c ≡ a
uncut a c w h k = omega arith

unbounded : Position (inf false) → ⊥
unfolding le lt eq of_bits
unbounded p = p.high

pub wraps : (p : Float) (t L S : ℕ) → Position p → T (fits binary64 p) → t ≡ to_unsigned 64 p → 0 < S → S ≤ L → L ≤ t
    → (sub binary64 p (double (((t - L) / S + 1) * S)) ≡ less_while (double L) (double S) 8589934592 p) × Position (sub binary64 p (double (((t - L) / S + 1) * S)))
unfolding to_unsigned
wraps nan t L S p f q z s h = absurd (no_room t L S z s h q)
wraps (inf true) t L S p f q z s h = absurd (no_room t L S z s h q)
wraps (inf false) t L S p f q z s h = absurd (unbounded p)
wraps (fin true m e) t L S p f q z s h = absurd (no_room t L S z s h q)
wraps (fin false zero e) t L S p f q z s h = absurd (no_room t L S z s h (q ∙ nothing))
  where
    nothing : min (0 * up e / down e) (2 ^ 64 - 1) ≡ 0
    nothing = let k : 0 * up e / down e ≡ 0 = ap (λ (z : ℕ). z / down e) (zero-mul (up e)) ∙ zero-div (down e) in omega arith
wraps (fin false (suc m) e) t L S p f q z s h =
    let w : min (suc m * up e / down e) (2 ^ 64 - 1) ≤ 8589934592 = (position-within (fin false (suc m) e) p).small in
    far t L S z s h (subst (λ (k : ℕ). k ≤ 8589934592) (sym q) w) m e p f (q ∙ uncut (suc m * up e / down e) (2 ^ 64 - 1) 8589934592 w (omega arith))

-- ---- a position that is below the limit stays
minus-short : (x : Float) (L m : ℕ) (e : ℤ) → HasValue x false L 1 → 0 < L → 0 * 1 * down e ≡ m * up e * 1 → T (le x (fin true m e)) → ⊥
unfolding le lt eq
minus-short nan L m e v l z t = v
minus-short (inf s) L m e v l z t = v
minus-short (fin true q g) L m e v l z t = true≢false v.0
minus-short (fin false q g) L m e v l z t =
    let a : q * up g * down e ≡ m * up e * down g = eqb→eq (q * up g * down e) (m * up e * down g) (and_l (eqb (q * up g * down e) (m * up e * down g)) _ t) in
    let k : q * up g ≡ L * down g = sym (mul-one (q * up g)) ∙ v.1 in
    let n : m * up e ≡ 0 = omega arith in
    let b : m * up e * down g ≡ 0 = ap (λ (y : ℕ). y * down g) n ∙ zero-mul (down g) in
    let c : 0 < L * down g * down e = mul-pos (mul-pos l (down_pos g)) (down_pos e) in
    lt_irrefl 0 (subst (λ (y : ℕ). 0 < y) (sym (ap (λ (y : ℕ). y * down e) k) ∙ a ∙ b) c)

pub stays : (p : Float) (t L : ℕ) (size : Float) (n : ℕ) → Position p → t ≡ to_unsigned 64 p → t < L → L ≤ 4294967296 → p ≡ less_while (double L) size n p
unfolding to_unsigned le lt eq of_bits
stays nan t L size n p q h l = absurd p.high
stays (inf true) t L size n p q h l = absurd p.low
stays (inf false) t L size n p q h l = absurd p.high
stays (fin true m e) t L size n p q h l =
    sym (still (double L) size n (fin true m e)
    (refute (le (double L) (fin true m e))
    (minus-short (double L) L m e (double-value L (omega arith)) (omega arith) (eqb→eq (0 * 1 * down e) (m * up e * 1) (and_l (eqb (0 * 1 * down e) (m * up e * 1)) _ p.low)))))
stays (fin false m e) t L size n p q h l =
    let d : 0 < down e = down_pos e in
    let w : min (m * up e / down e) (2 ^ 64 - 1) ≤ 8589934592 = (position-within (fin false m e) p).small in
    let k : m * up e / down e < L = omega arith in
    sym (still (double L) size n (fin false m e) (short L (down e) d (omega arith) (fin false m e) (m * up e) (refl, refl) ((div-lt_iff_lt-mul d).0 k)))

-- ---- a whole number above a position is above its floor
pub floor-below : (n : ℕ) (p : Float) → Position p → T (fits binary64 p) → n ≤ 2 ^ 53 → le (double n) p ≡ false → le (double n) (floored p) ≡ false
unfolding to_unsigned le lt eq of_bits floored
floor-below n nan h f l b = absurd h.high
floor-below n (inf true) h f l b = absurd h.low
floor-below n (inf false) h f l b = absurd h.high
floor-below n (fin true m e) h f l b =
    let z : 0 * 1 * down e ≡ m * up e * 1 = eqb→eq (0 * 1 * down e) (m * up e * 1) (and_l (eqb (0 * 1 * down e) (m * up e * 1)) _ h.low) in
    subst (λ (x : Float). le (double n) x ≡ false) (floor-zero (fin true m e) f (subst T (sym (zero-eq m e z)) tt)) b
floor-below n (fin false m e) h f l b =
    let w : min (m * up e / down e) (2 ^ 64 - 1) ≤ 8589934592 = (position-within (fin false m e) h).small in
    let k : m * up e / down e ≤ 8589934592 = omega arith in
    let v : HasValue (round binary64 false (m * up e / down e) 1) false (m * up e / down e) 1 = round_whole binary64 false (m * up e / down e) (omega arith) in
    refute (le (double n) (round binary64 false (m * up e / down e) 1))
    (λ (t : T (le (double n) (round binary64 false (m * up e / down e) 1))).
    let a : n * 1 ≤ m * up e / down e * 1 = le-values (double n) (round binary64 false (m * up e / down e) 1) n 1 (m * up e / down e) 1 (double-value n l) v t in
    let c : n * down e ≤ m * up e / down e * down e = mul-le-mul_right (down e) (omega arith) in
    true≢false (sym (reaches n (down e) (down_pos e) l (fin false m e) (m * up e) (refl, refl) (le_trans c (div-mul-le_self (m * up e) (down e)))) ∙ b))
