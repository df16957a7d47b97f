-- The table is read inside it, and a tap by its place in the table is the definition's. Assumes nothing.
-- Of a magnitude below 16, 512 times that is at most 8192.
use Rattle.std.proofs.Common.{◌≡◌, ℕ, zero, suc, ◌+◌, ◌*◌, ◌^◌, ◌<◌, ◌≤◌, Bool, true, false, cond, not, T, ltb, ◌≢◌, List, length, get_or, set, sym, refl, ap, ◌∙◌, subst, inl, inr, lt_irrefl, eq-or-lt_of_le, arith, ltb→lt, get_or-set_other, get_or-set_same, le-leb}
use lib.Ieee.Fits.{down_pos}
use lib.Ieee.Order.{round_mono}
use lib.Ieee.{Float, nan, inf, fin, Format, binary32, prec, emax, low, up, down, lt, le, eq, mul, round, units, odd, is_nan, of_bits, to_unsigned}
use Rattle.exact.specs.Value.{plus}
use Rattle.exact.specs.Single.{◌⊗◌, ◌⊖◌, single, f16, f512, f8193}
use Rattle.exact.specs.Order.{magnitude}
use Rattle.interp.specs.Sinc.{window_at, crossings_of, tapped}
use Rattle.interp.specs.Places.{place_of, entry_of, part_of, weight_at, tapped_by, Placed}
use Rattle.interp.specs.Sinc.{Sums}
use Rattle.interp.specs.declared.sinc.SincSpan.{SincSpan}
use Rattle.interp.proofs.Range.{Within, within}

pub in_table : (u : Float) → T (plus u) → T (lt u f16) → Within 8192 (u ⊗ f512)
unfolding lt mul of_bits
in_table nan p t = absurd p
in_table (inf s) p t = absurd p
in_table (fin true m e) p t = absurd p
in_table (fin false m e) p t =
    let d : 0 < down e = down_pos e in
    let h : m * up e * 1 < 1 * 2 ^ 4 * down e = ltb→lt (m * up e * 1) (1 * 2 ^ 4 * down e) t in
    within 13 (round binary32 false (m * up e * (1 * 2 ^ 9)) (down e * 1)) (omega arith)
    (round_mono binary32 0 1 (m * up e * (1 * 2 ^ 9)) (down e * 1) (omega arith) (omega arith) (omega arith))
    (round_mono binary32 (m * up e * (1 * 2 ^ 9)) (down e * 1) 8192 1 (omega arith) (omega arith) (omega arith))

-- a magnitude below 16 is finite
pub magnitude-plus : (v : Float) → T (lt (magnitude v) f16) → T (plus (magnitude v))
unfolding magnitude lt of_bits
magnitude-plus nan t = absurd t
magnitude-plus (inf s) t = absurd t
magnitude-plus (fin s m e) t = tt

-- ---- 512 times a magnitude has no minus sign
abbrev pub signless : Float → Bool
signless nan = false
signless (inf s) = not s
signless (fin s m e) = not s

odd-signless : (d q k l : ℕ) → T (signless (odd d false q k l))
unfolding odd
odd-signless d zero k l = tt
odd-signless d (suc q) k l = tt

either : (b : Bool) (x y : Float) → T (signless x) → T (signless y) → T (signless (cond b x y))
either true x y p q = p
either false x y p q = q

units-signless : (f : Format) (q k : ℕ) → T (signless (units f false q k))
unfolding units
units-signless f q k =
    either (ltb (q * 2 ^ k) (2 ^ (low f + suc (emax f)))) (odd (suc (prec f)) false q k (low f)) (inf false) (odd-signless (suc (prec f)) q k (low f)) tt

pub round-signless : (f : Format) (n d : ℕ) → T (signless (round f false n d))
unfolding round
round-signless f n d = units-signless f _ _

pub bounded : (x : Float) → T (signless x) → T (le x f8193) → T (plus x)
unfolding le lt eq of_bits
bounded nan p t = absurd p
bounded (inf true) p t = absurd p
bounded (inf false) p t = absurd t
bounded (fin true m e) p t = absurd p
bounded (fin false m e) p t = tt

scaled : (u : Float) → T (plus u) → T (lt u f16) → T (plus (u ⊗ f512)) × T (le (u ⊗ f512) f8193)
unfolding lt mul of_bits
scaled nan p t = absurd p
scaled (inf s) p t = absurd p
scaled (fin true m e) p t = absurd p
scaled (fin false m e) p t =
    let d : 0 < down e = down_pos e in
    let h : m * up e * 1 < 1 * 2 ^ 4 * down e = ltb→lt (m * up e * 1) (1 * 2 ^ 4 * down e) t in
    let k = round_mono binary32 (m * up e * (1 * 2 ^ 9)) (down e * 1) 8193 1 (omega arith) (omega arith) (omega arith) in
    (bounded (round binary32 false (m * up e * (1 * 2 ^ 9)) (down e * 1)) (round-signless binary32 (m * up e * (1 * 2 ^ 9)) (down e * 1)) k, k)

-- ---- the place of a tap
pub yes : {b : Bool} → b ≡ true → T b
yes e = subst T (sym e) tt

pub true_of : (b : Bool) → T b → b ≡ true
true_of true t = refl
true_of false t = absurd t

last-plus : T (plus f8193)
unfolding of_bits
last-plus = tt

last-le : T (le f8193 f8193)
unfolding le lt eq of_bits
last-le = tt

last_entry : to_unsigned 64 f8193 ≡ 8193
unfolding to_unsigned of_bits
last_entry = refl

place_at : (b : Bool) (v : Float) → lt (magnitude v) f16 ≡ b → T (plus (place_of v)) × T (le (place_of v) f8193) × (entry_of v ≤ 8193)
unfolding place_of
place_at true v e =
    let t = yes e in
    let p = magnitude-plus v t in
    let s = scaled (magnitude v) p t in
    rw e (s.0, s.1, omega (arith, (in_table (magnitude v) p t).small))
place_at false v e = rw e (last-plus, last-le, omega (arith, last_entry))

-- in the window, where no test is needed
pub place_inside : (v u : Float) → T (lt (magnitude v) f16) → u ≡ magnitude v → u ⊗ f512 ≡ place_of v
unfolding place_of
place_inside v u t e = rw (e, true_of (lt (magnitude v) f16) t)

pub inside-number : (v : Float) → T (lt (magnitude v) f16) → T (not (is_nan v))
unfolding magnitude lt is_nan of_bits
inside-number nan t = absurd t
inside-number (inf s) t = tt
inside-number (fin s m e) t = tt

place-within : (v : Float) → T (plus (place_of v)) × T (le (place_of v) f8193) × (entry_of v ≤ 8193)
place-within v = place_at (lt (magnitude v) f16) v refl

-- the float place y and its whole part t
pub place-fits : (v y : Float) → y ≡ place_of v → T (plus y) × T (le y f8193)
place-fits v y p = rw p ((place-within v).0, (place-within v).1)

pub split : (v y t : Float) → y ≡ place_of v → t ≡ single (to_unsigned 64 y) → (to_unsigned 64 y ≡ entry_of v) × (y ⊖ t ≡ part_of v)
split v y t p q =
    let r : t ≡ single (entry_of v) = q ∙ ap (λ (z : Float). single (to_unsigned 64 z)) p in
    (ap (to_unsigned 64) p, ap (λ (z : Float). z ⊖ t) p ∙ ap (λ (z : Float). place_of v ⊖ z) r)

-- ---- a tap by its place
by-at : (b : Bool) (table : List Float) (v x : Float) (s : Sums) → lt (magnitude v) f16 ≡ b → tapped_by table (entry_of v) (part_of v) x s ≡ tapped table v x s
unfolding tapped_by weight_at place_of tapped window_at
by-at true table v x s e =
    let t = yes e in
    rw (e, le-leb (to_unsigned 64 (magnitude v ⊗ f512)) 8192 (in_table (magnitude v) (magnitude-plus v t) t).small)
by-at false table v x s e = rw (e, last_entry)

pub by_place : (table : List Float) (v x : Float) (s : Sums) → tapped_by table (entry_of v) (part_of v) x s ≡ tapped table v x s
by_place table v x s = by-at (lt (magnitude v) f16) table v x s refl

-- ---- one place more
module _ (span : SincSpan) (f : Float) (es : List ℕ) (gs : List Float) (k : ℕ) where
  pub placed-none : Placed span f es gs 0
  placed-none = record { entry = λ (j : ℕ) (h : j < 0). absurd (none j h); part = λ (j : ℕ) (h : j < 0). absurd (none j h) }
    where
      none : (j : ℕ) → j < 0 → ⊥
      none j h = omega arith

  pub placed-fewer : (j : ℕ) → j ≤ k → Placed span f es gs k → Placed span f es gs j
  placed-fewer j a p =
      record { entry = λ (t : ℕ) (h : t < j). p.entry t (omega arith); part = λ (t : ℕ) (h : t < j). p.part t (omega arith) }

  pub placed-more : (i : ℕ) (g : Float) → Placed span f es gs k → k < length es → k < length gs → i ≡ entry_of (crossings_of span f k) → g ≡ part_of (crossings_of span f k)
      → Placed span f (set es k i) (set gs k g) (k + 1)
  placed-more i g p a b q r =
      record {
        entry = below-more-at es (λ (j : ℕ) (x : ℕ). x ≡ entry_of (crossings_of span f j)) 0 i p.entry a q;
        part = below-more-at gs (λ (j : ℕ) (x : Float). x ≡ part_of (crossings_of span f j)) nan g p.part b r;
      }
    where
      other : (j : ℕ) → j < k → j ≢ k
      other j s e = lt_irrefl k (subst (λ (z : ℕ). z < k) e s)

      below-more-at : {A : Type 0} (l : List A) (P : ℕ → A → Type 0) (d y : A) → ((j : ℕ) → j < k → P j (get_or l j d)) → k < length l → P k y
          → (j : ℕ) → j < k + 1 → P j (get_or (set l k y) j d)
      below-more-at l P d y f h q j t = elim (eq-or-lt_of_le {n = j} {m = k} (omega arith)) [
        | inl e ↦ subst (λ (z : ℕ). P z (get_or (set l k y) z d)) (sym e) (subst (P k) (sym (get_or-set_same l k y d h)) q)
        | inr s ↦ subst (P j) (sym (get_or-set_other l k j y d (other j s))) (f j s)
      ]

  -- by the place y and its whole part w
  pub placed-next : (n : ℕ) (y w : Float) (i : ℕ) → n ≡ k + 1 → y ≡ place_of (crossings_of span f k) → w ≡ single (to_unsigned 64 y) → i ≡ to_unsigned 64 y
      → Placed span f es gs k → k < length es → k < length gs → Placed span f (set es k i) (set gs k (y ⊖ w)) n
  placed-next n y w i e a b c p q r =
      let t = split (crossings_of span f k) y w a b in
      subst (λ (z : ℕ). Placed span f (set es k i) (set gs k (y ⊖ w)) z) (sym e) (placed-more i (y ⊖ w) p q r (c ∙ t.0) t.1)
