-- What the tests of `sin` and `cos` say of the argument: it is above 3.2, from 2 ^ -12 to 3.2, from 0 to 2 ^ -12, or none of these. Assumes nothing.
use Rattle.std.proofs.Common.{◌≡◌, ℕ, ◌*◌, ◌^◌, ◌<◌, ◌≤◌, Bool, true, false, not, ◌&&◌, ◌||◌, T, eqb, ltb, ◌⊎◌, ℤ, pos, negsuc, sym, refl, ap, ◌∙◌, subst, inl, inr, true≢false, le_trans, le_of_eq, le_of_lt, mul-le-mul_left, zero-mul, arith, lit≤, eqb→eq, ltb→lt, nltb→le}
use lib.Dec.{eqb_refl}
use lib.Ieee.{Float, nan, inf, fin, binary32, up, down, lt, le, fits}
use lib.Ieee.Fits.{and_l, up_pos, down_pos}
use lib.Ieee.Positive.{num, den}
use Rattle.exact.proofs.Integrals.{no}
use Rattle.elementary.specs.Trigonometric.{FromZero, Trigonometric, Sine, Absolute, Relative, plus_terms, minus_terms, value}
use Rattle.elementary.proofs.ExpFn.{grid-next}
use Rattle.elementary.proofs.Trigonometry.{Argument}
use Rattle.elementary.proofs.SineRelative.{small-relative, small-absolute, zero-relative, zero-absolute, cosine-small}

-- the largest `f32` that is not above 3.2, and 2 ^ -12
abbrev pub last_arg : Float
last_arg = fin false 3355443 (negsuc 19)

abbrev pub least_arg : Float
least_arg = fin false 1 (negsuc 11)

abbrev pub zero_arg : Float
zero_arg = fin false 0 (pos 0)

or_cases : (a b : Bool) → T (a || b) → T a ⊎ T b
or_cases true b t = inl tt
or_cases false b t = inr t

or-false : (a b : Bool) → (a || b) ≡ false → T (not a) × T (not b)
or-false true b e = absurd (true≢false e)
or-false false true e = absurd (true≢false e)
or-false false false e = (tt, tt)

-- ---- above 3.2
pub above-range : (x : Float) → T (fits binary32 x) → T (lt last_arg x) → FromZero 16 5 x → ⊥
unfolding lt
above-range nan f h r = r
above-range (inf s) f h r = r
above-range (fin true m e) f h r = absurd h
above-range (fin false m e) f h r = bad (m * up e) (down e) (down_pos e) (grid-next false 22 13421772 m e f (lit≤ tt) (finer (m * up e) (down e) (ltb→lt (3355443 * 1 * down e) (m * up e * 2 ^ 20) h))) r
  where
    finer : (a d : ℕ) → 3355443 * 1 * d < a * 2 ^ 20 → 13421772 * d < a * 2 ^ 22
    finer a d h = omega arith

    bad : (a d : ℕ) → 0 < d → 13421773 * d ≤ a * 2 ^ 22 → 5 * a ≤ 16 * d → ⊥
    bad a d D h k = omega arith

-- ---- from 2 ^ -12 to 3.2
reached : (s : Bool) (m : ℕ) (e : ℤ) → T (le least_arg (fin s m e)) → (s ≡ false) × (down e ≤ m * up e * 2 ^ 12)
unfolding le
reached true m e h = absurd (no (eqb (1 * 1 * down e) (m * up e * 2 ^ 12)) (eqb (1 * 1 * down e) 0) (λ t. bad (down e) (down_pos e) (eqb→eq (1 * 1 * down e) 0 t)) h)
  where
    no : (a b : Bool) → (T b → ⊥) → T (a && b) → ⊥
    no true b k t = k t
    no false b k t = t

    bad : (d : ℕ) → 0 < d → 1 * 1 * d ≡ 0 → ⊥
    bad d D e = omega arith
reached false m e h = (
  refl,
  elim (or_cases (ltb (1 * 1 * down e) (m * up e * 2 ^ 12)) (eqb (1 * 1 * down e) (m * up e * 2 ^ 12) && true) h) [
    | inl l ↦ under (down e) (m * up e * 2 ^ 12) (ltb→lt (1 * 1 * down e) (m * up e * 2 ^ 12) l)
    | inr q ↦ same (down e) (m * up e * 2 ^ 12) (eqb→eq (1 * 1 * down e) (m * up e * 2 ^ 12) (and_l (eqb (1 * 1 * down e) (m * up e * 2 ^ 12)) true q))
  ],
)
  where
    under : (d a : ℕ) → 1 * 1 * d < a → d ≤ a
    under d a h = omega arith

    same : (d a : ℕ) → 1 * 1 * d ≡ a → d ≤ a
    same d a h = omega arith

pub argument : (x : Float) → lt last_arg x ≡ false → T (le least_arg x) → Argument x
unfolding le
argument nan h k = absurd k
argument (inf false) h k = absurd (true≢false h)
argument (inf true) h k = absurd k
argument (fin true m e) h k = absurd (true≢false (reached true m e k).0)
argument (fin false m e) h k = record { sign = tt; least = (reached false m e k).1; most = under (m * up e) (down e) (nltb→le (3355443 * 1 * down e) (m * up e * 2 ^ 20) (no h)) }
  where
    under : (a d : ℕ) → a * 2 ^ 20 ≤ 3355443 * 1 * d → 5 * a ≤ 16 * d
    under a d h = omega arith

in-range : (x : Float) → Argument x → FromZero 16 5 x
in-range nan S = absurd S.sign
in-range (inf s) S = absurd S.sign
in-range (fin true m e) S = absurd S.sign
in-range (fin false m e) S = S.most

pub up_to : (x : Float) → Argument x → FromZero 3 2 x → 2 * num x ≤ 3 * den x
up_to nan S h = absurd h
up_to (inf s) S h = absurd h
up_to (fin true m e) S h = absurd S.sign
up_to (fin false m e) S h = h

pub at-argument : (k : ℕ) (x r : Float) → Argument x → Absolute (plus_terms k (value x)) (minus_terms k (value x)) r → Trigonometric k x r
at-argument k x r S a = record { inside = λ h. a; outside = λ h. absurd (h (in-range x S)) }

-- ---- no number of the range
pub at_none : (k : ℕ) (x : Float) → (FromZero 16 5 x → ⊥) → Trigonometric k x nan
at_none k x h = record { inside = λ i. absurd (h i); outside = λ i. refl }

within : (x : Float) → FromZero 3 2 x → FromZero 16 5 x
within nan h = h
within (inf s) h = h
within (fin true m e) h = h
within (fin false m e) h = wider (m * up e) (down e) h
  where
    wider : (a d : ℕ) → 2 * a ≤ 3 * d → 5 * a ≤ 16 * d
    wider a d h = omega arith

pub no-sine : (x : Float) → (FromZero 16 5 x → ⊥) → Sine x nan
no-sine x h = record { series = at_none 1 x h; part = λ i. absurd (h (within x i)) }

pub below-range : (x : Float) → le zero_arg x ≡ false → FromZero 16 5 x → ⊥
unfolding le
below-range nan h r = r
below-range (inf s) h r = r
below-range (fin false m e) h r = bad (m * up e) (down e) (or-false (ltb (0 * 1 * down e) (m * up e * 1)) (eqb (0 * 1 * down e) (m * up e * 1) && true) h)
  where
    and-true : (b : Bool) → T (not (b && true)) → T b → ⊥
    and-true true n t = n
    and-true false n t = t

    bad : (a d : ℕ) → T (not (ltb (0 * 1 * d) (a * 1))) × T (not (eqb (0 * 1 * d) (a * 1) && true)) → ⊥
    bad a d t =
        let l : a * 1 ≤ 0 * 1 * d = nltb→le (0 * 1 * d) (a * 1) t.0 in
        let z : 0 * 1 * d ≡ a * 1 = omega arith in
        and-true (eqb (0 * 1 * d) (a * 1)) t.1 (subst (λ (y : ℕ). T (eqb (0 * 1 * d) y)) z (eqb_refl (0 * 1 * d)))
below-range (fin true m e) h r = bad m (up e) (down e) r h
  where
    no : (a b : Bool) → T a → T b → (a && b) ≡ false → ⊥
    no true true s t h = true≢false h
    no true false s t h = t
    no false b s t h = s

    bad : (m u d : ℕ) → m ≡ 0 → (eqb (0 * 1 * d) (m * u * 1) && eqb (0 * 1 * d) 0) ≡ false → ⊥
    bad m u d z h =
        let y : 0 * 1 * d ≡ m * u * 1 = zero-mul d ∙ sym (ap (λ (y : ℕ). y * u * 1) z ∙ ap (λ (y : ℕ). y * 1) (zero-mul u)) in
        no (eqb (0 * 1 * d) (m * u * 1)) (eqb (0 * 1 * d) 0) (subst (λ (y : ℕ). T (eqb (0 * 1 * d) y)) y (eqb_refl (0 * 1 * d))) (subst (λ (y : ℕ). T (eqb (0 * 1 * d) y)) (zero-mul d) (eqb_refl (0 * 1 * d))) h

-- ---- from 0 to 2 ^ -12
data Low : Float → Type 0 where
  positive : {m : ℕ} {e : ℤ} → 4096 * (m * up e) ≤ down e → Low (fin false m e)
  negative : {m : ℕ} {e : ℤ} → m ≡ 0 → Low (fin true m e)

low_of : (x : Float) → le least_arg x ≡ false → T (le zero_arg x) → Low x
unfolding le
low_of nan h k = absurd k
low_of (inf false) h k = absurd (true≢false h)
low_of (inf true) h k = absurd k
low_of (fin false m e) h k = Low.positive (under (m * up e) (down e) (nltb→le (1 * 1 * down e) (m * up e * 2 ^ 12) (or-false (ltb (1 * 1 * down e) (m * up e * 2 ^ 12)) (eqb (1 * 1 * down e) (m * up e * 2 ^ 12) && true) h).0))
  where
    under : (a d : ℕ) → a * 2 ^ 12 ≤ 1 * 1 * d → 4096 * a ≤ d
    under a d h = omega arith
low_of (fin true m e) h k = Low.negative (nothing m (up e) (down e) (up_pos e) (eqb→eq (0 * 1 * down e) (m * up e * 1) (and_l (eqb (0 * 1 * down e) (m * up e * 1)) (eqb (0 * 1 * down e) 0) k)))
  where
    nothing : (m u d : ℕ) → 0 < u → 0 * 1 * d ≡ m * u * 1 → m ≡ 0
    nothing m u d U h = omega (arith, mul-le-mul_left m U)

low-range : (x : Float) → Low x → FromZero 16 5 x
low-range (fin false m e) (Low.positive h) = wider (m * up e) (down e) h
  where
    wider : (a d : ℕ) → 4096 * a ≤ d → 5 * a ≤ 16 * d
    wider a d h = omega arith
low-range (fin true m e) (Low.negative z) = z
low-range nan l = elim l [ ]
low-range (inf _) l = elim l [ ]

pub sine-low : (x : Float) → le least_arg x ≡ false → T (le zero_arg x) → Sine x x
sine-low x h k = go x (low_of x h k)
  where
    go : (x : Float) → Low x → Sine x x
    go x l = record { series = record { inside = λ i. near x l; outside = λ i. absurd (i (low-range x l)) }; part = λ i. part x l }
      where
        near : (x : Float) → Low x → Absolute (plus_terms 1 (value x)) (minus_terms 1 (value x)) x
        near (fin false m e) (Low.positive a) = small-absolute (fin false m e) tt a
        near (fin true m e) (Low.negative z) = zero-absolute m e z
        near nan l = elim l [ ]
        near (inf _) l = elim l [ ]

        part : (x : Float) → Low x → Relative (plus_terms 1 (value x)) (minus_terms 1 (value x)) x
        part (fin false m e) (Low.positive a) = small-relative (fin false m e) tt a
        part (fin true m e) (Low.negative z) = zero-relative m e z
        part nan l = elim l [ ]
        part (inf _) l = elim l [ ]

pub cosine-low : (x : Float) → le least_arg x ≡ false → T (le zero_arg x) → Trigonometric 0 x (fin false 1 (pos 0))
cosine-low x h k = let l = low_of x h k in record { inside = λ i. cosine-small x (few x l); outside = λ i. absurd (i (low-range x l)) }
  where
    few : (x : Float) → Low x → 4096 * num x ≤ den x
    few (fin false m e) (Low.positive a) = a
    few (fin true m e) (Low.negative z) = le_trans (le_of_eq (ap (λ (y : ℕ). 4096 * y) (ap (λ (y : ℕ). y * up e) z ∙ zero-mul (up e)))) (le_of_lt (down_pos e))
    few nan l = elim l [ ]
    few (inf _) l = elim l [ ]
