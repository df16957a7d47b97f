-- The power series of 2 ^ r through the 20th power, in fractions, and its float form through the 12th.
use Rattle.std.proofs.Common.{◌≡◌, ℕ, ◌+◌, ◌*◌, ◌^◌, ◌<◌, ◌≤◌, Bool, true, false, ◌&&◌, T, ltb, leb, List, [], ◌∷◌, ◌++◌, sym, refl, subst, subst₂, arith, lit<, lit≤, ltb→lt, leb→le}
use lib.Ieee.{Float, of_bits}
use lib.Ieee.Fits.{and_l, and_r}
use lib.Ieee.Positive.{num, den}
use Rattle.elementary.specs.Fraction.{LeQ, one_q, Frac, horner_q}
use Rattle.elementary.proofs.Ratio.{Near, within-trans}
use Rattle.exact.specs.Value.{plus}
use Rattle.elementary.proofs.Errors.{errors, upper, lower, rest}
use Rattle.elementary.proofs.Truncation.{le_q-trans, horner-mono, horner-pos, Pos, cut-within, least-one}
use Rattle.elementary.specs.Kernel.{one, floats, kernel}
use Rattle.elementary.proofs.Horner.{Coef, Coefs, Arg, Val, horner-near}
use Rattle.elementary.specs.Power.{coef, coefs, series}

-- ---- the tests that the checker computes
abbrev pub coef-ok : Float → Frac → Bool
coef-ok c q =
    plus c && (leb (num c * q.bot * lower ^ 1) (q.top * den c * upper ^ 1) && (leb (q.top * den c * lower ^ 1) (num c * q.bot * upper ^ 1)
    && (ltb 0 q.bot && (leb (den c) (num c * 2 ^ 110) && leb (num c) (den c * 2 ^ 1)))))

abbrev pub coefs-ok : List Float → List Frac → Bool
coefs-ok [] [] = true
coefs-ok [] (q ∷ qs) = false
coefs-ok (c ∷ cs) [] = false
coefs-ok (c ∷ cs) (q ∷ qs) = coef-ok c q && coefs-ok cs qs

pub coef-of : (c : Float) (q : Frac) → T (coef-ok c q) → Coef c q
coef-of c q t =
    let a = num c * q.bot in
    let b = q.top * den c in
    let A = leb (a * lower ^ 1) (b * upper ^ 1) in
    let B = leb (b * lower ^ 1) (a * upper ^ 1) in
    let C = ltb 0 q.bot in
    let D = leb (den c) (num c * 2 ^ 110) in
    let E = leb (num c) (den c * 2 ^ 1) in
    let t1 = and_r (plus c) (A && (B && (C && (D && E)))) t in
    let t2 = and_r A (B && (C && (D && E))) t1 in
    let t3 = and_r B (C && (D && E)) t2 in
    let t4 = and_r C (D && E) t3 in
    record {
      close = record {
        sign = and_l (plus c) (A && (B && (C && (D && E)))) t;
        within = (leb→le (a * lower ^ 1) (b * upper ^ 1) (and_l A (B && (C && (D && E))) t1), leb→le (b * lower ^ 1) (a * upper ^ 1) (and_l B (C && (D && E)) t2));
      };
      bot-pos = ltb→lt 0 q.bot (and_l C (D && E) t3);
      least = leb→le (den c) (num c * 2 ^ 110) (and_l D E t4);
      most = leb→le (num c) (den c * 2 ^ 1) (and_r D E t4);
    }

pub coefs-of : (cs : List Float) (qs : List Frac) → T (coefs-ok cs qs) → Coefs cs qs
coefs-of [] [] t = Coefs.none
coefs-of [] (q ∷ qs) t = absurd t
coefs-of (c ∷ cs) [] t = absurd t
coefs-of (c ∷ cs) (q ∷ qs) t = Coefs.also (coef-of c q (and_l (coef-ok c q) (coefs-ok cs qs) t)) (coefs-of cs qs (and_r (coef-ok c q) (coefs-ok cs qs) t))

abbrev pos-ok : List Frac → Bool
pos-ok [] = true
pos-ok (q ∷ qs) = ltb 0 q.bot && pos-ok qs

pos_of : (qs : List Frac) → T (pos-ok qs) → Pos qs
pos_of [] t = Pos.none
pos_of (q ∷ qs) t = Pos.also (ltb→lt 0 q.bot (and_l (ltb 0 q.bot) (pos-ok qs) t)) (pos_of qs (and_r (ltb 0 q.bot) (pos-ok qs) t))

one_ok : Coef one one_q
unfolding of_bits
one_ok = coef-of one one_q tt

floats-ok : Coefs floats (coefs 1 12)
unfolding of_bits coefs
floats-ok = coefs-of floats (coefs 1 12) tt

-- ---- the cut: the powers from the 13th on come to less than 2 ^ -39
rest-at-one : LeQ (horner_q one_q (coef 13) (coefs 14 7)) rest
unfolding horner_q coefs
rest-at-one = lit≤ tt

rest-pos : 0 < (horner_q one_q (coef 13) (coefs 14 7)).bot
unfolding horner_q coefs
rest-pos = lit< tt

to_one : (X : Frac) → X.top ≤ X.bot → LeQ X one_q
to_one X x = omega arith

rest-small : (X : Frac) → X.top ≤ X.bot → LeQ (horner_q X (coef 13) (coefs 14 7)) rest
rest-small X x = le_q-trans (horner_q X (coef 13) (coefs 14 7)) (horner_q one_q (coef 13) (coefs 14 7)) rest rest-pos (horner-mono X one_q (coef 13) (coefs 14 7) (to_one X x)) rest-at-one

pub series-is : (X : Frac) → series X ≡ horner_q X one_q (coefs 1 12 ++ (coef 13 ∷ coefs 14 7))
unfolding series
series-is X = refl

pub kernel-val : (j : ℕ) (x : Float) (X : Frac) → Arg j x X → Val (errors j 12) 12 (kernel x) (horner_q X one_q (coefs 1 12))
kernel-val j x X A = horner-near j x X A one_ok floats-ok (lit≤ tt)

pub all-pos : Pos (coefs 1 12 ++ (coef 13 ∷ coefs 14 7))
unfolding coefs
all-pos = pos_of (coefs 1 12 ++ (coef 13 ∷ coefs 14 7)) tt

pub series-pos : (X : Frac) → 0 < X.bot → 0 < (series X).bot
series-pos X h = subst (λ (s : Frac). 0 < s.bot) (sym (series-is X)) (horner-pos X one_q h (lit< tt) all-pos)

-- from 1 to 2
pub series-least : (X : Frac) → LeQ one_q (series X)
series-least X = subst (λ (s : Frac). LeQ one_q s) (sym (series-is X)) (least-one X (coefs 1 12 ++ (coef 13 ∷ coefs 14 7)))

pub series-mono : (X Y : Frac) → LeQ X Y → LeQ (series X) (series Y)
series-mono X Y h = subst₂ (λ (s t : Frac). LeQ s t) (sym (series-is X)) (sym (series-is Y)) (horner-mono X Y one_q (coefs 1 12 ++ (coef 13 ∷ coefs 14 7)) h)

at_one : LeQ (series one_q) (record { top = 2; bot = 1 })
unfolding series
at_one = lit≤ tt

at_zero : LeQ (series (record { top = 0; bot = 1 })) one_q
unfolding series
at_zero = lit≤ tt

pub series-most : (X : Frac) → X.top ≤ X.bot → LeQ (series X) (record { top = 2; bot = 1 })
series-most X x = le_q-trans (series X) (series one_q) (record { top = 2; bot = 1 }) (series-pos one_q (lit< tt)) (series-mono X one_q (to_one X x)) at_one

pub series-zero : (X : Frac) → X.top ≡ 0 → LeQ (series X) one_q
series-zero X e = le_q-trans (series X) (series (record { top = 0; bot = 1 })) one_q (series-pos (record { top = 0; bot = 1 }) (lit< tt)) (series-mono X (record { top = 0; bot = 1 }) (omega arith)) at_zero

pub kernel-near : (j : ℕ) (x : Float) (X : Frac) → Arg j x X → X.top ≤ X.bot
    → Near (upper ^ errors j 12 * (rest.bot + rest.top)) (lower ^ errors j 12 * rest.bot) (kernel x) (series X).top (series X).bot
kernel-near j x X A x1 =
    let h = horner-near j x X A one_ok floats-ok (lit≤ tt) in
    let g = horner_q X one_q (coefs 1 12) in
    let k = cut-within X rest (coefs 1 12) (coef 13) (coefs 14 7) x1 (rest-small X x1) in
    subst (λ (s : Frac). Near (upper ^ errors j 12 * (rest.bot + rest.top)) (lower ^ errors j 12 * rest.bot) (kernel x) s.top s.bot) (sym (series-is X))
    (record {
      sign = h.close.sign;
      within = within-trans (upper ^ errors j 12) (lower ^ errors j 12) (rest.bot + rest.top) rest.bot (num (kernel x)) (den (kernel x)) g.top g.bot
          (horner_q X one_q (coefs 1 12 ++ (coef 13 ∷ coefs 14 7))).top (horner_q X one_q (coefs 1 12 ++ (coef 13 ∷ coefs 14 7))).bot h.bot-pos h.close.within k;
    })
