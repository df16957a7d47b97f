-- The Hermite weights where the order of the distances tells their signs. Assumes nothing.
use Rattle.std.proofs.Common.{◌≡◌, ℕ, ◌+◌, ◌*◌, ◌<◌, Bool, true, false, not, ◌&&◌, ltb, [], ◌∷◌, ℤ, pos, sym, refl, ◌∙◌, true≢false, mul-pos, arith, lit<, ltb-false}
use lib.Ieee.{Float, nan, inf, fin, lt, neg, of_bits, up, down}
use lib.Ieee.Fits.{down_pos}
use borrow.Author.Tests.{not-true}
use Rattle.exact.specs.Single.{◌⊖◌, f0, f1, f2}
use Rattle.exact.specs.Order.{magnitude}
use Rattle.interp.specs.Points.{near_weight, far_weight, weight3, weights_at}

both : (a b : Bool) → (a && b) ≡ true → (a ≡ true) × (b ≡ true)
both true b e = (refl, e)
both false b e = absurd (true≢false (sym e))

neg-size : (v : Float) → magnitude (neg v) ≡ magnitude v
unfolding magnitude neg
neg-size nan = refl
neg-size (inf s) = refl
neg-size (fin s m e) = refl

-- above 0
plus-size : (v : Float) → lt f0 v ≡ true → magnitude v ≡ v
unfolding magnitude lt of_bits
plus-size nan e = absurd (true≢false (sym e))
plus-size (inf false) e = refl
plus-size (inf true) e = absurd (true≢false (sym e))
plus-size (fin false m x) e = refl
plus-size (fin true m x) e = absurd (true≢false (sym e))

none : (a b : ℕ) → 0 < b → ltb 0 (a + b) ≡ false → ⊥
none a b h e = omega (arith, ltb-false 0 (a + b) e)

-- 1.0 as a whole number and a power of two
abbrev one-by : ℕ
one-by = 1

abbrev one_at : ℤ
one_at = pos 0

-- from 1 to 2
second-size : (v : Float) → lt v f1 ≡ false → lt v f2 ≡ true → magnitude v ≡ v
unfolding magnitude lt of_bits
second-size nan d e = absurd (true≢false (sym e))
second-size (inf false) d e = absurd (true≢false (sym e))
second-size (inf true) d e = absurd (true≢false d)
second-size (fin false m x) d e = refl
second-size (fin true m x) d e = absurd (none (m * up x * down one_at) (one-by * up one_at * down x) (mul-pos {m = one-by * up one_at} (lit< tt) (down_pos x)) d)

far-is : (u v : Float) → magnitude u ≡ v → lt v f1 ≡ false → lt v f2 ≡ true → far_weight v ≡ weight3 u
unfolding weight3
far-is u v e l h = rw (e, l, h)

near-is : (u v : Float) → magnitude u ≡ v → lt v f1 ≡ true → near_weight v ≡ weight3 u
unfolding weight3
near-is u v e h = rw (e, h)

-- the four weights of a part f of 1
module _ (f : Float) (p : (lt f0 f && lt f f1) ≡ true) (q : (lt f0 (f1 ⊖ f) && lt (f1 ⊖ f) f1) ≡ true)
    (r : (not (lt (neg (neg f1 ⊖ f)) f1) && lt (neg (neg f1 ⊖ f)) f2) ≡ true) (s : (not (lt (f2 ⊖ f) f1) && lt (f2 ⊖ f) f2) ≡ true) where
  pub part-weights : far_weight (neg (neg f1 ⊖ f)) ∷ near_weight f ∷ near_weight (f1 ⊖ f) ∷ far_weight (f2 ⊖ f) ∷ [] ≡ weights_at f
  part-weights =
      let x : Float = neg f1 ⊖ f in
      let z : Float = f1 ⊖ f in
      let w : Float = f2 ⊖ f in
      let ps = both (lt f0 f) (lt f f1) p in
      let qs = both (lt f0 z) (lt z f1) q in
      let rs = both (not (lt (neg x) f1)) (lt (neg x) f2) r in
      let ss = both (not (lt w f1)) (lt w f2) s in
      let x1 = not-true (lt (neg x) f1) rs.0 in
      let w1 = not-true (lt w f1) ss.0 in
      let a = far-is x (neg x) (sym (neg-size x) ∙ second-size (neg x) x1 rs.1) x1 rs.1 in
      let b = near-is (neg f) f (neg-size f ∙ plus-size f ps.0) ps.1 in
      let c = near-is z z (plus-size z qs.0) qs.1 in
      let d = far-is w w (second-size w w1 ss.1) w1 ss.1 in
      rw (a, b, c, d)
