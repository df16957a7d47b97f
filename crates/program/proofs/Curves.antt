-- Laws of the velocity curve: the points nearest to a velocity, found in one pass, are those of the table. Assumes nothing.
use Prim.Native.Nat.{ℕ, zero, suc, ◌+◌, ◌-◌, ◌<◌, ◌≤◌, min}
use mathlib.Core.Path.{◌≡◌, refl, sym, ap, ◌∙◌}
use mathlib.Core.Bool.{Bool, true, false, cond, ◌&&◌}
use mathlib.Core.List.{List, [], ◌∷◌, map}
use mathlib.Core.Logic.{◌⊎◌, inl, inr}
use native.Mathlib.Nat.{zero-add, add_assoc}
use native.Mathlib.Omega.{arith}
use lib.Dec.{leb, eqb}
use lib.ListN.{get_or, length, take, drop}
use lib.Ieee.{nan}
use Rattle.std.specs.List.{fold, range_with_len, zip}
use Rattle.std.proofs.lemmas.List.FromFn.{get_or-map-range_with_len}
use borrow.Author.Tests.{lt-leb, le-leb, eq-eqb, ne_eqb, leb-true, leb-false, eqb-true, eqb-false}
use Rattle.program.specs.declared.curve.Point.{Point}
use Rattle.program.specs.declared.curve.Near.{Near}
use Rattle.program.specs.Region.{word}
use Rattle.program.specs.Valid.{run}
use Rattle.program.proofs.Checks.{part}
use Rattle.program.specs.Curve.{point_of_words, point_of, points_of, Gain, given, is_given, number_of, preset, put, table_of, lower, upper, linear, entry, gain_at, velcurve_table, near_step, near_of, near_first}

module _ (p : Point) (tab : ℕ → Gain) where
  -- the point's own velocity, and any other
  here : (v : ℕ) → v ≡ p.velocity → put p tab v ≡ given p.gain
  unfolding put
  here v e = rw (eq-eqb v p.velocity e)

  there : (v : ℕ) → (v ≡ p.velocity → ⊥) → put p tab v ≡ tab v
  unfolding put
  there v n = rw (ne_eqb v p.velocity n)

lower-le : (tab : ℕ → Gain) (v : ℕ) → lower tab v ≤ v
unfolding lower
lower-le tab zero = omega arith
lower-le tab (suc v) = go (is_given (tab (suc v))) (lower-le tab v) where
  go : (t : Bool) → lower tab v ≤ v → cond t (suc v) (lower tab v) ≤ suc v
  go true h = omega arith
  go false h = omega arith

upper-ge : (tab : ℕ → Gain) (v n : ℕ) → v ≤ upper tab v n
unfolding upper
upper-ge tab v zero = omega arith
upper-ge tab v (suc n) = go (is_given (tab v)) (upper-ge tab (v + 1) n) where
  go : (t : Bool) → v + 1 ≤ upper tab (v + 1) n → v ≤ cond t v (upper tab (v + 1) n)
  go true h = omega arith
  go false h = omega arith

-- k where a ≤ k ≤ b
abbrev Between : ℕ → ℕ → ℕ → Bool
Between a k b = leb a k && leb k b

is-between : (a k b : ℕ) → a ≤ k → k ≤ b → Between a k b ≡ true
is-between a k b h l = rw (le-leb a k h) (le-leb k b l)

not-above : (a k b : ℕ) → b < k → Between a k b ≡ false
not-above a k b h = rw (lt-leb k b h) (go (leb a k)) where
  go : (t : Bool) → (t && false) ≡ false
  go true = refl
  go false = refl

not-under : (a k b : ℕ) → k < a → Between a k b ≡ false
not-under a k b h = ap (λ t. t && leb k b) (lt-leb a k h)

-- the two tests agree where k is another number than the one between them
same-top : (a k b : ℕ) → (suc b ≡ k → ⊥) → Between a k b ≡ Between a k (suc b)
same-top a k b n = ap (λ t. leb a k && t) (go (leb k b) refl) where
  go : (t : Bool) → leb k b ≡ t → leb k b ≡ leb k (suc b)
  go true e = let h = leb-true k b e in e ∙ sym (le-leb k (suc b) (omega arith))
  go false e = let h = leb-false k b e in e ∙ sym (lt-leb k (suc b) (omega arith))

same-bottom : (a k b : ℕ) → (a ≡ k → ⊥) → Between (a + 1) k b ≡ Between a k b
same-bottom a k b n = ap (λ t. t && leb k b) (go (leb a k) refl) where
  go : (t : Bool) → leb a k ≡ t → leb (a + 1) k ≡ leb a k
  go true e = let h = leb-true a k e in le-leb (a + 1) k (omega arith) ∙ sym e
  go false e = let h = leb-false a k e in lt-leb (a + 1) k (omega arith) ∙ sym e

same_number : (a b : ℕ) → (a ≡ b) ⊎ (a ≡ b → ⊥)
same_number a b = go (eqb a b) refl where
  go : (t : Bool) → eqb a b ≡ t → (a ≡ b) ⊎ (a ≡ b → ⊥)
  go true e = inl (eqb-true a b e)
  go false e = inr (eqb-false a b e)

other-between : (v k : ℕ) → (v ≡ k → ⊥) → Between v k v ≡ false
other-between v k n = go (leb k v) refl where
  go : (t : Bool) → leb k v ≡ t → Between v k v ≡ false
  go true e = let h = leb-true k v e in not-under v k v (omega arith)
  go false e = not-above v k v (leb-false k v e)

-- the nearest given velocity with one point more
module _ (p : Point) (tab : ℕ → Gain) where
  lower-put : (v : ℕ) → lower (put p tab) v ≡ cond (Between (lower tab v) p.velocity v) p.velocity (lower tab v)
  unfolding lower
  lower-put zero = go (same_number 0 p.velocity) where
    go : (0 ≡ p.velocity) ⊎ (0 ≡ p.velocity → ⊥) → 0 ≡ cond (Between 0 p.velocity 0) p.velocity 0
    go (inl e) = rw (is-between 0 p.velocity 0 (omega arith) (omega arith)) e
    go (inr n) = rw (other-between 0 p.velocity n) refl
  lower-put (suc v) = go (same_number (suc v) p.velocity) (lower-put v) where
    past : (t : Bool) → (suc v ≡ p.velocity → ⊥) → lower (put p tab) v ≡ cond (Between (lower tab v) p.velocity v) p.velocity (lower tab v)
        → cond t (suc v) (lower (put p tab) v) ≡ cond (Between (cond t (suc v) (lower tab v)) p.velocity (suc v)) p.velocity (cond t (suc v) (lower tab v))
    past true n h = rw (other-between (suc v) p.velocity n) refl
    past false n h = h ∙ ap (λ t. cond t p.velocity (lower tab v)) (same-top (lower tab v) p.velocity v n)

    go : (suc v ≡ p.velocity) ⊎ (suc v ≡ p.velocity → ⊥) → lower (put p tab) v ≡ cond (Between (lower tab v) p.velocity v) p.velocity (lower tab v)
        → cond (is_given (put p tab (suc v))) (suc v) (lower (put p tab) v)
        ≡ cond (Between (cond (is_given (tab (suc v))) (suc v) (lower tab v)) p.velocity (suc v)) p.velocity (cond (is_given (tab (suc v))) (suc v) (lower tab v))
    go (inl e) h =
        ap (λ g. cond (is_given g) (suc v) (lower (put p tab) v)) (here p tab (suc v) e)
        ∙ e ∙ ap (λ t. cond t p.velocity (lower tab (suc v))) (sym (is-between (lower tab (suc v)) p.velocity (suc v) (let l = lower-le tab (suc v) in omega arith) (omega arith)))
    go (inr n) h = ap (λ g. cond (is_given g) (suc v) (lower (put p tab) v)) (there p tab (suc v) n) ∙ past (is_given (tab (suc v))) n h

  upper-put : (v n : ℕ) → upper (put p tab) v n ≡ cond (Between v p.velocity (upper tab v n)) p.velocity (upper tab v n)
  unfolding upper
  upper-put v zero = go (same_number v p.velocity) where
    go : (v ≡ p.velocity) ⊎ (v ≡ p.velocity → ⊥) → v ≡ cond (Between v p.velocity v) p.velocity v
    go (inl e) = rw (is-between v p.velocity v (omega arith) (omega arith)) e
    go (inr n) = rw (other-between v p.velocity n) refl
  upper-put v (suc n) = go (same_number v p.velocity) (upper-put (v + 1) n) where
    past : (t : Bool) → (v ≡ p.velocity → ⊥) → upper (put p tab) (v + 1) n ≡ cond (Between (v + 1) p.velocity (upper tab (v + 1) n)) p.velocity (upper tab (v + 1) n)
        → cond t v (upper (put p tab) (v + 1) n) ≡ cond (Between v p.velocity (cond t v (upper tab (v + 1) n))) p.velocity (cond t v (upper tab (v + 1) n))
    past true m h = rw (other-between v p.velocity m) refl
    past false m h = h ∙ ap (λ t. cond t p.velocity (upper tab (v + 1) n)) (same-bottom v p.velocity (upper tab (v + 1) n) m)

    go : (v ≡ p.velocity) ⊎ (v ≡ p.velocity → ⊥) → upper (put p tab) (v + 1) n ≡ cond (Between (v + 1) p.velocity (upper tab (v + 1) n)) p.velocity (upper tab (v + 1) n)
        → cond (is_given (put p tab v)) v (upper (put p tab) (v + 1) n)
        ≡ cond (Between v p.velocity (cond (is_given (tab v)) v (upper tab (v + 1) n))) p.velocity (cond (is_given (tab v)) v (upper tab (v + 1) n))
    go (inl e) h =
        ap (λ g. cond (is_given g) v (upper (put p tab) (v + 1) n)) (here p tab v e)
        ∙ e ∙ ap (λ t. cond t p.velocity (upper tab v (suc n))) (sym (is-between v p.velocity (upper tab v (suc n)) (omega arith) (let l = upper-ge tab v (suc n) in omega arith)))
    go (inr m) h = ap (λ g. cond (is_given g) v (upper (put p tab) (v + 1) n)) (there p tab v m) ∙ past (is_given (tab v)) m h

  point-put : (t : Bool) (x : ℕ) → (x ≡ p.velocity → t ≡ true) → cond t p (entry tab x) ≡ entry (put p tab) (cond t p.velocity x)
  point-put true x h = ap (λ g. record { velocity = p.velocity; gain = number_of g }) (sym (here p tab p.velocity refl))
  point-put false x h = ap (λ g. record { velocity = x; gain = number_of g }) (sym (there p tab x (λ e. let f = h e in let z : ◌≡◌ {A = ℕ} 0 1 = cc in omega arith)))

-- the points nearest to v in a table
abbrev pub near_by : (ℕ → Gain) → ℕ → Near
near_by tab v = record {
  lo = entry tab (lower tab v);
  hi = entry tab (upper tab v (127 - v));
}

near-put : (p : Point) (tab : ℕ → Gain) (v : ℕ) → near_step v (near_by tab v) p ≡ near_by (put p tab) v
unfolding near_step
near-put p tab v =
    let n = 127 - v in
    let l = lower tab v in
    let u = upper tab v n in
    let lo : cond (Between l p.velocity v) p (entry tab l) ≡ entry (put p tab) (lower (put p tab) v) =
    point-put p tab (Between l p.velocity v) l (λ e. is-between l p.velocity v (omega arith) (let h = lower-le tab v in omega arith)) ∙ ap (entry (put p tab)) (sym (lower-put p tab v)) in
    let hi : cond (Between v p.velocity u) p (entry tab u) ≡ entry (put p tab) (upper (put p tab) v n) =
    point-put p tab (Between v p.velocity u) u (λ e. is-between v p.velocity u (let h = upper-ge tab v n in omega arith) (omega arith)) ∙ ap (entry (put p tab)) (sym (upper-put p tab v n)) in
    ap (λ (s : Point). record { lo = s; hi = cond (Between v p.velocity u) p (entry tab u) }) lo
    ∙ ap (λ (s : Point). record { lo = entry (put p tab) (lower (put p tab) v); hi = s }) hi

near-points : (ps : List Point) (tab : ℕ → Gain) (v : ℕ) → near_of v (near_by tab v) ps ≡ near_by (table_of tab ps) v
unfolding table_of
near-points [] tab v = refl
near-points (p ∷ ps) tab v = ap (λ s. near_of v s ps) (near-put p tab v) ∙ near-points ps (put p tab) v

unset-between : (v : ℕ) → (v ≡ 0 → ⊥) → (v ≡ 127 → ⊥) → is_given (preset v) ≡ false
unfolding preset
unset-between v n m = rw (ne_eqb v 0 n, ne_eqb v 127 m) refl

lower-preset : (v : ℕ) → v < 127 → lower preset v ≡ 0
unfolding lower
lower-preset zero h = refl
lower-preset (suc v) h = ap (λ t. cond t (suc v) (lower preset v)) (unset-between (suc v) (λ e. omega arith) (λ e. omega arith)) ∙ lower-preset v (omega arith)

upper-preset : (v n : ℕ) → 0 < v → v + n ≡ 127 → upper preset v n ≡ 127
unfolding upper
upper-preset v zero h e = omega arith
upper-preset v (suc n) h e = ap (λ t. cond t v (upper preset (v + 1) n)) (unset-between v (λ q. omega arith) (λ q. omega arith)) ∙ upper-preset (v + 1) n (omega arith) (omega arith)

near-preset : (v : ℕ) → v ≤ 127 → near_first v ≡ near_by preset v
unfolding preset lower upper
near-preset v h = go (same_number v 0) (same_number v 127) where
  go : (v ≡ 0) ⊎ (v ≡ 0 → ⊥) → (v ≡ 127) ⊎ (v ≡ 127 → ⊥) → near_first v ≡ near_by preset v
  go (inl e) m = rw e refl
  go (inr n) (inl e) = rw e refl
  go (inr n) (inr m) =
      let l : lower preset v ≡ 0 = lower-preset v (omega arith) in
      let u : upper preset v (127 - v) ≡ 127 = upper-preset v (127 - v) (omega arith) (omega arith) in
      rw (ne_eqb v 0 n, ne_eqb v 127 m, l, u) refl

pub near-table : (ps : List Point) (v : ℕ) → v ≤ 127 → near_of v (near_first v) ps ≡ near_by (table_of preset ps) v
near-table ps v h = ap (λ s. near_of v s ps) (near-preset v h) ∙ near-points ps preset v

module _ (ps : List Point) (v : ℕ) (s : Near) (h : v ≤ 127) (is : s ≡ near_of v (near_first v) ps) where
  whole : s ≡ near_by (table_of preset ps) v
  whole = is ∙ near-table ps v h

  pub from-below : s.lo.velocity ≤ v
  from-below = let e = ap (λ (x : Near). x.lo.velocity) whole in let l = lower-le (table_of preset ps) v in omega (arith, e)

  pub from-above : v ≤ s.hi.velocity
  from-above = let e = ap (λ (x : Near). x.hi.velocity) whole in let l = upper-ge (table_of preset ps) v (127 - v) in omega (arith, e)

  pub on-curve : linear s.lo s.hi v ≡ gain_at (table_of preset ps) v
  on-curve = ap (λ (x : Near). linear x.lo x.hi v) whole

-- an entry of the Rust's table is the gain at its velocity, which `velcurve` gives
pub table-entry : (ps : List Point) (v : ℕ) → v < 128 → get_or (velcurve_table ps) v nan ≡ gain_at (table_of preset ps) v
unfolding velcurve_table
table-entry ps v h = get_or-map-range_with_len (gain_at (table_of preset ps)) 0 128 v v nan h (zero-add v)

-- the points of a region's words, which stand in two runs
pub points_are : (r : List ℕ) (v n : ℕ) (s : Near) → length r ≡ 392 → n ≡ min (word r 29) 128
    → near_of v s (points_of r) ≡ fold (λ (t : Near) (p : ℕ × ℕ). near_step v t (point_of_words p.0 p.1)) s (zip (take (136 + n - 136) (drop 136 r)) (take (264 + n - 264) (drop 264 r)))
points_are r v n s long is =
    let k : 136 + n - 136 ≡ n = omega arith in
    let g : 264 + n - 264 ≡ n = omega arith in
    rw (k, g, part r long 136 n (omega arith), part r long 264 n (omega arith), sym is) (go n 0 s) where
      go : (m i : ℕ) (t : Near) → near_of v t (map (point_of r) (range_with_len i m))
          ≡ fold (λ (t : Near) (p : ℕ × ℕ). near_step v t (point_of_words p.0 p.1)) t (zip (run r (136 + i) m) (run r (264 + i) m))
      go zero i t = refl
      go (suc m) i t = go m (i + 1) (near_step v t (point_of r i)) ∙ rw (add_assoc 136 i 1, add_assoc 264 i 1) refl
