-- Functions of a voice's id with one place put anew, sums over the live voices, and the records that lists of ids allow. Assumes nothing.
use Rattle.std.specs.List.{list_any}
use Rattle.std.specs.Prelude.{cond, filter, ◌||◌}
use Prim.Native.Nat.{ℕ, suc, ◌+◌, ◌*◌, ◌<◌, ◌≤◌}
use mathlib.Core.Path.{◌≡◌, refl, sym, ap, ◌∙◌, fun_ext}
use mathlib.Core.Bool.{Bool, true, false, not}
use mathlib.Core.Logic.{◌⊎◌, inl, inr, ⊎_elim}
use mathlib.Core.List.{List, [], ◌∷◌, ◌++◌}
use native.Mathlib.Omega.{arith}
use native.Mathlib.Nat.{mul-suc}
use lib.ListN.{length}
use lib.Dec.{eqb}
use borrow.Author.Tests.{eq-eqb, ne_eqb, eqb-true, eqb-false}
use Rattle.session.specs.Lists.{elem}
use Rattle.session.specs.Records.{of_voice}
use Rattle.session.specs.Rules.{without_voice}
use Rattle.session.specs.declared.PlayerRecord.{PlayerRecord}
use Rattle.session.proofs.Voices.{others}
use Rattle.run.specs.Run.{put, sum_over, records_of}

pub clash : {A : Type 0} → true ≡ false → A
clash e = let z : ◌≡◌ {A = ℕ} 0 1 = cc in absurd (omega arith)

pub same? : (i k : ℕ) → (i ≡ k) ⊎ (i ≡ k → ⊥)
same? i k = by-case (eqb i k) refl where
  by-case : (t : Bool) → eqb i k ≡ t → (i ≡ k) ⊎ (i ≡ k → ⊥)
  by-case true e = inl (eqb-true i k e)
  by-case false e = inr (eqb-false i k e)

-- ---- one place put anew

module _ {A : Type 0} (k : ℕ) (x : A) (f : ℕ → A) where
  pub put-here : (i : ℕ) → i ≡ k → put k x f i ≡ x
  put-here i e = simp (eq-eqb i k e)

  pub put-away : (i : ℕ) → (i ≡ k → ⊥) → put k x f i ≡ f i
  put-away i e = simp (ne_eqb i k e)

  -- what it was changes nothing
  pub put_same : x ≡ f k → put k x f ≡ f
  put_same e = fun_ext (λ i. ⊎_elim (λ (p : i ≡ k). put-here i p ∙ e ∙ ap f (sym p)) (λ n. put-away i n) (same? i k))

-- ---- lists of ids

pub data Distinct : List ℕ → Type 0 where
  none : Distinct []
  more : {i : ℕ} {is : List ℕ} → elem i is ≡ false → Distinct is → Distinct (i ∷ is)

elem-head : (k i : ℕ) (is : List ℕ) → elem k (i ∷ is) ≡ true → (i ≡ k → ⊥) → elem k is ≡ true
elem-head k i is e n = simp (ne_eqb i k n) at e

elem-tail : (k i : ℕ) (is : List ℕ) → elem k (i ∷ is) ≡ false → elem k is ≡ false
elem-tail k i is e = by-case (eqb i k) e where
  by-case : (t : Bool) → t || elem k is ≡ false → elem k is ≡ false
  by-case true p = clash p
  by-case false p = p

elem-not : (k i : ℕ) (is : List ℕ) → elem k (i ∷ is) ≡ false → i ≡ k → ⊥
elem-not k i is e p = let z : true ≡ false = simp (eq-eqb i k p) at e in clash z

pub elem-snoc : (k : ℕ) (is : List ℕ) (j : ℕ) → (j ≡ k → ⊥) → elem k (is ++ (j ∷ [])) ≡ elem k is
elem-snoc k [] j n = simp (ne_eqb j k n)
elem-snoc k (i ∷ is) j n = ap (λ t. eqb i k || t) (elem-snoc k is j n)

pub elem-snoc-here : (is : List ℕ) (j : ℕ) → elem j (is ++ (j ∷ [])) ≡ true
elem-snoc-here [] j = simp (eq-eqb j j refl)
elem-snoc-here (i ∷ is) j = ap (λ t. eqb i j || t) (elem-snoc-here is j) ∙ pick_true (eqb i j) where
  pick_true : (t : Bool) → t || true ≡ true
  pick_true true = refl
  pick_true false = refl

pub distinct_snoc : (is : List ℕ) (j : ℕ) → Distinct is → elem j is ≡ false → Distinct (is ++ (j ∷ []))
distinct_snoc [] j d e = more refl none
distinct_snoc (i ∷ is) j (more n d) e = more (elem-snoc i is j (λ p. elem-not j i is e (sym p)) ∙ n) (distinct_snoc is j d (elem-tail j i is e))

module _ (id : ℕ) where
  pub elem-keep-away : (i : ℕ) (is : List ℕ) → (i ≡ id → ⊥) → elem i (filter (others id) is) ≡ elem i is
  elem-keep-away i [] n = refl
  elem-keep-away i (j ∷ is) n = ⊎_elim
      (λ (e : j ≡ id). simp (eq-eqb j id e, ne_eqb j i (λ p. n (sym p ∙ e))) (elem-keep-away i is n))
      (λ m. simp (ne_eqb j id m) (ap (λ t. eqb j i || t) (elem-keep-away i is n))) (same? j id)

  pub elem-keep-here : (is : List ℕ) → elem id (filter (others id) is) ≡ false
  elem-keep-here [] = refl
  elem-keep-here (j ∷ is) = ⊎_elim (λ (e : j ≡ id). simp (eq-eqb j id e) (elem-keep-here is)) (λ m. simp (ne_eqb j id m) (elem-keep-here is)) (same? j id)

  pub elem-keep-none : (i : ℕ) (is : List ℕ) → elem i is ≡ false → elem i (filter (others id) is) ≡ false
  elem-keep-none i is h = ⊎_elim (λ (e : i ≡ id). rw e (elem-keep-here is)) (λ n. elem-keep-away i is n ∙ h) (same? i id)

  pub distinct-keep : (is : List ℕ) → Distinct is → Distinct (filter (others id) is)
  distinct-keep [] none = none
  distinct-keep (j ∷ is) (more n d) = ⊎_elim (λ (e : j ≡ id). simp (eq-eqb j id e) (distinct-keep is d))
      (λ m. simp (ne_eqb j id m) (more (elem-keep-none j is n) (distinct-keep is d))) (same? j id)

  -- one that stands there leaves fewer
  pub keep-one-fewer : (is : List ℕ) → elem id is ≡ true → length (filter (others id) is) < length is
  keep-one-fewer [] e = clash (sym e)
  keep-one-fewer (j ∷ is) e = ⊎_elim (λ (p : j ≡ id). simp (eq-eqb j id p) (omega (arith, fewer is)))
      (λ m. simp (ne_eqb j id m) (omega (arith, keep-one-fewer is (elem-head id j is e m)))) (same? j id) where
        fewer : (is : List ℕ) → length (filter (others id) is) ≤ length is
        fewer [] = omega arith
        fewer (i ∷ is) = by-case (others id i) (fewer is) where
          by-case : (t : Bool) → length (filter (others id) is) ≤ length is → length (cond t (i ∷ filter (others id) is) (filter (others id) is)) ≤ suc (length is)
          by-case true h = omega arith
          by-case false h = omega arith

-- ---- sums over them

module _ (f g : ℕ → ℕ) (k : ℕ) (away : (i : ℕ) → (i ≡ k → ⊥) → g i ≡ f i) where
  -- a voice that is not there changes nothing
  pub sum-absent : (is : List ℕ) → elem k is ≡ false → sum_over g is ≡ sum_over f is
  sum-absent [] e = refl
  sum-absent (i ∷ is) e =
      let p = away i (elem-not k i is e) in
      let q = sum-absent is (elem-tail k i is e) in
      omega arith

  pub sum-change : (is : List ℕ) → Distinct is → elem k is ≡ true → sum_over g is + f k ≡ sum_over f is + g k
  sum-change [] d e = clash (sym e)
  sum-change (i ∷ is) (more n d) e = ⊎_elim here (λ p. there p (sum-change is d (elem-head k i is e p))) (same? i k) where
    here : i ≡ k → sum_over g (i ∷ is) + f k ≡ sum_over f (i ∷ is) + g k
    here p =
        let q : sum_over g is ≡ sum_over f is = sum-absent is (ap (λ j. elem j is) (sym p) ∙ n) in
        let a : f i ≡ f k = ap f p in
        let b : g i ≡ g k = ap g p in
        omega arith

    there : (i ≡ k → ⊥) → sum_over g is + f k ≡ sum_over f is + g k → sum_over g (i ∷ is) + f k ≡ sum_over f (i ∷ is) + g k
    there p r = let q = away i p in omega arith

pub sum-snoc : (f : ℕ → ℕ) (is : List ℕ) (j : ℕ) → sum_over f (is ++ (j ∷ [])) ≡ sum_over f is + f j
sum-snoc f [] j = omega arith
sum-snoc f (i ∷ is) j = let p = sum-snoc f is j in omega arith

-- a sum of terms of at most m
pub sum-most : (f : ℕ → ℕ) (m : ℕ) → ((i : ℕ) → f i ≤ m) → (is : List ℕ) → sum_over f is ≤ m * length is
sum-most f m most [] = omega arith
sum-most f m most (i ∷ is) = let p = most i in let q = sum-most f m most is in rw mul-suc (omega arith)

-- a term is no more than the sum
pub sum-term : (f : ℕ → ℕ) (k : ℕ) (is : List ℕ) → elem k is ≡ true → f k ≤ sum_over f is
sum-term f k [] e = clash (sym e)
sum-term f k (i ∷ is) e = ⊎_elim (λ (p : i ≡ k). let q : f i ≡ f k = ap f p in omega arith)
    (λ n. omega (arith, sum-term f k is (elem-head k i is e n))) (same? i k)

pub sum_drop : (id : ℕ) (f : ℕ → ℕ) → f id ≡ 0 → (is : List ℕ) → sum_over f (filter (others id) is) ≡ sum_over f is
sum_drop id f z [] = refl
sum_drop id f z (j ∷ is) = ⊎_elim
    (λ (e : j ≡ id). let q : f j ≡ 0 = ap f e ∙ z in simp (eq-eqb j id e) (omega (arith, sum_drop id f z is)))
    (λ m. simp (ne_eqb j id m) (ap (λ n. f j + n) (sum_drop id f z is))) (same? j id)

-- terms that grow, one of them by one at least
sum-grows : (f g : ℕ → ℕ) → ((i : ℕ) → f i ≤ g i) → (is : List ℕ) → sum_over f is ≤ sum_over g is
sum-grows f g h [] = omega arith
sum-grows f g h (i ∷ is) = omega (arith, h i, sum-grows f g h is)

sum-rises : (f g : ℕ → ℕ) (k : ℕ) → ((i : ℕ) → f i ≤ g i) → f k < g k → (is : List ℕ) → elem k is ≡ true → sum_over f is < sum_over g is
sum-rises f g k h r [] e = clash (sym e)
sum-rises f g k h r (i ∷ is) e = ⊎_elim (λ (p : i ≡ k). let a : f i ≡ f k = ap f p in let b : g i ≡ g k = ap g p in omega (arith, sum-grows f g h is))
    (λ n. omega (arith, h i, sum-rises f g k h r is (elem-head k i is e n))) (same? i k)

-- ---- the records of the voices of a list

-- some record is of a voice that is not among these
abbrev pub strays : List ℕ → List PlayerRecord → Bool
strays is rs = list_any (λ (r : PlayerRecord). not (elem r.voice is)) rs

strays-head : (is : List ℕ) (r : PlayerRecord) (rs : List PlayerRecord) → strays is (r ∷ rs) ≡ false → (elem r.voice is ≡ true) × (strays is rs ≡ false)
strays-head is r rs e = by-case (elem r.voice is) refl e where
  by-case : (t : Bool) → elem r.voice is ≡ t → not t || strays is rs ≡ false → (elem r.voice is ≡ true) × (strays is rs ≡ false)
  by-case true p h = (p, h)
  by-case false p h = clash h

strays-cons : (is : List ℕ) (r : PlayerRecord) (rs : List PlayerRecord) → elem r.voice is ≡ true → strays is rs ≡ false → strays is (r ∷ rs) ≡ false
strays-cons is r rs e h = simp e h

-- all of them are of these voices
pub count-in : (is : List ℕ) (rs : List PlayerRecord) → strays is rs ≡ false → length rs ≤ sum_over (λ i. length (records_of i rs)) is
count-in is [] e = omega arith
count-in is (r ∷ rs) e =
    let h = strays-head is r rs e in
    omega (arith, count-in is rs h.1, sum-rises (λ i. length (records_of i rs)) (λ i. length (records_of i (r ∷ rs))) r.voice grows rises is h.0) where
      grows : (i : ℕ) → length (records_of i rs) ≤ length (records_of i (r ∷ rs))
      grows i = by-case (of_voice i r) where
        by-case : (t : Bool) → length (records_of i rs) ≤ length (cond t (r ∷ records_of i rs) (records_of i rs))
        by-case true = omega arith
        by-case false = omega arith

      rises : length (records_of r.voice rs) < length (records_of r.voice (r ∷ rs))
      rises = simp (eq-eqb r.voice r.voice refl) (omega arith)

-- a voice and its records leave together
pub strays-without : (id : ℕ) (is : List ℕ) (rs : List PlayerRecord) → strays is rs ≡ false → strays (filter (others id) is) (without_voice id rs) ≡ false
unfolding without_voice
strays-without id is [] e = refl
strays-without id is (r ∷ rs) e =
    let h = strays-head is r rs e in
    let rest = strays-without id is rs h.1 in
    ⊎_elim (λ (p : r.voice ≡ id). simp (eq-eqb r.voice id p) rest)
    (λ n. simp (ne_eqb r.voice id n) (strays-cons (filter (others id) is) r (without_voice id rs) (elem-keep-away id r.voice is n ∙ h.0) rest)) (same? r.voice id)

-- where none was of another voice, none is
pub strays-fewer : (id : ℕ) (is : List ℕ) (rs : List PlayerRecord) → strays is rs ≡ false → strays is (without_voice id rs) ≡ false
unfolding without_voice
strays-fewer id is [] e = refl
strays-fewer id is (r ∷ rs) e =
    let h = strays-head is r rs e in
    let rest = strays-fewer id is rs h.1 in
    ⊎_elim (λ (p : r.voice ≡ id). simp (eq-eqb r.voice id p) rest)
    (λ n. simp (ne_eqb r.voice id n) (strays-cons is r (without_voice id rs) h.0 rest)) (same? r.voice id)

-- one voice more
pub strays-snoc : (is : List ℕ) (j : ℕ) (rs : List PlayerRecord) → strays is rs ≡ false → strays (is ++ (j ∷ [])) rs ≡ false
strays-snoc is j [] e = refl
strays-snoc is j (r ∷ rs) e =
    let h = strays-head is r rs e in
    strays-cons (is ++ (j ∷ [])) r rs
    (⊎_elim (λ (p : j ≡ r.voice). ap (λ k. elem k (is ++ (j ∷ []))) (sym p) ∙ elem-snoc-here is j) (λ n. elem-snoc r.voice is j n ∙ h.0) (same? j r.voice))
    (strays-snoc is j rs h.1)
