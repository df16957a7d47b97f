-- The first frame that a test holds of, and frames before it. Assumes nothing.
use Rattle.std.specs.List.{All, filter, find, list_any, range_with_len, reduce}
use Rattle.std.specs.Option.{unwrap_or}
use Rattle.std.specs.Prelude.{cond, fold, None, Option, Some}
use Rattle.std.proofs.lemmas.List.Elements.{All-nil, All-cons, All-head, All-tail}
use Prim.Native.Nat.{ℕ, zero, suc, ◌+◌, ◌-◌, ◌<◌, ◌≤◌, min}
use mathlib.Core.Path.{◌≡◌, refl, sym, ap, ◌∙◌, subst}
use mathlib.Core.Bool.{Bool, true, false, ◌||◌, true≢false}
use mathlib.Core.Logic.{⊎_elim}
use mathlib.Core.List.{List, [], ◌∷◌, ◌++◌, foldl, map}
use native.Mathlib.Omega.{arith}
use native.Mathlib.Nat.{eq-or-lt_of_le}
use native.Mathlib.Numerals.{add-one}
use lib.ListN.{length, take, get_or}
use lib.Seq.{take-suc}
use lib.Dec.{leb, eqb}
use borrow.Author.Tests.{leb-true, leb-false, eqb-true, eqb-false}
use Rattle.session.specs.Offs.{first_at}
use Rattle.session.specs.declared.Off.{Off}
use Rattle.block.specs.declared.BlockTime.{BlockTime}
use lib.Ieee.{Float}
use Rattle.session.specs.declared.Offs.{Offs}
use Rattle.block.specs.Inputs.{off_frame, gate_at}
use Rattle.block.specs.Block.{falls_on, off_list, turns, has_event}
use Rattle.block.specs.Next.{first_from, next_gate, next_off, next_event}

-- ---- a loop that looks for the first one

module _ (p : ℕ → Bool) (whole n i : ℕ) (h : whole ≡ first_from p i n) where
  here : i < n → whole ≡ i + cond (p i) zero (suc (first_at p (range_with_len (i + 1) (n - (i + 1)))))
  here q = let e : n - i ≡ suc (n - (i + 1)) = omega arith in h ∙ ap (λ k. i + first_at p (range_with_len i k)) e

  pub first-here : i < n → p i ≡ true → i ≡ whole
  first-here q e = omega (arith, here q ∙ ap (λ t. i + cond t zero (suc (first_at p (range_with_len (i + 1) (n - (i + 1)))))) e)

  pub first-later : i < n → p i ≡ false → whole ≡ first_from p (i + 1) n
  first-later q e = omega (arith, here q ∙ ap (λ t. i + cond t zero (suc (first_at p (range_with_len (i + 1) (n - (i + 1)))))) e)

  pub first-none : n ≤ i → i ≡ whole
  first-none q = let e : n - i ≡ zero = omega arith in omega (arith, h ∙ ap (λ k. i + first_at p (range_with_len i k)) e)

-- ---- how far it is

indexes-length : (i k : ℕ) → length (range_with_len i k) ≡ k
indexes-length i zero = refl
indexes-length i (suc k) = ap suc (indexes-length (i + 1) k)

module _ {A : Type 0} where
  first-within : (p : A → Bool) (xs : List A) → first_at p xs ≤ length xs
  first-within p [] = omega arith
  first-within p (x ∷ xs) = by-case (p x) (first-within p xs) where
    by-case : (t : Bool) → first_at p xs ≤ length xs → cond t zero (suc (first_at p xs)) ≤ suc (length xs)
    by-case true h = omega arith
    by-case false h = omega (arith, h)

  first-never : (p : A → Bool) (xs : List A) → ((x : A) → p x ≡ false) → first_at p xs ≡ length xs
  first-never p [] h = refl
  first-never p (x ∷ xs) h =
      ap (λ t. cond t zero (suc (first_at p xs))) (h x) ∙ ap suc (first-never p xs h)

  first-same : (p q : A → Bool) (xs : List A) → ((x : A) → p x ≡ q x) → first_at p xs ≡ first_at q xs
  first-same p q [] h = refl
  first-same p q (x ∷ xs) h =
      ap (λ t. cond t zero (suc (first_at p xs))) (h x) ∙ ap (λ k. cond (q x) zero (suc k)) (first-same p q xs h)

  -- of two tests: the earlier one
  pub first-or : (p q : A → Bool) (xs : List A) → first_at (λ x. p x || q x) xs ≡ min (first_at p xs) (first_at q xs)
  first-or p q [] = refl
  first-or p q (x ∷ xs) = by-case (p x) (q x) (first-or p q xs) where
    by-case : (s t : Bool) → first_at (λ y. p y || q y) xs ≡ min (first_at p xs) (first_at q xs)
        → cond (s || t) zero (suc (first_at (λ y. p y || q y) xs)) ≡ min (cond s zero (suc (first_at p xs))) (cond t zero (suc (first_at q xs)))
    by-case true true h = omega arith
    by-case true false h = omega arith
    by-case false true h = omega arith
    by-case false false h = omega (arith, h)

  -- the test holds there
  first_holds : (p : A → Bool) (xs : List A) (d : A) → first_at p xs < length xs → p (get_or xs (first_at p xs) d) ≡ true
  first_holds p [] d h = absurd (omega (arith, h))
  first_holds p (x ∷ xs) d h = by-case (p x) refl h (first_holds p xs d) where
    by-case : (t : Bool) → p x ≡ t → cond t zero (suc (first_at p xs)) < suc (length xs) → (first_at p xs < length xs → p (get_or xs (first_at p xs) d) ≡ true)
        → p (get_or (x ∷ xs) (cond t zero (suc (first_at p xs))) d) ≡ true
    by-case true e k rest = e
    by-case false e k rest = rest (omega (arith, k))

  any-one-more : (p : A → Bool) (xs : List A) (x : A) → list_any p (xs ++ (x ∷ [])) ≡ list_any p xs || p x
  any-one-more p [] x = by-case (p x) where
    by-case : (t : Bool) → t || false ≡ t
    by-case true = refl
    by-case false = refl
  any-one-more p (y ∷ xs) x = by-case (p y) (any-one-more p xs x) where
    by-case : (t : Bool) → list_any p (xs ++ (x ∷ [])) ≡ list_any p xs || p x → t || list_any p (xs ++ (x ∷ [])) ≡ (t || list_any p xs) || p x
    by-case true h = refl
    by-case false h = h

index_at : (i k j d : ℕ) → j < k → get_or (range_with_len i k) j d ≡ i + j
index_at i zero j d h = absurd (omega (arith, h))
index_at i (suc k) zero d h = omega arith
index_at i (suc k) (suc j) d h = index_at (i + 1) k j d (omega (arith, h)) ∙ omega arith

pub first-most : (p : ℕ → Bool) (from n : ℕ) → from ≤ n → first_from p from n ≤ n
first-most p from n h = omega (arith, first-within p (range_with_len from (n - from)), indexes-length from (n - from))

pub first-true : (p : ℕ → Bool) (from n : ℕ) → first_from p from n < n → p (first_from p from n) ≡ true
first-true p from n h =
    let l : length (range_with_len from (n - from)) ≡ n - from = indexes-length from (n - from) in
    ap p (sym (index_at from (n - from) (first_at p (range_with_len from (n - from))) 0 (omega arith)))
    ∙ first_holds p (range_with_len from (n - from)) 0 (omega arith)

-- ---- the first frame, and where there is none the length

found-is : (p : ℕ → Bool) (i k : ℕ) → unwrap_or (find p (range_with_len i k)) (i + k) ≡ i + first_at p (range_with_len i k)
found-is p i zero = refl
found-is p i (suc k) = by-case (p i) (found-is p (i + 1) k) where
  by-case : (t : Bool) → unwrap_or (find p (range_with_len (i + 1) k)) (i + 1 + k) ≡ i + 1 + first_at p (range_with_len (i + 1) k)
      → unwrap_or (cond t (Some i) (find p (range_with_len (i + 1) k))) (i + suc k) ≡ i + cond t zero (suc (first_at p (range_with_len (i + 1) k)))
  by-case true h = omega arith
  by-case false h =
      let e : i + suc k ≡ i + 1 + k = omega arith in
      ap (unwrap_or (find p (range_with_len (i + 1) k))) e ∙ h ∙ omega arith

pub found_first : (p : ℕ → Bool) (from n : ℕ) → from ≤ n → unwrap_or (find p (range_with_len from (n - from))) n ≡ first_from p from n
found_first p from n h =
    let e : n ≡ from + (n - from) = omega arith in
    ap (unwrap_or (find p (range_with_len from (n - from)))) e ∙ found-is p from (n - from)

pub find_nothing : (xs : List ℕ) → find (λ x. false) xs ≡ None
find_nothing [] = refl
find_nothing (x ∷ xs) = find_nothing xs

-- ---- the least frame of the off times from `from` on

-- all of them below n
abbrev Below : ℕ → List ℕ → Type 0
Below n fs = All (λ (f : ℕ). f < n) fs

none-beyond : (n : ℕ) (fs : List ℕ) → Below n fs → filter (leb n) fs ≡ []
none-beyond n [] h = refl
none-beyond n (f ∷ fs) h = by-case (leb n f) refl (none-beyond n fs (All-tail (λ (g : ℕ). g < n) f fs h)) where
  by-case : (t : Bool) → leb n f ≡ t → filter (leb n) fs ≡ [] → cond t (f ∷ filter (leb n) fs) (filter (leb n) fs) ≡ []
  by-case true e rest = absurd (omega (arith, All-head (λ (g : ℕ). g < n) f fs h, leb-true n f e))
  by-case false e rest = rest

one-less : (i : ℕ) (fs : List ℕ) → list_any (λ f. eqb f i) fs ≡ false → filter (leb i) fs ≡ filter (leb (i + 1)) fs
one-less i [] h = refl
one-less i (f ∷ fs) h = by-case (eqb f i) (leb i f) (leb (i + 1) f) refl refl refl h (one-less i fs) where
  by-case : (a s t : Bool) → eqb f i ≡ a → leb i f ≡ s → leb (i + 1) f ≡ t → a || list_any (λ g. eqb g i) fs ≡ false
      → (list_any (λ g. eqb g i) fs ≡ false → filter (leb i) fs ≡ filter (leb (i + 1)) fs)
      → cond s (f ∷ filter (leb i) fs) (filter (leb i) fs) ≡ cond t (f ∷ filter (leb (i + 1)) fs) (filter (leb (i + 1)) fs)
  by-case true s t ea es et h rest = absurd (true≢false h)
  by-case false true true ea es et h rest = ap (λ l. f ∷ l) (rest h)
  by-case false true false ea es et h rest =
      let u : f ≡ i → ⊥ = eqb-false f i ea in absurd (u (omega (arith, leb-true i f es, leb-false (i + 1) f et)))
  by-case false false true ea es et h rest = absurd (omega (arith, leb-false i f es, leb-true (i + 1) f et))
  by-case false false false ea es et h rest = rest h

-- nothing that is left is less
least-stays : (i : ℕ) (fs : List ℕ) → fold min i (filter (leb i) fs) ≡ i
least-stays i [] = refl
least-stays i (f ∷ fs) = by-case (leb i f) refl (least-stays i fs) where
  by-case : (t : Bool) → leb i f ≡ t → fold min i (filter (leb i) fs) ≡ i → fold min i (cond t (f ∷ filter (leb i) fs) (filter (leb i) fs)) ≡ i
  by-case true e rest =
      let m : min i f ≡ i = omega (arith, leb-true i f e) in ap (λ k. fold min k (filter (leb i) fs)) m ∙ rest
  by-case false e rest = rest

least-found : (i a : ℕ) (fs : List ℕ) → i ≤ a → list_any (λ f. eqb f i) fs ≡ true → fold min a (filter (leb i) fs) ≡ i
least-found i a [] low h = absurd (true≢false (sym h))
least-found i a (f ∷ fs) low h = by-case (eqb f i) (leb i f) refl refl h (λ b m. least-found i b fs m) where
  by-case : (s t : Bool) → eqb f i ≡ s → leb i f ≡ t → s || list_any (λ g. eqb g i) fs ≡ true
      → ((b : ℕ) → i ≤ b → list_any (λ g. eqb g i) fs ≡ true → fold min b (filter (leb i) fs) ≡ i)
      → fold min a (cond t (f ∷ filter (leb i) fs) (filter (leb i) fs)) ≡ i
  by-case true true es et h rest =
      let m : min a f ≡ i = omega (arith, low, eqb-true f i es) in ap (λ k. fold min k (filter (leb i) fs)) m ∙ least-stays i fs
  by-case true false es et h rest = absurd (omega (arith, eqb-true f i es, leb-false i f et))
  by-case false true es et h rest = rest (min a f) (omega (arith, low, leb-true i f et)) h
  by-case false false es et h rest = rest a low h

least-there : (i : ℕ) (fs : List ℕ) → list_any (λ f. eqb f i) fs ≡ true → reduce min (filter (leb i) fs) ≡ Some i
least-there i [] h = absurd (true≢false (sym h))
least-there i (f ∷ fs) h = by-case (eqb f i) (leb i f) refl refl h (least-there i fs) where
  by-case : (s t : Bool) → eqb f i ≡ s → leb i f ≡ t → s || list_any (λ g. eqb g i) fs ≡ true
      → (list_any (λ g. eqb g i) fs ≡ true → reduce min (filter (leb i) fs) ≡ Some i)
      → reduce min (cond t (f ∷ filter (leb i) fs) (filter (leb i) fs)) ≡ Some i
  by-case true true es et h rest = ap (λ k. Some (fold min k (filter (leb i) fs))) (eqb-true f i es) ∙ ap Some (least-stays i fs)
  by-case true false es et h rest = absurd (omega (arith, eqb-true f i es, leb-false i f et))
  by-case false true es et h rest = ap Some (least-found i f fs (leb-true i f et) h)
  by-case false false es et h rest = rest h

least_is : (i k : ℕ) (fs : List ℕ) → Below (i + k) fs → reduce min (filter (leb i) fs) ≡ find (λ j. list_any (λ f. eqb f j) fs) (range_with_len i k)
least_is i zero fs h =
    let e : i + zero ≡ i = omega arith in
    ap (reduce min) (none-beyond i fs (subst (λ (n : ℕ). Below n fs) e h))
least_is i (suc k) fs h =
    let e : i + suc k ≡ i + 1 + k = omega arith in
    by-case (list_any (λ f. eqb f i) fs) refl (least_is (i + 1) k fs (subst (λ (n : ℕ). Below n fs) e h)) where
      by-case : (t : Bool) → list_any (λ f. eqb f i) fs ≡ t
          → reduce min (filter (leb (i + 1)) fs) ≡ find (λ j. list_any (λ f. eqb f j) fs) (range_with_len (i + 1) k)
          → reduce min (filter (leb i) fs) ≡ cond t (Some i) (find (λ j. list_any (λ f. eqb f j) fs) (range_with_len (i + 1) k))
      by-case true e rest = least-there i fs e
      by-case false e rest = ap (reduce min) (one-less i fs e) ∙ rest

pub frame-inside : (t : BlockTime) (at : ℕ) → 0 < t.frames → off_frame t at < t.frames
unfolding off_frame
frame-inside t at h = omega arith

-- the frames of the off times
abbrev frames_of : BlockTime → List Off → List ℕ
frames_of t xs = map (λ (o : Off). off_frame t o.at) xs

all-inside : (t : BlockTime) (n : ℕ) (xs : List Off) → 0 < t.frames → t.frames ≤ n → Below n (frames_of t xs)
all-inside t n [] some most = All-nil (λ (g : ℕ). g < n)
all-inside t n (o ∷ xs) some most =
    let h : off_frame t o.at < n = omega (arith, frame-inside t o.at some, most) in
    All-cons (λ (g : ℕ). g < n) (off_frame t o.at) (frames_of t xs) h (all-inside t n xs some most)

same-any : (t : BlockTime) (i : ℕ) (xs : List Off) → list_any (λ f. eqb f i) (frames_of t xs) ≡ list_any (falls_on t i) xs
same-any t i [] = refl
same-any t i (o ∷ xs) = ap (λ b. eqb (off_frame t o.at) i || b) (same-any t i xs)

same-find : (p q : ℕ → Bool) (xs : List ℕ) → ((x : ℕ) → p x ≡ q x) → find p xs ≡ find q xs
same-find p q [] h = refl
same-find p q (x ∷ xs) h = ap (λ b. cond b (Some x) (find p xs)) (h x) ∙ ap (cond (q x) (Some x)) (same-find p q xs h)

pub least_off : (t : BlockTime) (xs : List Off) (from : ℕ) → 0 < t.frames
    → reduce min (filter (leb from) (map (λ (o : Off). off_frame t o.at) xs)) ≡ find (λ i. list_any (falls_on t i) xs) (range_with_len from (t.frames - from))
least_off t xs from some =
    least_is from (t.frames - from) (frames_of t xs) (all-inside t (from + (t.frames - from)) xs some (omega arith))
    ∙ same-find (λ j. list_any (λ f. eqb f j) (frames_of t xs)) (λ i. list_any (falls_on t i) xs) (range_with_len from (t.frames - from)) (λ i. same-any t i xs)

-- the next event is the earlier of the next off time and the next turn of the gate
pub first_event : (t : BlockTime) (q : Offs) (prev : Bool) (gate : Option (List Float)) (from : ℕ) → from ≤ t.frames
    → next_event t q prev gate from ≡ min (unwrap_or (next_off t q from) t.frames) (unwrap_or (next_gate prev gate from t.frames) t.frames)
unfolding next_event next_off next_gate has_event
first_event t q prev gate from low =
    let h : first_at (λ i. list_any (falls_on t i) (off_list q) || turns prev (gate_at gate i)) (range_with_len from (t.frames - from))
    ≡ min (first_at (λ i. list_any (falls_on t i) (off_list q)) (range_with_len from (t.frames - from))) (first_at (λ i. turns prev (gate_at gate i)) (range_with_len from (t.frames - from)))
    = first-or (λ i. list_any (falls_on t i) (off_list q)) (λ i. turns prev (gate_at gate i)) (range_with_len from (t.frames - from)) in
    omega (arith, h, found_first (λ i. list_any (falls_on t i) (off_list q)) from t.frames low, found_first (λ i. turns prev (gate_at gate i)) from t.frames low)

pub same_turn : (prev : Bool) → prev ≡ turns prev false
same_turn true = refl
same_turn false = refl

-- ---- frames without an event change nothing

module _ {S : Type 0} (f : S → ℕ → S) (e : S → ℕ → Bool) (sc : S) (still : (k : ℕ) → e sc k ≡ false → f sc k ≡ sc) where
  skip : (k i : ℕ) → foldl f sc (range_with_len i k) ≡ foldl f sc (range_with_len (i + first_at (e sc) (range_with_len i k)) (k - first_at (e sc) (range_with_len i k)))
  skip zero i = refl
  skip (suc k) i = by-case (e sc i) refl (first_at (e sc) (range_with_len (i + 1) k)) (skip k (i + 1)) where
    by-case : (t : Bool) → e sc i ≡ t → (m : ℕ) → foldl f sc (range_with_len (i + 1) k) ≡ foldl f sc (range_with_len (i + 1 + m) (k - m))
        → foldl f (f sc i) (range_with_len (i + 1) k) ≡ foldl f sc (range_with_len (i + cond t zero (suc m)) (suc k - cond t zero (suc m)))
    by-case true h m rest =
        let a : i + zero ≡ i = omega arith in let b : suc k - zero ≡ suc k = omega arith in
        sym (ap (λ x. foldl f sc (range_with_len x (suc k - zero))) a ∙ ap (λ x. foldl f sc (range_with_len i x)) b)
    by-case false h m rest =
        let a : i + 1 + m ≡ i + suc m = omega arith in let b : k - m ≡ suc k - suc m = omega arith in
        ap (λ s. foldl f s (range_with_len (i + 1) k)) (still i h) ∙ rest ∙ ap (λ x. foldl f sc (range_with_len x (k - m))) a
        ∙ ap (λ x. foldl f sc (range_with_len (i + suc m) x)) b

  pub skip-to : (i n ev : ℕ) → i ≤ n → ev ≡ first_from (e sc) i n → foldl f sc (range_with_len i (n - i)) ≡ foldl f sc (range_with_len ev (n - ev))
  skip-to i n ev h at =
      let m : ℕ = first_at (e sc) (range_with_len i (n - i)) in
      let a : i + first_at (e sc) (range_with_len i (n - i)) ≡ ev = sym at in
      let b : n - i - first_at (e sc) (range_with_len i (n - i)) ≡ n - ev = omega arith in
      skip (n - i) i ∙ ap (λ x. foldl f sc (range_with_len x (n - i - first_at (e sc) (range_with_len i (n - i))))) a
      ∙ ap (λ x. foldl f sc (range_with_len ev x)) b
