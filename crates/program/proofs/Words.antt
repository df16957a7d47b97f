-- Laws of a region's words, and of a sample's. Assumes nothing.
use Rattle.std.proofs.Common.{◌≡◌, ℕ, zero, suc, ◌+◌, ◌*◌, ◌/◌, ◌<◌, ◌≤◌, List, [], ◌∷◌, length, take, drop, replicate, get_or, refl, sym, ap, ◌∙◌, zero-add, map, cond, Bool, true, false, Option, None, Some, arith}
use Rattle.std.proofs.lemmas.List.{drop-drop}
use Rattle.std.specs.Option.{unwrap_or, option_map, option_copied}
use Rattle.std.specs.Simd.{first_chunks}
use Rattle.std.specs.List.{range_with_len}
use denote.Ref.{Bor}
use lib.Dec.{leb}
use borrow.Author.Tests.{leb-true, leb-false}
use lib.ListN.{get_or-eq_default}
use lib.Seq.{get_or-take, get_or-drop}
use native.Mathlib.Nat.{add-zero}
use Rattle.program.specs.Region.{float_of, words_of}
use Rattle.program.specs.Sample.{sample_of, sample_at}

-- what a reference that may be missing points to
pub lent : {A : Type 0} (o : Option (Bor A)) (d : Bor A) → (unwrap_or o d).now ≡ unwrap_or (option_map (λ (x : Bor A). x.now) o) d.now
lent None d = refl
lent (Some x) d = refl

pub copied-or : (m : Option (List ℕ)) (o : Option (Bor (List ℕ))) (d : List ℕ) → m ≡ option_copied o → unwrap_or m d ≡ unwrap_or (option_map (λ (x : Bor (List ℕ)). x.now) o) d
copied-or m None d e = ap (λ n. unwrap_or n d) e
copied-or m (Some x) d e = ap (λ n. unwrap_or n d) e

-- part i of n parts of w words, or d
pub part-at : (w n i : ℕ) (xs d : List ℕ) → i < n → get_or (first_chunks w n xs) i d ≡ take w (drop (i * w) xs)
part-at w zero i xs d h = absurd (omega arith)
part-at w (suc n) zero xs d h = let e : 0 * w ≡ 0 = omega arith in rw e refl
part-at w (suc n) (suc i) xs d h =
    part-at w n i (drop w xs) d (omega arith) ∙ ap (take w) (drop-drop (i * w) w xs)
    ∙ ap (λ k. take w (drop k xs)) (let e : w + i * w ≡ suc i * w = omega arith in e)

pub parts-length : (w n : ℕ) (xs : List ℕ) → length (first_chunks w n xs) ≡ n
parts-length w zero xs = refl
parts-length w (suc n) xs = ap suc (parts-length w n (drop w xs))

pub part-past : (w n i : ℕ) (xs d : List ℕ) → n ≤ i → get_or (first_chunks w n xs) i d ≡ d
part-past w n i xs d h = get_or-eq_default (first_chunks w n xs) d (let e = parts-length w n xs in omega arith)

-- region i's words are a part of the program's, or zeros
pub words-are : (ws : List ℕ) (i : ℕ) → get_or (first_chunks 392 (length ws / 392) ws) i (replicate 392 0) ≡ words_of ws i
unfolding words_of
words-are ws i = by-case (leb (i * 392 + 392) (length ws)) refl where
  by-case : (t : Bool) → leb (i * 392 + 392) (length ws) ≡ t → get_or (first_chunks 392 (length ws / 392) ws) i (replicate 392 0) ≡ cond t (take 392 (drop (i * 392) ws)) (replicate 392 0)
  by-case true e = let h = leb-true _ _ e in part-at 392 (length ws / 392) i ws (replicate 392 0) (omega arith)
  by-case false e = let h = leb-false _ _ e in part-past 392 (length ws / 392) i ws (replicate 392 0) (omega arith)

-- sample j's words are a part of the program's, or zeros
pub sample-is : (ss : List ℕ) (j : ℕ) (w : List ℕ) → w ≡ get_or (first_chunks 4 (length ss / 4) ss) j (0 ∷ 0 ∷ 0 ∷ 0 ∷ [])
    → record { rate = float_of (get_or w 0 0); channels = get_or w 1 0; frames = get_or w 2 0; start = get_or w 3 0 } ≡ sample_at ss j
unfolding sample_at
sample-is ss j w is = by-case (leb (j * 4 + 4) (length ss)) refl where
  by-case : (t : Bool) → leb (j * 4 + 4) (length ss) ≡ t
      → record { rate = float_of (get_or w 0 0); channels = get_or w 1 0; frames = get_or w 2 0; start = get_or w 3 0 }
      ≡ cond t (sample_of ss (j * 4)) (record { rate = float_of 0; channels = 0; frames = 0; start = 0 })
  by-case true e =
      let h = leb-true _ _ e in
      let part : w ≡ take 4 (drop (j * 4) ss) = is ∙ part-at 4 (length ss / 4) j ss (0 ∷ 0 ∷ 0 ∷ 0 ∷ []) (omega arith) in
      let at : (k : ℕ) → k < 4 → get_or w k 0 ≡ get_or ss (j * 4 + k) 0 =
      λ k l. ap (λ v. get_or v k 0) part ∙ get_or-take 4 (drop (j * 4) ss) k 0 l ∙ get_or-drop (j * 4) ss k 0 in
      let first : get_or w 0 0 ≡ get_or ss (j * 4) 0 = at 0 (omega arith) ∙ ap (λ k. get_or ss k 0) (add-zero (j * 4)) in
      rw (first, at 1 (omega arith), at 2 (omega arith), at 3 (omega arith)) refl
  by-case false e =
      let h = leb-false _ _ e in
      let none : w ≡ 0 ∷ 0 ∷ 0 ∷ 0 ∷ [] = is ∙ part-past 4 (length ss / 4) j ss (0 ∷ 0 ∷ 0 ∷ 0 ∷ []) (omega arith) in
      rw none refl

-- a list of n elements, of which the j-th is f at i + j
made-from : {A : Type 0} (f : ℕ → A) (ys : List A) (i n : ℕ) → length ys ≡ n → ((j : ℕ) (d : A) → j < n → get_or ys j d ≡ f (i + j)) → ys ≡ map f (range_with_len i n)
made-from f [] i zero e h = refl
made-from f [] i (suc n) e h = absurd (omega arith)
made-from f (y ∷ ys) i zero e h = absurd (omega arith)
made-from f (y ∷ ys) i (suc n) e h =
    let first : y ≡ f i = h 0 y (omega arith) ∙ ap f (add-zero i) in
    let rest : ys ≡ map f (range_with_len (i + 1) n) =
    made-from f ys (i + 1) n (omega arith) (λ j d l. h (suc j) d (omega arith) ∙ ap f (let q : i + suc j ≡ i + 1 + j = omega arith in q)) in
    cc

pub made-by : {A : Type 0} (f : ℕ → A) (ys : List A) (n : ℕ) → length ys ≡ n → ((i : ℕ) (d : A) → i < n → get_or ys i d ≡ f i) → ys ≡ map f (range_with_len 0 n)
made-by f ys n e h = made-from f ys 0 n e (λ j d l. h j d l ∙ ap f (sym (zero-add j)))
