-- One walk that asks several things of the list, with a count for each live voice. Assumes nothing.
use Rattle.std.specs.List.{list_any, position_or_len}
use Rattle.std.specs.Prelude.{cond, filter, count_by, Option, Some, None, is_some}
use Prim.Native.Nat.{ℕ, zero, suc, ◌+◌, ◌-◌, ◌<◌, ◌≤◌}
use mathlib.Core.Path.{◌≡◌, refl, sym, ap, ◌∙◌}
use mathlib.Core.Bool.{Bool, true, false, not, ◌&&◌, ◌||◌, true≢false}
use mathlib.Core.List.{List, [], ◌∷◌, ◌++◌}
use native.Mathlib.Omega.{arith}
use native.Mathlib.Numerals.{add-one}
use lib.ListN.{length, take, drop, get_or, set, replicate, length-set, length-append, take-append-drop}
use lib.Seq.{take-suc, get_or-set_same, get_or-set_other, take-take}
use lib.Dec.{eqb, ltb, leb}
use borrow.Author.Tests.{eqb-true, eqb-false, eq-eqb, le-ltb, lt-ltb, ltb-true, ltb-false, not-true}
use Rattle.program.specs.Valid.{every}
use Rattle.session.specs.Lists.{elem, used_of}
use Rattle.session.specs.Offs.{first_at}
use Rattle.session.specs.Records.{of_voice}
use Rattle.session.specs.State.{view, live_ids}
use Rattle.session.specs.Tests.{is_live, over_live, twice_live, stray_record, over_records, over_voice, region_outside}
use Rattle.causes.specs.Tests.{live_tests, session_tests}
use Rattle.causes.specs.Others.{place_in, found_in, IsPlace, outside, owned, amiss, others_fit}
use Rattle.session.specs.declared.PlayerRecord.{PlayerRecord}
use Rattle.session.specs.declared.Session.{Session}
use Rattle.session.proofs.Relist.{take-few}
use Rattle.session.proofs.Walks.{used-below}
use Rattle.std.proofs.lemmas.List.{take_all}
use Rattle.std.proofs.lemmas.List.Recursion.{is_position_or_len}
use Rattle.std.proofs.lemmas.List.Elements.{filter-append}
use Rattle.std.proofs.lemmas.List.Sums.{length-filter, count_by_more_yes, count_by_more_no}

-- ---- any, by places

module _ {A : Type 0} (p : A → Bool) where
  any_at : (xs : List A) (j : ℕ) (d : A) → j < length xs → p (get_or xs j d) ≡ true → list_any p xs ≡ true
  any_at [] j d h e = absurd (omega (arith, h))
  any_at (x ∷ xs) zero d h e = ap (λ t. t || list_any p xs) e
  any_at (x ∷ xs) (suc j) d h e = by-case (p x) (any_at xs j d (omega (arith, h)) e) where
    by-case : (t : Bool) → list_any p xs ≡ true → t || list_any p xs ≡ true
    by-case true k = refl
    by-case false k = k

  any-nowhere : (xs : List A) (d : A) → ((j : ℕ) → j < length xs → p (get_or xs j d) ≡ false) → list_any p xs ≡ false
  any-nowhere [] d h = refl
  any-nowhere (x ∷ xs) d h =
      ap (λ t. t || list_any p xs) (h 0 (omega arith)) ∙ any-nowhere xs d (λ j k. h (suc j) (omega (arith, k)))

  any-one-more : (xs : List A) (x : A) → list_any p (xs ++ (x ∷ [])) ≡ list_any p xs || p x
  any-one-more [] x = by-case (p x) where
    by-case : (t : Bool) → t || false ≡ t
    by-case true = refl
    by-case false = refl
  any-one-more (y ∷ xs) x = by-case (p y) (any-one-more xs x) where
    by-case : (t : Bool) → list_any p (xs ++ (x ∷ [])) ≡ list_any p xs || p x → t || list_any p (xs ++ (x ∷ [])) ≡ (t || list_any p xs) || p x
    by-case true h = refl
    by-case false h = h

  pub any_step : (xs : List A) (i : ℕ) (d : A) → i < length xs → list_any p (take (i + 1) xs) ≡ list_any p (take i xs) || p (get_or xs i d)
  any_step xs i d h = rw (add-one, take-suc xs i d h) (any-one-more (take i xs) (get_or xs i d))

  some-there : (xs : List A) → first_at p xs < length xs → list_any p xs ≡ true
  some-there [] h = absurd (omega (arith, h))
  some-there (x ∷ xs) h = by-case (p x) h (some-there xs) where
    by-case : (t : Bool) → cond t zero (suc (first_at p xs)) < suc (length xs) → (first_at p xs < length xs → list_any p xs ≡ true) → t || list_any p xs ≡ true
    by-case true k rest = refl
    by-case false k rest = rest (omega (arith, k))

  none-there : (xs : List A) → length xs ≤ first_at p xs → list_any p xs ≡ false
  none-there [] h = refl
  none-there (x ∷ xs) h = by-case (p x) h (none-there xs) where
    by-case : (t : Bool) → suc (length xs) ≤ cond t zero (suc (first_at p xs)) → (length xs ≤ first_at p xs → list_any p xs ≡ false) → t || list_any p xs ≡ false
    by-case true k rest = absurd (omega (arith, k))
    by-case false k rest = rest (omega (arith, k))

  first_holds : (xs : List A) (d : A) → first_at p xs < length xs → p (get_or xs (first_at p xs) d) ≡ true
  first_holds [] d h = absurd (omega (arith, h))
  first_holds (x ∷ xs) d h = by-case (p x) refl h (first_holds xs d) where
    by-case : (t : Bool) → p x ≡ t → cond t zero (suc (first_at p xs)) < suc (length xs) → (first_at p xs < length xs → p (get_or xs (first_at p xs) d) ≡ true)
        → p (get_or (x ∷ xs) (cond t zero (suc (first_at p xs))) d) ≡ true
    by-case true e k rest = e
    by-case false e k rest = rest (omega (arith, k))

  first-before : (xs : List A) (j : ℕ) (d : A) → j < length xs → p (get_or xs j d) ≡ true → first_at p xs ≤ j
  first-before [] j d h e = absurd (omega (arith, h))
  first-before (x ∷ xs) zero d h e = let q : cond (p x) zero (suc (first_at p xs)) ≡ zero = ap (λ t. cond t zero (suc (first_at p xs))) e in omega (arith, q)
  first-before (x ∷ xs) (suc j) d h e = by-case (p x) (first-before xs j d (omega (arith, h)) e) where
    by-case : (t : Bool) → first_at p xs ≤ j → cond t zero (suc (first_at p xs)) ≤ suc j
    by-case true k = omega arith
    by-case false k = omega (arith, k)

  any-or : (q : A → Bool) (xs : List A) → list_any (λ x. p x || q x) xs ≡ list_any p xs || list_any q xs
  any-or q [] = refl
  any-or q (x ∷ xs) = by-case (p x) (q x) (list_any p xs) (list_any q xs) (any-or q xs) where
    by-case : (s t a b : Bool) → list_any (λ y. p y || q y) xs ≡ a || b → (s || t) || list_any (λ y. p y || q y) xs ≡ (s || a) || (t || b)
    by-case true t a b h = refl
    by-case false true true b h = refl
    by-case false true false b h = refl
    by-case false false a b h = h

  count-grows : (xs : List A) (m n : ℕ) → m ≤ n → count_by p (take m xs) ≤ count_by p (take n xs)
  count-grows xs m n h =
      let e : take n xs ≡ take m (take n xs) ++ drop m (take n xs) = sym (take-append-drop m (take n xs)) in
      let f : filter p (take n xs) ≡ filter p (take m (take n xs)) ++ filter p (drop m (take n xs)) = ap (filter p) e ∙ filter-append p (take m (take n xs)) (drop m (take n xs)) in
      let g : take m (take n xs) ≡ take m xs = take-take m n xs h in
      omega (
        arith,
        length-filter p (take m xs),
        length-filter p (take n xs),
        ap length f ∙ length-append (filter p (take m (take n xs))) (filter p (drop m (take n xs))),
        ap (λ l. length (filter p l)) g,
      )

pub zero-at : (n p : ℕ) → ◌≡◌ {A = ℕ} (get_or (replicate n 0) p 0) 0
zero-at zero p = refl
zero-at (suc n) zero = refl
zero-at (suc n) (suc p) = zero-at n p

-- ---- where a number stands

-- std's first place is the session's
same-place : {A : Type 0} (p : A → Bool) (xs : List A) → first_at p xs ≡ position_or_len p xs
same-place {A} p xs = is_position_or_len (first_at p) p refl step xs
  where
    step : (x : A) (xs : List A) → first_at p (x ∷ xs) ≡ cond (p x) 0 (1 + first_at p xs)
    step x xs = let e : suc (first_at p xs) ≡ 1 + first_at p xs = omega arith in ap (λ n. cond (p x) 0 n) e

by-place : (k : ℕ) (xs : List ℕ) → cond (ltb (place_in k xs) (length xs)) (Some (place_in k xs)) None ≡ found_in k xs
by-place k xs = ap (λ n. cond (ltb n (length xs)) (Some n) None) (same-place (λ x. eqb x k) xs)

pub found-at : (k : ℕ) (xs : List ℕ) (j : ℕ) → found_in k xs ≡ Some j → (j ≡ place_in k xs) × (j < length xs)
found-at k xs j e = by-case (ltb (place_in k xs) (length xs)) refl (by-place k xs ∙ e)
  where
    by-case : (t : Bool) → ltb (place_in k xs) (length xs) ≡ t → cond t (Some (place_in k xs)) None ≡ Some j → (j ≡ place_in k xs) × (j < length xs)
    by-case true f g = let h : place_in k xs ≡ j = cc in let l : place_in k xs < length xs = ltb-true _ _ f in (sym h, omega arith)
    by-case false f g = cc

pub found-none : (k : ℕ) (xs : List ℕ) → found_in k xs ≡ None → length xs ≤ place_in k xs
found-none k xs e = by-case (ltb (place_in k xs) (length xs)) refl (by-place k xs ∙ e)
  where
    by-case : (t : Bool) → ltb (place_in k xs) (length xs) ≡ t → cond t (Some (place_in k xs)) None ≡ None → length xs ≤ place_in k xs
    by-case true f g = cc
    by-case false f g = ltb-false _ _ f

found-here : (k : ℕ) (xs : List ℕ) (j : ℕ) → j ≡ place_in k xs → j < length xs → Some j ≡ found_in k xs
found-here k xs j e h =
    let l : place_in k xs < length xs = omega arith in
    ap (λ n. Some n) e ∙ sym (ap (λ t. cond t (Some (place_in k xs)) None) (lt-ltb _ _ l)) ∙ by-place k xs

-- ---- the walk

-- of a region outside n, of the voice itself, or of no live voice
abbrev pub suspect : Option ℕ → Option ℕ → List ℕ → PlayerRecord → Bool
suspect n id ids r = amiss n id r || not (elem r.voice ids)

-- where the walk stands: none of the first i is suspect, and each live voice's count stands at its place, at most 32
pub record Tallied (nr id : Option ℕ) (ids : List ℕ) (xs : List PlayerRecord) (i : ℕ) (counts : List ℕ) : Type 0 where
  pub within : i ≤ length xs
  pub size : length counts ≡ 16
  pub places : length ids ≤ 16
  pub clean : list_any (suspect nr id ids) (take i xs) ≡ false
  pub tally : (k : ℕ) → place_in k ids < length ids → get_or counts (place_in k ids) 0 ≡ count_by (of_voice k) (take i xs)
  pub few : (k : ℕ) → place_in k ids < length ids → count_by (of_voice k) (take i xs) ≤ 32

module _ (nr id : Option ℕ) (s : Session) where
  -- the tests of the list, as the walk asks them
  asked : others_fit nr id s ≡ not (list_any (suspect nr id (live_ids s.voices)) (view s)) && not (over_voice s)
  unfolding others_fit stray_record
  asked =
      let ids = live_ids s.voices in
      let e : list_any (suspect nr id ids) (view s) ≡ (list_any (outside nr) (view s) || list_any (owned id) (view s)) || list_any (λ r. not (elem r.voice ids)) (view s)
      = any-or (amiss nr id) (λ r. not (elem r.voice ids)) (view s) ∙ ap (λ t. t || list_any (λ r. not (elem r.voice ids)) (view s)) (any-or (outside nr) (owned id) (view s)) in
      by-case (list_any (λ r. not (elem r.voice ids)) (view s)) (over_voice s) (list_any (outside nr) (view s)) (list_any (owned id) (view s))
      ∙ ap (λ t. not t && not (over_voice s)) (sym e)
    where
      by-case : (a o b c : Bool) → not a && (not o && (not b && not c)) ≡ not ((b || c) || a) && not o
      by-case true o true c = refl
      by-case true o false true = refl
      by-case true o false false = refl
      by-case false true true c = refl
      by-case false true false true = refl
      by-case false true false false = refl
      by-case false false true c = refl
      by-case false false false true = refl
      by-case false false false false = refl

  suspected : list_any (suspect nr id (live_ids s.voices)) (view s) ≡ true → false ≡ others_fit nr id s
  suspected e = sym (asked ∙ ap (λ t. not t && not (over_voice s)) e)

  crowded : over_voice s ≡ true → false ≡ others_fit nr id s
  crowded e = sym (asked ∙ ap (λ t. not (list_any (suspect nr id (live_ids s.voices)) (view s)) && not t) e ∙ by-case (list_any (suspect nr id (live_ids s.voices)) (view s))) where
    by-case : (t : Bool) → not t && false ≡ false
    by-case true = refl
    by-case false = refl

  well : list_any (suspect nr id (live_ids s.voices)) (view s) ≡ false → over_voice s ≡ false → true ≡ others_fit nr id s
  well e f = sym (asked ∙ ap (λ t. not t && not (over_voice s)) e ∙ ap not f)

  module _ (rs : List PlayerRecord) (listed : rs ≡ view s) (ids : List ℕ) (told : ids ≡ live_ids s.voices) where
    -- one of them is suspect
    suspect-there : list_any (suspect nr id ids) rs ≡ true → false ≡ others_fit nr id s
    suspect-there e =
        suspected (ap (λ l. list_any (suspect nr id l) (view s)) (sym told) ∙ ap (list_any (suspect nr id ids)) (sym listed) ∙ e)

    pub tally-none : (counts : List ℕ) → length counts ≡ 16 → ((p : ℕ) → get_or counts p 0 ≡ 0) → Tallied nr id ids rs 0 counts
    tally-none counts size zeros =
        record {
          within = omega arith;
          size = size;
          places = omega (arith, ap length told, take-few (used_of 16 s.voices.count) s.voices.ids, used-below 16 s.voices.count);
          clean = refl;
          tally = λ k h. zeros (place_in k ids);
          few = λ k h. omega arith;
        }

    module _ (i : ℕ) (counts : List ℕ) (h : Tallied nr id ids rs i counts) where
      pub tally-done : length rs ≤ i → true ≡ others_fit nr id s
      unfolding over_voice
      tally-done q =
          let e : take i rs ≡ view s = take_all i rs q ∙ listed in
          let c : list_any (suspect nr id (live_ids s.voices)) (view s) ≡ false
          = ap (λ l. list_any (suspect nr id l) (view s)) (sym told) ∙ ap (list_any (suspect nr id ids)) (sym e) ∙ h.clean in
          well c (any-nowhere (λ k. ltb 32 (count_by (of_voice k) (view s))) (live_ids s.voices) 0
          (λ j k. le-ltb 32 (count_by (of_voice (get_or (live_ids s.voices) j 0)) (view s)) (few-at j k e)))
        where
          few-at : (j : ℕ) → j < length (live_ids s.voices) → take i rs ≡ view s → count_by (of_voice (get_or (live_ids s.voices) j 0)) (view s) ≤ 32
          few-at j k e =
              let w : ℕ = get_or (live_ids s.voices) j 0 in
              let b : place_in w (live_ids s.voices) ≤ j = first-before (λ x. eqb x w) (live_ids s.voices) j 0 k (eq-eqb w w refl) in
              let g : place_in w ids < length ids = rw told (omega arith) in
              rw (← e) (h.few w g)

      module _ (d : PlayerRecord) (inside : i < length rs) where
        pub tally-amiss : (b : Bool) → b ≡ amiss nr id (get_or rs i d) → b ≡ true → false ≡ others_fit nr id s
        tally-amiss b f e =
            suspect-there (any_at (suspect nr id ids) rs i d inside (ap (λ t. t || not (elem (get_or rs i d).voice ids)) (sym f ∙ e)))

        module _ (fine : amiss nr id (get_or rs i d) ≡ false) where
          pub tally-stray : found_in (get_or rs i d).voice ids ≡ None → false ≡ others_fit nr id s
          tally-stray q =
              let e : elem (get_or rs i d).voice ids ≡ false = none-there (λ x. eqb x (get_or rs i d).voice) ids (found-none (get_or rs i d).voice ids q) in
              suspect-there (any_at (suspect nr id ids) rs i d inside (ap (λ t. amiss nr id (get_or rs i d) || not t) e ∙ by-case (amiss nr id (get_or rs i d))))
            where
              by-case : (t : Bool) → t || true ≡ true
              by-case true = refl
              by-case false = refl

          module _ (p : ℕ) (found : found_in (get_or rs i d).voice ids ≡ Some p) where
            at : p ≡ place_in (get_or rs i d).voice ids
            at = (found-at (get_or rs i d).voice ids p found).0

            pub there : p < length ids
            there = (found-at (get_or rs i d).voice ids p found).1

            counted-here : count_by (of_voice (get_or rs i d).voice) (take i rs) + 1 ≡ count_by (of_voice (get_or rs i d).voice) (take (i + 1) rs)
            counted-here =
                sym (count_by_more_yes (of_voice (get_or rs i d).voice) rs i d inside (eq-eqb (get_or rs i d).voice (get_or rs i d).voice refl))

            tally-here : get_or counts p 0 ≡ count_by (of_voice (get_or rs i d).voice) (take i rs)
            tally-here = ap (λ q. get_or counts q 0) at ∙ h.tally (get_or rs i d).voice (omega (arith, at, there))

            pub tally-over : 32 ≤ get_or counts p 0 → false ≡ others_fit nr id s
            unfolding over_voice
            tally-over q =
                let w : ℕ = (get_or rs i d).voice in
                let l₀ : place_in w ids < length ids = omega (arith, at, there) in
                let l : place_in w (live_ids s.voices) < length (live_ids s.voices) = rw told at l₀ in
                let v : get_or (live_ids s.voices) (place_in w (live_ids s.voices)) 0 ≡ w = eqb-true _ _ (first_holds (λ x. eqb x w) (live_ids s.voices) 0 l) in
                let a : take (length rs) rs ≡ view s = take_all (length rs) rs (omega arith) ∙ listed in
                let c : 32 < count_by (of_voice w) (view s) = rw (← a) (omega (arith, tally-here, counted-here, count-grows (of_voice w) rs (i + 1) (length rs) (omega arith))) in
                crowded (any_at (λ k. ltb 32 (count_by (of_voice k) (view s))) (live_ids s.voices) (place_in w (live_ids s.voices)) 0 l
                (ap (λ k. ltb 32 (count_by (of_voice k) (view s))) v ∙ lt-ltb 32 (count_by (of_voice w) (view s)) c))

            pub tally-next : get_or counts p 0 < 32 → (x : ℕ) → x ≡ get_or counts p 0 + 1 → Tallied nr id ids rs (i + 1) (set counts p x)
            tally-next q x e =
                record {
                  within = omega arith;
                  size = length-set counts p x ∙ h.size;
                  places = h.places;
                  clean = clean-on;
                  tally = λ k g. (by-voice k g (eqb (get_or rs i d).voice k) refl).0;
                  few = λ k g. (by-voice k g (eqb (get_or rs i d).voice k) refl).1;
                }
              where
                here : p < length counts
                here = omega (arith, h.size, h.places, there)

                clean-on : list_any (suspect nr id ids) (take (i + 1) rs) ≡ false
                clean-on =
                    let e : elem (get_or rs i d).voice ids ≡ true = some-there (λ y. eqb y (get_or rs i d).voice) ids (omega (arith, at, there)) in
                    any_step (suspect nr id ids) rs i d inside
                    ∙ ap (λ t. t || suspect nr id ids (get_or rs i d)) h.clean
                    ∙ ap (λ t. t || not (elem (get_or rs i d).voice ids)) fine ∙ ap not e

                by-voice : (k : ℕ) → place_in k ids < length ids → (t : Bool) → eqb (get_or rs i d).voice k ≡ t
                    → (get_or (set counts p x) (place_in k ids) 0 ≡ count_by (of_voice k) (take (i + 1) rs)) × (count_by (of_voice k) (take (i + 1) rs) ≤ 32)
                by-voice k g true f =
                    let same : (get_or rs i d).voice ≡ k = eqb-true (get_or rs i d).voice k f in
                    let c : count_by (of_voice k) (take i rs) + 1 ≡ count_by (of_voice k) (take (i + 1) rs) = rw same at counted-here in
                    let m : get_or counts p 0 ≡ count_by (of_voice k) (take i rs) = rw same at tally-here in
                    let z : place_in k ids ≡ p = sym (rw same at at) in
                    (ap (λ j. get_or (set counts p x) j 0) z ∙ get_or-set_same counts p x 0 here ∙ omega arith, omega arith)
                by-voice k g false f =
                    let apart : (get_or rs i d).voice ≡ k → ⊥ = eqb-false (get_or rs i d).voice k f in
                    let c : count_by (of_voice k) (take i rs) ≡ count_by (of_voice k) (take (i + 1) rs) = sym (count_by_more_no (of_voice k) rs i d inside f) in
                    let there-k : get_or ids (place_in k ids) 0 ≡ k = eqb-true _ _ (first_holds (λ y. eqb y k) ids 0 g) in
                    let there-w : get_or ids p 0 ≡ (get_or rs i d).voice = ap (λ j. get_or ids j 0) at ∙ eqb-true _ _ (first_holds (λ y. eqb y (get_or rs i d).voice) ids 0 (omega (arith, at, there))) in
                    let other : place_in k ids ≡ p → ⊥ = λ z. apart (sym there-w ∙ ap (λ j. get_or ids j 0) (sym z) ∙ there-k) in
                    (get_or-set_other counts p (place_in k ids) x 0 other ∙ h.tally k g ∙ c, omega (arith, h.few k g, c))

-- ---- what a walk that finds nothing tells

pub none-is : (o : Option ℕ) → not (is_some o) ≡ true → o ≡ None
none-is None e = refl
none-is (Some n) e = cc

pub and_both : (a b : Bool) → (a && b) ≡ true → (a ≡ true) × (b ≡ true)
and_both true b e = (refl, e)
and_both false b e = absurd (true≢false (sym e))

pub fit-tells : (n id : Option ℕ) (s : Session) → others_fit n id s ≡ true
    → (stray_record s ≡ false) × (over_voice s ≡ false) × (list_any (outside n) (view s) ≡ false) × (list_any (owned id) (view s) ≡ false)
unfolding others_fit
fit-tells n id s e =
    let a = and_both (not (stray_record s)) _ e in
    let b = and_both (not (over_voice s)) _ a.1 in
    let c = and_both (not (list_any (outside n) (view s))) _ b.1 in
    (not-true _ a.0, not-true _ b.0, not-true _ c.0, not-true _ c.1)

-- nobody is outside of no program, and nobody is no voice's
nobody : (rs : List PlayerRecord) → list_any (λ (r : PlayerRecord). false) rs ≡ false
nobody [] = refl
nobody (r ∷ rs) = nobody rs

-- the regions of a program
pub region-tells : (n : ℕ) (s : Session) → list_any (outside (Some n)) (view s) ≡ false → region_outside n s ≡ false
unfolding region_outside
region-tells n s e = e

-- the other way about
pub fit-from : (n : ℕ) (s : Session) → stray_record s ≡ false → over_voice s ≡ false → region_outside n s ≡ false → others_fit (Some n) None s ≡ true
unfolding others_fit region_outside
fit-from n s a b c =
    ap (λ t. not t && (not (over_voice s) && (not (list_any (outside (Some n)) (view s)) && not (list_any (owned None) (view s))))) a
    ∙ ap (λ t. not t && (not (list_any (outside (Some n)) (view s)) && not (list_any (owned None) (view s)))) b
    ∙ ap (λ t. not t && not (list_any (owned None) (view s))) c
    ∙ ap not (nobody (view s))

-- the session's tests, from those of the live voices and of the list
pub session-as : (id : ℕ) (s : Session) → every (live_tests id s) && others_fit None None s ≡ every (session_tests id s)
unfolding others_fit
session-as id s =
    ap (λ t. every (live_tests id s) && (not (stray_record s) && (not (over_voice s) && (not t && not t)))) (nobody (view s))
    ∙ by-case (is_live id s) (over_live s) (twice_live s) (over_records s) (stray_record s) (over_voice s)
  where
    by-case : (a b c d e f : Bool)
        → every (a ∷ not b ∷ not c ∷ not d ∷ []) && (not e && (not f && true)) ≡ every (a ∷ not b ∷ not c ∷ not e ∷ not d ∷ not f ∷ [])
    by-case false b c d e f = refl
    by-case true true c d e f = refl
    by-case true false true d e f = refl
    by-case true false false true true f = refl
    by-case true false false true false f = refl
    by-case true false false false true f = refl
    by-case true false false false false true = refl
    by-case true false false false false false = refl

-- ---- the place of an id, from the one before

-- the first place of an id is one
pub place_found : (xs : List ℕ) (id : ℕ) (o : Option ℕ) → o ≡ found_in id xs → IsPlace xs o
place_found xs id None e = tt
place_found xs id (Some k) e =
    let f = found-at id xs k (sym e) in
    let g : place_in id xs < length xs = omega (arith, f.0, f.1) in
    let there : get_or xs (place_in id xs) 0 ≡ id = eqb-true _ _ (first_holds (λ x. eqb x id) xs 0 g) in
    (f.1, f.0 ∙ ap (λ (y : ℕ). place_in y xs) (sym there ∙ ap (λ (j : ℕ). get_or xs j 0) (sym f.0)))

-- a place at which the id stands
pub place-again : (xs : List ℕ) (id k : ℕ) → IsPlace xs (Some k) → get_or xs k 0 ≡ id → Some k ≡ found_in id xs
place-again xs id k p e = found-here id xs k (p.1 ∙ ap (λ (y : ℕ). place_in y xs) e) p.0
