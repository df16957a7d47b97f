-- The session with another list of records. Assumes nothing.
use Rattle.std.proofs.Common.{◌≡◌, ℕ, zero, suc, ◌+◌, ◌<◌, ◌≤◌, Bool, true, false, ltb, filter, append_assoc, List, [], ◌∷◌, ◌++◌, length, take, drop, set, sym, refl, ap, ◌∙◌, arith, length-append, length-drop, take-append-drop, length-take-le, drop_at, le-ltb, lt-ltb, cond}
use lib.Seq.{take-append_seam}
use Rattle.std.proofs.lemmas.List.{drop-append-le}
use Rattle.std.proofs.lemmas.List.Sums.{length-filter, count_by-le-length}
use Rattle.session.specs.Rules.{enter}
use Rattle.session.proofs.Packing.{put-behind}
use Rattle.session.specs.Lists.{used_of, packed}
use Rattle.session.specs.State.{view, with_players, relist}
use Rattle.session.specs.declared.PlayerRecord.{PlayerRecord}
use Rattle.session.specs.declared.Session.{Session}
use Rattle.session.proofs.Walks.{used-below, used-small}

pub packed-size : {A : Type 0} (ks xs : List A) → length ks ≤ length xs → length (packed ks xs) ≡ length xs
packed-size ks xs h = length-append ks (drop (length ks) xs) ∙ omega (arith, length-drop (length ks) xs)

pub take-few : {A : Type 0} (n : ℕ) (xs : List A) → length (take n xs) ≤ n
take-few zero xs = omega arith
take-few (suc n) [] = omega arith
take-few (suc n) (x ∷ xs) = omega (arith, take-few n xs)

-- what is packed among the first n is packed among all
pub packed-within : {A : Type 0} (ks front xs back : List A) (n : ℕ) → length front ≡ n → front ≡ take n xs → back ≡ drop n xs → length ks ≤ n
    → packed ks front ++ back ≡ packed ks xs
packed-within ks front xs back n m e f h =
    append_assoc ks (drop (length ks) front) back
    ∙ ap (λ l. ks ++ l) (sym (drop-append-le (length ks) front back (omega (arith, m, h))) ∙ ap (drop (length ks)) (rw (e, f) (take-append-drop n xs)))

pub keep-fewer : {A : Type 0} (p : A → Bool) (xs : List A) → length (filter p xs) ≤ length xs
keep-fewer p xs = omega (arith, length-filter p xs, count_by-le-length p xs)

-- the list never has more than 512 records
pub view-few : (s : Session) → length (view s) ≤ 512
view-few s = omega (arith, take-few (used_of 512 s.count) s.players, used-below 512 s.count)

module _ (s : Session) (size : length s.players ≡ 512) where
  pub view-length : length (view s) ≡ used_of 512 s.count
  view-length = length-take-le (used_of 512 s.count) s.players (omega (arith, used-below 512 s.count))

  pub relist-size : (ks : List PlayerRecord) → length ks ≤ 512 → length (relist ks s).players ≡ 512
  relist-size ks h = packed-size ks s.players (omega arith) ∙ size

  -- what was put in is the list
  pub view-relist : (ks : List PlayerRecord) → length ks ≤ 512 → view (relist ks s) ≡ ks
  view-relist ks h = ap (λ (n : ℕ). take n (packed ks s.players)) (used-small 512 (length ks) h) ∙ take-append_seam ks (drop (length ks) s.players)

  -- the list that it has changes nothing
  pub relist-view : s.count ≤ 512 → relist (view s) s ≡ s
  relist-view h =
      let n : length (view s) ≡ s.count = view-length ∙ used-small 512 s.count h in
      ap (λ (k : ℕ). with_players (view s ++ drop k s.players) k s) n
      ∙ ap (λ (k : ℕ). with_players (take k s.players ++ drop s.count s.players) s.count s) (used-small 512 s.count h)
      ∙ ap (λ (l : List PlayerRecord). with_players l s.count s) (take-append-drop s.count s.players)

-- of two lists of one length the second stays
pub relist-again : (s : Session) (ps qs : List PlayerRecord) → length ps ≡ length qs → relist qs (relist ps s) ≡ relist qs s
relist-again s ps qs e =
    ap (λ (l : List PlayerRecord). with_players (qs ++ l) (length qs) s)
    (ap (λ (k : ℕ). drop k (packed ps s.players)) (sym e) ∙ drop_at ps (drop (length ps) s.players) (length ps) refl
    ∙ ap (λ (k : ℕ). drop k s.players) e)

-- the records in use, changed in place: n of them stand in front, and the places behind are as they were
module _ (s : Session) (n : ℕ) (told : n ≡ used_of 512 s.count) (front back : List PlayerRecord) (as_many : length front ≡ n)
    (first : front ≡ take n s.players) (rest : back ≡ drop n s.players) where
  pub in_front : front ≡ view s
  in_front = first ∙ ap (λ k. take k s.players) told

  -- each by a rule that keeps their number
  pub in-place : (f : List PlayerRecord → List PlayerRecord) → ((rs : List PlayerRecord) → length (f rs) ≡ length rs) → (ks : List PlayerRecord) → ks ≡ f front
      → with_players (ks ++ back) n s ≡ relist (f (view s)) s
  in-place f same ks e =
      let m : length ks ≡ n = ap length e ∙ same front ∙ as_many in
      ap (λ l. with_players (ks ++ l) n s) rest
      ∙ ap (λ k. with_players (ks ++ drop k s.players) k s) (sym m)
      ∙ ap (λ l. relist l s) (e ∙ ap f in_front)

  -- those that p holds of stay
  pub retained : (p : PlayerRecord → Bool) (ks : List PlayerRecord) (k : ℕ) → (ks ≡ packed (filter p front) front) × (k ≡ length (filter p front))
      → with_players (ks ++ back) k s ≡ relist (filter p (view s)) s
  retained p ks k h =
      ap (λ l. with_players (l ++ back) k s) h.0
      ∙ ap (λ l. with_players l k s) (packed-within (filter p front) front s.players back n as_many first rest (omega (arith, keep-fewer p front, as_many)))
      ∙ ap (λ m. with_players (packed (filter p front) s.players) m s) h.1
      ∙ ap (λ l. relist (filter p l) s) in_front

-- what the test of `enter_record` tells
module _ (s : Session) (size : length s.players ≡ 512) (r : PlayerRecord) (n : ℕ) (told : n ≡ used_of 512 s.count) where
  in_use : length (view s) ≡ n
  in_use = view-length s size ∙ sym told

  pub enter-full : 512 ≤ n → with_players s.players n s ≡ relist (enter r (view s)) s
  unfolding enter
  enter-full h =
      let t : ltb (length (view s)) 512 ≡ false = le-ltb (length (view s)) 512 (omega (arith, in_use)) in
      sym (ap (λ b. relist (cond b (view s ++ (r ∷ [])) (view s)) s) t
      ∙ ap (λ k. with_players (view s ++ drop k s.players) k s) in_use
      ∙ ap (λ k. with_players (take k s.players ++ drop n s.players) n s) (sym told)
      ∙ ap (λ l. with_players l n s) (take-append-drop n s.players))

  pub enter-room : (q : PlayerRecord) → n < 512 → q ≡ r → with_players (set s.players n q) (n + 1) s ≡ relist (enter r (view s)) s
  unfolding enter
  enter-room q h e =
      let t : ltb (length (view s)) 512 ≡ true = lt-ltb (length (view s)) 512 (omega (arith, in_use)) in
      let m : n + 1 ≡ length (view s ++ (r ∷ [])) = sym (length-append (view s) (r ∷ []) ∙ ap (λ k. k + 1) in_use) in
      sym (ap (λ b. relist (cond b (view s ++ (r ∷ [])) (view s)) s) t
      ∙ ap (λ k. with_players (packed (view s ++ (r ∷ [])) s.players) k s) (sym m)
      ∙ ap (λ k. with_players (packed (take k s.players ++ (r ∷ [])) s.players) (n + 1) s) (sym told)
      ∙ ap (λ l. with_players l (n + 1) s) (sym (put-behind s.players n r (omega arith)))
      ∙ ap (λ x. with_players (set s.players n x) (n + 1) s) (sym e))
