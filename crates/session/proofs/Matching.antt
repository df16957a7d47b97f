-- Whether records have the slots of their players. Assumes nothing.
use Rattle.std.proofs.Common.{◌≡◌, ℕ, ◌+◌, ◌<◌, ◌≤◌, Bool, true, false, eqb, List, [], ◌∷◌, map, length, get_or, take, drop, sym, refl, ap, ◌∙◌, le_refl, take_all, arith, eq-eqb, ne_eqb, eqb-true, cond, filter}
use borrow.Author.Tests.{eqb-false}
use Rattle.session.specs.Records.{of_voice}
use Rattle.session.specs.Rules.{slots_of}
use Rattle.session.specs.Tests.{same_list, slots_in_order}
use Rattle.session.specs.State.{view, slot_list}
use Rattle.session.specs.declared.PlayerRecord.{PlayerRecord}
use Rattle.session.specs.declared.Session.{Session}
use Rattle.session.specs.declared.Slots.{Slots}
use Rattle.session.proofs.Search.{rest-step, rest-none}

-- ---- the slots of a voice's records

module _ (v : ℕ) (r : PlayerRecord) (rs : List PlayerRecord) where
  other-voice : (r.voice ≡ v → ⊥) → slots_of v (r ∷ rs) ≡ slots_of v rs
  other-voice n = ap (λ t. map (λ (x : PlayerRecord). x.slot) (cond t (r ∷ filter (of_voice v) rs) (filter (of_voice v) rs))) (ne_eqb r.voice v n)

  own-voice : r.voice ≡ v → slots_of v (r ∷ rs) ≡ r.slot ∷ slots_of v rs
  own-voice e = ap (λ t. map (λ (x : PlayerRecord). x.slot) (cond t (r ∷ filter (of_voice v) rs) (filter (of_voice v) rs))) (eq-eqb r.voice v e)

-- all records are read: the slots match where no player is left
all_read : (slots : List ℕ) (m j : ℕ) → m ≤ length slots → j ≤ m → same_list [] (drop j (take m slots)) ≡ eqb j m
all_read slots m j h p = by-case (eqb j m) refl where
  by-case : (t : Bool) → eqb j m ≡ t → same_list [] (drop j (take m slots)) ≡ t
  by-case true e = let q : j ≡ m = eqb-true j m e in rw (rest-none slots m h j (omega arith)) refl
  by-case false e = let q : j ≡ m → ⊥ = eqb-false j m e in rw (rest-step slots m h j 0 (omega (arith, p, q))) refl

-- the state of the loop: what is left of the records and of the slots has the answer of the whole
pub record Left (v n m : ℕ) (rs : List PlayerRecord) (ks : List ℕ) (i j : ℕ) : Type 0 where
  pub all-records : n ≤ length rs
  pub all_slots : m ≤ length ks
  pub at-record : i ≤ n
  pub at_slot : j ≤ m
  pub same : same_list (slots_of v (take n rs)) (take m ks) ≡ same_list (slots_of v (drop i (take n rs))) (drop j (take m ks))

module _ (v n m : ℕ) (rs : List PlayerRecord) (ks : List ℕ) (i j : ℕ) (h : Left v n m rs ks i j) where
  pub left-done : n ≤ i → eqb j m ≡ same_list (slots_of v (take n rs)) (take m ks)
  left-done q =
      sym (h.same ∙ ap (λ l. same_list (slots_of v l) (drop j (take m ks))) (rest-none rs n h.all-records i q)
      ∙ all_read ks m j h.all_slots h.at_slot)

  module _ (d : PlayerRecord) (p : i < n) where
    next : same_list (slots_of v (take n rs)) (take m ks) ≡ same_list (slots_of v (get_or rs i d ∷ drop (i + 1) (take n rs))) (drop j (take m ks))
    next = h.same ∙ ap (λ l. same_list (slots_of v l) (drop j (take m ks))) (rest-step rs n h.all-records i d p)

    pub left_other : ((get_or rs i d).voice ≡ v → ⊥) → Left v n m rs ks (i + 1) j
    left_other e = record {
      all-records = h.all-records;
      all_slots = h.all_slots;
      at-record = omega arith;
      at_slot = h.at_slot;
      same = next ∙ ap (λ l. same_list l (drop j (take m ks))) (other-voice v (get_or rs i d) (drop (i + 1) (take n rs)) e);
    }

    module _ (e : (get_or rs i d).voice ≡ v) where
      own : same_list (slots_of v (take n rs)) (take m ks) ≡ same_list ((get_or rs i d).slot ∷ slots_of v (drop (i + 1) (take n rs))) (drop j (take m ks))
      own = next ∙ ap (λ l. same_list l (drop j (take m ks))) (own-voice v (get_or rs i d) (drop (i + 1) (take n rs)) e)

      pub left-none : m ≤ j → false ≡ same_list (slots_of v (take n rs)) (take m ks)
      left-none q =
          sym (own ∙ ap (same_list ((get_or rs i d).slot ∷ slots_of v (drop (i + 1) (take n rs)))) (rest-none ks m h.all_slots j q))

      module _ (q : j < m) where
        both : (t : Bool) → eqb (get_or rs i d).slot (get_or ks j 0) ≡ t
            → same_list (slots_of v (take n rs)) (take m ks) ≡ cond t (same_list (slots_of v (drop (i + 1) (take n rs))) (drop (j + 1) (take m ks))) false
        both t f =
            own ∙ ap (same_list ((get_or rs i d).slot ∷ slots_of v (drop (i + 1) (take n rs)))) (rest-step ks m h.all_slots j 0 q)
            ∙ ap (λ k. cond k (same_list (slots_of v (drop (i + 1) (take n rs))) (drop (j + 1) (take m ks))) false) f

        pub left-differs : (get_or ks j 0 ≡ (get_or rs i d).slot → ⊥) → false ≡ same_list (slots_of v (take n rs)) (take m ks)
        left-differs f = sym (both false (ne_eqb (get_or rs i d).slot (get_or ks j 0) (λ k. f (sym k))))

        pub left_both : get_or ks j 0 ≡ (get_or rs i d).slot → Left v n m rs ks (i + 1) (j + 1)
        left_both f = record {
          all-records = h.all-records;
          all_slots = h.all_slots;
          at-record = omega arith;
          at_slot = omega arith;
          same = both true (eq-eqb (get_or rs i d).slot (get_or ks j 0) (sym f));
        }

-- the loop goes over the records and the slots in use
pub in-use : (v : ℕ) (s : Session) (q : Slots) (rs : List PlayerRecord) (ks : List ℕ) → rs ≡ view s → ks ≡ slot_list q
    → same_list (slots_of v (take (length rs) rs)) (take (length ks) ks) ≡ slots_in_order v (slot_list q) s
unfolding slots_in_order
in-use v s q rs ks e f =
    ap (λ l. same_list (slots_of v l) (take (length ks) ks)) (take_all (length rs) rs (le_refl (length rs)) ∙ e)
    ∙ ap (same_list (slots_of v (view s))) (take_all (length ks) ks (le_refl (length ks)) ∙ f)
