-- Loops over the players in use. Assumes nothing.
use Rattle.std.specs.List.{list_any, position_or_len}
use Rattle.std.specs.Prelude.{filter, position, None, Some, Option}
use Rattle.std.proofs.lemmas.List.Quantifiers.{position-Some}
use Prim.Native.Nat.{ℕ, zero, suc, ◌+◌, ◌-◌, ◌<◌, ◌≤◌}
use mathlib.Core.Path.{◌≡◌, refl, sym, ap, subst, ◌∙◌}
use mathlib.Core.Bool.{Bool, true, false, not, cond, ◌&&◌, ◌||◌}
use mathlib.Core.List.{List, [], ◌∷◌, ◌++◌, map, append-nil}
use native.Mathlib.Omega.{arith}
use native.Mathlib.Numerals.{add-one}
use native.Mathlib.Nat.{le_antisymm}
use lib.ListN.{length, take, drop, set, get_or, replicate, length-append, length-map, length-set, length-take, take-append-drop, drop_of_length-le}
use lib.Seq.{get_or-take, take-suc, take_all, set-get_or, set-append_left}
use lib.Dec.{ltb}
use borrow.Author.Tests.{ltb-false}
use lib.Ieee.{Float, ne}
use Rattle.interp.specs.Span.{span_for}
use Rattle.session.specs.Lists.{used_of, packed, change_if, change_where, change_first}
use Rattle.session.specs.declared.Slots.{Slots}
use Rattle.session.proofs.Walks.{on_first, on_first-step, keep-step}
use Rattle.session.proofs.Packing.{packed-set}
use Rattle.player.specs.declared.Cold.{Cold}
use Rattle.player.specs.declared.Player.{Player}
use Rattle.player.specs.Bounds.{PlayerOk}
use Rattle.player.specs.Pitch.{step_of, with_step, pitched}
use Rattle.players.specs.declared.Players.{Players}
use Rattle.players.specs.Seats.{sounding, reseat, PlayersOk, no_player, seated, slots_from, slot_pushed, slot_numbers, with_cold, retuned, is_over, reaped}
use Rattle.players.specs.declared.OffMark.{OffMark}
use Rattle.players.specs.declared.OffMark.TheVariants.{NoPlayer, Ignored, Turned}
use Rattle.players.specs.Gate.{delays, hears_gate, let_go, released_all, turned_off, off_once, in_slot, mark_on, met_in, offed_slot}
use Rattle.players.proofs.Kept.{in_use, sounding-length, sounding-ok, keep-few}
use Rattle.players.proofs.Passing.{get_d_any}

-- ---- a walk that changes players

abbrev pub places_at : List Player → ℕ → Players
places_at l n = record { players = l; count = n }

-- the players in use, changed in place by f, each by itself: what stands behind them is as it was
module _ (ps : Players) (ok : PlayersOk ps) (front back : List Player) (as_many : length front ≡ ps.count) (first : front ≡ take ps.count ps.players)
    (rest : back ≡ drop ps.count ps.players) where
  pub in_front : front ≡ sounding ps
  in_front = first ∙ ap (λ (k : ℕ). take k ps.players) (sym (in_use ps ok))

  pub in-place : (f : Player → Player) (ks : List Player) → ks ≡ map f front → places_at (ks ++ back) ps.count ≡ reseat (map f (sounding ps)) ps
  in-place f ks e =
      let m : length ks ≡ ps.count = ap length e ∙ length-map front f ∙ as_many in
      ap (λ (l : List Player). places_at (ks ++ l) ps.count) rest
      ∙ ap (λ (k : ℕ). places_at (ks ++ drop k ps.players) k) (sym m)
      ∙ ap (λ (l : List Player). reseat l ps) (e ∙ ap (map f) in_front)

-- a step that stays is the pitch that stays
pub same-pitch : (p : Player) (note bend : Float) (c : Cold) → c ≡ pitched p.cold note bend → ne c.step p.cold.step ≡ false
    → retuned note bend p ≡ p
unfolding pitched
same-pitch p note bend c e h =
    ap (λ (x : Cold). with_cold x p) (go (ne (step_of p.cold note bend) p.cold.step) refl)
  where
    go : (t : Bool) → ne (step_of p.cold note bend) p.cold.step ≡ t
        → cond t (with_step (step_of p.cold note bend) (span_for (step_of p.cold note bend)) p.cold) p.cold ≡ p.cold
    go false r = refl
    go true r =
        let moved : c ≡ with_step (step_of p.cold note bend) (span_for (step_of p.cold note bend)) p.cold =
        e ∙ ap (λ (t : Bool). cond t (with_step (step_of p.cold note bend) (span_for (step_of p.cold note bend)) p.cold) p.cold) r in
        let k : true ≡ false = sym r ∙ ap (λ (x : Cold). ne x.step p.cold.step) (sym moved) ∙ h in
        let z : ◌≡◌ {A = ℕ} 0 1 = ap (λ (b : Bool). cond b 0 1) k in
        absurd (omega arith)

-- one step of a walk that changes each by f, and its end
pub walk-each : {A : Type 0} (f : A → A) (xs ys : List A) (i : ℕ) (d : A) → ys ≡ on_first f i xs → set ys i (f (get_or ys i d)) ≡ on_first f (i + 1) xs
walk-each f xs ys i d so_far = ap (λ l. set l i (f (get_or l i d))) so_far ∙ on_first-step f xs i d

pub walked-all : {A : Type 0} (f : A → A) (xs ys : List A) (i : ℕ) → ys ≡ on_first f i xs → length xs ≤ i → ys ≡ map f xs
walked-all f xs ys i so_far h = so_far ∙ rw (take_all i xs h, drop_of_length-le xs {i = i} h) (append-nil (map f xs))

-- ---- whether a player was ended in its delay

module _ {A : Type 0} (q : A → Bool) where
  pub any-more : (xs : List A) (y : A) → list_any q (xs ++ (y ∷ [])) ≡ list_any q xs || q y
  any-more [] y = go (q y)
    where
      go : (t : Bool) → t || false ≡ t
      go true = refl
      go false = refl
  any-more (x ∷ xs) y = go (q x) (any-more xs y)
    where
      go : (t : Bool) → list_any q (xs ++ (y ∷ [])) ≡ list_any q xs || q y → t || list_any q (xs ++ (y ∷ [])) ≡ (t || list_any q xs) || q y
      go true r = refl
      go false r = r

  any_step : (xs : List A) (i : ℕ) (d : A) → i < length xs → list_any q (take (i + 1) xs) ≡ list_any q (take i xs) || q (get_or xs i d)
  any_step xs i d h = ap (λ (k : ℕ). list_any q (take k xs)) (add-one i) ∙ ap (list_any q) (take-suc xs i d h) ∙ any-more (take i xs) (get_or xs i d)

-- it hears the gate in its delay
abbrev pub ends : Player → Bool
ends p = hears_gate p && delays p

pub or_no : (k : Bool) → k || false ≡ k
or_no true = refl
or_no false = refl

module _ (xs : List Player) (i : ℕ) (d x : Player) (inside : i < length xs) (same : x ≡ get_or xs i d) (k : Bool) (so_far : k ≡ list_any ends (take i xs)) (b : Bool)
    (told : b ≡ hears_gate x) where
  next : (h : Bool) → b ≡ h → list_any ends (take (i + 1) xs) ≡ k || (h && delays x)
  next h e =
      any_step ends xs i d inside
      ∙ ap (λ (y : Bool). y || ends (get_or xs i d)) (sym so_far)
      ∙ ap (λ (y : Player). k || ends y) (sym same)
      ∙ ap (λ (y : Bool). k || (y && delays x)) (sym told ∙ e)

  pub killed-hit : (w v : Bool) → b ≡ true → w ≡ delays x → v ≡ k || w → v ≡ list_any ends (take (i + 1) xs)
  killed-hit w v h e f = f ∙ ap (λ (y : Bool). k || y) e ∙ sym (next true h)

  pub killed-miss : b ≡ false → k ≡ list_any ends (take (i + 1) xs)
  killed-miss h = sym (next false h ∙ or_no k)

module _ (ps : Players) (ok : PlayersOk ps) (front back : List Player) (as_many : length front ≡ ps.count) (first : front ≡ take ps.count ps.players)
    (rest : back ≡ drop ps.count ps.players) where
  pub released-done : (ks : List Player) → ks ≡ change_where hears_gate let_go front → (k : Bool) → k ≡ list_any ends front
      → record { players = places_at (ks ++ back) ps.count; killed = k } ≡ released_all ps
  unfolding released_all
  released-done ks e k f =
      ap (λ (x : Players). record { players = x; killed = k }) (in-place ps ok front back as_many first rest (change_if hears_gate let_go) ks e)
      ∙ ap (λ (x : Bool). record { players = reseat (change_where hears_gate let_go (sounding ps)) ps; killed = x })
      (f ∙ ap (list_any ends) (in_front ps ok front back as_many first rest))

-- ---- a list of slots that grows

abbrev listed_as : List ℕ → ℕ → Slots
listed_as l n = record { slots = l; count = n }

-- one slot more among fewer than 32
pub slots-pushed : (ks : List ℕ) (k : ℕ) → length ks < 32 → slot_pushed k (slots_from ks) ≡ slots_from (ks ++ (k ∷ []))
slots-pushed ks k h =
    let n : length (ks ++ (k ∷ [])) ≡ length ks + 1 = length-append ks (k ∷ []) in
    let a : take 32 ks ≡ ks = take_all 32 ks (omega arith) in
    let b : take 32 (ks ++ (k ∷ [])) ≡ ks ++ (k ∷ []) = take_all 32 (ks ++ (k ∷ [])) (omega arith) in
    ap (λ (l : List ℕ). slot_pushed k (listed_as (packed l (replicate 32 0)) (length l))) a
    ∙ ap (λ (l : List ℕ). listed_as l (length ks + 1)) (packed-set ks (replicate 32 0) k 0 h)
    ∙ ap (listed_as (packed (ks ++ (k ∷ [])) (replicate 32 0))) (sym n)
    ∙ ap (λ (l : List ℕ). listed_as (packed l (replicate 32 0)) (length l)) (sym b)

-- as many as were pushed
pub slots-room : (ks : List ℕ) (e : Slots) → e ≡ slots_from ks → length ks < 32 → e.count < 32
slots-room ks e is h = omega (arith, ap (λ (v : Slots). v.count) is, ap length (take_all 32 ks (omega arith)))

slots-append : (xs ys : List Player) → slot_numbers (xs ++ ys) ≡ slot_numbers xs ++ slot_numbers ys
slots-append [] ys = refl
slots-append (x ∷ xs) ys = ap (λ (l : List ℕ). x.slot ∷ l) (slots-append xs ys)

pub slots-step : (xs : List Player) (i : ℕ) (d : Player) → i < length xs
    → slot_numbers (take (i + 1) xs) ≡ slot_numbers (take i xs) ++ ((get_or xs i d).slot ∷ [])
slots-step xs i d h =
    ap (λ (k : ℕ). slot_numbers (take k xs)) (add-one i) ∙ ap slot_numbers (take-suc xs i d h) ∙ slots-append (take i xs) (get_or xs i d ∷ [])

-- the slots of the players before the next one, and with it
pub slots_next : (xs : List Player) (i : ℕ) (d : Player) (e : Slots) → e ≡ slots_from (slot_numbers (take i xs)) → i < length xs → length xs ≤ 32
    → slot_pushed (get_or xs i d).slot e ≡ slots_from (slot_numbers (take (i + 1) xs))
slots_next xs i d e is inside few =
    ap (slot_pushed (get_or xs i d).slot) is
    ∙ slots-pushed (slot_numbers (take i xs)) (get_or xs i d).slot (omega (arith, length-map (take i xs) (λ (p : Player). p.slot), length-take i xs))
    ∙ ap slots_from (sym (slots-step xs i d inside))

pub slots_next-room : (xs : List Player) (i : ℕ) (e : Slots) → e ≡ slots_from (slot_numbers (take i xs)) → i < length xs → length xs ≤ 32 → e.count < 32
slots_next-room xs i e is inside few =
    slots-room (slot_numbers (take i xs)) e is (omega (arith, length-map (take i xs) (λ (p : Player). p.slot), length-take i xs))

-- ---- the players that are over

abbrev pub goes_on : Player → Bool
goes_on p = not (is_over p)

seated-reseat : (p d : Player) (qs : List Player) (ps : Players) → length qs < length ps.players → seated p (reseat qs ps) ≡ reseat (qs ++ (p ∷ [])) ps
seated-reseat p d qs ps h =
    ap (λ (l : List Player). places_at l (length qs + 1)) (packed-set qs ps.players p d h)
    ∙ ap (places_at (packed (qs ++ (p ∷ [])) ps.players)) (sym (length-append qs (p ∷ [])))

-- the state of the loop over the players in use: those of the first i that go on stand in front, and the slots of the others are listed
pub record Reaping (ps : Players) (xs : List Player) (i : ℕ) (ks : Players) (gs : Slots) : Type 0 where
  pub all : xs ≡ sounding ps
  pub kept : ks ≡ reseat (filter goes_on (take i xs)) ps
  pub gone : gs ≡ slots_from (slot_numbers (filter is_over (take i xs)))
  pub fine : PlayersOk ks

pub reaping-none : (ps : Players) (xs : List Player) → PlayersOk ps → xs ≡ sounding ps → Reaping ps xs 0 (places_at ps.players 0) (listed_as (replicate 32 0) 0)
reaping-none ps xs ok e = record {
  all = e;
  kept = refl;
  gone = refl;
  fine = record { few = omega arith; size = ok.size; each = λ k h. absurd (omega arith) };
}

module _ (ps : Players) (ok : PlayersOk ps) (xs : List Player) (i : ℕ) (kept : Players) (gone : Slots) (h : Reaping ps xs i kept gone)
    (inside : i < length xs) (d : Player) where
  few : length xs ≤ 32
  few = omega (arith, ap length h.all, sounding-length ps ok, ok.few)

  fewer : (p : Player → Bool) → length (filter p (take i xs)) ≤ i
  fewer p = omega (arith, keep-few p (take i xs), length-take i xs)

  pub reaping-room : gone.count < 32
  reaping-room =
      slots-room (slot_numbers (filter is_over (take i xs))) gone h.gone
      (omega (arith, length-map (filter is_over (take i xs)) (λ (p : Player). p.slot), fewer is_over, few))

  pub reaping-seat : kept.count < 32
  reaping-seat = omega (arith, ap (λ (x : Players). x.count) h.kept, fewer goes_on, few)

  pub reaping_fine : PlayerOk (get_or xs i d)
  reaping_fine =
      subst PlayerOk (get_d_any xs i no_player d inside)
      (subst (λ (l : List Player). PlayerOk (get_or l i no_player)) (sym h.all) (sounding-ok ps ok i (omega (arith, ap length h.all))))

  next-of : (p : Player → Bool) (t : Bool) → p (get_or xs i d) ≡ t → filter p (take (i + 1) xs) ≡ filter p (take i xs) ++ cond t (get_or xs i d ∷ []) []
  next-of p t e = keep-step p xs i d inside ∙ ap (λ (u : Bool). filter p (take i xs) ++ cond u (get_or xs i d ∷ []) []) e

  pub reaping-out : (b : Bool) → b ≡ is_over (get_or xs i d) → b ≡ true → (g : Slots) → g ≡ slot_pushed (get_or xs i d).slot gone → Reaping ps xs (i + 1) kept g
  reaping-out b told out g is = record {
    all = h.all;
    kept = h.kept ∙ ap (λ (l : List Player). reseat l ps) (sym (next-of goes_on false (ap not (sym told ∙ out)) ∙ append-nil (filter goes_on (take i xs))));
    gone =
        is ∙ ap (slot_pushed (get_or xs i d).slot) h.gone
        ∙ slots-pushed (slot_numbers (filter is_over (take i xs))) (get_or xs i d).slot
        (omega (arith, length-map (filter is_over (take i xs)) (λ (p : Player). p.slot), fewer is_over, few))
        ∙ ap slots_from
        (sym (ap slot_numbers (next-of is_over true (sym told ∙ out)) ∙ slots-append (filter is_over (take i xs)) (get_or xs i d ∷ [])));
    fine = h.fine;
  }

  pub reaping-on : (b : Bool) → b ≡ is_over (get_or xs i d) → b ≡ false → (k : Players) → k ≡ seated (get_or xs i d) kept → PlayersOk k → Reaping ps xs (i + 1) k gone
  reaping-on b told on k is fine = record {
    all = h.all;
    kept =
        is ∙ ap (seated (get_or xs i d)) h.kept
        ∙ seated-reseat (get_or xs i d) d (filter goes_on (take i xs)) ps (omega (arith, fewer goes_on, few, inside, ok.size))
        ∙ ap (λ (l : List Player). reseat l ps) (sym (next-of goes_on true (ap not (sym told ∙ on))));
    gone =
        h.gone ∙ ap (λ (l : List Player). slots_from (slot_numbers l))
        (sym (next-of is_over false (sym told ∙ on) ∙ append-nil (filter is_over (take i xs))));
    fine = fine;
  }

pub reaped-done : (ps : Players) (xs : List Player) (i : ℕ) (kept : Players) (gone : Slots) → Reaping ps xs i kept gone → length xs ≤ i
    → record { players = kept; gone = gone } ≡ reaped ps
unfolding reaped
reaped-done ps xs i kept gone h p =
    let e : take i xs ≡ sounding ps = take_all i xs p ∙ h.all in
    ap (λ (x : Players). record { players = x; gone = gone }) (h.kept ∙ ap (λ (l : List Player). reseat (filter goes_on l) ps) e)
    ∙ ap (λ (x : Slots). record { players = reseat (filter goes_on (sounding ps)) ps; gone = x })
    (h.gone ∙ ap (λ (l : List Player). slots_from (slot_numbers (filter is_over l))) e)

-- ---- the first player of a slot

module _ (ps : Players) (ok : PlayersOk ps) where
  all-seated : reseat (sounding ps) ps ≡ ps
  all-seated =
      ap (λ (k : ℕ). places_at (sounding ps ++ drop k ps.players) k) (sounding-length ps ok)
      ∙ ap (λ (k : ℕ). places_at (take k ps.players ++ drop ps.count ps.players) ps.count) (in_use ps ok)
      ∙ ap (λ (l : List Player). places_at l ps.count) (take-append-drop ps.count ps.players)

  one_set : (i : ℕ) (q : Player) → i < ps.count → reseat (set (sounding ps) i q) ps ≡ places_at (set ps.players i q) ps.count
  one_set i q h =
      let m : length (sounding ps) ≡ ps.count = sounding-length ps ok in
      ap (λ (k : ℕ). places_at (set (sounding ps) i q ++ drop k ps.players) k) (length-set (sounding ps) i q ∙ m)
      ∙ ap (λ (l : List Player). places_at l ps.count)
      (sym (set-append_left (sounding ps) (drop ps.count ps.players) i q (omega arith))
      ∙ ap (λ (k : ℕ). set (take k ps.players ++ drop ps.count ps.players) i q) (in_use ps ok)
      ∙ ap (λ (l : List Player). set l i q) (take-append-drop ps.count ps.players))

-- the first player of slot k stands at i
met-at : (k : ℕ) (xs : List Player) (i : ℕ) (d : Player) → i < length xs → in_slot k (get_or xs i d) ≡ true
    → ((j : ℕ) → j < i → in_slot k (get_or xs j d) ≡ false)
    → (met_in k xs ≡ mark_on (get_or xs i d)) × ((f : Player → Player) → change_first (in_slot k) f xs ≡ set xs i (f (get_or xs i d)))
met-at k [] i d h e before = let z : ⊥ = omega arith in absurd z
met-at k (x ∷ xs) zero d h e before = (
  ap (λ (t : Bool). cond t (mark_on x) (met_in k xs)) e,
  λ f. ap (λ (t : Bool). cond t (f x ∷ xs) (x ∷ change_first (in_slot k) f xs)) e,
)
met-at k (x ∷ xs) (suc i) d h e before =
    let r = met-at k xs i d (omega arith) e (λ j l. before (suc j) (omega arith)) in
    let not_here : in_slot k x ≡ false = before 0 (omega arith) in (
      ap (λ (t : Bool). cond t (mark_on x) (met_in k xs)) not_here ∙ r.0,
      λ f. ap (λ (t : Bool). cond t (f x ∷ xs) (x ∷ change_first (in_slot k) f xs)) not_here ∙ ap (λ (l : List Player). x ∷ l) (r.1 f),
    )

-- no player is in slot k
met-none : (k : ℕ) (xs : List Player) → length xs ≤ position_or_len (in_slot k) xs
    → (met_in k xs ≡ NoPlayer) × ((f : Player → Player) → change_first (in_slot k) f xs ≡ xs)
met-none k [] h = (refl, λ f. refl)
met-none k (x ∷ xs) h = by-case (in_slot k x) refl (λ l. met-none k xs l)
  where
    by-case : (t : Bool) → in_slot k x ≡ t
        → (length xs ≤ position_or_len (in_slot k) xs → (met_in k xs ≡ NoPlayer) × ((f : Player → Player) → change_first (in_slot k) f xs ≡ xs))
        → (met_in k (x ∷ xs) ≡ NoPlayer) × ((f : Player → Player) → change_first (in_slot k) f (x ∷ xs) ≡ x ∷ xs)
    by-case true e later =
        let z : position_or_len (in_slot k) (x ∷ xs) ≡ 0 = ap (λ (t : Bool). cond (not t) (1 + position_or_len (in_slot k) xs) 0) e in
        let never : ⊥ = omega (arith, h, z) in
        absurd never
    by-case false e later =
        let z : position_or_len (in_slot k) (x ∷ xs) ≡ 1 + position_or_len (in_slot k) xs = ap (λ (t : Bool). cond (not t) (1 + position_or_len (in_slot k) xs) 0) e in
        let r = later (omega (arith, h, z)) in (
          ap (λ (t : Bool). cond t (mark_on x) (met_in k xs)) e ∙ r.0,
          λ f. ap (λ (t : Bool). cond t (f x ∷ xs) (x ∷ change_first (in_slot k) f xs)) e ∙ ap (λ (l : List Player). x ∷ l) (r.1 f),
        )

not-some : {X : Type 0} {x : X} → ◌≡◌ {A = Option X} (Some x) None → ⊥
not-some e = cc

past : (p : Player → Bool) (xs : List Player) → position p xs ≡ None → length xs ≤ position_or_len p xs
past p xs e = by-case (ltb (position_or_len p xs) (length xs)) refl
  where
    by-case : (t : Bool) → ltb (position_or_len p xs) (length xs) ≡ t → length xs ≤ position_or_len p xs
    by-case true h = absurd (not-some (sym (ap (λ (b : Bool). cond b (Some (position_or_len p xs)) None) h) ∙ e))
    by-case false h = ltb-false (position_or_len p xs) (length xs) h

module _ (k : ℕ) (ps : Players) (ok : PlayersOk ps) where
  answers : (x : Players) (m : OffMark) → m ≡ met_in k (sounding ps)
      → x ≡ reseat (change_first (in_slot k) off_once (sounding ps)) ps → record { players = x; mark = m } ≡ offed_slot k ps
  unfolding offed_slot
  answers x m f s =
      ap (λ (y : Players). record { players = y; mark = m }) s
      ∙ ap (λ (y : OffMark). record { players = reseat (change_first (in_slot k) off_once (sounding ps)) ps; mark = y }) f

  module _ (i : ℕ) (d : Player) (at : position (in_slot k) (sounding ps) ≡ Some i) where
    found : (i < length (sounding ps)) × (in_slot k (get_or (sounding ps) i d) ≡ true) × ((j : ℕ) → j < i → in_slot k (get_or (sounding ps) j d) ≡ false)
    found = position-Some (in_slot k) (sounding ps) i d at

    pub inside : i < ps.count
    inside = omega (arith, found.0, sounding-length ps ok)

    at_i : get_or (sounding ps) i d ≡ get_or ps.players i d
    at_i = get_or-take (used_of 32 ps.count) ps.players i d (omega (arith, in_use ps ok, inside))

    marked : met_in k (sounding ps) ≡ mark_on (get_or ps.players i d)
    marked = (met-at k (sounding ps) i d found.0 found.1 found.2).0 ∙ ap mark_on at_i

    changed-one : (q : Player) → q ≡ off_once (get_or ps.players i d)
        → places_at (set ps.players i q) ps.count ≡ reseat (change_first (in_slot k) off_once (sounding ps)) ps
    changed-one q e =
        sym (ap (λ (l : List Player). reseat l ps)
        ((met-at k (sounding ps) i d found.0 found.1 found.2).1 off_once ∙ ap (set (sounding ps) i) (ap off_once at_i ∙ sym e))
        ∙ one_set ps ok i q inside)

    -- it was off already
    pub met-off : (get_or ps.players i d).hot.offed ≡ true → record { players = ps; mark = Ignored } ≡ offed_slot k ps
    met-off off =
        let x = get_or ps.players i d in
        answers ps Ignored
        (sym (marked ∙ ap (λ (b : Bool). cond b Ignored (Turned x.on_note)) off))
        (ap (λ (l : List Player). places_at l ps.count) (sym (set-get_or ps.players i d)) ∙ changed-one x (ap (λ (b : Bool). cond b x (turned_off x)) (sym off)))

    -- it is turned off
    pub met-on : (q : Player) → (get_or ps.players i d).hot.offed ≡ false → q ≡ turned_off (get_or ps.players i d)
        → record { players = places_at (set ps.players i q) ps.count; mark = Turned (get_or ps.players i d).on_note } ≡ offed_slot k ps
    met-on q on e =
        let x = get_or ps.players i d in
        answers (places_at (set ps.players i q) ps.count) (Turned x.on_note)
        (sym (marked ∙ ap (λ (b : Bool). cond b Ignored (Turned x.on_note)) on))
        (changed-one q (e ∙ ap (λ (b : Bool). cond b x (turned_off x)) (sym on)))

  -- no player is in the slot
  pub unmet : position (in_slot k) (sounding ps) ≡ None → record { players = ps; mark = NoPlayer } ≡ offed_slot k ps
  unmet e =
      let none = met-none k (sounding ps) (past (in_slot k) (sounding ps) e) in
      answers ps NoPlayer (sym none.0) (sym (ap (λ (l : List Player). reseat l ps) (none.1 off_once) ∙ all-seated ps ok))
