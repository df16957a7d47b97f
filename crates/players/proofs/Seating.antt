-- What the operations do to the list of players in use: the laws that crates above cite. Assumes nothing.
use Rattle.std.specs.Prelude.{cond, filter}
use Prim.Native.Nat.{ℕ, ◌+◌, ◌<◌, ◌≤◌}
use mathlib.Core.Path.{◌≡◌, refl, sym, ap, ◌∙◌}
use mathlib.Core.Bool.{Bool, true, false, not}
use mathlib.Core.List.{List, [], ◌∷◌, ◌++◌, map}
use native.Mathlib.Omega.{arith}
use native.Mathlib.Numerals.{add-one}
use lib.ListN.{length, take, drop, set, replicate, length-map}
use lib.Seq.{take-append_seam, take-suc-set, take_all}
use lib.Ieee.{Float}
use Rattle.session.specs.Lists.{used_of, packed, change_if, change_first}
use Rattle.session.specs.State.{slot_list}
use Rattle.session.proofs.Walks.{used-small}
use Rattle.player.specs.declared.Player.{Player}
use Rattle.players.specs.declared.Players.{Players}
use Rattle.players.specs.Seats.{sounding, reseat, no_players, seated, slots_from, slot_numbers, retuned, retuned_all, is_over, reaped}
use Rattle.players.specs.Gate.{hears_gate, let_go, turned_off, off_once, in_slot, released_all, offed_slot}
use Rattle.players.proofs.Kept.{sounding-few, keep-few, first-length}

-- these players in front are the players in use
pub sounding-reseat : (qs : List Player) (ps : Players) → length qs ≤ 32 → sounding (reseat qs ps) ≡ qs
sounding-reseat qs ps h =
    ap (λ (n : ℕ). take n (packed qs ps.players)) (used-small 32 (length qs) h) ∙ take-append_seam qs (drop (length qs) ps.players)

-- these slots in front are the list
pub slots-from : (ks : List ℕ) → length ks ≤ 32 → slot_list (slots_from ks) ≡ ks
slots-from ks h =
    let e : take 32 ks ≡ ks = take_all 32 ks h in
    ap (λ (l : List ℕ). take (used_of 32 (length l)) (packed l (replicate 32 0))) e
    ∙ ap (λ (n : ℕ). take n (packed ks (replicate 32 0))) (used-small 32 (length ks) h)
    ∙ take-append_seam ks (drop (length ks) (replicate 32 0))

-- no player, and one more

pub sounding-none : sounding no_players ≡ []
unfolding no_players
sounding-none = refl

pub sounding-seated : (p : Player) (ps : Players) → ps.count < 32 → length ps.players ≡ 32 → sounding (seated p ps) ≡ sounding ps ++ (p ∷ [])
sounding-seated p ps room size =
    ap (λ (n : ℕ). take n (set ps.players ps.count p)) (used-small 32 (ps.count + 1) (omega arith) ∙ add-one ps.count)
    ∙ take-suc-set ps.players ps.count p (omega arith)
    ∙ ap (λ (n : ℕ). take n ps.players ++ (p ∷ [])) (sym (used-small 32 ps.count (omega arith)))

-- ---- changes that leave each player its slot

module _ (f : Player → Player) (keeps : (p : Player) → (f p).slot ≡ p.slot) where
  slots_map : (qs : List Player) → slot_numbers (map f qs) ≡ slot_numbers qs
  slots_map [] = refl
  slots_map (x ∷ xs) = ap (λ (n : ℕ). n ∷ slot_numbers (map f xs)) (keeps x) ∙ ap (λ (l : List ℕ). x.slot ∷ l) (slots_map xs)

  slots-first : (p : Player → Bool) (qs : List Player) → slot_numbers (change_first p f qs) ≡ slot_numbers qs
  slots-first p [] = refl
  slots-first p (x ∷ xs) = go (p x) (slots-first p xs)
    where
      go : (t : Bool) → slot_numbers (change_first p f xs) ≡ slot_numbers xs
          → slot_numbers (cond t (f x ∷ xs) (x ∷ change_first p f xs)) ≡ x.slot ∷ slot_numbers xs
      go true r = ap (λ (n : ℕ). n ∷ slot_numbers xs) (keeps x)
      go false r = ap (λ (l : List ℕ). x.slot ∷ l) r

change-slot : (p : Player → Bool) (g : Player → Player) → ((x : Player) → (g x).slot ≡ x.slot) → (x : Player) → (change_if p g x).slot ≡ x.slot
change-slot p g h x = go (p x)
  where
    go : (t : Bool) → (cond t (g x) x).slot ≡ x.slot
    go true = h x
    go false = refl

off-slot : (x : Player) → (turned_off x).slot ≡ x.slot
unfolding turned_off
off-slot x = refl

once-slot : (x : Player) → (off_once x).slot ≡ x.slot
once-slot x = go x.hot.offed
  where
    go : (t : Bool) → (cond t x (turned_off x)).slot ≡ x.slot
    go true = refl
    go false = off-slot x

-- as many players as slots
as_many : (ps qs : List Player) → slot_numbers ps ≡ slot_numbers qs → length ps ≡ length qs
as_many ps qs e = sym (length-map ps (λ (p : Player). p.slot)) ∙ ap length e ∙ length-map qs (λ (p : Player). p.slot)

module _ (ps : Players) where
  mapped : (f : Player → Player) → sounding (reseat (map f (sounding ps)) ps) ≡ map f (sounding ps)
  mapped f = sounding-reseat (map f (sounding ps)) ps (omega (arith, length-map (sounding ps) f, sounding-few ps))

  pub sounding-retuned : (note bend : Float) → sounding (retuned_all note bend ps) ≡ map (retuned note bend) (sounding ps)
  unfolding retuned_all
  sounding-retuned note bend = mapped (retuned note bend)

  pub slots-retuned : (note bend : Float) → slot_numbers (sounding (retuned_all note bend ps)) ≡ slot_numbers (sounding ps)
  slots-retuned note bend = ap slot_numbers (sounding-retuned note bend) ∙ slots_map (retuned note bend) (λ x. refl) (sounding ps)

  pub count-retuned : (note bend : Float) → length (sounding (retuned_all note bend ps)) ≡ length (sounding ps)
  count-retuned note bend = as_many (sounding (retuned_all note bend ps)) (sounding ps) (slots-retuned note bend)

  pub sounding-released : sounding (released_all ps).players ≡ map (change_if hears_gate let_go) (sounding ps)
  unfolding released_all
  sounding-released = mapped (change_if hears_gate let_go)

  pub slots-released : slot_numbers (sounding (released_all ps).players) ≡ slot_numbers (sounding ps)
  slots-released = ap slot_numbers sounding-released ∙ slots_map (change_if hears_gate let_go) (change-slot hears_gate let_go (λ x. refl)) (sounding ps)

  pub count-released : length (sounding (released_all ps).players) ≡ length (sounding ps)
  count-released = as_many (sounding (released_all ps).players) (sounding ps) slots-released

  pub sounding-offed : (k : ℕ) → sounding (offed_slot k ps).players ≡ change_first (in_slot k) off_once (sounding ps)
  unfolding offed_slot
  sounding-offed k =
      sounding-reseat (change_first (in_slot k) off_once (sounding ps)) ps (omega (arith, first-length (in_slot k) off_once (sounding ps), sounding-few ps))

  pub slots-offed : (k : ℕ) → slot_numbers (sounding (offed_slot k ps).players) ≡ slot_numbers (sounding ps)
  slots-offed k = ap slot_numbers (sounding-offed k) ∙ slots-first off_once once-slot (in_slot k) (sounding ps)

  pub count-offed : (k : ℕ) → length (sounding (offed_slot k ps).players) ≡ length (sounding ps)
  count-offed k = as_many (sounding (offed_slot k ps).players) (sounding ps) (slots-offed k)

  -- ---- the players that are over leave

  pub sounding-reaped : sounding (reaped ps).players ≡ filter (λ p. not (is_over p)) (sounding ps)
  unfolding reaped
  sounding-reaped =
      sounding-reseat (filter (λ p. not (is_over p)) (sounding ps)) ps (omega (arith, keep-few (λ (p : Player). not (is_over p)) (sounding ps), sounding-few ps))

  pub slots-reaped : slot_list (reaped ps).gone ≡ slot_numbers (filter is_over (sounding ps))
  unfolding reaped
  slots-reaped =
      slots-from (slot_numbers (filter is_over (sounding ps)))
      (omega (arith, length-map (filter is_over (sounding ps)) (λ (p : Player). p.slot), keep-few is_over (sounding ps), sounding-few ps))
