-- Each player of the result is sound where each was. Assumes nothing.
use Rattle.std.specs.Prelude.{cond, filter}
use Prim.Native.Nat.{ℕ, zero, suc, ◌+◌, ◌<◌, ◌≤◌}
use mathlib.Core.Path.{◌≡◌, refl, sym, ap, subst, ◌∙◌}
use mathlib.Core.Bool.{Bool, true, false, not}
use mathlib.Core.List.{List, [], ◌∷◌, map}
use native.Mathlib.Omega.{arith}
use lib.ListN.{length, take, drop, set, get_or, length-map, length-set, get_or-append}
use lib.Seq.{get_or-take, get_or-set_same, get_or-set_other, length-take-le}
use lib.Dec.{eqb}
use lib.Ieee.{Float}
use borrow.Author.Tests.{eqb-true, eqb-false}
use Rattle.session.specs.Lists.{used_of, change_if, change_first}
use Rattle.session.proofs.Walks.{used-small, used-below}
use Rattle.session.proofs.Relist.{packed-size, take-few}
use Rattle.player.specs.declared.Player.{Player}
use Rattle.player.specs.Bounds.{PlayerOk}
use Rattle.player.proofs.Pitches.{pitched-ok}
use Rattle.players.specs.declared.Players.{Players}
use Rattle.players.specs.Seats.{sounding, reseat, no_player, PlayersOk, seated, retuned, retuned_all, is_over, reaped}
use Rattle.players.specs.Gate.{let_go, hears_gate, turned_off, off_once, in_slot, released_all, offed_slot}

-- each player of the list is sound
abbrev pub AllOk : List Player → Type 0
AllOk qs = (k : ℕ) → k < length qs → PlayerOk (get_or qs k no_player)

pub all_none : AllOk []
all_none k q = let z : ⊥ = omega arith in absurd z

pub all_cons : (x : Player) (xs : List Player) → PlayerOk x → AllOk xs → AllOk (x ∷ xs)
all_cons x xs h a zero q = h
all_cons x xs h a (suc k) q = a k (omega arith)

all_tail : (x : Player) (xs : List Player) → AllOk (x ∷ xs) → AllOk xs
all_tail x xs a k q = a (suc k) (omega arith)

all_head : (x : Player) (xs : List Player) → AllOk (x ∷ xs) → PlayerOk x
all_head x xs a = a 0 (omega arith)

all_keep : (p : Player → Bool) (qs : List Player) → AllOk qs → AllOk (filter p qs)
all_keep p [] a = a
all_keep p (x ∷ xs) a = go (p x) (all_keep p xs (all_tail x xs a))
  where
    go : (t : Bool) → AllOk (filter p xs) → AllOk (cond t (x ∷ filter p xs) (filter p xs))
    go true r = all_cons x (filter p xs) (all_head x xs a) r
    go false r = r

module _ (f : Player → Player) (h : (p : Player) → PlayerOk p → PlayerOk (f p)) where
  all_map : (qs : List Player) → AllOk qs → AllOk (map f qs)
  all_map [] a = a
  all_map (x ∷ xs) a = all_cons (f x) (map f xs) (h x (all_head x xs a)) (all_map xs (all_tail x xs a))

  all_first : (p : Player → Bool) (qs : List Player) → AllOk qs → AllOk (change_first p f qs)
  all_first p [] a = a
  all_first p (x ∷ xs) a = go (p x) (all_first p xs (all_tail x xs a))
    where
      go : (t : Bool) → AllOk (change_first p f xs) → AllOk (cond t (f x ∷ xs) (x ∷ change_first p f xs))
      go true r = all_cons (f x) xs (h x (all_head x xs a)) (all_tail x xs a)
      go false r = all_cons x (change_first p f xs) (all_head x xs a) r

pub change-ok : (p : Player → Bool) (g : Player → Player) → ((x : Player) → PlayerOk x → PlayerOk (g x)) → (x : Player) → PlayerOk x → PlayerOk (change_if p g x)
change-ok p g h x ok = go (p x)
  where
    go : (t : Bool) → PlayerOk (cond t (g x) x)
    go true = h x ok
    go false = ok

off-ok : (p : Player) → PlayerOk p → PlayerOk (turned_off p)
unfolding turned_off
off-ok p h = record { cold = h.cold; stages = h.stages; position = h.position }

pub retuned-ok : (note bend : Float) (p : Player) → PlayerOk p → PlayerOk (retuned note bend p)
retuned-ok note bend p h = record { cold = pitched-ok p.cold note bend h.cold; stages = h.stages; position = h.position }

once-ok : (p : Player) → PlayerOk p → PlayerOk (off_once p)
once-ok p h = go p.hot.offed
  where
    go : (t : Bool) → PlayerOk (cond t p (turned_off p))
    go true = h
    go false = off-ok p h

-- ---- the lengths

pub sounding-few : (ps : Players) → length (sounding ps) ≤ 32
sounding-few ps = omega (arith, take-few (used_of 32 ps.count) ps.players, used-below 32 ps.count)

pub keep-few : {A : Type 0} (p : A → Bool) (xs : List A) → length (filter p xs) ≤ length xs
keep-few p [] = omega arith
keep-few p (x ∷ xs) = go (p x) (keep-few p xs)
  where
    go : (t : Bool) → length (filter p xs) ≤ length xs → length (cond t (x ∷ filter p xs) (filter p xs)) ≤ suc (length xs)
    go true r = omega arith
    go false r = omega arith

pub first-length : {A : Type 0} (p : A → Bool) (f : A → A) (xs : List A) → length (change_first p f xs) ≡ length xs
first-length p f [] = refl
first-length p f (x ∷ xs) = go (p x) (first-length p f xs)
  where
    go : (t : Bool) → length (change_first p f xs) ≡ length xs → length (cond t (f x ∷ xs) (x ∷ change_first p f xs)) ≡ suc (length xs)
    go true r = refl
    go false r = ap suc r

-- ---- the players as a whole

module _ (ps : Players) (ok : PlayersOk ps) where
  pub in_use : used_of 32 ps.count ≡ ps.count
  in_use = used-small 32 ps.count ok.few

  pub sounding-length : length (sounding ps) ≡ ps.count
  sounding-length = ap (λ (k : ℕ). length (take k ps.players)) in_use ∙ length-take-le ps.count ps.players (omega (arith, ok.few, ok.size))

  pub sounding-ok : AllOk (sounding ps)
  sounding-ok k q =
      let inside : k < ps.count = omega (arith, sounding-length) in
      subst (λ (x : Player). PlayerOk x) (sym (get_or-take (used_of 32 ps.count) ps.players k no_player (omega (arith, in_use)))) (ok.each k inside)

  pub reseat-ok : (qs : List Player) → length qs ≤ 32 → AllOk qs → PlayersOk (reseat qs ps)
  reseat-ok qs h a = record {
    few = h;
    size = packed-size qs ps.players (omega (arith, ok.size)) ∙ ok.size;
    each = λ k q. subst (λ (x : Player). PlayerOk x) (sym (get_or-append qs (drop (length qs) ps.players) no_player k q)) (a k q);
  }

  map-ok : (f : Player → Player) → ((p : Player) → PlayerOk p → PlayerOk (f p)) → PlayersOk (reseat (map f (sounding ps)) ps)
  map-ok f h = reseat-ok (map f (sounding ps)) (omega (arith, length-map (sounding ps) f, sounding-few ps)) (all_map f h (sounding ps) sounding-ok)

  pub seated-ok : (p : Player) → ps.count < 32 → PlayerOk p → PlayersOk (seated p ps)
  seated-ok p room h = record {
    few = omega arith;
    size = length-set ps.players ps.count p ∙ ok.size;
    each = λ k q. by-case k (eqb k ps.count) refl q;
  }
    where
      by-case : (k : ℕ) (t : Bool) → eqb k ps.count ≡ t → k < ps.count + 1 → PlayerOk (get_or (set ps.players ps.count p) k no_player)
      by-case k true e q =
          subst (λ (j : ℕ). PlayerOk (get_or (set ps.players ps.count p) j no_player)) (sym (eqb-true k ps.count e))
          (subst (λ (x : Player). PlayerOk x) (sym (get_or-set_same ps.players ps.count p no_player (omega (arith, ok.size)))) h)
      by-case k false e q =
          let n : k ≡ ps.count → ⊥ = eqb-false k ps.count e in
          subst (λ (x : Player). PlayerOk x) (sym (get_or-set_other ps.players ps.count k p no_player n)) (ok.each k (omega (arith, n)))

  pub retuned-all-ok : (note bend : Float) → PlayersOk (retuned_all note bend ps)
  unfolding retuned_all
  retuned-all-ok note bend = map-ok (retuned note bend) (retuned-ok note bend)

  pub reaped-ok : PlayersOk (reaped ps).players
  unfolding reaped
  reaped-ok =
      let stay : Player → Bool = λ p. not (is_over p) in
      reseat-ok (filter stay (sounding ps)) (omega (arith, keep-few stay (sounding ps), sounding-few ps)) (all_keep stay (sounding ps) sounding-ok)

  pub released-all-ok : PlayersOk (released_all ps).players
  unfolding released_all
  released-all-ok =
      map-ok (change_if hears_gate let_go) (change-ok hears_gate let_go (λ p h. record { cold = h.cold; stages = h.stages; position = h.position }))

  pub offed-slot-ok : (k : ℕ) → PlayersOk (offed_slot k ps).players
  unfolding offed_slot
  offed-slot-ok k =
      reseat-ok (change_first (in_slot k) off_once (sounding ps)) (omega (arith, first-length (in_slot k) off_once (sounding ps), sounding-few ps))
      (all_first off_once once-ok (in_slot k) (sounding ps) sounding-ok)
