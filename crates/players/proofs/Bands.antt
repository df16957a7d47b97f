-- The players' segments, one after the other: the loop's state, and what a segment keeps. Assumes nothing.
use Rattle.std.specs.List.{list_any}
use Rattle.std.specs.Prelude.{cond, Option}
use Prim.Native.Nat.{ℕ, zero, suc, ◌+◌, ◌<◌, ◌≤◌}
use mathlib.Core.Path.{◌≡◌, refl, sym, ap, subst, ◌∙◌}
use mathlib.Core.Bool.{Bool, true, false, ◌||◌}
use mathlib.Core.List.{List, [], ◌∷◌, ◌++◌, foldl, foldl-append, map, map-append}
use native.Mathlib.Nat.{le_antisymm}
use native.Mathlib.Omega.{arith}
use native.Mathlib.Numerals.{add-one}
use lib.ListN.{length, take, drop, get_or, set, replicate, length-append, length-set}
use lib.Seq.{take-suc, take_all, get_or-append-add, get_or-drop}
use lib.Ieee.{Float}
use Rattle.session.specs.Lists.{packed, used_of}
use Rattle.session.specs.declared.Slots.{Slots}
use Rattle.session.proofs.Packing.{packed-set}
use Rattle.session.proofs.Walks.{used-small}
use Rattle.player.specs.Bounds.{PlayerOk}
use Rattle.segments.specs.Segment.{Rendered, played_by}
use Rattle.player.specs.declared.Player.{Player}
use Rattle.segments.specs.declared.segment.Played.{Played}
use Rattle.players.specs.declared.Players.{Players}
use Rattle.players.specs.declared.Tune.{Tune}
use Rattle.players.specs.Mix.{Sounds, Band, Mixture, lent_to, joined_by, played_band, played_all, mixture, tuned_one, tuned_all}
use Rattle.players.specs.Seats.{PlayersOk, sounding, reseat, slots_from, slot_pushed, no_player, is_over}
use Rattle.players.proofs.Kept.{sounding-length}
use Rattle.players.proofs.Passing.{get_d_any}
use Rattle.players.proofs.Places.{any-more, slots-pushed, slots-room}
use Rattle.players.proofs.Seating.{sounding-reseat}
use Rattle.players.proofs.Tuning.{tuned-slot, sounding-tuned, reseat-tuned}

-- what holds of each still does where one is replaced by such a one
set_all : {A : Type 0} (Q : A → Type 0) (R : ℕ → Type 0) (l : List A) (i : ℕ) (a d : A) → Q a → ((k : ℕ) → R k → Q (get_or l k d)) → (k : ℕ) → R k → Q (get_or (set l i a) k d)
set_all Q R [] i a d q h k r = h k r
set_all Q R (x ∷ xs) zero a d q h zero r = q
set_all Q R (x ∷ xs) zero a d q h (suc k) r = h (suc k) r
set_all Q R (x ∷ xs) (suc i) a d q h zero r = h zero r
set_all Q R (x ∷ xs) (suc i) a d q h (suc k) r = set_all Q (λ (j : ℕ). R (suc j)) xs i a d q (λ (j : ℕ). h (suc j)) k r

packed-at : {A : Type 0} (ks xs : List A) (i : ℕ) (d : A) → length ks ≡ i → get_or (packed ks xs) i d ≡ get_or xs i d
packed-at ks xs i d e =
    let z : length ks + 0 ≡ i = omega arith in
    rw z at (get_or-append-add ks (drop (length ks) xs) 0 d ∙ get_or-drop (length ks) xs 0 d)

abbrev made : List ℕ → ℕ → Slots
made l n = record { slots = l; count = n }

-- the slot of a player whose data ended, behind those before it
abbrev pub noted : Bool → ℕ → Slots → Slots
noted t k e = cond t (slot_pushed k e) e

pub noted-yes : (t : Bool) (k : ℕ) (e f : Slots) → t ≡ true → f ≡ slot_pushed k e → f ≡ noted t k e
noted-yes t k e f h is = is ∙ sym (ap (λ (b : Bool). noted b k e) h)

pub noted-no : (t : Bool) (k : ℕ) (e f : Slots) → t ≡ false → f ≡ e → f ≡ noted t k e
noted-no t k e f h is = is ∙ sym (ap (λ (b : Bool). noted b k e) h)

slots-noted : (t : Bool) (ks : List ℕ) (k : ℕ) → length ks < 32 → noted t k (slots_from ks) ≡ slots_from (cond t (ks ++ (k ∷ [])) ks)
slots-noted false ks k h = refl
slots-noted true ks k h = slots-pushed ks k h

few-more : (t : Bool) (ks : List ℕ) (k n : ℕ) → length ks ≤ n → length (cond t (ks ++ (k ∷ [])) ks) ≤ n + 1
few-more true ks k n h = omega (arith, length-append ks (k ∷ []))
few-more false ks k n h = omega arith

abbrev seated_as : List Player → ℕ → Players
seated_as l n = record { players = l; count = n }

-- whether one more is over
over-more : (o w : Bool) (qs : List Player) (q : Player) → o ≡ list_any is_over qs → w ≡ o || is_over q → w ≡ list_any is_over (qs ++ (q ∷ []))
over-more o w qs q e f = f ∙ ap (λ (t : Bool). t || is_over q) e ∙ sym (any-more is_over qs q)

module _ (x : Sounds) (u : Option Tune) (ps : Players) (l₀ r₀ : List Float) where
  -- after k players
  abbrev pub so_far : ℕ → Band
  so_far k = played_band x (map (tuned_one u) (take k ps.players)) l₀ r₀

  one_more : (k : ℕ) (d : Player) → k < length ps.players → so_far (k + 1) ≡ joined_by x (so_far k) (tuned_one u (get_or ps.players k d))
  unfolding played_band
  one_more k d h =
      ap (λ (l : List Player). foldl (joined_by x) (record { players = []; ended = []; left = l₀; right = r₀ }) (map (tuned_one u) l)) (ap (λ (m : ℕ). take m ps.players) (add-one k) ∙ take-suc ps.players k d h)
      ∙ ap (λ (l : List Player). foldl (joined_by x) (record { players = []; ended = []; left = l₀; right = r₀ }) l) (map-append (tuned_one u) (take k ps.players) (get_or ps.players k d ∷ []))
      ∙ foldl-append (joined_by x) (record { players = []; ended = []; left = l₀; right = r₀ }) (map (tuned_one u) (take k ps.players)) (tuned_one u (get_or ps.players k d) ∷ [])

  -- the state of the loop after k players
  pub record Going (k : ℕ) (t : Players) (e : Slots) (o : Bool) (l r : List Float) : Type 0 where
    pub counted : length (so_far k).players ≡ k
    pub few : length (so_far k).ended ≤ k
    pub seats : t.players ≡ packed (so_far k).players ps.players
    pub count : t.count ≡ ps.count
    pub ended : e ≡ slots_from (so_far k).ended
    pub over : o ≡ list_any is_over (so_far k).players
    pub left : l ≡ (so_far k).left
    pub right : r ≡ (so_far k).right
    pub size : length t.players ≡ 32
    pub each : (j : ℕ) → j < ps.count → PlayerOk (get_or t.players j no_player)

  pub going-none : PlayersOk ps → Going 0 ps (made (replicate 32 0) 0) false l₀ r₀
  unfolding played_band
  going-none ok = record {
    counted = refl;
    few = omega arith;
    seats = refl;
    count = refl;
    ended = refl;
    over = refl;
    left = refl;
    right = refl;
    size = ok.size;
    each = ok.each;
  }

  -- the slots so far have room
  pub going-room : (k : ℕ) (t : Players) (e : Slots) (o : Bool) (l r : List Float) → Going k t e o l r → k < 32 → e.count < 32
  going-room k t e o l r g h =
      slots-room (so_far k).ended e g.ended (omega (arith, g.few))

  -- the next player is fit to play
  pub going_fine : (k : ℕ) (t : Players) (e : Slots) (o : Bool) (l r : List Float) → PlayersOk ps → Going k t e o l r → k < ps.count → (d : Player) → PlayerOk (get_or t.players k d)
  going_fine k t e o l r ok g h d =
      subst PlayerOk (get_d_any t.players k no_player d (omega (arith, g.size, ok.few))) (g.each k h)

  module _ (ok : PlayersOk ps) (k : ℕ) (t : Players) (e : Slots) (o : Bool) (l r : List Float) (g : Going k t e o l r) (inside : k < ps.count) (d : Player)
      (y : Played) (l₁ r₁ : List Float)
      (plays : ◌≡◌ {A = Rendered} (record { played = y; left = l₁; right = r₁ }) (played_by (lent_to x (tuned_one u (get_or t.players k d))) (tuned_one u (get_or t.players k d)) l r)) where
    here : get_or t.players k d ≡ get_or ps.players k d
    here = ap (λ (v : List Player). get_or v k d) g.seats ∙ packed-at (so_far k).players ps.players k d g.counted

    -- the player as it plays
    abbrev at : Player
    at = tuned_one u (get_or ps.players k d)

    plays-here : ◌≡◌ {A = Rendered} (record { played = y; left = l₁; right = r₁ }) (played_by (lent_to x at) at (so_far k).left (so_far k).right)
    plays-here =
        plays ∙ ap (λ (p : Player). played_by (lent_to x (tuned_one u p)) (tuned_one u p) l r) here
        ∙ ap (λ (v : List Float). played_by (lent_to x at) at v r) g.left
        ∙ ap (played_by (lent_to x at) at (so_far k).left) g.right

    abbrev joined : ℕ → Rendered → Band
    joined n v = record {
      players = (so_far k).players ++ (v.played.player ∷ []);
      ended = cond v.played.ended ((so_far k).ended ++ (n ∷ [])) (so_far k).ended;
      left = v.left;
      right = v.right;
    }

    abbrev next : Band
    next = joined (get_or t.players k d).slot (record { played = y; left = l₁; right = r₁ })

    is-next : so_far (k + 1) ≡ next
    unfolding joined_by
    is-next =
        one_more k d (omega (arith, ok.few, ok.size))
        ∙ sym (ap (joined at.slot) plays-here)
        ∙ ap (λ (n : ℕ). joined n (record { played = y; left = l₁; right = r₁ })) (tuned-slot u (get_or ps.players k d) ∙ ap (λ (p : Player). p.slot) (sym here))

    pub going_on : (e₁ : Slots) (o₁ : Bool) → PlayerOk y.player → e₁ ≡ noted y.ended (get_or t.players k d).slot e → o₁ ≡ o || is_over y.player
        → Going (k + 1) (seated_as (set t.players k y.player) t.count) e₁ o₁ l₁ r₁
    going_on e₁ o₁ fine is told = record {
      counted = ap (λ (b : Band). length b.players) is-next ∙ length-append (so_far k).players (y.player ∷ []) ∙ ap (λ (n : ℕ). n + 1) g.counted;
      few = subst (λ (b : Band). length b.ended ≤ k + 1) (sym is-next) (few-more y.ended (so_far k).ended _ k g.few);
      seats =
          ap (λ (v : List Player). set v k y.player) g.seats
          ∙ ap (λ (n : ℕ). set (packed (so_far k).players ps.players) n y.player) (sym g.counted)
          ∙ packed-set (so_far k).players ps.players y.player d (omega (arith, g.counted, ok.few, ok.size))
          ∙ ap (λ (b : Band). packed b.players ps.players) (sym is-next);
      count = g.count;
      ended =
          is ∙ ap (noted y.ended (get_or t.players k d).slot) g.ended
          ∙ slots-noted y.ended (so_far k).ended (get_or t.players k d).slot (omega (arith, g.few, ok.few))
          ∙ ap (λ (b : Band). slots_from b.ended) (sym is-next);
      over = over-more o o₁ (so_far k).players y.player g.over told ∙ ap (λ (b : Band). list_any is_over b.players) (sym is-next);
      left = ap (λ (b : Band). b.left) (sym is-next);
      right = ap (λ (b : Band). b.right) (sym is-next);
      size = length-set t.players k y.player ∙ g.size;
      each = set_all PlayerOk (λ (j : ℕ). j < ps.count) t.players k y.player no_player fine g.each;
    }

  -- every player has played
  module _ (ok : PlayersOk ps) (k : ℕ) (t : Players) (e : Slots) (o : Bool) (l r : List Float) (g : Going k t e o l r) (low : k ≤ ps.count) (high : ps.count ≤ k) where
    full : k ≡ used_of 32 ps.count
    full = le_antisymm low high ∙ sym (used-small 32 ps.count ok.few)

    pub going-ok : PlayersOk t
    going-ok = record {
      few = subst (λ (n : ℕ). n ≤ 32) (sym g.count) ok.few;
      size = g.size;
      each = λ (j : ℕ) (h : j < t.count). g.each j (subst (λ (n : ℕ). j < n) g.count h);
    }

    seated-all : t ≡ reseat (so_far k).players ps
    seated-all =
        ap (λ (n : ℕ). seated_as t.players n) (g.count ∙ sym (le_antisymm low high) ∙ sym g.counted)
        ∙ ap (λ (v : List Player). seated_as v (length (so_far k).players)) g.seats

    pub going-over : o ≡ list_any is_over (sounding t)
    going-over =
        g.over
        ∙ ap (list_any is_over) (sym (ap (λ (v : Players). sounding v) seated-all ∙ sounding-reseat (so_far k).players ps (omega (arith, g.counted, ok.few))))

    -- the band of the tuned players
    band-full : so_far k ≡ played_band x (sounding (tuned_all u ps)) l₀ r₀
    band-full =
        ap so_far full ∙ ap (λ (v : List Player). played_band x v l₀ r₀) (sym (sounding-tuned u ps ok))

    pub going_done : ◌≡◌ {A = Mixture} (record { mixed = record { players = t; ended = e }; left = l; right = r }) (played_all x (tuned_all u ps) l₀ r₀)
    unfolding played_all
    going_done =
        ap (λ (v : Players). mix v e l r) (seated-all ∙ sym (reseat-tuned u ps ok (so_far k).players (omega (arith, g.counted, sounding-length ps ok))))
        ∙ ap (λ (v : Slots). mix (reseat (so_far k).players (tuned_all u ps)) v l r) g.ended
        ∙ ap (λ (v : List Float). mix (reseat (so_far k).players (tuned_all u ps)) (slots_from (so_far k).ended) v r) g.left
        ∙ ap (mix (reseat (so_far k).players (tuned_all u ps)) (slots_from (so_far k).ended) (so_far k).left) g.right
        ∙ ap (mixture (tuned_all u ps)) band-full
      where
        mix : Players → Slots → List Float → List Float → Mixture
        mix v f a b = record { mixed = record { players = v; ended = f }; left = a; right = b }
