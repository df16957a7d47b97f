-- What a segment of all players keeps: how many they are, what of each does not hang on its frames, and the outputs' lengths; and the
-- slots that it tells are players' slots. Assumes nothing.
use Prim.Native.Nat.{ℕ, zero, suc, ◌+◌, ◌≤◌}
use mathlib.Core.Path.{◌≡◌, refl, sym, ap, ◌∙◌}
use mathlib.Core.Bool.{Bool, true, false, ◌||◌, cond}
use mathlib.Core.List.{List, [], ◌∷◌, ◌++◌, map, foldl, append_assoc, append-nil}
use native.Mathlib.Omega.{arith}
use lib.Dec.{eqb}
use lib.ListN.{length, take, replicate, length-append, length-map, length-set, length-take}
use lib.Seq.{take-append_seam, take_all}
use lib.Ieee.{Float}
use Rattle.filter.specs.declared.FilterShape.{FilterShape}
use Rattle.session.specs.Lists.{elem, packed, used_of}
use Rattle.session.specs.State.{slot_list}
use Rattle.session.proofs.Walks.{used-below, used-small}
use Rattle.player.specs.declared.Cold.{Cold}
use Rattle.player.specs.declared.Hot.{Hot}
use Rattle.player.specs.declared.Player.{Player}
use Rattle.segments.specs.declared.segment.Turn.{Turn}
use Rattle.segments.specs.declared.segment.Turn.TheVariants.{Over, Sounds as Heard}
use Rattle.segments.specs.Source.{Sound}
use Rattle.segments.specs.Segment.{Run, frame_next, run_one, run_for, with_hot, played, played_by}
use Rattle.players.specs.declared.Players.{Players}
use Rattle.players.specs.Seats.{sounding, reseat, slots_from, slot_numbers}
use Rattle.players.specs.Mix.{Sounds, Band, lent_to, joined_by, played_band, played_all}

-- ---- the outputs of one player

pub record SameLengths (l r : List Float) (x : Run) : Type 0 where
  pub left : length x.left ≡ length l
  pub right : length x.right ≡ length r

module _ (c : Cold) (fs : List FilterShape) (s : Sound) (l r : List Float) where
  one-frame : (j : ℕ) (x : Run) (t : Turn) → SameLengths l r x → SameLengths l r (played c fs j x t)
  one-frame j x (Over h) same = record { left = same.left; right = same.right }
  one-frame j x (Heard f) same = record { left = length-set x.left j _ ∙ same.left; right = length-set x.right j _ ∙ same.right }

  one-run : (j : ℕ) (x : Run) → SameLengths l r x → SameLengths l r (run_one c fs s j x)
  unfolding run_one
  one-run j x same = by-case x.done
    where
      by-case : (t : Bool) → SameLengths l r (cond t x (played c fs j x (frame_next c s x.hot)))
      by-case true = same
      by-case false = one-frame j x (frame_next c s x.hot) same

  all-frames : (k : ℕ) (x : Run) → SameLengths l r x → SameLengths l r (run_for c fs s k x)
  unfolding run_for
  all-frames zero x same = same
  all-frames (suc k) x same = one-run k (run_for c fs s k x) (all-frames k x same)

module _ (s : Sound) (p : Player) (l r : List Float) where
  lengths : SameLengths l r (run_for p.cold p.slots s (length l) (record { hot = p.hot; states = p.states; left = l; right = r; done = false }))
  lengths = all-frames p.cold p.slots s l r (length l) (record { hot = p.hot; states = p.states; left = l; right = r; done = false }) (record { left = refl; right = refl })

  pub played-left : length (played_by s p l r).left ≡ length l
  unfolding played_by
  played-left = lengths.left

  pub played-right : length (played_by s p l r).right ≡ length r
  unfolding played_by
  played-right = lengths.right

  -- a segment changes nothing of a player that does not hang on `hot` and `states`
  pub played-keeps : {A : Type 0} (f : Player → A) → ((h : Hot) (z : List Float) (q : Player) → f (with_hot h z q) ≡ f q) → f (played_by s p l r).played.player ≡ f p
  unfolding played_by
  played-keeps f keeps = keeps _ _ p

-- ---- all players
map-end : {A B : Type 0} (f : A → B) (xs : List A) (y : A) → map f (xs ++ (y ∷ [])) ≡ map f xs ++ (f y ∷ [])
map-end f [] y = refl
map-end f (x ∷ xs) y = ap (λ l. f x ∷ l) (map-end f xs y)

at-end : (k : ℕ) (ks : List ℕ) (s : ℕ) → elem k (ks ++ (s ∷ [])) ≡ (elem k ks || elem k (s ∷ []))
at-end k [] s = refl
at-end k (y ∷ ks) s = by-case (eqb y k) (at-end k ks s)
  where
    by-case : (t : Bool) → elem k (ks ++ (s ∷ [])) ≡ (elem k ks || elem k (s ∷ [])) → t || elem k (ks ++ (s ∷ [])) ≡ ((t || elem k ks) || elem k (s ∷ []))
    by-case true e = refl
    by-case false e = e

one_told : (a e r : Bool) → ((a || (e || false)) || r) ≡ true → (a || (e || r)) ≡ true
one_told true e r h = refl
one_told false true r h = refl
one_told false false r h = h

none_told : (a e r : Bool) → (a || r) ≡ true → (a || (e || r)) ≡ true
none_told true e r h = refl
none_told false true r h = refl
none_told false false r h = h

module _ (x : Sounds) where
  band-left : (ps : List Player) (b : Band) → length (foldl (joined_by x) b ps).left ≡ length b.left
  unfolding joined_by
  band-left [] b = refl
  band-left (p ∷ ps) b = band-left ps (joined_by x b p) ∙ played-left (lent_to x p) p b.left b.right

  band-right : (ps : List Player) (b : Band) → length (foldl (joined_by x) b ps).right ≡ length b.right
  unfolding joined_by
  band-right [] b = refl
  band-right (p ∷ ps) b = band-right ps (joined_by x b p) ∙ played-right (lent_to x p) p b.left b.right

  band-keeps : {A : Type 0} (f : Player → A) → ((h : Hot) (z : List Float) (q : Player) → f (with_hot h z q) ≡ f q)
      → (ps : List Player) (b : Band) → map f (foldl (joined_by x) b ps).players ≡ map f b.players ++ map f ps
  unfolding joined_by
  band-keeps f keeps [] b = sym (append-nil (map f b.players))
  band-keeps f keeps (p ∷ ps) b =
      band-keeps f keeps ps (joined_by x b p)
      ∙ ap (λ l. l ++ map f ps) (map-end f b.players _)
      ∙ append_assoc (map f b.players) _ (map f ps)
      ∙ ap (λ v. map f b.players ++ (v ∷ map f ps)) (played-keeps (lent_to x p) p b.left b.right f keeps)

  -- how many slots are told
  band-told : (ps : List Player) (b : Band) → length (foldl (joined_by x) b ps).ended ≤ length b.ended + length ps
  unfolding joined_by
  band-told [] b = omega arith
  band-told (p ∷ ps) b = omega (arith, band-told ps (joined_by x b p), told (played_by (lent_to x p) p b.left b.right).played.ended)
    where
      told : (t : Bool) → length (cond t (b.ended ++ (p.slot ∷ [])) b.ended) ≤ suc (length b.ended)
      told true = omega (arith, length-append b.ended (p.slot ∷ []))
      told false = omega arith

  -- a slot that is told was told before or is one of the players'
  band-slots : (k : ℕ) (ps : List Player) (b : Band) → elem k (foldl (joined_by x) b ps).ended ≡ true → (elem k b.ended || elem k (slot_numbers ps)) ≡ true
  unfolding joined_by
  band-slots k [] b h = by-case (elem k b.ended) h
    where
      by-case : (t : Bool) → t ≡ true → (t || false) ≡ true
      by-case true h = refl
      by-case false h = h
  band-slots k (p ∷ ps) b h = by-case (played_by (lent_to x p) p b.left b.right).played.ended (band-slots k ps (joined_by x b p) h)
    where
      by-case : (t : Bool) → (elem k (cond t (b.ended ++ (p.slot ∷ [])) b.ended) || elem k (slot_numbers ps)) ≡ true
          → (elem k b.ended || (eqb p.slot k || elem k (slot_numbers ps))) ≡ true
      by-case true h =
          one_told (elem k b.ended) (eqb p.slot k) (elem k (slot_numbers ps)) (ap (λ t. t || elem k (slot_numbers ps)) (sym (at-end k b.ended p.slot)) ∙ h)
      by-case false h = none_told (elem k b.ended) (eqb p.slot k) (elem k (slot_numbers ps)) h

-- players set in front are those that sound
pub sounding-reseat : (qs : List Player) (ps : Players) → length qs ≤ 32 → sounding (reseat qs ps) ≡ qs
sounding-reseat qs ps h = ap (λ n. take n (packed qs ps.players)) (used-small 32 (length qs) h) ∙ take-append_seam qs _

pub sounding-few : (ps : Players) → length (sounding ps) ≤ 32
sounding-few ps = omega (arith, length-take (used_of 32 ps.count) ps.players, used-below 32 ps.count)

-- the slots that a list of at most 32 makes are that list
pub slots-from : (ks : List ℕ) → length ks ≤ 32 → slot_list (slots_from ks) ≡ ks
slots-from ks h =
    ap (λ (l : List ℕ). take (used_of 32 (length l)) (packed l (replicate 32 0))) (take_all 32 ks h)
    ∙ ap (λ n. take n (packed ks (replicate 32 0))) (used-small 32 (length ks) h)
    ∙ take-append_seam ks _

module _ (x : Sounds) (ps : Players) (l r : List Float) where
  abbrev band : Band
  band = played_band x (sounding ps) l r

  pub all_left : length (played_all x ps l r).left ≡ length l
  unfolding played_all played_band
  all_left = band-left x (sounding ps) (record { players = []; ended = []; left = l; right = r })

  pub all_right : length (played_all x ps l r).right ≡ length r
  unfolding played_all played_band
  all_right = band-right x (sounding ps) (record { players = []; ended = []; left = l; right = r })

  same-players : {A : Type 0} (f : Player → A) → ((h : Hot) (z : List Float) (q : Player) → f (with_hot h z q) ≡ f q) → map f band.players ≡ map f (sounding ps)
  unfolding played_band
  same-players f keeps = band-keeps x f keeps (sounding ps) (record { players = []; ended = []; left = l; right = r })

  as_many : length band.players ≡ length (sounding ps)
  as_many = sym (length-map band.players (λ q. q.slot)) ∙ ap length (same-players (λ q. q.slot) (λ h z q. refl)) ∙ length-map (sounding ps) (λ q. q.slot)

  pub all-sounding : sounding (played_all x ps l r).mixed.players ≡ band.players
  unfolding played_all
  all-sounding = sounding-reseat band.players ps (omega (arith, as_many, sounding-few ps))

  -- what does not hang on a player's `hot` and `states` is as it was, in the same order
  pub all-keeps : {A : Type 0} (f : Player → A) → ((h : Hot) (z : List Float) (q : Player) → f (with_hot h z q) ≡ f q)
      → map f (sounding (played_all x ps l r).mixed.players) ≡ map f (sounding ps)
  all-keeps f keeps = ap (map f) all-sounding ∙ same-players f keeps

  pub all_slots : slot_numbers (sounding (played_all x ps l r).mixed.players) ≡ slot_numbers (sounding ps)
  all_slots = all-keeps (λ q. q.slot) (λ h z q. refl)

  told-few : length band.ended ≤ 32
  unfolding played_band
  told-few = omega (arith, band-told x (sounding ps) (record { players = []; ended = []; left = l; right = r }), sounding-few ps)

  -- the slots of those whose data ended, in order
  pub all_told : slot_list (played_all x ps l r).mixed.ended ≡ band.ended
  unfolding played_all
  all_told = slots-from band.ended told-few

  -- they are players' slots
  pub told-slots : (k : ℕ) → elem k (slot_list (played_all x ps l r).mixed.ended) ≡ true → elem k (slot_numbers (sounding ps)) ≡ true
  unfolding played_band
  told-slots k h = band-slots x k (sounding ps) (record { players = []; ended = []; left = l; right = r }) (ap (elem k) (sym all_told) ∙ h)
