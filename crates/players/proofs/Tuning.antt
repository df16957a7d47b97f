-- Tuned players: each by itself, and all of them. Assumes nothing.
use Rattle.std.specs.Prelude.{None, Option, Some}
use Prim.Native.Nat.{ℕ}
use mathlib.Core.Path.{◌≡◌, refl, sym, ap, subst, ◌∙◌}
use mathlib.Core.List.{List, ◌++◌, map, map-id}
use native.Mathlib.Omega.{arith}
use lib.ListN.{length, take, drop, length-map, take-append-drop}
use lib.Seq.{drop_at}
use Rattle.player.specs.declared.Player.{Player}
use Rattle.player.specs.Bounds.{PlayerOk}
use Rattle.players.specs.declared.Players.{Players}
use Rattle.players.specs.declared.Tune.{Tune}
use Rattle.players.specs.Seats.{sounding, reseat, PlayersOk, retuned, retuned_all}
use Rattle.players.specs.Mix.{tuned_one, tuned_all}
use Rattle.players.proofs.Kept.{in_use, sounding-few, sounding-length, retuned-ok}
use Rattle.players.proofs.Places.{places_at}
use Rattle.players.proofs.Seating.{sounding-reseat}

-- ---- one player

pub tuned-slot : (x : Option Tune) (p : Player) → (tuned_one x p).slot ≡ p.slot
unfolding tuned_one
tuned-slot None p = refl
tuned-slot (Some t) p = refl

pub tuned-ok : (x : Option Tune) (p : Player) → PlayerOk p → PlayerOk (tuned_one x p)
unfolding tuned_one
tuned-ok None p ok = ok
tuned-ok (Some t) p ok = retuned-ok t.note_f t.bend p ok

pub tuned-none : (x : Option Tune) (p : Player) → x ≡ None → p ≡ tuned_one x p
unfolding tuned_one
tuned-none x p e = sym (ap (λ (u : Option Tune). tuned_one u p) e)

pub tuned-some : (x : Option Tune) (t : Tune) (p q : Player) → x ≡ Some t → q ≡ retuned t.note_f t.bend p → q ≡ tuned_one x p
unfolding tuned_one
tuned-some x t p q e is = is ∙ sym (ap (λ (u : Option Tune). tuned_one u p) e)

-- ---- all players

-- players in the place of as many others
reseat-again : (ps : Players) (qs rs : List Player) → length qs ≡ length rs → reseat rs (reseat qs ps) ≡ reseat rs ps
reseat-again ps qs rs e =
    ap (λ (l : List Player). places_at (rs ++ l) (length rs))
    (drop_at qs (drop (length qs) ps.players) (length rs) e ∙ ap (λ (k : ℕ). drop k ps.players) e)

module _ (x : Option Tune) (ps : Players) (ok : PlayersOk ps) where
  -- the players in use, set in front, change nothing
  reseat-same : reseat (sounding ps) ps ≡ ps
  reseat-same =
      ap (λ (k : ℕ). places_at (sounding ps ++ drop k ps.players) k) (sounding-length ps ok)
      ∙ ap (λ (k : ℕ). places_at (take k ps.players ++ drop ps.count ps.players) ps.count) (in_use ps ok)
      ∙ ap (λ (l : List Player). places_at l ps.count) (take-append-drop ps.count ps.players)

  abbrev each : List Player
  each = map (tuned_one x) (sounding ps)

  all-tuned : tuned_all x ps ≡ reseat each ps
  unfolding tuned_one tuned_all retuned_all
  all-tuned = by-case x
    where
      by-case : (u : Option Tune) → tuned_all u ps ≡ reseat (map (tuned_one u) (sounding ps)) ps
      by-case None = sym (ap (λ (l : List Player). reseat l ps) (map-id (sounding ps)) ∙ reseat-same)
      by-case (Some t) = refl

  pub sounding-tuned : sounding (tuned_all x ps) ≡ map (tuned_one x) (sounding ps)
  sounding-tuned =
      ap (λ (t : Players). sounding t) all-tuned ∙ sounding-reseat each ps (omega (arith, length-map (sounding ps) (tuned_one x), sounding-few ps))

  -- as many players in the place of the tuned ones
  pub reseat-tuned : (qs : List Player) → length qs ≡ length (sounding ps) → reseat qs (tuned_all x ps) ≡ reseat qs ps
  reseat-tuned qs e =
      ap (λ (t : Players). reseat qs t) all-tuned ∙ reseat-again ps each qs (length-map (sounding ps) (tuned_one x) ∙ sym e)
