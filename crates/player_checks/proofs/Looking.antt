-- One walk that tests the players in use and lists their slots. Assumes nothing.
use Rattle.std.specs.List.{list_all}
use Rattle.std.proofs.lemmas.List.Folds.{list_all-map}
use Prim.Native.Nat.{ℕ}
use mathlib.Core.Path.{◌≡◌, refl, sym, ap, ◌∙◌}
use mathlib.Core.Bool.{Bool, true, false, not, ◌&&◌}
use mathlib.Core.List.{List, [], ◌∷◌, map}
use Rattle.program.specs.Valid.{every}
use Rattle.program.specs.declared.bind.BoundProgram.{BoundProgram}
use Rattle.player.specs.declared.Player.{Player}
use Rattle.players.specs.declared.Players.{Players}
use Rattle.players.specs.Seats.{sounding}
use Rattle.player_checks.specs.Sound.{slot_fits, stages_over, player_fits, sample_fits, players_fit, samples_fit}

-- a test of each element, as a list of answers and as a walk
every_of : {A : Type 0} (f : A → Bool) (xs : List A) → every (map f xs) ≡ list_all f xs
every_of f xs = list_all-map (λ t. t) f xs

pub stages_are : (p : Player) → stages_over p ≡ not (list_all slot_fits p.slots)
unfolding stages_over
stages_are p = ap not (every_of slot_fits p.slots)

pub players_are : (b : BoundProgram) (ps : Players) → players_fit b ps ≡ list_all (player_fits b) (sounding ps)
unfolding players_fit
players_are b ps = every_of (player_fits b) (sounding ps)

pub samples_are : (ss : List ℕ) (ps : Players) → samples_fit ss ps ≡ list_all (sample_fits ss) (sounding ps)
unfolding samples_fit
samples_are ss ps = every_of (sample_fits ss) (sounding ps)

-- two tests of each element in one walk
all-both : {A : Type 0} (f g : A → Bool) (xs : List A) → list_all (λ x. f x && g x) xs ≡ (list_all f xs && list_all g xs)
all-both f g [] = refl
all-both f g (x ∷ xs) = ap (λ t. (f x && g x) && t) (all-both f g xs) ∙ swap (f x) (g x) (list_all f xs) (list_all g xs)
  where
    swap : (a b c d : Bool) → ((a && b) && (c && d)) ≡ ((a && c) && (b && d))
    swap true true c d = refl
    swap true false true d = refl
    swap true false false d = refl
    swap false b c d = refl

pub all_fit : (b : BoundProgram) (ss : List ℕ) (ps : Players)
    → (players_fit b ps && samples_fit ss ps) ≡ list_all (λ p. player_fits b p && sample_fits ss p) (sounding ps)
all_fit b ss ps = sym (rw (players_are b ps, samples_are ss ps) (all-both (player_fits b) (sample_fits ss) (sounding ps)))
