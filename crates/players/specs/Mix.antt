-- The frames of all players, one after the other, added to both outputs. Definitions only.
use Rattle.std.specs.Prelude.{ℕ, ◌+◌, cond, take, drop, eqb, Float, None, Option, Some, unwrap_or}
use mathlib.Core.List.{List, [], ◌∷◌, ◌++◌, foldl}
use Rattle.program.specs.declared.sample.Sample.{Sample}
use Rattle.program.specs.Sample.{sample_at}
use Rattle.player.specs.declared.Player.{Player}
use Rattle.segments.specs.Source.{Sound}
use Rattle.segments.specs.Segment.{played_by}
use Rattle.session.specs.declared.Slots.{Slots}
use Rattle.players.specs.declared.Players.{Players}
use Rattle.players.specs.declared.Tune.{Tune}
use Rattle.players.specs.Seats.{sounding, reseat, slots_from, retuned, retuned_all}

-- what players read: the samples' words, all frames, and the sinc table's 8,194 entries
pub record Sounds : Type 0 where
  pub samples : List ℕ
  pub frames : List Float
  pub table : List Float

-- the sample's frames of a channel
abbrev pub first_channel : List Float → Sample → List Float
first_channel fs s = take s.frames (drop s.start fs)

-- the second channel's frames follow the first's
abbrev pub second_channel : List Float → Sample → List Float
second_channel fs s = cond (eqb s.channels 2) (take s.frames (drop (s.start + s.frames) fs)) []

-- what a player is lent
unfoldable pub lent_to : Sounds → Player → Sound
lent_to x p =
    let s = sample_at x.samples (unwrap_or p.sample 0xffff_ffff) in
    record { a = first_channel x.frames s; b = cond p.cold.stereo (Some (second_channel x.frames s)) None; table = x.table }

-- the players that have played so far, the slots of those whose data ended, and both outputs
pub record Band : Type 0 where
  pub players : List Player
  pub ended : List ℕ
  pub left : List Float
  pub right : List Float

-- one player more
unfoldable pub joined_by : Sounds → Band → Player → Band
joined_by x b p =
    let y = played_by (lent_to x p) p b.left b.right in
    record {
      players = b.players ++ (y.played.player ∷ []);
      ended = cond y.played.ended (b.ended ++ (p.slot ∷ [])) b.ended;
      left = y.left;
      right = y.right;
    }

unfoldable pub played_band : Sounds → List Player → List Float → List Float → Band
played_band x ps l r = foldl (joined_by x) (record { players = []; ended = []; left = l; right = r }) ps

-- a segment of all players, and the slots of those whose data ended in it
pub record Mixed : Type 0 where
  pub players : Players
  pub ended : Slots

-- beside both outputs' parts
pub record Mixture : Type 0 where
  pub mixed : Mixed
  pub left : List Float
  pub right : List Float

abbrev pub mixture : Players → Band → Mixture
mixture ps b = record { mixed = record { players = reseat b.players ps; ended = slots_from b.ended }; left = b.left; right = b.right }

unfoldable pub played_all : Sounds → Players → List Float → List Float → Mixture
played_all x ps l r = mixture ps (played_band x (sounding ps) l r)

-- a player, and all of them, tuned as a block has it
unfoldable pub tuned_one : Option Tune → Player → Player
tuned_one None p = p
tuned_one (Some t) p = retuned t.note_f t.bend p

unfoldable pub tuned_all : Option Tune → Players → Players
tuned_all None ps = ps
tuned_all (Some t) ps = retuned_all t.note_f t.bend ps
