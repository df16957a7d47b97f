-- What 01's test 8 refuses in a player, each cause by itself. Definitions only.
use Rattle.player.specs.declared.LoopRt.{LoopRt}
use Rattle.player.specs.declared.Fade.{Fade}
use Rattle.std.specs.Prelude.{ℕ, ◌+◌, ◌-◌, Bool, false, not, ◌&&◌, cond, List, [], ◌∷◌, map, ltb, leb, eqb, Float, None, Option, Some}
use Rattle.std.specs.Float.{binary64}
use Rattle.std.specs.Float.Ieee.{le, eq, fits}
use Rattle.filter.specs.declared.FilterShape.{FilterShape}
use Rattle.filter.specs.Filter.{stage_count}
use Rattle.interp.specs.Position.{first, furthest, double}
use Rattle.program.specs.Sample.{sample_at}
use Rattle.program.specs.Valid.{every}
use Rattle.program.specs.declared.bind.BoundProgram.{BoundProgram}
use Rattle.player.specs.declared.Player.{Player}
use Rattle.player.specs.Bounds.{most}
use Rattle.players.specs.declared.Players.{Players}
use Rattle.players.specs.Seats.{sounding}

-- the region is outside the bound program
abbrev pub region_out : BoundProgram → Player → Bool
region_out b p = leb b.regions p.region

-- the sample is outside it
abbrev pub named_out : BoundProgram → Option ℕ → Bool
named_out b None = false
named_out b (Some i) = leb b.samples i

abbrev pub sample_out : BoundProgram → Player → Bool
sample_out b p = named_out b p.sample

-- a span above 40 half taps
abbrev pub span_over : Player → Bool
span_over p = ltb 40 p.cold.span.half

-- a filter count above 6
abbrev pub filters_over : Player → Bool
filters_over p = ltb 6 p.cold.n_filters

-- a filter slot has at most 3 stages
abbrev pub slot_fits : FilterShape → Bool
slot_fits s = leb (stage_count s) 3

-- stages above 3 in one of its slots
unfoldable pub stages_over : Player → Bool
stages_over p = not (every (map slot_fits p.slots))

-- x is the double of n; that its format holds it is so of each double of the machine
unfoldable pub is_double : ℕ → Float → Bool
is_double n x = eq x (double n) && fits binary64 x

-- the frames of a loop's fade
abbrev pub frames_in : Option Fade → ℕ
frames_in None = 0
frames_in (Some f) = f.frames

-- a loop whose end is below its start, whose size is not end + 1 - start, or whose fade exceeds its start
unfoldable pub loop_wrong : Option LoopRt → Bool
loop_wrong None = false
loop_wrong (Some l) =
    not (every (leb l.start l.end ∷ is_double (l.end + 1 - l.start) l.size ∷ leb (frames_in l.fade) l.start ∷ []))

-- not within 0 to the most
abbrev pub outside : Float → Float → Bool
outside top x = not (le first x && le x top)

-- a position not within 0 to 8,589,934,592
unfoldable pub position_out : Player → Bool
position_out p = outside furthest p.hot.pos

-- a step not within 0 to 4,096
unfoldable pub step_out : Player → Bool
step_out p = outside most p.cold.step

-- the frame count of the player's sample; 4,294,967,295 for silence
abbrev pub frames_named : List ℕ → Option ℕ → ℕ
frames_named ss None = 0xffff_ffff
frames_named ss (Some i) = (sample_at ss i).frames

unfoldable pub frame_count : List ℕ → Player → ℕ
frame_count ss p = frames_named ss p.sample

-- a loop whose end is not below the frame count
abbrev pub loop_past : ℕ → Option LoopRt → Bool
loop_past n None = false
loop_past n (Some l) = leb n l.end

-- a `last` not below the frame count
abbrev pub last_past : ℕ → Player → Bool
last_past n p = leb n p.cold.last

-- what a player shows by itself, and beside the program's numbers
abbrev pub own_tests : BoundProgram → Player → List Bool
own_tests b p =
    not (region_out b p) ∷ not (sample_out b p) ∷ not (span_over p) ∷ not (filters_over p) ∷ not (stages_over p) ∷ not (loop_wrong p.cold.lp)
    ∷ not (position_out p) ∷ not (step_out p) ∷ []

-- what it shows beside its sample
abbrev pub sample_tests : List ℕ → Player → List Bool
sample_tests ss p = not (loop_past (frame_count ss p) p.cold.lp) ∷ not (last_past (frame_count ss p) p) ∷ []

unfoldable pub player_fits : BoundProgram → Player → Bool
player_fits b p = every (own_tests b p)

unfoldable pub sample_fits : List ℕ → Player → Bool
sample_fits ss p = every (sample_tests ss p)

-- each player in use passes
unfoldable pub players_fit : BoundProgram → Players → Bool
players_fit b ps = every (map (player_fits b) (sounding ps))

unfoldable pub samples_fit : List ℕ → Players → Bool
samples_fit ss ps = every (map (sample_fits ss) (sounding ps))
