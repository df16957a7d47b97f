-- Which regions a note-on starts, and which its release. Choosing changes nothing but the sequences. Definitions only.
use Rattle.std.specs.Prelude.{ℕ, ◌+◌, Bool, true, false, ◌&&◌, length, take, get_or, set, replicate, ltb, leb, eqb, Float, None, Option, Some, cond, filter}
use mathlib.Core.List.{List, [], ◌∷◌, ◌++◌, foldl}
use Rattle.std.specs.Float.Ieee.{le, lt}
use Rattle.program.specs.Region.{region_at}
use Rattle.program.specs.Lookup.{regions_for_key}
use Rattle.program.specs.declared.region.Rand.{Rand}
use Rattle.program.specs.declared.region.Region.{Region}
use Rattle.program.specs.declared.region.Seq.{Seq}
use Rattle.program.specs.declared.region.Trigger.{Trigger}
use Rattle.program.specs.declared.region.Trigger.TheVariants.{Attack, Release, ReleaseKey, First, Legato}
use Rattle.session.specs.Lists.{used_of, packed}
use Rattle.session.specs.State.{seq_stepped}
use Rattle.session.specs.Tests.{attack_playing}
use Rattle.session.specs.declared.Sequences.{Sequences}
use Rattle.session.specs.declared.Session.{Session}
use Rattle.session.specs.declared.Window.{Window}
use Rattle.note.specs.declared.Chosen.{Chosen}
use Rattle.note.specs.declared.choice.ChosenOn.{ChosenOn}

-- a region without a sequence stands at 1 of 1
abbrev pub length_of : Option Seq → ℕ
length_of None = 1
length_of (Some q) = q.length

abbrev pub position_of : Option Seq → ℕ
position_of None = 1
position_of (Some q) = q.position

abbrev pub draw_in : Option Rand → Float → Bool
draw_in None x = true
draw_in (Some r) x = le r.lo x && lt x r.hi

-- the velocity window holds the velocity
abbrev pub hears_velocity : Region → ℕ → Bool
hears_velocity x vel = leb x.window.lovel vel && leb vel x.window.hivel

-- the velocity and the draw let it start, and its place in the sequence was hit
unfoldable pub may_start : Region → ℕ → Float → Bool → Bool
may_start x vel draw on = on && (hears_velocity x vel && draw_in x.chosen.rand draw)

-- ---- at a note-on, with so many gates held, the new one among them

abbrev pub triggered_on : Trigger → ℕ → Bool
triggered_on Attack held = true
triggered_on Release held = false
triggered_on ReleaseKey held = false
triggered_on First held = eqb held 1
triggered_on Legato held = ltb 1 held

-- the sequences, and the regions chosen so far
pub record Choosing : Type 0 where
  pub seq : Sequences
  pub regions : List ℕ

-- the region's sequence moves, whether it starts or not
abbrev pub moved : Region → ℕ → Sequences → Sequences
moved x i q = seq_stepped i (length_of x.chosen.seq) (position_of x.chosen.seq) q

-- what a note-on reads: the program's words, its note, the gates held and its draw
pub record Hit : Type 0 where
  pub words : List ℕ
  pub vel : ℕ
  pub held : ℕ
  pub draw : Float

unfoldable pub starts_on : Hit → Sequences → ℕ → Bool
starts_on h q i =
    let x = region_at h.words i in
    triggered_on x.chosen.trigger h.held && may_start x h.vel h.draw (get_or q.seq_on i false)

unfoldable pub choose_one : Hit → Choosing → ℕ → Choosing
choose_one h c i =
    let q = moved (region_at h.words i) i c.seq in
    record { seq = q; regions = cond (starts_on h q i) (c.regions ++ (i ∷ [])) c.regions }

-- every region of the key in program order
unfoldable pub choosing_on : Hit → ℕ → ℕ → Sequences → Choosing
choosing_on h n key q = foldl (choose_one h) (record { seq = q; regions = [] }) (regions_for_key h.words n key)

-- ---- at a note's release

-- the windows of a region as the session asks for them
abbrev pub window_in : Region → Window
window_in x = record { lokey = x.window.lokey; hikey = x.window.hikey; lovel = x.window.lovel; hivel = x.window.hivel }

-- a `Release` region asks for its attack, a `ReleaseKey` region does not
abbrev pub triggered_off : Trigger → Bool → Bool
triggered_off Attack playing = false
triggered_off Release playing = playing
triggered_off ReleaseKey playing = true
triggered_off First playing = false
triggered_off Legato playing = false

unfoldable pub starts_off : List ℕ → ℕ → Float → Session → ℕ → Bool
starts_off ws vel draw s i =
    let x = region_at ws i in
    triggered_off x.chosen.trigger (attack_playing (window_in x) s) && may_start x vel draw (get_or s.seq.seq_on i false)

-- the regions of the key that the note's release starts, in program order
unfoldable pub chosen_off : List ℕ → ℕ → ℕ → ℕ → Float → Session → List ℕ
chosen_off ws n key vel draw s = filter (starts_off ws vel draw s) (regions_for_key ws n key)

-- ---- regions chosen, as an array of 256 places

abbrev pub chosen_list : Chosen → List ℕ
chosen_list c = take (used_of 256 c.count) c.regions

-- the first 256 in front, and 0 behind
abbrev pub chosen_from : List ℕ → Chosen
chosen_from is = record { regions = packed (take 256 is) (replicate 256 0); count = length (take 256 is) }

-- what choosing at a note-on hands back
unfoldable pub chosen_on : Hit → ℕ → ℕ → Sequences → ChosenOn
chosen_on h n key q = record { seq = (choosing_on h n key q).seq; chosen = chosen_from (choosing_on h n key q).regions }

-- ---- one step of the choosing, on the array

-- one more, where there is room
unfoldable pub add_region : ℕ → Chosen → Chosen
add_region i c = cond (ltb c.count 256) (record { regions = set c.regions c.count i; count = c.count + 1 }) c

-- `choose_one` on the array
unfoldable pub chosen_step : Hit → ChosenOn → ℕ → ChosenOn
chosen_step h c i =
    let q = moved (region_at h.words i) i c.seq in
    record { seq = q; chosen = cond (starts_on h q i) (add_region i c.chosen) c.chosen }
