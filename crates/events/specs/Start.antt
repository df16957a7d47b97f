-- A region starts: its marks on the session's list, then, where its voice has room, its record and its player. Definitions only.
use Rattle.std.specs.Prelude.{ℕ, ◌+◌, ◌-◌, ◌%◌, ◌^◌, List, map, pos, ◌==◌, nat_le, nat_lt, Float, None, Option, Some, cond, unwrap_or}
use mathlib.Core.List.{foldl}
use Rattle.std.specs.Float.{binary32}
use Rattle.std.specs.Float.Ieee.{of_int}
use Rattle.exact.specs.Random.{drawn}
use Rattle.exact.specs.Single.{◌⊘◌}
use Rattle.player.specs.Start.{is_note_on, started_player}
use Rattle.player.specs.declared.Player.{Player}
use Rattle.player.specs.declared.start.Event.{Event}
use Rattle.player.specs.declared.start.Cause.TheVariants.{Release}
use Rattle.player.specs.declared.start.Note.{Note}
use Rattle.players.specs.Seats.{seated}
use Rattle.program.specs.Curve.{velcurve_at}
use Rattle.program.specs.Region.{region_at}
use Rattle.program.specs.Sample.{sample_at}
use Rattle.program.specs.declared.region.Region.{Region}
use Rattle.session.specs.Records.{entered}
use Rattle.session.specs.Rules.{start_marks, enter}
use Rattle.session.specs.State.{view, relist, serial_up}
use Rattle.session.specs.declared.Session.{Session}
use Rattle.session.specs.declared.Start.{Start}
use Rattle.note.specs.Choice.{chosen_off}
use Rattle.note.specs.declared.NoteState.{NoteState}
use Rattle.events.specs.declared.SampleVoice.{SampleVoice}
use Rattle.events.specs.declared.Both.{Both}
use Rattle.events.specs.declared.Cause.{Cause}
use Rattle.events.specs.Voice.{Kit, with_started, with_dropped}

-- the start as the session sees it
unfoldable pub start_of : Region → ℕ → ℕ → NoteState → Cause → Start
start_of x i voice n c = record {
  voice = voice;
  region = i;
  group = x.choke.group;
  off_by = x.choke.off_by;
  note = n.note;
  vel = n.vel;
  on_note = is_note_on c.kind;
  serial = c.serial;
  at = c.at;
  note_polyphony = x.choke.note_polyphony;
  polyphony = x.choke.polyphony;
}

-- region i of the voice starts; and all these regions, in turn
abbrev pub start_at : List ℕ → ℕ → NoteState → Cause → ℕ → Start
start_at ws voice n c i = start_of (region_at ws i) i voice n c

abbrev pub starts_of : List ℕ → ℕ → NoteState → Cause → List ℕ → List Start
starts_of ws voice n c is = map (start_at ws voice n c) is

-- what the player's start reads of the note and of the event
abbrev pub note_in : NoteState → Note
note_in n = record { note = n.note; vel = n.vel; note_f = n.note_f; seed = n.seed; interp = n.interp }

abbrev pub event_in : ℕ → ℕ → Cause → Event
event_in slot i c = record { slot = slot; region = i; serial = c.serial; cause = c.kind; held_secs = c.held_secs }

-- what the region's velocity curve gives at the note's velocity
unfoldable pub curve_for : List ℕ → Region → ℕ → ℕ → Option Float
curve_for ws x i vel = cond (x.level.velcurve_count == 0) None (Some (velcurve_at ws i vel))

-- the player of the region x, which is region i, in this slot
unfoldable pub player_from : Kit → Region → ℕ → NoteState → Cause → ℕ → Float → Player
player_from k x i n c slot rate =
    started_player x (sample_at k.samples (unwrap_or x.sample 0xffff_ffff)) (curve_for k.words x i n.vel) (note_in n) (event_in slot i c) rate

-- the player of region i in the voice's next slot
unfoldable pub player_of : Kit → NoteState → Cause → SampleVoice → ℕ → Player
player_of k n c v i = player_from k (region_at k.words i) i n c v.next_slot v.sample_rate

-- one dropped start more; the counter rests at 4,294,967,295
abbrev pub one_more_dropped : ℕ → ℕ
one_more_dropped n = cond (nat_lt n 4294967295) (n + 1) n

abbrev pub dropped_one : SampleVoice → SampleVoice
dropped_one v = with_dropped (one_more_dropped v.dropped) v

abbrev pub start_in : Kit → NoteState → Cause → SampleVoice → ℕ → Start
start_in k n c v i = start_at k.words v.voice n c i

-- what the start marks, dropped or not
unfoldable pub marked_by : Start → Session → Session
marked_by st s = relist (start_marks st (view s)) s

unfoldable pub entered_by : Start → ℕ → Session → Session
entered_by st slot s = relist (enter (entered st slot) (view s)) s

-- the player takes its place, and the next slot moves, at 32 bits
unfoldable pub joined_by : Player → SampleVoice → SampleVoice
joined_by p v = with_started (seated p v.players) ((v.next_slot + 1) % 2 ^ 32) v

-- Region i starts. A voice that holds 32 players drops it; its marks remain.
unfoldable pub started_region : Kit → NoteState → Cause → Both → ℕ → Both
started_region k n c b i =
    let st = start_in k n c b.voice i in
    let s = marked_by st b.session in
    cond (nat_le 32 b.voice.players.count)
    (record { session = s; voice = dropped_one b.voice })
    (record { session = entered_by st b.voice.next_slot s; voice = joined_by (player_of k n c b.voice i) b.voice })

-- the chosen regions start in turn
unfoldable pub started_all : Kit → NoteState → Cause → List ℕ → Both → Both
started_all k n c is b = foldl (started_region k n c) b is

-- ---- the note's release regions: sfizz's noteOffDispatch

-- for how long the note was held at the time `at`, in seconds
unfoldable pub held_for : ℕ → ℕ → Float → Float
held_for at on rate = of_int binary32 (pos (at - on)) ⊘ rate

unfoldable pub release_cause : NoteState → ℕ → Float → Session → Cause
release_cause n at rate s = record { serial = s.event_serial; at = at; kind = Release; held_secs = held_for at n.on_time rate }

-- Of m regions those chosen start. The event takes a serial, whether a region starts or not
unfoldable pub releases_fired : Kit → ℕ → NoteState → ℕ → Both → Both
releases_fired k m n at b =
    let s = serial_up b.session in
    started_all k n (release_cause n at b.voice.sample_rate s)
    (chosen_off k.words m n.note n.vel (drawn n.seed s.event_serial 0) s)
    (record { session = s; voice = b.voice })

abbrev pub fired_for : Kit → ℕ → ℕ → Option NoteState → Both → Both
fired_for k m at None b = b
fired_for k m at (Some n) b = releases_fired k m n at b

-- without a note nothing happens
unfoldable pub dispatched_release : Kit → ℕ → ℕ → Both → Both
dispatched_release k m at b = fired_for k m at b.voice.note b
