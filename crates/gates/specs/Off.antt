-- Players that end, and off marks that act. Definitions only.
use Rattle.std.specs.List.{list_any}
use Rattle.session.specs.declared.Off.{Off}
use Rattle.std.specs.Prelude.{ℕ, zero, suc, Bool, true, false, not, ◌&&◌, None, Option, Some, cond}
use Rattle.players.specs.Gate.{ignored, fires, offed_slot}
use Rattle.players.specs.Seats.{sounding, is_over, reaped}
use Rattle.session.specs.Offs.{took_first}
use Rattle.session.specs.Rules.{without_slots}
use Rattle.session.specs.State.{view, relist, slot_list}
use Rattle.players.specs.declared.Reaped.{Reaped}
use Rattle.session.specs.declared.Session.{Session}
use Rattle.note.specs.declared.NoteState.{NoteState}
use Rattle.events.specs.declared.SampleVoice.{SampleVoice}
use Rattle.events.specs.declared.Both.{Both}
use Rattle.events.specs.Voice.{Kit, with_players, with_note}
use Rattle.events.specs.Start.{dispatched_release}

-- the voice's records in these slots are gone
abbrev pub without_players : ℕ → Reaped → Session → Session
without_players id r s = relist (without_slots id (slot_list r.gone) (view s)) s

-- players whose envelope is done leave the voice, and their records the list
unfoldable pub reaped_both : Both → Both
reaped_both b =
    cond (list_any is_over (sounding b.voice.players))
    (record { session = without_players b.voice.voice (reaped b.voice.players) b.session; voice = with_players (reaped b.voice.players).players b.voice })
    b

-- the note's release regions have not been fired by a choke
abbrev pub unfired : Option NoteState → Bool
unfired None = false
unfired (Some n) = not n.choke_released

abbrev pub with_choke_released : NoteState → NoteState
with_choke_released n = record { note = n.note; vel = n.vel; note_f = n.note_f; on_time = n.on_time; seed = n.seed; interp = n.interp; choke_released = true }

abbrev pub fired_note : Option NoteState → Option NoteState
fired_note None = None
fired_note (Some n) = Some (with_choke_released n)

abbrev pub may_fire : Bool → SampleVoice → Bool
may_fire due v = due && (v.gate_held && unfired v.note)

-- the choke of a note-on's player under a held gate fires the note's release regions, once for each note
unfoldable pub choke_fires : Kit → ℕ → ℕ → Bool → Both → Both
choke_fires k m at due b =
    cond (may_fire due b.voice)
    (dispatched_release k m at (record { session = b.session; voice = with_note (fired_note b.voice.note) b.voice }))
    b

-- The off mark of a slot acts at the time `at`. On a player that is off already nothing happens.
unfoldable pub applied_off : Kit → ℕ → ℕ → ℕ → Both → Both
applied_off k m slot at b =
    let o = offed_slot slot b.voice.players in
    cond (ignored o.mark) b (choke_fires k m at (fires o.mark) (reaped_both (record { session = b.session; voice = with_players o.players b.voice })))

-- the off time taken first acts
abbrev pub acts_on : Kit → ℕ → Option Off → Both → Both
acts_on k m None b = b
acts_on k m (Some o) b = applied_off k m o.slot o.at b

abbrev pub is_taken : Option Off → Bool
is_taken None = false
is_taken (Some o) = true

-- the voice's first waiting off time is taken and acts
unfoldable pub took_own : Kit → ℕ → Both → Both
took_own k m b = let t = took_first b.voice.voice b.session in acts_on k m t.first (record { session = t.session; voice = b.voice })

-- what it did, where there was one
unfoldable pub turned_own : Kit → ℕ → Both → Option Both
turned_own k m b = cond (is_taken (took_first b.voice.voice b.session).first) (Some (took_own k m b)) None

-- Every off time then on the voice's own records acts, first by first, until none is left. Each takes a mark that can be set twice at
-- most, so that 128 turns are enough for a voice's 32 records and the 32 that its release may add.
unfoldable pub own_offs : Kit → ℕ → ℕ → Both → Both
own_offs k m zero b = b
own_offs k m (suc turns) b = cond (is_taken (took_first b.voice.voice b.session).first) (own_offs k m turns (took_own k m b)) b
