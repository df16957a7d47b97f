-- A rising gate and a falling one. Definitions only.
use Rattle.std.specs.Prelude.{ℕ, List, cond}
use Rattle.exact.specs.Random.{drawn}
use Rattle.exact.specs.Single.{f0}
use Rattle.player.specs.declared.start.Cause.TheVariants.{NoteOn}
use Rattle.players.specs.Gate.{released_all}
use Rattle.session.specs.State.{serial_up, held_up, held_down, with_seq}
use Rattle.session.specs.declared.Session.{Session}
use Rattle.note.specs.Note.{note_state}
use Rattle.note.specs.Choice.{Hit, choosing_on}
use Rattle.note.specs.declared.NoteState.{NoteState}
use Rattle.note.specs.declared.Strike.{Strike}
use Rattle.events.specs.declared.Both.{Both}
use Rattle.events.specs.declared.Cause.{Cause}
use Rattle.events.specs.Voice.{Kit, with_players, struck, ungated}
use Rattle.events.specs.Start.{started_all, dispatched_release}
use Rattle.gates.specs.Off.{reaped_both, own_offs}

-- one event and one held gate more
abbrev pub risen : Session → Session
risen s = held_up (serial_up s)

-- what the note-on reads
abbrev pub hit_at : List ℕ → NoteState → Session → Hit
hit_at ws n s = record { words = ws; vel = n.vel; held = s.held; draw = drawn n.seed s.event_serial 0 }

abbrev pub attack_cause : ℕ → Session → Cause
attack_cause at s = record { serial = s.event_serial; at = at; kind = NoteOn; held_secs = f0 }

-- the note n of a rising gate: its regions are chosen, and then start in turn
unfoldable pub note_started : Kit → ℕ → NoteState → ℕ → Both → Both
note_started k m n at b =
    let s = risen b.session in
    let c = choosing_on (hit_at k.words n s) m n.note s.seq in
    started_all k n (attack_cause at s) c.regions (record { session = with_seq c.seq s; voice = struck n b.voice })

-- a rising gate: the note, and then every off time on the voice's own records
unfoldable pub noted_on : Kit → ℕ → Strike → Both → Both
noted_on k m x b = own_offs k m 128 (note_started k m (note_state x) x.at b)

-- the players are let go; those ended in their delay leave at once
unfoldable pub let_go_both : Both → Both
let_go_both b =
    let r = released_all b.voice.players in
    let c : Both = record { session = b.session; voice = with_players r.players b.voice } in
    cond r.killed (reaped_both c) c

-- a falling gate that was held: one held gate less, the players let go, the release regions
unfoldable pub let_go_note : Kit → ℕ → ℕ → Both → Both
let_go_note k m at b = dispatched_release k m at (let_go_both (record { session = held_down b.session; voice = ungated b.voice }))

unfoldable pub noted_off : Kit → ℕ → ℕ → Both → Both
noted_off k m at b = cond b.voice.gate_held (let_go_note k m at b) b
