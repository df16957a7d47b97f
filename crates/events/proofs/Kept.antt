-- What starting regions changes and what it leaves, for the account of a whole run. Assumes nothing.
use Rattle.std.proofs.Common.{◌≡◌, ℕ, ◌+◌, ◌%◌, ◌^◌, ◌<◌, ◌≤◌, Bool, true, false, ltb, leb, List, [], ◌∷◌, ◌++◌, length, refl, ap, ◌∙◌, arith, length-append, length-set, ltb-true, le-leb, leb-false, None, Option, Some, cond}
use borrow.Author.Tests.{lt-leb}
use Rattle.player.specs.Start.{is_note_on, started_player}
use Rattle.players.specs.Seats.{sounding}
use Rattle.players.proofs.Seating.{sounding-seated}
use Rattle.session.specs.Records.{entered}
use Rattle.session.specs.Rules.{start_marks, enter}
use Rattle.session.specs.State.{view, serial_up}
use Rattle.session.specs.declared.PlayerRecord.{PlayerRecord}
use Rattle.session.specs.declared.Session.{Session}
use Rattle.session.specs.declared.Start.{Start}
use Rattle.session.proofs.Laws.{enter-room}
use Rattle.session.proofs.Relist.{view-few, view-relist, relist-size}
use Rattle.session.proofs.Yield.{length-marks}
use Rattle.note.specs.declared.NoteState.{NoteState}
use Rattle.events.specs.declared.SampleVoice.{SampleVoice}
use Rattle.events.specs.declared.Both.{Both}
use Rattle.events.specs.declared.Cause.{Cause}
use Rattle.events.specs.Voice.{Kit}
use Rattle.events.specs.Start.{player_from, player_of, dropped_one, start_in, marked_by, entered_by, joined_by, started_region, started_all, releases_fired, fired_for, dispatched_release}

-- ---- the list

marks-few : (st : Start) (s : Session) → length (start_marks st (view s)) ≤ 512
marks-few st s = omega (arith, length-marks st (view s), view-few s)

enter-few : (r : PlayerRecord) (rs : List PlayerRecord) → length rs ≤ 512 → length (enter r rs) ≤ 512
unfolding enter
enter-few r rs h = by-case (ltb (length rs) 512) refl where
  by-case : (t : Bool) → ltb (length rs) 512 ≡ t → length (cond t (rs ++ (r ∷ [])) rs) ≤ 512
  by-case true e = omega (arith, ltb-true (length rs) 512 e, length-append rs (r ∷ []))
  by-case false e = h

module _ (st : Start) (s : Session) (size : length s.players ≡ 512) where
  pub view-marked : view (marked_by st s) ≡ start_marks st (view s)
  unfolding marked_by
  view-marked = view-relist s size (start_marks st (view s)) (marks-few st s)

  pub size-marked : length (marked_by st s).players ≡ 512
  unfolding marked_by
  size-marked = relist-size s size (start_marks st (view s)) (marks-few st s)

  pub view-entered : (slot : ℕ) → view (entered_by st slot s) ≡ enter (entered st slot) (view s)
  unfolding entered_by
  view-entered slot = view-relist s size (enter (entered st slot) (view s)) (enter-few (entered st slot) (view s) (view-few s))

  pub size-entered : (slot : ℕ) → length (entered_by st slot s).players ≡ 512
  unfolding entered_by
  size-entered slot = relist-size s size (enter (entered st slot) (view s)) (enter-few (entered st slot) (view s) (view-few s))

-- ---- what stays

-- all of the session but its list
pub record SessionKept (s t : Session) : Type 0 where
  pub seq : t.seq ≡ s.seq
  pub voices : t.voices ≡ s.voices
  pub serial : t.event_serial ≡ s.event_serial
  pub held : t.held ≡ s.held

-- all of the voice but its players, the next slot and the dropped starts
pub record VoiceKept (v w : SampleVoice) : Type 0 where
  pub voice : w.voice ≡ v.voice
  pub rate : w.sample_rate ≡ v.sample_rate
  pub program : w.program ≡ v.program
  pub gate-prev : w.gate_prev ≡ v.gate_prev
  pub gate-held : w.gate_held ≡ v.gate_held
  pub note : w.note ≡ v.note
  pub started : w.started ≡ v.started

pub session-same : (s : Session) → SessionKept s s
session-same s = record { seq = refl; voices = refl; serial = refl; held = refl }

pub session-then : {s t u : Session} → SessionKept s t → SessionKept t u → SessionKept s u
session-then a b = record { seq = b.seq ∙ a.seq; voices = b.voices ∙ a.voices; serial = b.serial ∙ a.serial; held = b.held ∙ a.held }

pub voice-same : (v : SampleVoice) → VoiceKept v v
voice-same v =
    record { voice = refl; rate = refl; program = refl; gate-prev = refl; gate-held = refl; note = refl; started = refl }

pub voice-then : {u v w : SampleVoice} → VoiceKept u v → VoiceKept v w → VoiceKept u w
voice-then a b = record {
  voice = b.voice ∙ a.voice;
  rate = b.rate ∙ a.rate;
  program = b.program ∙ a.program;
  gate-prev = b.gate-prev ∙ a.gate-prev;
  gate-held = b.gate-held ∙ a.gate-held;
  note = b.note ∙ a.note;
  started = b.started ∙ a.started;
}

-- ---- one region

-- the player takes the voice's next slot
module _ (k : Kit) (n : NoteState) (c : Cause) (v : SampleVoice) (i : ℕ) where
  pub player-slot : (player_of k n c v i).slot ≡ v.next_slot
  unfolding player_of player_from started_player
  player-slot = refl

  pub player-region : (player_of k n c v i).region ≡ i
  unfolding player_of player_from started_player
  player-region = refl

  pub player-on-note : (player_of k n c v i).on_note ≡ is_note_on c.kind
  unfolding player_of player_from started_player
  player-on-note = refl

module _ (k : Kit) (n : NoteState) (c : Cause) (b : Both) (i : ℕ) where
  -- the two ways of it
  abbrev dropped : Both
  dropped = record { session = marked_by (start_in k n c b.voice i) b.session; voice = dropped_one b.voice }

  abbrev joined : Both
  joined = record {
    session = entered_by (start_in k n c b.voice i) b.voice.next_slot (marked_by (start_in k n c b.voice i) b.session);
    voice = joined_by (player_of k n c b.voice i) b.voice;
  }

  pub is-dropped : 32 ≤ b.voice.players.count → started_region k n c b i ≡ dropped
  unfolding started_region
  is-dropped h = ap (λ (t : Bool). cond t dropped joined) (le-leb 32 b.voice.players.count h)

  pub is-joined : b.voice.players.count < 32 → started_region k n c b i ≡ joined
  unfolding started_region
  is-joined h = ap (λ (t : Bool). cond t dropped joined) (lt-leb 32 b.voice.players.count h)

  pub region-session : SessionKept b.session (started_region k n c b i).session
  unfolding started_region marked_by entered_by
  region-session = by-case (leb 32 b.voice.players.count) where
    by-case : (t : Bool) → SessionKept b.session (cond t dropped joined).session
    by-case true = record { seq = refl; voices = refl; serial = refl; held = refl }
    by-case false = record { seq = refl; voices = refl; serial = refl; held = refl }

  pub region-voice : VoiceKept b.voice (started_region k n c b i).voice
  unfolding started_region joined_by
  region-voice = by-case (leb 32 b.voice.players.count) where
    by-case : (t : Bool) → VoiceKept b.voice (cond t dropped joined).voice
    by-case true =
        record { voice = refl; rate = refl; program = refl; gate-prev = refl; gate-held = refl; note = refl; started = refl }
    by-case false =
        record { voice = refl; rate = refl; program = refl; gate-prev = refl; gate-held = refl; note = refl; started = refl }

  -- the list has the start's marks, and where the voice has room one record more
  module _ (size : length b.session.players ≡ 512) where
    pub dropped-list : 32 ≤ b.voice.players.count
        → view (started_region k n c b i).session ≡ start_marks (start_in k n c b.voice i) (view b.session)
    dropped-list h = ap (λ (x : Both). view x.session) (is-dropped h) ∙ view-marked _ b.session size

    pub joined-list : b.voice.players.count < 32
        → view (started_region k n c b i).session
        ≡ enter (entered (start_in k n c b.voice i) b.voice.next_slot) (start_marks (start_in k n c b.voice i) (view b.session))
    joined-list h =
        let st = start_in k n c b.voice i in
        ap (λ (x : Both). view x.session) (is-joined h)
        ∙ view-entered st (marked_by st b.session) (size-marked st b.session size) b.voice.next_slot
        ∙ ap (enter (entered st b.voice.next_slot)) (view-marked st b.session size)

    -- a list that has room keeps its records, marked or not, and has the new one at its end
    pub joined-room : b.voice.players.count < 32 → length (view b.session) < 512
        → view (started_region k n c b i).session
        ≡ start_marks (start_in k n c b.voice i) (view b.session) ++ (entered (start_in k n c b.voice i) b.voice.next_slot ∷ [])
    joined-room h room =
        let st = start_in k n c b.voice i in
        joined-list h ∙ enter-room (entered st b.voice.next_slot) (start_marks st (view b.session)) (omega (arith, length-marks st (view b.session)))

    pub region-size : length (started_region k n c b i).session.players ≡ 512
    unfolding started_region
    region-size = by-case (leb 32 b.voice.players.count) where
      by-case : (t : Bool) → length (cond t dropped joined).session.players ≡ 512
      by-case true = size-marked _ b.session size
      by-case false = size-entered _ (marked_by (start_in k n c b.voice i) b.session) (size-marked _ b.session size) _

  -- the players: none more, or one more in the next slot
  pub dropped-players : 32 ≤ b.voice.players.count → (started_region k n c b i).voice.players ≡ b.voice.players
  dropped-players h = ap (λ (x : Both). x.voice.players) (is-dropped h)

  pub dropped-slot : 32 ≤ b.voice.players.count → (started_region k n c b i).voice.next_slot ≡ b.voice.next_slot
  dropped-slot h = ap (λ (x : Both). x.voice.next_slot) (is-dropped h)

  pub joined-players : b.voice.players.count < 32 → length b.voice.players.players ≡ 32
      → sounding (started_region k n c b i).voice.players ≡ sounding b.voice.players ++ (player_of k n c b.voice i ∷ [])
  unfolding joined_by
  joined-players h size =
      ap (λ (x : Both). sounding x.voice.players) (is-joined h) ∙ sounding-seated (player_of k n c b.voice i) b.voice.players h size

  pub joined-slot : b.voice.players.count < 32 → (started_region k n c b i).voice.next_slot ≡ (b.voice.next_slot + 1) % 2 ^ 32
  unfolding joined_by
  joined-slot h = ap (λ (x : Both). x.voice.next_slot) (is-joined h)

  pub joined-dropped : b.voice.players.count < 32 → (started_region k n c b i).voice.dropped ≡ b.voice.dropped
  unfolding joined_by
  joined-dropped h = ap (λ (x : Both). x.voice.dropped) (is-joined h)

  -- 32 places, of which no more are in use
  pub region-places : length b.voice.players.players ≡ 32 → length (started_region k n c b i).voice.players.players ≡ 32
  unfolding started_region joined_by
  region-places size = by-case (leb 32 b.voice.players.count) where
    by-case : (t : Bool) → length (cond t dropped joined).voice.players.players ≡ 32
    by-case true = size
    by-case false = length-set b.voice.players.players b.voice.players.count (player_of k n c b.voice i) ∙ size

  pub region-seats : b.voice.players.count ≤ 32 → (started_region k n c b i).voice.players.count ≤ 32
  unfolding started_region joined_by
  region-seats h = by-case (leb 32 b.voice.players.count) refl where
    by-case : (t : Bool) → leb 32 b.voice.players.count ≡ t → (cond t dropped joined).voice.players.count ≤ 32
    by-case true e = h
    by-case false e = omega (arith, leb-false 32 b.voice.players.count e)

-- ---- the regions in turn

module _ (k : Kit) (n : NoteState) (c : Cause) where
  pub all_none : (b : Both) → started_all k n c [] b ≡ b
  unfolding started_all
  all_none b = refl

  pub all_more : (i : ℕ) (is : List ℕ) (b : Both) → started_all k n c (i ∷ is) b ≡ started_all k n c is (started_region k n c b i)
  unfolding started_all
  all_more i is b = refl

  pub all-session : (is : List ℕ) (b : Both) → SessionKept b.session (started_all k n c is b).session
  unfolding started_all
  all-session [] b = session-same b.session
  all-session (i ∷ is) b = session-then (region-session k n c b i) (all-session is (started_region k n c b i))

  pub all-voice : (is : List ℕ) (b : Both) → VoiceKept b.voice (started_all k n c is b).voice
  unfolding started_all
  all-voice [] b = voice-same b.voice
  all-voice (i ∷ is) b = voice-then (region-voice k n c b i) (all-voice is (started_region k n c b i))

  pub all-size : (is : List ℕ) (b : Both) → length b.session.players ≡ 512 → length (started_all k n c is b).session.players ≡ 512
  unfolding started_all
  all-size [] b size = size
  all-size (i ∷ is) b size = all-size is (started_region k n c b i) (region-size k n c b i size)

  pub all-places : (is : List ℕ) (b : Both) → length b.voice.players.players ≡ 32 → length (started_all k n c is b).voice.players.players ≡ 32
  unfolding started_all
  all-places [] b size = size
  all-places (i ∷ is) b size = all-places is (started_region k n c b i) (region-places k n c b i size)

  pub all-seats : (is : List ℕ) (b : Both) → b.voice.players.count ≤ 32 → (started_all k n c is b).voice.players.count ≤ 32
  unfolding started_all
  all-seats [] b h = h
  all-seats (i ∷ is) b h = all-seats is (started_region k n c b i) (region-seats k n c b i h)

-- ---- a note's release

module _ (k : Kit) (m at : ℕ) (b : Both) where
  pub releases-session : (n : NoteState) → SessionKept (serial_up b.session) (releases_fired k m n at b).session
  unfolding releases_fired
  releases-session n = all-session k n _ _ (record { session = serial_up b.session; voice = b.voice })

  pub releases-voice : (n : NoteState) → VoiceKept b.voice (releases_fired k m n at b).voice
  unfolding releases_fired
  releases-voice n = all-voice k n _ _ (record { session = serial_up b.session; voice = b.voice })

  pub releases-size : (n : NoteState) → length b.session.players ≡ 512 → length (releases_fired k m n at b).session.players ≡ 512
  unfolding releases_fired
  releases-size n size = all-size k n _ _ (record { session = serial_up b.session; voice = b.voice }) size

  pub releases-places : (n : NoteState) → length b.voice.players.players ≡ 32 → length (releases_fired k m n at b).voice.players.players ≡ 32
  unfolding releases_fired
  releases-places n size = all-places k n _ _ (record { session = serial_up b.session; voice = b.voice }) size

  pub releases-seats : (n : NoteState) → b.voice.players.count ≤ 32 → (releases_fired k m n at b).voice.players.count ≤ 32
  unfolding releases_fired
  releases-seats n h = all-seats k n _ _ (record { session = serial_up b.session; voice = b.voice }) h

  -- with a note or without
  pub dispatched-voice : VoiceKept b.voice (dispatched_release k m at b).voice
  unfolding dispatched_release
  dispatched-voice = by-case b.voice.note where
    by-case : (x : Option NoteState) → VoiceKept b.voice (fired_for k m at x b).voice
    by-case None = voice-same b.voice
    by-case (Some n) = releases-voice n

  pub dispatched-session : (t : Session) → t ≡ (dispatched_release k m at b).session
      → (t.seq ≡ b.session.seq) × (t.voices ≡ b.session.voices) × (t.held ≡ b.session.held)
  unfolding dispatched_release
  dispatched-session t e = by-case b.voice.note e where
    by-case : (x : Option NoteState) → t ≡ (fired_for k m at x b).session
        → (t.seq ≡ b.session.seq) × (t.voices ≡ b.session.voices) × (t.held ≡ b.session.held)
    by-case None f = (ap (λ (s : Session). s.seq) f, ap (λ (s : Session). s.voices) f, ap (λ (s : Session). s.held) f)
    by-case (Some n) f =
        let y = releases-session n in
        (ap (λ (s : Session). s.seq) f ∙ y.seq, ap (λ (s : Session). s.voices) f ∙ y.voices, ap (λ (s : Session). s.held) f ∙ y.held)

  pub dispatched-size : length b.session.players ≡ 512 → length (dispatched_release k m at b).session.players ≡ 512
  unfolding dispatched_release
  dispatched-size size = by-case b.voice.note where
    by-case : (x : Option NoteState) → length (fired_for k m at x b).session.players ≡ 512
    by-case None = size
    by-case (Some n) = releases-size n size

  pub dispatched-places : length b.voice.players.players ≡ 32 → length (dispatched_release k m at b).voice.players.players ≡ 32
  unfolding dispatched_release
  dispatched-places size = by-case b.voice.note where
    by-case : (x : Option NoteState) → length (fired_for k m at x b).voice.players.players ≡ 32
    by-case None = size
    by-case (Some n) = releases-places n size

  pub dispatched-seats : b.voice.players.count ≤ 32 → (dispatched_release k m at b).voice.players.count ≤ 32
  unfolding dispatched_release
  dispatched-seats h = by-case b.voice.note where
    by-case : (x : Option NoteState) → (fired_for k m at x b).voice.players.count ≤ 32
    by-case None = h
    by-case (Some n) = releases-seats n h
