-- The session as a whole: its list of records in use, and the session with another list.
use Rattle.std.specs.Prelude.{ℕ, ◌+◌, ◌-◌, ◌%◌, ◌^◌, Bool, false, not, ◌&&◌, List, [], ◌∷◌, ◌++◌, length, take, replicate, pos, ◌==◌, nat_le, nat_lt, slice_index, slice_set, None, Some, cond, filter}
use mathlib.Core.List.{foldl}
use Rattle.session.specs.declared.PlayerRecord.{PlayerRecord}
use Rattle.session.specs.declared.Sequences.{Sequences}
use Rattle.session.specs.declared.LiveVoices.{LiveVoices}
use Rattle.session.specs.declared.Session.{Session}
use Rattle.session.specs.declared.Slots.{Slots}
use Rattle.session.specs.declared.Start.{Start}
use Rattle.session.specs.declared.Starts.{Starts}
use Rattle.session.specs.declared.Opened.{Opened}
use Rattle.session.specs.Lists.{used_of, packed}
use Rattle.session.specs.Rules.{start_one, without_voice}

-- the records in use, in order: the session's list
abbrev pub view : Session → List PlayerRecord
view s = take (used_of 512 s.count) s.players

-- the session with other record places and another count
abbrev pub with_players : List PlayerRecord → ℕ → Session → Session
with_players rs n s = record s { players = rs; count = n }

-- the session with this list of records; each place behind them, and all else, as it was
abbrev pub relist : List PlayerRecord → Session → Session
relist ks s = with_players (packed ks s.players) (length ks) s

-- the slots that a voice names
abbrev pub slot_list : Slots → List ℕ
slot_list ks = take (used_of 32 ks.count) ks.slots

-- ---- the starts of one event

-- the starts in use, in order
abbrev pub start_list : Starts → List Start
start_list b = take (used_of 256 b.count) b.starts

-- what each start finds and leaves: the session, how many players the voice holds, and its next slot
pub record Starting : Type 0 where
  pub session : Session
  pub held : ℕ
  pub slot : ℕ

-- a start with room takes a place and the next slot, at 32 bits
abbrev pub start_with : Bool → Start → Starting → Starting
start_with room st x = record {
  session = relist (start_one st room x.slot (view x.session)) x.session;
  held = cond room (x.held + 1) x.held;
  slot = cond room ((x.slot + 1) % 2 ^ 32) x.slot;
}

-- a voice that holds 32 has no room
unfoldable pub start_next : Starting → Start → Starting
start_next x st = start_with (nat_lt x.held 32) st x

-- all in turn
unfoldable pub started_many : List Start → ℕ → ℕ → Session → Session
started_many sts held slot s = (foldl start_next (record { session = s; held = held; slot = slot }) sts).session

-- an empty place of the starts
abbrev pub no_start : Start
no_start = record {
  voice = 0;
  region = 0;
  group = pos 0;
  off_by = None;
  note = 0;
  vel = 0;
  on_note = false;
  serial = 0;
  at = 0;
  note_polyphony = None;
  polyphony = None;
}

-- ---- the live voices

-- the ids of the live voices, in the order of their making
abbrev pub live_ids : LiveVoices → List ℕ
live_ids v = take (used_of 16 v.count) v.ids

-- these live voices and this next id; the places behind them as they were
abbrev pub relive : List ℕ → ℕ → LiveVoices → LiveVoices
relive is next v = record { ids = packed is v.ids; count = length is; next_voice = next }

abbrev pub with_voices : LiveVoices → Session → Session
with_voices v s = record s { voices = v }

-- fewer than sixteen are live, and the next id is not above 2^63
abbrev pub has_place : LiveVoices → Bool
has_place v = nat_lt v.count 16 && nat_le v.next_voice (2 ^ 63)

-- the next id among the live ones, behind the others
unfoldable pub placed : LiveVoices → LiveVoices
placed v = relive (live_ids v ++ (v.next_voice ∷ [])) (v.next_voice + 1) v

-- a new voice takes the next id and a place; ids only rise, so that none is given again. Without a place nothing changes, and no
-- id is told
unfoldable pub opened : Session → Opened
opened s =
    cond (has_place s.voices) (record { session = with_voices (placed s.voices) s; id = Some s.voices.next_voice })
    (record { session = s; id = None })

-- the voice's place is free; the others keep their order, and the next id stays
unfoldable pub freed : ℕ → LiveVoices → LiveVoices
freed id v = relive (filter (λ x. not (x == id)) (live_ids v)) v.next_voice v

-- ---- sequences, the event serial and the held gates

abbrev pub with_seq : Sequences → Session → Session
with_seq q s = record s { seq = q }

-- the counter c stands at the position, counted from 1, of a sequence of this length. A length of 0 has no position
abbrev pub seq_hit : ℕ → ℕ → ℕ → Bool
seq_hit c len at = not (len == 0) && c % len + 1 == at

-- a note-on in the region's range: its flag tells whether the counter stood at its position, and the counter moves, at 32 bits. Of a
-- region past 256 nothing is kept
unfoldable pub seq_stepped : ℕ → ℕ → ℕ → Sequences → Sequences
seq_stepped r len at q = record {
  seq_counter = slice_set q.seq_counter r ((slice_index q.seq_counter r + 1) % 2 ^ 32);
  seq_on = slice_set q.seq_on r (seq_hit (slice_index q.seq_counter r) len at);
}

abbrev pub with_serial : ℕ → Session → Session
with_serial n s = record s { event_serial = n }

abbrev pub with_held : ℕ → Session → Session
with_held n s = record s { held = n }

-- one event more, at 64 bits
abbrev pub serial_up : Session → Session
serial_up s = with_serial ((s.event_serial + 1) % 2 ^ 64) s

-- one held gate more, at 32 bits
abbrev pub held_up : Session → Session
held_up s = with_held ((s.held + 1) % 2 ^ 32) s

-- one held gate less, never below 0
abbrev pub held_down : Session → Session
held_down s = with_held (s.held - 1) s

-- ---- the end of a voice's notes, and of the voice

-- its records leave the list, and its gate, where it was held, is held no more
unfoldable pub ended_voice : ℕ → Bool → Session → Session
ended_voice v gate s = cond gate (held_down (relist (without_voice v (view s)) s)) (relist (without_voice v (view s)) s)

-- the same, and its place is free for a new voice
unfoldable pub closed_voice : ℕ → Bool → Session → Session
closed_voice v gate s = with_voices (freed v s.voices) (ended_voice v gate s)

-- ---- the fresh session

abbrev pub no_record : PlayerRecord
no_record = record {
  voice = 0;
  slot = 0;
  region = 0;
  group = pos 0;
  off_by = None;
  note = 0;
  vel = 0;
  on_note = false;
  start = 0;
  offed = false;
  off_at = None;
}

-- no record, no live voice, the first id 1, every counter 0 and every flag down
unfoldable pub fresh_session : Session
fresh_session = record {
  players = replicate 512 no_record;
  count = 0;
  seq = record { seq_counter = replicate 256 0; seq_on = replicate 256 false };
  voices = record { ids = replicate 16 0; count = 0; next_voice = 1 };
  event_serial = 0;
  held = 0;
}
