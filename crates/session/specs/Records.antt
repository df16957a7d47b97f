-- One record of the session's list: what is asked of it, and the ways in which it changes.
use Rattle.std.specs.Prelude.{ℕ, Bool, true, false, not, ◌&&◌, ◌||◌, List, ◌==◌, nat_le, nat_lt, is_some, None, Some}
use Rattle.std.specs.Ordering.{int_eq}
use Rattle.std.specs.Option.{option_eq}
use Rattle.session.specs.declared.PlayerRecord.{PlayerRecord}
use Rattle.session.specs.declared.Start.{Start}
use Rattle.session.specs.declared.Window.{Window}
use Rattle.session.specs.Lists.{elem}

-- ---- the ways in which a record changes

-- marked: the off mark set, and the off time
abbrev pub marked : ℕ → PlayerRecord → PlayerRecord
marked at r = record r { offed = true; off_at = Some at }

-- its sample has ended: the off mark set, and no off time given
abbrev pub ended : PlayerRecord → PlayerRecord
ended r = record r { offed = true }

-- its off time has been taken by its voice
abbrev pub collected : PlayerRecord → PlayerRecord
collected r = record r { off_at = None }

-- the record of a region that starts in the slot k of its voice
abbrev pub entered : Start → ℕ → PlayerRecord
entered st k = record {
  voice = st.voice;
  slot = k;
  region = st.region;
  group = st.group;
  off_by = st.off_by;
  note = st.note;
  vel = st.vel;
  on_note = st.on_note;
  start = st.serial;
  offed = false;
  off_at = None;
}

-- ---- what is asked of a record

-- the record has both the start's group and its note
unfoldable pub shares_both : Start → PlayerRecord → Bool
shares_both st r = int_eq r.group st.group && r.note == st.note

-- an unmarked note-on record whose off_by is the start's group, save one with both its group and its note
unfoldable pub choked_by : Start → PlayerRecord → Bool
choked_by st r = not r.offed && (r.on_note && (option_eq int_eq r.off_by (Some st.group) && not (shares_both st r)))

-- an unmarked record that shares group and note with the start
unfoldable pub shares_note : Start → PlayerRecord → Bool
shares_note st r = not r.offed && shares_both st r

-- the same, and no louder than the new note
unfoldable pub may_yield : Start → PlayerRecord → Bool
may_yield st r = shares_note st r && nat_le r.vel st.vel

-- an unmarked record of the start's region
unfoldable pub of_region : Start → PlayerRecord → Bool
of_region st r = not r.offed && r.region == st.region

-- an unmarked record of this voice and this start: the sisters of one event
unfoldable pub is_sister : ℕ → ℕ → PlayerRecord → Bool
is_sister v b r = not r.offed && (r.voice == v && r.start == b)

-- the lower start
unfoldable pub older : PlayerRecord → PlayerRecord → Bool
older a b = nat_lt a.start b.start

-- the lower velocity; of two with the same, the lower start
unfoldable pub quieter : PlayerRecord → PlayerRecord → Bool
quieter a b = nat_lt a.vel b.vel || (a.vel == b.vel && older a b)

abbrev pub of_voice : ℕ → PlayerRecord → Bool
of_voice v r = r.voice == v

-- a record of the voice in one of these slots
unfoldable pub in_slots : ℕ → List ℕ → PlayerRecord → Bool
in_slots v ks r = r.voice == v && elem r.slot ks

-- a record of the voice whose off time waits
unfoldable pub waits : ℕ → PlayerRecord → Bool
waits v r = r.voice == v && is_some r.off_at

-- a note-on record, marked or not, whose note and velocity lie in the window
unfoldable pub in_window : Window → PlayerRecord → Bool
in_window w r =
    r.on_note
    && (nat_le w.lokey r.note && (nat_le r.note w.hikey && (nat_le w.lovel r.vel && nat_le r.vel w.hivel)))
