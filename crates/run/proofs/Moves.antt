-- A call on a voice as a chain of moves of three kinds: a region's start, finished players that leave, and changes that keep number,
-- order and identity of records and players. What holds of a whole run is shown once for each kind. Assumes nothing.
use Rattle.std.specs.Prelude.{filter}
use Prim.Native.Nat.{ℕ, ◌+◌, ◌≤◌, ◌<◌, ◌^◌, ◌%◌, min}
use mathlib.Core.Path.{◌≡◌}
use mathlib.Core.Bool.{true, not}
use mathlib.Core.List.{List, [], ◌∷◌, ◌++◌}
use lib.ListN.{length}
use Rattle.session.specs.Records.{of_voice}
use Rattle.session.specs.Rules.{slots_of}
use Rattle.session.specs.State.{view}
use Rattle.session.specs.Changes.{Along, unmarked}
use Rattle.session.specs.declared.PlayerRecord.{PlayerRecord}
use Rattle.note.specs.declared.NoteState.{NoteState}
use Rattle.players.specs.Seats.{sounding, slot_numbers}
use Rattle.gates.specs.Off.{reaped_both}
use Rattle.events.specs.Start.{start_in, started_region}
use Rattle.events.specs.Voice.{Kit}
use Rattle.events.specs.declared.Both.{Both}
use Rattle.events.specs.declared.Cause.{Cause}
use Rattle.run.specs.Starts.{Started, started_on}
use Rattle.run.specs.Run.{Rising}

-- the places of list and players are as their types say, and no more are in use than there are
pub record Shape (id : ℕ) (b : Both) : Type 0 where
  pub voice : b.voice.voice ≡ id
  pub list : b.session.count ≤ 512
  pub places : length b.session.players ≡ 512
  pub few : b.voice.players.count ≤ 32
  pub seats : length b.voice.players.players ≡ 32

-- a record as it was; or one of the voice's own with another mark or time, a mark that was set staying
pub data Own (id : ℕ) : PlayerRecord → PlayerRecord → Type 0 where
  same : {r : PlayerRecord} → Own id r r
  own : {r q : PlayerRecord} → r.voice ≡ id → unmarked q ≡ unmarked r → (r.offed ≡ true → q.offed ≡ true) → Own id r q

-- number, order and identity of records and players stay
pub record Keeps (id : ℕ) (b c : Both) : Type 0 where
  pub shape : Shape id c
  pub voices : c.session.voices ≡ b.session.voices
  pub list : Along (Own id) (view b.session) (view c.session)
  pub slots : slot_numbers (sounding c.voice.players) ≡ slot_numbers (sounding b.voice.players)
  pub next : c.voice.next_slot ≡ b.voice.next_slot
  pub dropped : c.voice.dropped ≡ b.voice.dropped

pub data Move (id : ℕ) : Both → List Started → Both → Type 0 where
  starts : (k : Kit) (n : NoteState) (c : Cause) (i : ℕ) (b : Both) → Move id b (started_on (start_in k n c b.voice i) b ∷ []) (started_region k n c b i)
  reaps : (b : Both) → Move id b [] (reaped_both b)
  keeps : {b c : Both} → Keeps id b c → Move id b [] c

pub data Moves (id : ℕ) : Both → List Started → Both → Type 0 where
  done : {b : Both} → Moves id b [] b
  next : {b c d : Both} {xs ys : List Started} → Move id b xs c → Moves id c ys d → Moves id b (xs ++ ys) d

-- a list with some elements left out
pub data Sub : List ℕ → List ℕ → Type 0 where
  end : Sub [] []
  both : {k : ℕ} {ks js : List ℕ} → Sub ks js → Sub (k ∷ ks) (k ∷ js)
  more : {k : ℕ} {ks js : List ℕ} → Sub ks js → Sub ks (k ∷ js)

-- A voice that since its making has started so many players, and dropped so many starts, while a call on it is under way
pub record Kept (id starts drops : ℕ) (b : Both) : Type 0 where
  pub shape : Shape id b
  pub next : b.voice.next_slot ≡ starts % 2 ^ 32
  pub dropped : b.voice.dropped ≡ min drops 4294967295
  pub under : Sub (slots_of id (view b.session)) (slot_numbers (sounding b.voice.players))
  pub mirror : starts < 2 ^ 32 → (slots_of id (view b.session) ≡ slot_numbers (sounding b.voice.players)) × Rising starts (slot_numbers (sounding b.voice.players))
  -- the records of the other voices
  pub room : length (filter (λ r. not (of_voice id r)) (view b.session)) ≤ 480
