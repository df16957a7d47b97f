-- One claim over a whole run: the calls, the run of the port, the run of the definitions with its own bookkeeping, and the claim.
use Rattle.std.specs.Prelude.{ℕ, ◌+◌, ◌-◌, ◌≤◌, ◌<◌, ◌^◌, min, ◌≡◌, Bool, true, false, not, length, leb, eqb, Float, Result, cond, filter}
use mathlib.Core.List.{List, [], ◌∷◌, foldl}
use Rattle.exact.specs.Single.{f0}
use Rattle.program.specs.declared.bind.BoundProgram.{BoundProgram}
use Rattle.session.specs.Lists.{elem}
use Rattle.session.specs.Changes.{Along, unmarked}
use Rattle.session.specs.Records.{of_voice, marked}
use Rattle.session.specs.Rules.{slots_of, start_marks}
use Rattle.session.specs.State.{view, live_ids, fresh_session}
use Rattle.session.specs.declared.PlayerRecord.{PlayerRecord}
use Rattle.session.specs.declared.Session.{Session}
use Rattle.player.specs.declared.Player.{Player}
use Rattle.players.specs.Seats.{sounding, slot_numbers}
use Rattle.events.specs.declared.SampleVoice.{SampleVoice}
use Rattle.block.specs.Inputs.{Lent, gate_at}
use Rattle.voice.specs.Numbers.{make_number, block_number, ask_number, end_number}
use Rattle.voice.specs.Calls.{number_of, Program, BlockLeft, made, fresh_voice, blocked, asked, was_reset, was_closed, block_answer, make_answer, end_answer, if_done}
use Rattle.voice.specs.declared.Called.{Called}
use Rattle.voice.specs.declared.Refusal.{Refusal}
use Rattle.voice.specs.declared.Closed.{Closed}
use Rattle.run.specs.Starts.{Started, starts_of_block}

-- a call, the voice that it is on, and what it is lent
pub data Call : Type 0 where
  make : Float → BoundProgram → Call
  block : ℕ → Lent → Call
  ask : ℕ → Program → Call
  reset : ℕ → Call
  close : ℕ → Call

-- the session, and each voice as the last call on it left it
pub record World : Type 0 where
  pub session : Session
  pub voices : ℕ → SampleVoice

abbrev pub put : {A : Type 0} → ℕ → A → (ℕ → A) → ℕ → A
put k x f i = cond (eqb i k) x (f i)

abbrev pub no_program : BoundProgram
no_program = record { regions = 0; samples = 0; frames = 0 }

-- the session that `fresh_session` makes, and nobody
abbrev pub fresh : World
fresh = record { session = fresh_session; voices = λ id. fresh_voice id f0 no_program }

-- ---- a run of the port

-- a voice that was made is the caller's from then on
abbrev pub after_make : World → Called → World
after_make w r = record { session = r.session; voices = if_done r.answer (put r.voice.voice r.voice w.voices) w.voices }

abbrev pub after_call : World → ℕ → Called → World
after_call w id r = record { session = r.session; voices = put id r.voice w.voices }

abbrev pub after_close : World → Closed → World
after_close w r = record { session = r.session; voices = w.voices }

-- Each call is handed the session that the last one left and its voice as the last call on it left it, and what it gives meets its
-- function's promise; nobody else writes them.
pub data Ran : World → List Call → World → Type 0 where
  over : {w : World} → Ran w [] w
  made_by : {w end : World} {cs : List Call} (rate : Float) (b : BoundProgram) (r : Called)
      → (r ≡ made rate b w.session) × (number_of r.answer ≡ make_number rate w.session)
      → Ran (after_make w r) cs end → Ran w (make rate b ∷ cs) end
  blocked_by : {w end : World} {cs : List Call} (id : ℕ) (l : Lent) (r : Called) (left right : List Float)
      → (◌≡◌ {A = BlockLeft} (record { called = r; left = left; right = right }) (blocked l w.session (w.voices id)))
      × (number_of r.answer ≡ block_number l w.session (w.voices id))
      → Ran (after_call w id r) cs end → Ran w (block id l ∷ cs) end
  asked_by : {w end : World} {cs : List Call} (id : ℕ) (k : Program) (r : Result Bool Refusal)
      → (r ≡ asked k w.session (w.voices id)) × (number_of r ≡ ask_number k w.session (w.voices id))
      → Ran w cs end → Ran w (ask id k ∷ cs) end
  reset_by : {w end : World} {cs : List Call} (id : ℕ) (r : Called)
      → (r ≡ was_reset w.session (w.voices id)) × (number_of r.answer ≡ end_number w.session (w.voices id))
      → Ran (after_call w id r) cs end → Ran w (reset id ∷ cs) end
  closed_by : {w end : World} {cs : List Call} (id : ℕ) (r : Closed)
      → (r ≡ was_closed w.session (w.voices id)) × (number_of r.answer ≡ end_number w.session (w.voices id))
      → Ran (after_close w r) cs end → Ran w (close id ∷ cs) end

-- ---- the run of the definitions, from the calls and what each is lent

abbrev pub step : World → Call → World
step w (make rate b) = after_make w (made rate b w.session)
step w (block id l) = after_call w id (blocked l w.session (w.voices id)).called
step w (ask id k) = w
step w (reset id) = after_call w id (was_reset w.session (w.voices id))
step w (close id) = after_close w (was_closed w.session (w.voices id))

-- the starts of a call; a refused one has none
unfoldable pub starts_of : World → Call → List Started
starts_of w (make rate b) = []
starts_of w (block id l) = if_done (block_answer l w.session (w.voices id)) (starts_of_block l w.session (w.voices id)) []
starts_of w (ask id k) = []
starts_of w (reset id) = []
starts_of w (close id) = []

-- a start is dropped where its own voice holds 32 live players
abbrev pub is_dropped : Started → Bool
is_dropped x = leb 32 x.live

abbrev pub drops_in : List Started → ℕ
drops_in xs = length (filter is_dropped xs)

abbrev pub players_in : List Started → ℕ
players_in xs = length (filter (λ x. not (is_dropped x)) xs)

-- The bookkeeping: the definitions' own run; for each voice since its making how many players it started and how many starts were
-- dropped; and whether its gate is held
pub record Book : Type 0 where
  pub world : World
  pub starts : ℕ → ℕ
  pub drops : ℕ → ℕ
  pub gate : ℕ → Bool

-- a gate is held from a rising edge to the falling one: at a block's end it stands as its last frame has it
abbrev pub last_gate : Lent → Bool
last_gate l = gate_at l.inputs.gate (l.time.frames - 1)

abbrev pub note : Book → Call → Book
note b (make rate p) =
    let id = b.world.session.voices.next_voice in
    let a = make_answer rate b.world.session in
    record {
      world = step b.world (make rate p);
      starts = if_done a (put id 0 b.starts) b.starts;
      drops = if_done a (put id 0 b.drops) b.drops;
      gate = if_done a (put id false b.gate) b.gate;
    }
note b (block id l) =
    let xs = starts_of b.world (block id l) in
    record {
      world = step b.world (block id l);
      starts = put id (b.starts id + players_in xs) b.starts;
      drops = put id (b.drops id + drops_in xs) b.drops;
      gate = if_done (block_answer l b.world.session (b.world.voices id)) (put id (last_gate l) b.gate) b.gate;
    }
note b (ask id k) = b
note b (reset id) =
    record {
      world = step b.world (reset id);
      starts = b.starts;
      drops = b.drops;
      gate = if_done (end_answer b.world.session (b.world.voices id)) (put id false b.gate) b.gate;
    }
note b (close id) =
    record {
      world = step b.world (close id);
      starts = b.starts;
      drops = b.drops;
      gate = if_done (end_answer b.world.session (b.world.voices id)) (put id false b.gate) b.gate;
    }

-- nothing has been called
abbrev pub opening : Book
opening = record { world = fresh; starts = λ id. 0; drops = λ id. 0; gate = λ id. false }

unfoldable pub account : List Call → Book
account cs = foldl note opening cs

-- ---- the claim

abbrev pub ids_in : World → List ℕ
ids_in w = live_ids w.session.voices

abbrev pub is_live : Book → ℕ → Bool
is_live b id = elem id (ids_in b.world)

-- the live players of a voice, in order: those of the definitions' run; a voice never made or closed has none
unfoldable pub live_players : Book → ℕ → List Player
live_players b id = cond (is_live b id) (sounding (b.world.voices id).players) []

abbrev pub one : Bool → ℕ
one true = 1
one false = 0

abbrev pub sum_over : (ℕ → ℕ) → List ℕ → ℕ
sum_over f [] = 0
sum_over f (i ∷ is) = f i + sum_over f is

-- how many live voices hold their gate
unfoldable pub gates_held : Book → ℕ
gates_held b = sum_over (λ id. one (b.gate id)) (ids_in b.world)

-- each number above the one before it, all below n
abbrev pub Rising : ℕ → List ℕ → Type 0
Rising n [] = Unit {0}
Rising n (k ∷ []) = k < n
Rising n (k ∷ j ∷ ks) = (k < j) × Rising n (j ∷ ks)

-- of a voice that started fewer than 2^32 players: its records are in the list's order exactly one for each of its live players, at most
-- 32, in their order and with their slots, of which no two are the same
pub record Mirrors (b : Book) (w : World) (id : ℕ) : Type 0 where
  pub slots : slots_of id (view w.session) ≡ slot_numbers (live_players b id)
  pub few : length (live_players b id) ≤ 32
  pub apart : Rising (b.starts id) (slot_numbers (live_players b id))

-- at the end of the calls
pub record Holds (w : World) (b : Book) : Type 0 where
  pub records : (id : ℕ) → b.starts id < 2 ^ 32 → Mirrors b w id
  pub players : (id : ℕ) → is_live b id ≡ true → sounding (w.voices id).players ≡ live_players b id
  pub dropped : (id : ℕ) → is_live b id ≡ true → (w.voices id).dropped ≡ min (b.drops id) 4294967295
  pub held : w.session.held ≡ gates_held b

-- ---- all along: what a call on one voice does to the records of another

abbrev pub records_of : ℕ → List PlayerRecord → List PlayerRecord
records_of id rs = filter (of_voice id) rs

-- The starts of a call find the voice's records one after the other as the last left them, and each leaves them as 01's choke and
-- polyphony rules mark them on the list as it then stands; nothing else changes them.
abbrev pub Follows : ℕ → List Started → List PlayerRecord → List PlayerRecord → Type 0
Follows id [] rs qs = qs ≡ rs
Follows id (x ∷ xs) rs qs = (records_of id x.list ≡ rs) × Follows id xs (records_of id (start_marks x.start x.list)) qs

-- the voice that a call is on; 0, which is no voice's id, where it makes one
abbrev pub voice_of : Call → ℕ
voice_of (make rate b) = 0
voice_of (block id l) = id
voice_of (ask id k) = id
voice_of (reset id) = id
voice_of (close id) = id

-- a record as it was; or, where it had no mark, with the mark and an off time
pub data Once : PlayerRecord → PlayerRecord → Type 0 where
  same : {r : PlayerRecord} → Once r r
  marks : {r : PlayerRecord} (at : ℕ) → r.offed ≡ false → Once r (marked at r)

-- the record stands in the list
pub data In : PlayerRecord → List PlayerRecord → Type 0 where
  here : {r : PlayerRecord} {rs : List PlayerRecord} → In r (r ∷ rs)
  there : {r q : PlayerRecord} {rs : List PlayerRecord} → In r rs → In r (q ∷ rs)

-- A record q of a voice after a call, before which the voice had started n players and its records were rs: a new one, whose slot none of
-- them has, for theirs are below n; or one of them, all but mark and off time as they were, and the mark set if it was
pub data Since (n : ℕ) (rs : List PlayerRecord) (q : PlayerRecord) : Type 0 where
  new : n ≤ q.slot → Since n rs q
  old : {r : PlayerRecord} → In r rs → unmarked q ≡ unmarked r → (r.offed ≡ true → q.offed ≡ true) → Since n rs q

-- One call, from a world to the next. A call on another voice marks exactly where a rule names the record, nothing else changes, and only
-- a record without a mark changes. No call takes a mark back in a record's life, its slot's while the voice started fewer than 2^32 players.
pub record Between (b : Book) (w : World) (c : Call) (end : World) : Type 0 where
  pub others : (id : ℕ) → (id ≡ voice_of c → ⊥) → Follows id (starts_of w c) (records_of id (view w.session)) (records_of id (view end.session))
  pub marked_once : (id : ℕ) → (id ≡ voice_of c → ⊥) → Along Once (records_of id (view w.session)) (records_of id (view end.session))
  pub stays_marked : (id : ℕ) → (note b c).starts id < 2 ^ 32 → (q : PlayerRecord) → In q (records_of id (view end.session))
      → Since (b.starts id) (records_of id (view w.session)) q

-- at each call of a run, in turn
abbrev pub AllAlong : Book → {w end : World} {cs : List Call} → Ran w cs end → Type 0
AllAlong b over = Unit {0}
AllAlong b (made_by {w = w} rate p r e rest) = Between b w (make rate p) (after_make w r) × AllAlong (note b (make rate p)) rest
AllAlong b (blocked_by {w = w} id l r left right e rest) = Between b w (block id l) (after_call w id r) × AllAlong (note b (block id l)) rest
AllAlong b (asked_by {w = w} id k r e rest) = Between b w (ask id k) w × AllAlong (note b (ask id k)) rest
AllAlong b (reset_by {w = w} id r e rest) = Between b w (reset id) (after_call w id r) × AllAlong (note b (reset id)) rest
AllAlong b (closed_by {w = w} id r e rest) = Between b w (close id) (after_close w r) × AllAlong (note b (close id)) rest

-- the claim over a whole run from a fresh session
pub record Claimed {cs : List Call} {end : World} (r : Ran fresh cs end) : Type 0 where
  pub at_end : Holds end (account cs)
  pub all_along : AllAlong opening r
