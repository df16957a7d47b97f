-- Chains of moves one after the other, and the shape of a voice and its session, which every move keeps. Assumes nothing.
use Rattle.std.specs.List.{list_any}
use Rattle.std.specs.Prelude.{cond, filter}
use Prim.Native.Nat.{ℕ, ◌≤◌}
use mathlib.Core.Path.{◌≡◌, refl, ◌∙◌}
use mathlib.Core.Bool.{Bool, true, false, not}
use mathlib.Core.List.{List, [], ◌∷◌, ◌++◌, append_assoc}
use native.Mathlib.Omega.{arith}
use lib.ListN.{length, length-append, length-set}
use lib.Dec.{ltb, leb}
use borrow.Author.Tests.{leb-false, ltb-true}
use Rattle.session.specs.Records.{in_slots}
use Rattle.session.specs.Rules.{start_marks, enter, without_slots}
use Rattle.session.specs.State.{view, relist, slot_list}
use Rattle.session.specs.declared.PlayerRecord.{PlayerRecord}
use Rattle.session.specs.declared.Session.{Session}
use Rattle.session.specs.declared.Start.{Start}
use Rattle.session.proofs.Laws.{along-length, marks-along}
use Rattle.session.proofs.Relist.{packed-size, view-few, relist-size}
use Rattle.note.specs.declared.NoteState.{NoteState}
use Rattle.player.specs.declared.Player.{Player}
use Rattle.players.specs.Seats.{sounding, is_over, reaped}
use Rattle.players.proofs.Kept.{keep-few, sounding-few}
use Rattle.gates.specs.Off.{reaped_both, without_players}
use Rattle.events.specs.Start.{start_in, marked_by, entered_by, joined_by, player_of, dropped_one, started_region}
use Rattle.events.specs.Voice.{Kit, with_players}
use Rattle.events.specs.declared.Both.{Both}
use Rattle.events.specs.declared.Cause.{Cause}
use Rattle.run.specs.Starts.{Started}
use Rattle.run.proofs.Moves.{Shape, Move, starts, reaps, keeps, Moves, done, next}

-- one chain after another
pub chain : {id : ℕ} {b c d : Both} {xs ys : List Started} → Moves id b xs c → Moves id c ys d → Moves id b (xs ++ ys) d
chain done m = m
chain (next {xs = xs} {ys = ys} m rest) n = rw append_assoc (next m (chain rest n))

-- ---- the list's places

-- the list has its places, and no more are in use
pub record Listed (s : Session) : Type 0 where
  pub list : s.count ≤ 512
  pub places : length s.players ≡ 512

pub relisted : (s : Session) (ks : List PlayerRecord) → length s.players ≡ 512 → length ks ≤ 512 → Listed (relist ks s)
relisted s ks size h = record { list = h; places = relist-size s size ks h }

enter-few : (r : PlayerRecord) (rs : List PlayerRecord) → length rs ≤ 512 → length (enter r rs) ≤ 512
unfolding enter
enter-few r rs h = by-case (ltb (length rs) 512) refl where
  by-case : (t : Bool) → ltb (length rs) 512 ≡ t → length (cond t (rs ++ (r ∷ [])) rs) ≤ 512
  by-case true e = omega (arith, length-append rs (r ∷ []), ltb-true (length rs) 512 e)
  by-case false e = h

marked-listed : (st : Start) (s : Session) → length s.players ≡ 512 → Listed (marked_by st s)
unfolding marked_by
marked-listed st s size = relisted s (start_marks st (view s)) size (omega (arith, along-length (marks-along st (view s)), view-few s))

entered-listed : (st : Start) (slot : ℕ) (s : Session) → length s.players ≡ 512 → Listed (entered_by st slot s)
unfolding entered_by
entered-listed st slot s size = relisted s (enter _ (view s)) size (enter-few _ (view s) (view-few s))

-- ---- each move keeps the shape

module _ (id : ℕ) (b : Both) (h : Shape id b) where
  pub shape-started : (k : Kit) (n : NoteState) (c : Cause) (i : ℕ) → Shape id (started_region k n c b i)
  unfolding started_region joined_by
  shape-started k n c i = by-case (leb 32 b.voice.players.count) refl where
    st : Start
    st = start_in k n c b.voice i

    marked : Listed (marked_by st b.session)
    marked = marked-listed st b.session h.places

    by-case : (t : Bool) → leb 32 b.voice.players.count ≡ t
        → Shape id (cond t (record { session = marked_by st b.session; voice = dropped_one b.voice })
        (record { session = entered_by st b.voice.next_slot (marked_by st b.session); voice = joined_by (player_of k n c b.voice i) b.voice }))
    by-case true e = record { voice = h.voice; list = marked.list; places = marked.places; few = h.few; seats = h.seats }
    by-case false e =
        let more = entered-listed st b.voice.next_slot (marked_by st b.session) marked.places in
        record {
          voice = h.voice;
          list = more.list;
          places = more.places;
          few = omega (arith, leb-false 32 b.voice.players.count e);
          seats = length-set b.voice.players.players _ _ ∙ h.seats;
        }

  gone-listed : Listed (without_players b.voice.voice (reaped b.voice.players) b.session)
  unfolding without_slots
  gone-listed =
      relisted b.session (without_slots b.voice.voice (slot_list (reaped b.voice.players).gone) (view b.session)) h.places
      (omega (arith, keep-few (λ (r : PlayerRecord). not (in_slots b.voice.voice (slot_list (reaped b.voice.players).gone) r)) (view b.session), view-few b.session))

  stay-few : length (filter (λ (p : Player). not (is_over p)) (sounding b.voice.players)) ≤ 32
  stay-few = omega (arith, keep-few (λ (p : Player). not (is_over p)) (sounding b.voice.players), sounding-few b.voice.players)

  reaped-few : (reaped b.voice.players).players.count ≤ 32
  unfolding reaped
  reaped-few = stay-few

  reaped-seats : length (reaped b.voice.players).players.players ≡ 32
  unfolding reaped
  reaped-seats =
      packed-size (filter (λ (p : Player). not (is_over p)) (sounding b.voice.players)) b.voice.players.players (omega (arith, stay-few, h.seats)) ∙ h.seats

  pub shape-reaped : Shape id (reaped_both b)
  unfolding reaped_both
  shape-reaped = by-case (list_any is_over (sounding b.voice.players)) where
    by-case : (t : Bool)
        → Shape id (cond t (record { session = without_players b.voice.voice (reaped b.voice.players) b.session; voice = with_players (reaped b.voice.players).players b.voice }) b)
    by-case true = record { voice = h.voice; list = gone-listed.list; places = gone-listed.places; few = reaped-few; seats = reaped-seats }
    by-case false = h

pub shape-moved : {id : ℕ} {b c : Both} {xs : List Started} → Move id b xs c → Shape id b → Shape id c
shape-moved (starts k n c i b) h = shape-started _ b h k n c i
shape-moved (reaps b) h = shape-reaped _ b h
shape-moved (keeps k) h = k.shape

pub shape-after : {id : ℕ} {b c : Both} {xs : List Started} → Moves id b xs c → Shape id b → Shape id c
shape-after done h = h
shape-after (next m rest) h = shape-after rest (shape-moved m h)
