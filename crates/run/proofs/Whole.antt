-- The claim over a whole run: of every run of the port from a fresh session, at its end and at each call on the way. Assumes nothing.
use Rattle.std.specs.Prelude.{Ok, Err, cond, Some, None}
use Prim.Native.Nat.{ℕ, ◌+◌, ◌≤◌, ◌<◌, ◌^◌}
use mathlib.Core.Path.{◌≡◌, refl, sym, ap, ◌∙◌, subst}
use mathlib.Core.Bool.{Bool, true, false, not}
use mathlib.Core.List.{List, [], ◌∷◌, map, foldl}
use native.Mathlib.Omega.{arith}
use lib.ListN.{length}
use lib.Ieee.{Float}
use Rattle.program.specs.declared.bind.BoundProgram.{BoundProgram}
use Rattle.session.specs.Records.{of_voice}
use Rattle.session.specs.Rules.{without_voice}
use Rattle.session.specs.State.{view, opened, closed_voice, with_voices, placed, has_place}
use Rattle.session.specs.declared.Opened.{Opened}
use Rattle.session.specs.declared.PlayerRecord.{PlayerRecord}
use Rattle.session.specs.declared.Session.{Session}
use Rattle.players.specs.Seats.{sounding, slot_numbers}
use Rattle.player.specs.declared.Player.{Player}
use Rattle.block.specs.Inputs.{Lent}
use Rattle.voice.specs.Calls.{BlockLeft, Answer, if_done, make_answer, made, block_answer, block_done, blocked, end_answer, was_reset, was_closed}
use Rattle.voice.specs.declared.Called.{Called}
use Rattle.voice.specs.declared.Closed.{Closed}
use Rattle.run.specs.Run.{Call, opening, make, block, ask, reset, close, World, Book, fresh, put, step, note, account, starts_of, after_make, after_call, after_close, Ran, over, made_by, blocked_by, asked_by, reset_by, closed_by, Holds, Mirrors, is_live, live_players, Rising, records_of, Follows, In, Since, old, voice_of, Between, AllAlong, Claimed, players_in}
use Rattle.run.specs.Starts.{Started, starts_of_block}
use Rattle.run.proofs.Preserved as preserved
use Rattle.run.proofs.Steady.{Steady, few-sounding, kept-now, none_of}
use Rattle.run.proofs.Told.{block-live}
use Rattle.run.proofs.Blocks.{block-steady, block-moves}
use Rattle.run.proofs.Ends.{reset-steady, close-steady, ended_on, view-ended, others-ended}
use Rattle.run.proofs.Makes.{make-steady, fresh-steady}
use Rattle.run.proofs.Sums.{put-here}
use Rattle.run.proofs.Lives.{follows-once, in-fewer, since-moves}

-- ---- the definitions' run

note-steady : (b : Book) → Steady b → (c : Call) → Steady (note b c)
note-steady b h (make rate p) = make-steady b h rate p
note-steady b h (block id l) = block-steady b h id l
note-steady b h (ask id k) = h
note-steady b h (reset id) = reset-steady b h id
note-steady b h (close id) = close-steady b h id

notes-steady : (b : Book) → Steady b → (xs : List Call) → Steady (foldl note b xs)
notes-steady b h [] = h
notes-steady b h (c ∷ xs) = notes-steady (note b c) (note-steady b h c) xs

pub account-steady : (xs : List Call) → Steady (account xs)
unfolding account
account-steady xs = notes-steady opening fresh-steady xs

-- ---- the port's run is the definitions' run

-- the bookkeeping's world is the definitions' run
note-world : (b : Book) (c : Call) → (note b c).world ≡ step b.world c
note-world b (make rate p) = refl
note-world b (block id l) = refl
note-world b (ask id k) = refl
note-world b (reset id) = refl
note-world b (close id) = refl

notes-world : (b : Book) (xs : List Call) → (foldl note b xs).world ≡ foldl step b.world xs
notes-world b [] = refl
notes-world b (c ∷ xs) = notes-world (note b c) xs ∙ ap (λ w. foldl step w xs) (note-world b c)

ran-steps : {w end : World} {xs : List Call} → Ran w xs end → end ≡ foldl step w xs
ran-steps over = refl
ran-steps (made_by {w = w} {cs = xs} rate p r e rest) = ran-steps rest ∙ ap (λ (x : Called). foldl step (after_make w x) xs) e.0
ran-steps (blocked_by {w = w} {cs = xs} id l r left right e rest) =
    ran-steps rest ∙ ap (λ (x : BlockLeft). foldl step (after_call w id x.called) xs) e.0
ran-steps (asked_by id k r e rest) = ran-steps rest
ran-steps (reset_by {w = w} {cs = xs} id r e rest) = ran-steps rest ∙ ap (λ (x : Called). foldl step (after_call w id x) xs) e.0
ran-steps (closed_by {w = w} {cs = xs} id r e rest) = ran-steps rest ∙ ap (λ (x : Closed). foldl step (after_close w x) xs) e.0

pub port-is : (xs : List Call) (w : World) → Ran fresh xs w → w ≡ (account xs).world
unfolding account
port-is xs w r = ran-steps r ∙ sym (notes-world opening xs)

-- ---- at the end of the calls

module _ (b : Book) (h : Steady b) where
  live-players : (id : ℕ) → is_live b id ≡ true → live_players b id ≡ sounding (b.world.voices id).players
  unfolding live_players
  live-players id e = ap (λ t. cond t (sounding (b.world.voices id).players) []) e

  no-players : (id : ℕ) → is_live b id ≡ false → live_players b id ≡ []
  unfolding live_players
  no-players id e = ap (λ t. cond t (sounding (b.world.voices id).players) []) e

  mirrors : (id : ℕ) → b.starts id < 2 ^ 32 → Mirrors b b.world id
  mirrors id n = by-case (is_live b id) refl where
    by-case : (t : Bool) → is_live b id ≡ t → Mirrors b b.world id
    by-case true e =
        let v = h.each id e in
        let p = live-players id e in
        record {
          slots = (v.mirror n).0 ∙ ap slot_numbers (sym p);
          few = subst (λ (ks : List Player). length ks ≤ 32) (sym p) (few-sounding v);
          apart = subst (λ (ks : List Player). Rising (b.starts id) (slot_numbers ks)) (sym p) (v.mirror n).1;
        }
    by-case false e =
        let p = no-players id e in
        record {
          slots = ap (map (λ (r : PlayerRecord). r.slot)) (none_of b h id e) ∙ ap slot_numbers (sym p);
          few = subst (λ (ks : List Player). length ks ≤ 32) (sym p) (omega arith);
          apart = subst (λ (ks : List Player). Rising (b.starts id) (slot_numbers ks)) (sym p) _;
        }

  steady-holds : Holds b.world b
  steady-holds = record {
    records = mirrors;
    players = λ id e. sym (live-players id e);
    dropped = λ id e. (h.each id e).dropped;
    held = h.held;
  }

-- of every run of the port from a fresh session
pub claim : (xs : List Call) (w : World) → Ran fresh xs w → Holds w (account xs)
claim xs w r = subst (λ (u : World). Holds u (account xs)) (sym (port-is xs w r)) (steady-holds (account xs) (account-steady xs))

-- ---- all along

abbrev records : ℕ → Session → List PlayerRecord
records id s = records_of id (view s)

unchanged : {n : ℕ} {rs : List PlayerRecord} {q : PlayerRecord} → In q rs → Since n rs q
unchanged i = old i refl (λ e. e)

-- a call that starts nothing, and leaves the records of every other voice and of its own some
no-starts : (b : Book) (c : Call) (t : World) → starts_of b.world c ≡ []
    → ((id : ℕ) → (id ≡ voice_of c → ⊥) → records id t.session ≡ records id b.world.session)
    → ((id : ℕ) (q : PlayerRecord) → In q (records id t.session) → In q (records id b.world.session)) → Between b b.world c t
no-starts b c t e f g = record {
  others = λ id n. subst (λ xs. Follows id xs (records id b.world.session) (records id t.session)) (sym e) (f id n);
  marked_once = λ id n. follows-once id [] (records id b.world.session) (records id t.session) (f id n);
  stays_marked = λ id n q i. unchanged (g id q i);
}

-- the same, and leaves the list
list_same : (b : Book) (c : Call) (t : World) → starts_of b.world c ≡ [] → view t.session ≡ view b.world.session → Between b b.world c t
list_same b c t e f =
    no-starts b c t e (λ id n. ap (records_of id) f) (λ id q i. subst (λ rs. In q (records_of id rs)) f i)

module _ (b : Book) (h : Steady b) (id : ℕ) where
  -- a voice's records leave
  fewer-ended : (j : ℕ) (q : PlayerRecord) → In q (records j (ended_on b id)) → In q (records j b.world.session)
  unfolding without_voice
  fewer-ended j q i =
      in-fewer (λ r. not (of_voice id r)) j (view b.world.session) q (subst (λ rs. In q (records_of j rs)) (view-ended b h id) i)

  others-after : (a : Answer) (j : ℕ) → (j ≡ id → ⊥) → records j (if_done a (ended_on b id) b.world.session) ≡ records j b.world.session
  others-after (Ok x) j n = others-ended b h id j n
  others-after (Err r) j n = refl

  fewer-after : (a : Answer) (j : ℕ) (q : PlayerRecord) → In q (records j (if_done a (ended_on b id) b.world.session)) → In q (records j b.world.session)
  fewer-after (Ok x) j q i = fewer-ended j q i
  fewer-after (Err r) j q i = i

  between-reset : Between b b.world (reset id) (step b.world (reset id))
  unfolding was_reset starts_of
  between-reset =
      let a = end_answer b.world.session (b.world.voices id) in
      no-starts b (reset id) (step b.world (reset id)) refl (others-after a) (fewer-after a)

  -- a free place changes no record
  view-closed : (a : Answer)
      → view (if_done a (closed_voice (b.world.voices id).voice (b.world.voices id).gate_held b.world.session) b.world.session)
      ≡ view (if_done a (ended_on b id) b.world.session)
  unfolding closed_voice
  view-closed (Ok x) = refl
  view-closed (Err r) = refl

  between-close : Between b b.world (close id) (step b.world (close id))
  unfolding was_closed starts_of
  between-close =
      let a = end_answer b.world.session (b.world.voices id) in
      no-starts b (close id) (step b.world (close id)) refl (λ j n. ap (records_of j) (view-closed a) ∙ others-after a j n)
      (λ j q i. fewer-after a j q (subst (λ rs. In q (records_of j rs)) (view-closed a) i))

-- a new voice's place changes no record
view-opened : (s : Session) → view (opened s).session ≡ view s
unfolding opened
view-opened s = by-case (has_place s.voices) where
  by-case : (t : Bool) → view (cond {A = Opened} t (record { session = with_voices (placed s.voices) s; id = Some s.voices.next_voice }) (record { session = s; id = None })).session ≡ view s
  by-case true = refl
  by-case false = refl

view_made : (s : Session) (a : Answer) → view (if_done a (opened s).session s) ≡ view s
view_made s (Ok x) = view-opened s
view_made s (Err r) = refl

between-make : (b : Book) (rate : Float) (p : BoundProgram) → Between b b.world (make rate p) (step b.world (make rate p))
unfolding made starts_of
between-make b rate p =
    list_same b (make rate p) (step b.world (make rate p)) refl (view_made b.world.session (make_answer rate b.world.session))

module _ (b : Book) (h : Steady b) where
  module _ (id : ℕ) (l : Lent) where
    abbrev played : List Started
    played = starts_of_block l b.world.session (b.world.voices id)

    -- the session after a block with this answer
    abbrev block_session : Answer → Session
    block_session a =
        let s = b.world.session in
        let v = b.world.voices id in
        (if_done {A = BlockLeft} a (block_done l s v) (record { called = record { answer = a; session = s; voice = v }; left = l.left; right = l.right })).called.session

    block-others : (a : Answer) → block_answer l b.world.session (b.world.voices id) ≡ a → (j : ℕ) → (j ≡ id → ⊥)
        → Follows j (if_done a played []) (records j b.world.session) (records j (block_session a))
    unfolding block_done
    block-others (Ok x) e j n = preserved.others (block-moves b h id l e) (kept-now b h id (block-live b h id l e)) j n
    block-others (Err r) e j n = refl

    block-stays : (a : Answer) → block_answer l b.world.session (b.world.voices id) ≡ a → (j : ℕ)
        → put id (b.starts id + players_in (if_done a played [])) b.starts j < 2 ^ 32
        → (q : PlayerRecord) → In q (records j (block_session a)) → Since (b.starts j) (records j b.world.session) q
    unfolding block_done
    block-stays (Ok x) e j n q i =
        since-moves (block-moves b h id l e) (kept-now b h id (block-live b h id l e)) j (b.starts j) (ap b.starts)
        (λ (p : j ≡ id). subst (λ k. k < 2 ^ 32) (put-here id (b.starts id + players_in played) b.starts j p) n) q i
    block-stays (Err r) e j n q i = unchanged i

    between-block : Between b b.world (block id l) (step b.world (block id l))
    unfolding blocked starts_of
    between-block =
        let a = block_answer l b.world.session (b.world.voices id) in
        record {
          others = block-others a refl;
          marked_once = λ j n. follows-once j (if_done a played []) (records j b.world.session) (records j (block_session a)) (block-others a refl j n);
          stays_marked = block-stays a refl;
        }

  between : (c : Call) → Between b b.world c (step b.world c)
  unfolding starts_of
  between (make rate p) = between-make b rate p
  between (block id l) = between-block id l
  between (ask id k) = list_same b (ask id k) b.world refl refl
  between (reset id) = between-reset b h id
  between (close id) = between-close b h id

  between-at : (c : Call) (w t : World) → w ≡ b.world → t ≡ step w c → Between b w c t
  between-at c w t e f =
      subst (λ (u : World). Between b w c u) (sym f) (subst (λ (u : World). Between b u c (step u c)) (sym e) (between c))

-- one more call, wherever the run stands
pub all_along : (xs : List Call) (c : Call) (w end : World) → Ran fresh xs w → Ran w (c ∷ []) end → Between (account xs) w c end
all_along xs c w end r one = between-at (account xs) (account-steady xs) c w end (port-is xs w r) (ran-steps one)

-- the book's world after a call of the port
note-after : (b : Book) (c : Call) (w t : World) → w ≡ b.world → t ≡ step w c → t ≡ (note b c).world
note-after b c w t e f = f ∙ ap (λ u. step u c) e ∙ sym (note-world b c)

along-run : (b : Book) → Steady b → {w end : World} {xs : List Call} (r : Ran w xs end) → w ≡ b.world → AllAlong b r
along-run b h over q = _
along-run b h (made_by {w = w} rate p r e rest) q =
    let c = make rate p in
    let f : after_make w r ≡ step w c = ap (after_make w) e.0 in
    (between-at b h c w (after_make w r) q f, along-run (note b c) (note-steady b h c) rest (note-after b c w (after_make w r) q f))
along-run b h (blocked_by {w = w} id l r left right e rest) q =
    let c = block id l in
    let f : after_call w id r ≡ step w c = ap (λ (x : BlockLeft). after_call w id x.called) e.0 in
    (between-at b h c w (after_call w id r) q f, along-run (note b c) (note-steady b h c) rest (note-after b c w (after_call w id r) q f))
along-run b h (asked_by {w = w} id k r e rest) q = (between-at b h (ask id k) w w q refl, along-run b h rest q)
along-run b h (reset_by {w = w} id r e rest) q =
    let c = reset id in
    let f : after_call w id r ≡ step w c = ap (after_call w id) e.0 in
    (between-at b h c w (after_call w id r) q f, along-run (note b c) (note-steady b h c) rest (note-after b c w (after_call w id r) q f))
along-run b h (closed_by {w = w} id r e rest) q =
    let c = close id in
    let f : after_close w r ≡ step w c = ap (after_close w) e.0 in
    (between-at b h c w (after_close w r) q f, along-run (note b c) (note-steady b h c) rest (note-after b c w (after_close w r) q f))

-- for every list of calls, and every run of the port over it from a fresh session
pub whole_run : (xs : List Call) (end : World) (r : Ran fresh xs end) → Claimed r
whole_run xs end r = record { at_end = claim xs end r; all_along = along-run opening fresh-steady r refl }
