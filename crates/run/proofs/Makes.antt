-- Making a voice leaves the book steady, and so does the start of a run. Assumes nothing.
use Rattle.std.specs.Prelude.{Ok, Err, cond, Some, None}
use Prim.Native.Nat.{ℕ, ◌+◌, ◌≤◌, ◌^◌}
use mathlib.Core.Path.{◌≡◌, refl, sym, ap, ◌∙◌, subst}
use mathlib.Core.Bool.{true, false, ◌&&◌}
use mathlib.Core.Logic.{⊎_elim}
use mathlib.Core.List.{[], ◌∷◌, ◌++◌, map}
use native.Mathlib.Omega.{arith}
use lib.Dec.{ltb, leb}
use lib.Ieee.{Float}
use borrow.Author.Tests.{leb-false, lt-ltb}
use Rattle.program.specs.declared.bind.BoundProgram.{BoundProgram}
use Rattle.session.specs.Lists.{elem}
use Rattle.session.specs.Rules.{slots_of}
use Rattle.session.specs.State.{view, opened, has_place, placed, with_voices, fresh_session}
use Rattle.session.specs.declared.Opened.{Opened}
use Rattle.session.specs.declared.PlayerRecord.{PlayerRecord}
use Rattle.session.specs.declared.Session.{Session}
use Rattle.session.proofs.Voices.{live-placed, next-placed}
use Rattle.players.specs.Seats.{no_players}
use Rattle.events.specs.declared.SampleVoice.{SampleVoice}
use Rattle.voice.specs.Calls.{Answer, done, if_done, make_answer, made, fresh_voice}
use Rattle.causes.specs.Tests.{rate_fits, no_place, id_left}
use Rattle.run.specs.Run.{make, Book, opening, put, note, ids_in, is_live, gates_held, one, sum_over}
use Rattle.run.proofs.Moves.{end}
use Rattle.run.proofs.Steady.{Steady, Voiced, none_of}
use Rattle.run.proofs.Sums.{clash, same?, put-here, put-away, none, distinct_snoc, elem-snoc, sum-absent, sum-snoc, strays-snoc}
use Rattle.run.proofs.Told.{make-tests}

-- ---- a new voice

-- the book after making with this answer
abbrev pub make_noted : Book → Float → BoundProgram → Answer → Book
make_noted b rate p a =
    let s = b.world.session in
    let id = s.voices.next_voice in
    record {
      world = record {
        session = if_done a (opened s).session s;
        voices = if_done a (put (if_done a id 0) (fresh_voice (if_done a id 0) rate p) b.world.voices) b.world.voices;
      };
      starts = if_done a (put id 0 b.starts) b.starts;
      drops = if_done a (put id 0 b.drops) b.drops;
      gate = if_done a (put id false b.gate) b.gate;
    }

-- a voice that is made finds a place
has-place : (rate : Float) (s : Session) → make_answer rate s ≡ done → has_place s.voices ≡ true
unfolding make_answer
has-place rate s e =
    let t = make-tests (rate_fits rate) (no_place s) (id_left s) e in
    let n : ltb s.voices.count 16 ≡ true = lt-ltb s.voices.count 16 (leb-false 16 s.voices.count t.0) in
    ap (λ x. x && leb s.voices.next_voice (2 ^ 63)) n ∙ t.1

opened-place : (s : Session) → has_place s.voices ≡ true → (opened s).session ≡ with_voices (placed s.voices) s
unfolding opened
opened-place s e =
    ap (λ t. (cond {A = Opened} t (record { session = with_voices (placed s.voices) s; id = Some s.voices.next_voice }) (record { session = s; id = None })).session) e

new-voice : (id : ℕ) (rate : Float) (p : BoundProgram) → Voiced 0 0 false [] (fresh_voice id rate p)
unfolding no_players
new-voice id rate p = record {
  few = omega arith;
  seats = refl;
  next = refl;
  dropped = refl;
  under = end;
  mirror = λ n. (refl, _);
  down = refl;
  prev = refl;
}

module _ (b : Book) (h : Steady b) (rate : Float) (p : BoundProgram) (e : has_place b.world.session.voices ≡ true) where
  abbrev next : ℕ
  next = b.world.session.voices.next_voice

  -- the session with the new voice's place
  abbrev taken : Book
  taken = record {
    world = record { session = with_voices (placed b.world.session.voices) b.world.session; voices = put next (fresh_voice next rate p) b.world.voices };
    starts = put next 0 b.starts;
    drops = put next 0 b.drops;
    gate = put next false b.gate;
  }

  absent : is_live b next ≡ false
  absent = h.below next (omega arith)

  taken-ids : ids_in taken.world ≡ ids_in b.world ++ (next ∷ [])
  taken-ids = live-placed b.world.session.voices e

  taken-each : (i : ℕ) → elem i (ids_in b.world ++ (next ∷ [])) ≡ true
      → Voiced (put next 0 b.starts i) (put next 0 b.drops i) (put next false b.gate i) (slots_of i (view b.world.session)) (put next (fresh_voice next rate p) b.world.voices i)
  taken-each i l = ⊎_elim
      (λ (q : i ≡ next). rw (put-here next 0 b.starts i q, put-here next 0 b.drops i q, put-here next false b.gate i q, put-here next (fresh_voice next rate p) b.world.voices i q)
      (subst (λ ks. Voiced 0 0 false ks (fresh_voice next rate p))
      (sym (ap (map (λ (r : PlayerRecord). r.slot)) (none_of b h i (ap (λ k. elem k (ids_in b.world)) q ∙ absent)))) (new-voice next rate p)))
      (λ n. rw (put-away next 0 b.starts i n, put-away next 0 b.drops i n, put-away next false b.gate i n, put-away next (fresh_voice next rate p) b.world.voices i n)
      (h.each i (sym (elem-snoc i (ids_in b.world) next (λ q. n (sym q))) ∙ l))) (same? i next)

  taken-held : b.world.session.held ≡ sum_over (λ i. one (put next false b.gate i)) (ids_in b.world ++ (next ∷ []))
  unfolding gates_held
  taken-held =
      let q : sum_over (λ i. one (put next false b.gate i)) (ids_in b.world) ≡ sum_over (λ i. one (b.gate i)) (ids_in b.world)
      = sum-absent (λ i. one (b.gate i)) (λ i. one (put next false b.gate i)) next (λ i n. ap one (put-away next false b.gate i n)) (ids_in b.world) absent in
      let r : one (put next false b.gate next) ≡ 0 = ap one (put-here next false b.gate next refl) in
      omega (arith, h.held, sum-snoc (λ i. one (put next false b.gate i)) (ids_in b.world) next)

  taken-steady : Steady taken
  unfolding gates_held
  taken-steady = record {
    places = h.places;
    few = h.few;
    apart = rw taken-ids (distinct_snoc (ids_in b.world) next h.apart absent);
    below = λ i n.
        let m : next + 1 ≤ i = subst (λ k. k ≤ i) (next-placed b.world.session.voices) n in
        rw taken-ids (elem-snoc i (ids_in b.world) next (λ q. omega (arith, m, q)) ∙ h.below i (omega arith));
    known = rw taken-ids (strays-snoc (ids_in b.world) next (view b.world.session) h.known);
    named = λ i. ⊎_elim (λ (q : i ≡ next). ap (λ (y : SampleVoice). y.voice) (put-here next (fresh_voice next rate p) b.world.voices i q) ∙ sym q)
        (λ n. ap (λ (y : SampleVoice). y.voice) (put-away next (fresh_voice next rate p) b.world.voices i n) ∙ h.named i) (same? i next);
    each = λ i l. taken-each i (subst (λ is. elem i is ≡ true) taken-ids l);
    held = taken-held ∙ ap (sum_over (λ i. one (put next false b.gate i))) (sym taken-ids);
  }

module _ (b : Book) (h : Steady b) (rate : Float) (p : BoundProgram) where
  make-noted : (a : Answer) → make_answer rate b.world.session ≡ a → Steady (make_noted b rate p a)
  make-noted (Ok x) e =
      let k = has-place rate b.world.session e in
      rw (opened-place b.world.session k) (taken-steady b h rate p k)
  make-noted (Err r) e = h

  pub make-steady : Steady (note b (make rate p))
  unfolding made
  make-steady = make-noted (make_answer rate b.world.session) refl

-- ---- the start of a run

pub fresh-steady : Steady opening
unfolding fresh_session gates_held
fresh-steady = record {
  places = refl;
  few = omega arith;
  apart = none;
  below = λ i n. refl;
  known = refl;
  named = λ i. refl;
  each = λ i l. clash (sym l);
  held = refl;
}
