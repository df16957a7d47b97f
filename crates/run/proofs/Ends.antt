-- Reset and close leave the book steady. Assumes nothing.
use Rattle.std.specs.Prelude.{Ok, Err, filter}
use Prim.Native.Nat.{ℕ, ◌+◌, ◌≤◌}
use mathlib.Core.Path.{◌≡◌, refl, sym, ap, ◌∙◌, subst}
use mathlib.Core.Bool.{true, false}
use mathlib.Core.Logic.{⊎_elim}
use mathlib.Core.List.{[], map}
use native.Mathlib.Omega.{arith}
use Rattle.session.specs.Lists.{elem}
use Rattle.session.specs.Rules.{slots_of, without_voice}
use Rattle.session.specs.State.{view, ended_voice, closed_voice, live_ids}
use Rattle.session.specs.declared.PlayerRecord.{PlayerRecord}
use Rattle.session.specs.declared.Session.{Session}
use Rattle.session.proofs.Laws.{voice-others, voice-gone}
use Rattle.session.proofs.Voices.{others, live-freed, next-freed, ended-voices}
use Rattle.voice.specs.Calls.{Answer, done, if_done, end_answer, silenced, was_reset, was_closed}
use Rattle.run.specs.Run.{reset, close, Book, put, note, ids_in, is_live, gates_held, one, sum_over, records_of}
use Rattle.run.proofs.Moves.{end}
use Rattle.run.proofs.Steady.{Steady, Voiced, held-some}
use Rattle.run.proofs.Changes.{Left, steady-changed, ended-view, ended-places, ended-few, ended_held}
use Rattle.run.proofs.Sums.{clash, same?, put-here, put-away, put_same, distinct-keep, elem-keep-away, elem-keep-here, elem-keep-none, sum_drop, strays-without, strays-fewer}
use Rattle.run.proofs.Told.{ended-live}

abbrev pub ended_on : Book → ℕ → Session
ended_on b id = ended_voice (b.world.voices id).voice (b.world.voices id).gate_held b.world.session

-- the books after a reset and a close with this answer
abbrev pub reset_noted : Book → ℕ → Answer → Book
reset_noted b id a = record {
  world = record { session = if_done a (ended_on b id) b.world.session; voices = put id (if_done a (silenced (b.world.voices id)) (b.world.voices id)) b.world.voices };
  starts = b.starts;
  drops = b.drops;
  gate = if_done a (put id false b.gate) b.gate;
}

abbrev pub close_noted : Book → ℕ → Answer → Book
close_noted b id a = record {
  world = record {
    session = if_done a (closed_voice (b.world.voices id).voice (b.world.voices id).gate_held b.world.session) b.world.session;
    voices = b.world.voices;
  };
  starts = b.starts;
  drops = b.drops;
  gate = if_done a (put id false b.gate) b.gate;
}

module _ (b : Book) (h : Steady b) (id : ℕ) where
  -- the list without the voice's records
  pub view-ended : view (ended_on b id) ≡ without_voice id (view b.world.session)
  view-ended =
      ended-view b.world.session h.places (b.world.voices id).voice (b.world.voices id).gate_held
      ∙ ap (λ k. without_voice k (view b.world.session)) (h.named id)

  pub others-ended : (j : ℕ) → (j ≡ id → ⊥) → records_of j (view (ended_on b id)) ≡ records_of j (view b.world.session)
  others-ended j n = ap (records_of j) view-ended ∙ voice-others j id n (view b.world.session)

  pub own-ended : records_of id (view (ended_on b id)) ≡ []
  own-ended = ap (records_of id) view-ended ∙ voice-gone id (view b.world.session)

  module _ (live : is_live b id ≡ true) where
    silent : Voiced (b.starts id) (b.drops id) false [] (silenced (b.world.voices id))
    silent =
        let v = h.each id live in
        record {
          few = omega arith;
          seats = v.seats;
          next = v.next;
          dropped = v.dropped;
          under = end;
          mirror = λ n. (refl, _);
          down = refl;
          prev = refl;
        }

    reset-left : Left b id (ended_on b id) (silenced (b.world.voices id)) (b.starts id) (b.drops id) false
    reset-left = record {
      places = ended-places b.world.session h.places (b.world.voices id).voice (b.world.voices id).gate_held;
      few = ended-few b.world.session h.places (b.world.voices id).voice (b.world.voices id).gate_held;
      voices = ended-voices (b.world.voices id).voice (b.world.voices id).gate_held b.world.session;
      known = rw view-ended (strays-fewer id (ids_in b.world) (view b.world.session) h.known);
      name = h.named id;
      own = subst (λ ks. Voiced (b.starts id) (b.drops id) false ks (silenced (b.world.voices id))) (sym (ap (map (λ (r : PlayerRecord). r.slot)) own-ended)) silent;
      rest = λ j n. ap (map (λ (r : PlayerRecord). r.slot)) (others-ended j n);
      held = subst (λ t. (ended_on b id).held + one t ≡ b.world.session.held + one false) (h.each id live).down
          (ended_held b.world.session h.places (b.world.voices id).voice (b.world.voices id).gate_held (held-some b h id live));
    }

    pub reset-done : Steady (reset_noted b id done)
    reset-done =
        let e = put_same id (b.starts id) b.starts refl in
        let f = put_same id (b.drops id) b.drops refl in
        let k = steady-changed b h id live (ended_on b id) (silenced (b.world.voices id)) (b.starts id) (b.drops id) false reset-left in
        subst (λ (x : Book). Steady x) (λ i. record {
          world = record { session = ended_on b id; voices = put id (silenced (b.world.voices id)) b.world.voices };
          starts = e i;
          drops = f i;
          gate = put id false b.gate;
        }) k

    same-voices : (ended_on b id).voices ≡ b.world.session.voices
    same-voices = ended-voices (b.world.voices id).voice (b.world.voices id).gate_held b.world.session

    closed-ids : ids_in (close_noted b id done).world ≡ filter (others id) (ids_in b.world)
    unfolding closed_voice
    closed-ids = live-freed (b.world.voices id).voice b.world.session.voices ∙ ap (λ k. filter (others k) (ids_in b.world)) (h.named id)

    closed-each : (i : ℕ) → elem i (filter (others id) (ids_in b.world)) ≡ true
        → Voiced (b.starts i) (b.drops i) (put id false b.gate i) (slots_of i (view (ended_on b id))) (b.world.voices i)
    closed-each i l = ⊎_elim (λ (e : i ≡ id). clash (sym l ∙ ap (λ k. elem k (filter (others id) (ids_in b.world))) e ∙ elem-keep-here id (ids_in b.world)))
        (λ n. rw (put-away id false b.gate i n) (subst (λ ks. Voiced (b.starts i) (b.drops i) (b.gate i) ks (b.world.voices i))
        (sym (ap (map (λ (r : PlayerRecord). r.slot)) (others-ended i n))) (h.each i (sym (elem-keep-away id i (ids_in b.world) n) ∙ l)))) (same? i id)

    pub close-done : Steady (close_noted b id done)
    unfolding closed_voice gates_held
    close-done =
        let r = reset-done in
        record {
          places = r.places;
          few = r.few;
          apart = rw closed-ids (distinct-keep id (ids_in b.world) h.apart);
          below = λ i n. rw closed-ids (elem-keep-none id i (ids_in b.world) (h.below i (subst (λ k. k ≤ i) (next-freed (b.world.voices id).voice b.world.session.voices) n)));
          known = rw (closed-ids, view-ended) (strays-without id (ids_in b.world) (view b.world.session) h.known);
          named = h.named;
          each = λ i l. closed-each i (subst (λ is. elem i is ≡ true) closed-ids l);
          held = r.held ∙ ap (λ u. sum_over (λ i. one (put id false b.gate i)) (live_ids u)) same-voices
              ∙ sym (sum_drop id (λ i. one (put id false b.gate i)) (ap one (put-here id false b.gate id refl)) (ids_in b.world))
              ∙ ap (sum_over (λ i. one (put id false b.gate i))) (sym closed-ids);
        }

  reset-back : Steady (record { world = record { session = b.world.session; voices = put id (b.world.voices id) b.world.voices }; starts = b.starts; drops = b.drops; gate = b.gate })
  reset-back =
      let e = put_same id (b.world.voices id) b.world.voices refl in
      subst (λ (x : Book). Steady x) (λ i. record { world = record { session = b.world.session; voices = sym e i }; starts = b.starts; drops = b.drops; gate = b.gate }) h

  reset-noted : (a : Answer) → end_answer b.world.session (b.world.voices id) ≡ a → Steady (reset_noted b id a)
  reset-noted (Ok x) e = reset-done (ended-live b h id e)
  reset-noted (Err r) e = reset-back

  close-noted : (a : Answer) → end_answer b.world.session (b.world.voices id) ≡ a → Steady (close_noted b id a)
  close-noted (Ok x) e = close-done (ended-live b h id e)
  close-noted (Err r) e = h

  pub reset-steady : Steady (note b (reset id))
  unfolding was_reset
  reset-steady = reset-noted (end_answer b.world.session (b.world.voices id)) refl

  pub close-steady : Steady (note b (close id))
  unfolding was_closed
  close-steady = close-noted (end_answer b.world.session (b.world.voices id)) refl
