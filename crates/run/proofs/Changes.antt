-- What a call on one voice leaves of the book: a live voice that goes on, one that ends, and a call that is turned back. Assumes nothing.
use Prim.Native.Nat.{ℕ, ◌+◌, ◌<◌, ◌≤◌}
use mathlib.Core.Path.{◌≡◌, refl, sym, ap, ◌∙◌, subst}
use mathlib.Core.Bool.{Bool, true, false, not}
use mathlib.Core.Logic.{⊎_elim}
use mathlib.Core.List.{List, [], ◌∷◌, map}
use native.Mathlib.Omega.{arith}
use lib.ListN.{length}
use Rattle.session.specs.Lists.{elem}
use Rattle.session.specs.Records.{of_voice}
use Rattle.session.specs.Rules.{slots_of, without_voice, start_marks}
use Rattle.session.specs.State.{view, ended_voice}
use Rattle.session.specs.declared.PlayerRecord.{PlayerRecord}
use Rattle.session.specs.declared.Session.{Session}
use Rattle.session.proofs.Laws.{slots-marks}
use Rattle.session.proofs.Relist.{view-few, view-relist, relist-size, keep-fewer}
use Rattle.events.specs.declared.SampleVoice.{SampleVoice}
use Rattle.run.specs.Run.{Book, put, ids_in, is_live, gates_held, one, sum_over, records_of, Follows}
use Rattle.run.specs.Starts.{Started}
use Rattle.run.proofs.Steady.{Steady, Voiced}
use Rattle.run.proofs.Sums.{same?, put-here, put-away, put_same, strays, sum-change}

-- ---- a call that is turned back

pub book-same : (b : Book) (id : ℕ) (s : Session) (v : SampleVoice) (p d : ℕ) (g : ℕ → Bool)
    → s ≡ b.world.session → v ≡ b.world.voices id → p ≡ b.starts id → d ≡ b.drops id → g ≡ b.gate
    → ◌≡◌ {A = Book} (record {
      world = record { session = s; voices = put id v b.world.voices };
      starts = put id p b.starts;
      drops = put id d b.drops;
      gate = g;
    }) b
book-same b id s v p d g e f m n k =
    let f' = put_same id v b.world.voices f in
    let m' = put_same id p b.starts m in
    let n' = put_same id d b.drops n in
    λ i. record { world = record { session = e i; voices = f' i }; starts = m' i; drops = n' i; gate = k i }

-- ---- a live voice goes on

module _ (b : Book) (id : ℕ) (t : Session) (v : SampleVoice) (p d : ℕ) (g : Bool) where
  abbrev pub changed : Book
  changed = record {
    world = record { session = t; voices = put id v b.world.voices };
    starts = put id p b.starts;
    drops = put id d b.drops;
    gate = put id g b.gate;
  }

-- the session and the voice as a call on a live voice leaves them
pub record Left (b : Book) (id : ℕ) (t : Session) (v : SampleVoice) (p d : ℕ) (g : Bool) : Type 0 where
  pub places : length t.players ≡ 512
  pub few : t.count ≤ 512
  pub voices : t.voices ≡ b.world.session.voices
  pub known : strays (ids_in b.world) (view t) ≡ false
  pub name : v.voice ≡ id
  pub own : Voiced p d g (slots_of id (view t)) v
  pub rest : (j : ℕ) → (j ≡ id → ⊥) → slots_of j (view t) ≡ slots_of j (view b.world.session)
  pub held : t.held + one (b.gate id) ≡ b.world.session.held + one g

module _ (b : Book) (h : Steady b) (id : ℕ) (live : is_live b id ≡ true) (t : Session) (v : SampleVoice) (p d : ℕ) (g : Bool) (x : Left b id t v p d g) where
  same-ids : ids_in (changed b id t v p d g).world ≡ ids_in b.world
  same-ids = ap (λ u. ids_in (record { session = record { players = t.players; count = t.count; seq = t.seq; voices = u; event_serial = t.event_serial; held = t.held }; voices = b.world.voices })) x.voices

  each-changed : (i : ℕ) → is_live b i ≡ true → Voiced (put id p b.starts i) (put id d b.drops i) (put id g b.gate i) (slots_of i (view t)) (put id v b.world.voices i)
  each-changed i l = ⊎_elim
      (λ (e : i ≡ id). rw (put-here id p b.starts i e, put-here id d b.drops i e, put-here id g b.gate i e, put-here id v b.world.voices i e)
      (subst (λ k. Voiced p d g (slots_of k (view t)) v) (sym e) x.own))
      (λ n. rw (put-away id p b.starts i n, put-away id d b.drops i n, put-away id g b.gate i n, put-away id v b.world.voices i n)
      (subst (λ ks. Voiced (b.starts i) (b.drops i) (b.gate i) ks (b.world.voices i)) (sym (x.rest i n)) (h.each i l))) (same? i id)

  -- the held gates go by the voice's own gate
  held-changed : t.held ≡ sum_over (λ i. one (put id g b.gate i)) (ids_in b.world)
  unfolding gates_held
  held-changed =
      let c : sum_over (λ i. one (put id g b.gate i)) (ids_in b.world) + one (b.gate id) ≡ sum_over (λ i. one (b.gate i)) (ids_in b.world) + one (put id g b.gate id)
      = sum-change (λ i. one (b.gate i)) (λ i. one (put id g b.gate i)) id (λ i n. ap one (put-away id g b.gate i n)) (ids_in b.world) h.apart live in
      let k : one (put id g b.gate id) ≡ one g = ap one (put-here id g b.gate id refl) in
      omega (arith, x.held, h.held)

  pub steady-changed : Steady (changed b id t v p d g)
  unfolding gates_held
  steady-changed = record {
    places = x.places;
    few = x.few;
    apart = rw same-ids h.apart;
    below = λ i n. rw (same-ids) (h.below i (subst (λ u. u.next_voice ≤ i) x.voices n));
    known = rw same-ids x.known;
    named = λ i. ⊎_elim (λ (e : i ≡ id). ap (λ (y : SampleVoice). y.voice) (put-here id v b.world.voices i e) ∙ x.name ∙ sym e)
        (λ n. ap (λ (y : SampleVoice). y.voice) (put-away id v b.world.voices i n) ∙ h.named i) (same? i id);
    each = λ i l. each-changed i (subst (λ is. elem i is ≡ true) same-ids l);
    held = held-changed ∙ ap (sum_over (λ i. one (put id g b.gate i))) (sym same-ids);
  }

-- ---- the records of another voice after starts

-- marks leave the slots
pub follows-slots : (j : ℕ) (xs : List Started) (rs qs : List PlayerRecord) → Follows j xs rs qs
    → map (λ (r : PlayerRecord). r.slot) qs ≡ map (λ (r : PlayerRecord). r.slot) rs
follows-slots j [] rs qs e = ap (map (λ (r : PlayerRecord). r.slot)) e
follows-slots j (x ∷ xs) rs qs e =
    follows-slots j xs (records_of j (start_marks x.start x.list)) qs e.1
    ∙ slots-marks j x.start x.list ∙ ap (map (λ (r : PlayerRecord). r.slot)) e.0

-- ---- the session after the end of a voice's notes

module _ (s : Session) (size : length s.players ≡ 512) (id : ℕ) where
  fewer : length (without_voice id (view s)) ≤ 512
  unfolding without_voice
  fewer = omega (arith, keep-fewer (λ (r : PlayerRecord). not (of_voice id r)) (view s), view-few s)

  pub ended-view : (g : Bool) → view (ended_voice id g s) ≡ without_voice id (view s)
  unfolding ended_voice
  ended-view true = view-relist s size (without_voice id (view s)) fewer
  ended-view false = view-relist s size (without_voice id (view s)) fewer

  pub ended-places : (g : Bool) → length (ended_voice id g s).players ≡ 512
  unfolding ended_voice
  ended-places true = relist-size s size (without_voice id (view s)) fewer
  ended-places false = relist-size s size (without_voice id (view s)) fewer

  pub ended-few : (g : Bool) → (ended_voice id g s).count ≤ 512
  unfolding ended_voice
  ended-few true = fewer
  ended-few false = fewer

  pub ended_held : (g : Bool) → (g ≡ true → 0 < s.held) → (ended_voice id g s).held + one g ≡ s.held + one false
  unfolding ended_voice
  ended_held true h = let p = h refl in omega arith
  ended_held false h = omega arith
