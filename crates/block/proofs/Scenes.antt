-- Turns of a block under way. Assumes nothing.
use Rattle.std.specs.List.{list_any, position, position_or_len}
use Rattle.std.specs.Prelude.{cond, ◌||◌, None, Option, Some}
use Rattle.std.proofs.lemmas.Bool.{ltb-true}
use Rattle.std.proofs.lemmas.Option.{cond_some, none-some}
use Prim.Native.Nat.{ℕ, zero, suc, ◌+◌, ◌-◌, ◌<◌, ◌≤◌}
use mathlib.Core.Path.{◌≡◌, refl, sym, ap, ◌∙◌}
use mathlib.Core.Bool.{Bool, true, false, not}
use mathlib.Core.List.{List, [], ◌∷◌}
use native.Mathlib.Omega.{arith}
use lib.ListN.{length, take, get_or, length-set}
use lib.Seq.{length-take-le}
use lib.Dec.{ltb}
use borrow.Author.Tests.{le-ltb, lt-ltb}
use Rattle.session.specs.Offs.{first_at, no_off}
use Rattle.session.specs.declared.Off.{Off}
use Rattle.session.specs.declared.Offs.{Offs}
use Rattle.session.proofs.Walks.{used-small}
use Rattle.players.specs.Seats.{PlayersOk}
use Rattle.note.specs.declared.Strike.{Strike}
use Rattle.events.specs.Voice.{Kit}
use Rattle.gates.specs.Gate.{noted_on, noted_off}
use Rattle.gates.specs.Off.{applied_off}
use Rattle.events.specs.declared.Both.{Both}
use Rattle.block.specs.declared.BlockTime.{BlockTime}
use Rattle.block.specs.declared.Playing.{Playing}
use Rattle.block.specs.Block.{off_list, falls_on, swap_removed, off_turn, off_turns, with_gate, edge_turned, gate_turn, turns}
use Rattle.players.specs.Mix.{Sounds, Mixture}
use Rattle.block.specs.Render.{Scene, both_of, with_both, put_at, after_part, scene_after, mixture_of, rendered_to}
use Rattle.block.specs.Ready.{VoiceOk, OffsOk, PlayingOk}
use Rattle.block.proofs.Lasting.{off-lasts, rise-lasts, fall-lasts, rendered-lasts}

-- ---- off times

module _ {A : Type 0} (p : A → Bool) where
  some-there : (xs : List A) → first_at p xs < length xs → list_any p xs ≡ true
  some-there [] h = absurd (omega (arith, h))
  some-there (x ∷ xs) h = by-case (p x) h (some-there xs) where
    by-case : (t : Bool) → cond t zero (suc (first_at p xs)) < suc (length xs) → (first_at p xs < length xs → list_any p xs ≡ true) → t || list_any p xs ≡ true
    by-case true k rest = refl
    by-case false k rest = rest (omega (arith, k))

  first-prefix : (xs : List A) → position_or_len p xs ≡ first_at p xs
  first-prefix [] = refl
  first-prefix (x ∷ xs) = by-case (p x) (first-prefix xs) where
    by-case : (t : Bool) → position_or_len p xs ≡ first_at p xs → cond (not t) (1 + position_or_len p xs) 0 ≡ cond t zero (suc (first_at p xs))
    by-case true h = refl
    by-case false h = omega (arith, h)

  at-first : (xs : List A) (j : ℕ) → position p xs ≡ Some j → (j ≡ first_at p xs) × (j < length xs)
  at-first xs j e =
      let h = cond_some (ltb (position_or_len p xs) (length xs)) (position_or_len p xs) j e in
      let k : j ≡ first_at p xs = sym h.1 ∙ first-prefix xs in
      (k, omega (arith, ltb-true (position_or_len p xs) (length xs) h.0, h.1))

  no-first : (xs : List A) → position p xs ≡ None → list_any p xs ≡ false
  no-first [] e = refl
  no-first (x ∷ xs) e = by-case (p x) e (no-first xs) where
    by-case : (t : Bool)
        → cond (ltb (cond (not t) (1 + position_or_len p xs) 0) (suc (length xs))) (Some (cond (not t) (1 + position_or_len p xs) 0)) None ≡ None
        → (position p xs ≡ None → list_any p xs ≡ false) → t || list_any p xs ≡ false
    by-case true g rest =
        let l : ltb 0 (suc (length xs)) ≡ true = lt-ltb 0 (suc (length xs)) (omega arith) in
        absurd (none-some 0 (sym g ∙ ap (λ b. cond b (Some 0) None) l))
    by-case false g rest = by-bound (ltb (position_or_len p xs) (length xs)) refl g rest where
      by-bound : (u : Bool) → ltb (position_or_len p xs) (length xs) ≡ u
          → cond (ltb (1 + position_or_len p xs) (suc (length xs))) (Some (1 + position_or_len p xs)) None ≡ None
          → (position p xs ≡ None → list_any p xs ≡ false) → list_any p xs ≡ false
      by-bound true d g rest =
          let l : ltb (1 + position_or_len p xs) (suc (length xs)) ≡ true = lt-ltb (1 + position_or_len p xs) (suc (length xs)) (omega (arith, ltb-true (position_or_len p xs) (length xs) d)) in
          absurd (none-some (1 + position_or_len p xs) (sym g ∙ ap (λ b. cond b (Some (1 + position_or_len p xs)) None) l))
      by-bound false d g rest = rest (ap (λ b. cond b (Some (position_or_len p xs)) None) d)

list_length : (q : Offs) → OffsOk q → length (off_list q) ≡ q.count
list_length q ok = ap (λ n. length (take n q.offs)) (used-small 32 q.count ok.few) ∙ length-take-le q.count q.offs (omega (arith, ok.few, ok.size))

pub removed-ok : (q : Offs) (k : ℕ) → OffsOk q → OffsOk (swap_removed k q)
unfolding swap_removed
removed-ok q k ok = record { few = omega (arith, ok.few); size = length-set q.offs k (get_or q.offs (q.count - 1) no_off) ∙ ok.size }

-- one turn, by the results of its calls
module _ (k : Kit) (t : BlockTime) (i j : ℕ) (p : Playing) (ok : PlayingOk k.words p) (at : ℕ) (when : at ≡ t.offset + i)
    (first : j ≡ first_at (falls_on t i) (off_list p.offs)) (o : Off) (told : o ≡ get_or p.offs.offs j no_off)
    (b : Both) (done : b ≡ applied_off k p.voice.program.regions o.slot at (both_of p)) (q : Offs) (left : q ≡ swap_removed j p.offs) where
  pub turn_is : ◌≡◌ {A = Playing} (record { session = b.session; voice = b.voice; offs = q; from = p.from }) (off_turn k t i p)
  unfolding off_turn
  turn_is =
      let m : ℕ = first_at (falls_on t i) (off_list p.offs) in
      let d : Both = applied_off k p.voice.program.regions (get_or p.offs.offs m no_off).slot (t.offset + i) (both_of p) in
      let e : b ≡ d
      = done ∙ ap (λ (x : Off). applied_off k p.voice.program.regions x.slot at (both_of p)) (told ∙ ap (λ n. get_or p.offs.offs n no_off) first)
      ∙ ap (λ a. applied_off k p.voice.program.regions (get_or p.offs.offs m no_off).slot a (both_of p)) when in
      ap (λ (x : Both). record { session = x.session; voice = x.voice; offs = q; from = p.from }) e
      ∙ ap (λ (x : Offs). record { session = d.session; voice = d.voice; offs = x; from = p.from }) (left ∙ ap (λ n. swap_removed n p.offs) first)

  pub turn-ok : PlayersOk b.voice.players → PlayingOk k.words (record { session = b.session; voice = b.voice; offs = q; from = p.from })
  turn-ok h = record {
    voice = record {
      players = h;
      bindable = ok.voice.bindable;
      regions = rw (ap (λ (x : Both). x.voice.program) done ∙ (off-lasts k p.voice.program.regions o.slot at (both_of p)).program) ok.voice.regions;
    };
    offs = rw left (removed-ok p.offs j ok.offs);
  }

pub turn-count : (k : Kit) (t : BlockTime) (i : ℕ) (p : Playing) → (off_turn k t i p).offs.count ≡ p.offs.count - 1
unfolding off_turn swap_removed
turn-count k t i p = refl

-- where the first off time on the frame stands, if one does
module _ (t : BlockTime) (i : ℕ) (q : Offs) (ok : OffsOk q) where
  pub first-there : (j : ℕ) → position (falls_on t i) (off_list q) ≡ Some j
      → (j ≡ first_at (falls_on t i) (off_list q)) × (j < q.count) × (list_any (falls_on t i) (off_list q) ≡ true)
  first-there j e =
      let h = at-first (falls_on t i) (off_list q) j e in
      (h.0, rw (list_length q ok) at h.1, some-there (falls_on t i) (off_list q) (rw h.0 at h.1))

-- the loop over the turns
module _ (k : Kit) (t : BlockTime) (i : ℕ) (p : Playing) (ok : OffsOk p.offs) where
  pub turns_more : (j : ℕ) → position (falls_on t i) (off_list p.offs) ≡ Some j
      → (q : Playing) → q ≡ off_turn k t i p → off_turns k t i p.offs.count p ≡ off_turns k t i q.offs.count q
  unfolding off_turns
  turns_more j e q d =
      let h = first-there t i p.offs ok j e in
      let m : p.offs.count ≡ suc (p.offs.count - 1) = omega (arith, h.1) in
      ap (λ x. off_turns k t i x p) m ∙ ap (λ b. cond b (off_turns k t i (p.offs.count - 1) (off_turn k t i p)) p) h.2
      ∙ ap (λ n. off_turns k t i n (off_turn k t i p)) (sym (turn-count k t i p))
      ∙ ap (λ (x : Playing). off_turns k t i x.offs.count x) (sym d)

  pub turns-over : position (falls_on t i) (off_list p.offs) ≡ None → off_turns k t i p.offs.count p ≡ p
  unfolding off_turns
  turns-over e = by-case p.offs.count (no-first (falls_on t i) (off_list p.offs) e) where
    by-case : (m : ℕ) → list_any (falls_on t i) (off_list p.offs) ≡ false → off_turns k t i m p ≡ p
    by-case zero e = refl
    by-case (suc m) e = ap (λ b. cond b (off_turns k t i m (off_turn k t i p)) p) e

-- ---- an edge of the gate

module _ (k : Kit) (x : Strike) (b r : Both) (ok : VoiceOk k.words b.voice) (h : PlayersOk r.voice.players) where
  pub edge-up : (g : Bool) → g ≡ true → r ≡ noted_on k b.voice.program.regions x (record { session = b.session; voice = with_gate g b.voice })
      → (r ≡ edge_turned k x g b) × VoiceOk k.words r.voice
  unfolding edge_turned
  edge-up g e d = (
    d ∙ sym (ap (λ (t : Bool). cond t (noted_on k b.voice.program.regions x (record { session = b.session; voice = with_gate g b.voice })) (noted_off k b.voice.program.regions x.at (record { session = b.session; voice = with_gate g b.voice }))) e),
    record { players = h; bindable = ok.bindable; regions = rw (ap (λ (y : Both). y.voice.program) d ∙ (rise-lasts k b.voice.program.regions x (record { session = b.session; voice = with_gate g b.voice })).program) ok.regions },
  )

  pub edge-down : (g : Bool) → g ≡ false → r ≡ noted_off k b.voice.program.regions x.at (record { session = b.session; voice = with_gate g b.voice })
      → (r ≡ edge_turned k x g b) × VoiceOk k.words r.voice
  unfolding edge_turned
  edge-down g e d = (
    d ∙ sym (ap (λ (t : Bool). cond t (noted_on k b.voice.program.regions x (record { session = b.session; voice = with_gate g b.voice })) (noted_off k b.voice.program.regions x.at (record { session = b.session; voice = with_gate g b.voice }))) e),
    record { players = h; bindable = ok.bindable; regions = rw (ap (λ (y : Both). y.voice.program) d ∙ (fall-lasts k b.voice.program.regions x.at (record { session = b.session; voice = with_gate g b.voice })).program) ok.regions },
  )

module _ (k : Kit) (x : Strike) (g : Bool) (p : Playing) (b : Bool) (told : b ≡ turns p.voice.gate_prev g) where
  pub gate-still : b ≡ false → p ≡ gate_turn k x g p
  unfolding gate_turn
  gate-still e = sym (ap (λ t. cond t (with_both (edge_turned k x g (both_of p)) p) p) (sym told ∙ e))

  pub gate-turned : b ≡ true → (r : Both) → r ≡ edge_turned k x g (both_of p) → with_both r p ≡ gate_turn k x g p
  unfolding gate_turn
  gate-turned e r d = ap (λ (y : Both). with_both y p) d ∙ sym (ap (λ t. cond t (with_both (edge_turned k x g (both_of p)) p) p) (sym told ∙ e))

-- ---- frames between two events

module _ (x : Sounds) (b : ℕ) (sc : Scene) where
  pub no_frames : b ≤ sc.playing.from → sc ≡ rendered_to x b sc
  unfolding rendered_to
  no_frames h =
      sym (ap (λ t. cond t (scene_after sc.playing.from b sc (mixture_of x sc.playing.from b sc)) sc) (le-ltb sc.playing.from b h))

  pub some-frames : sc.playing.from < b → (m : Mixture) → m ≡ mixture_of x sc.playing.from b sc → (q : Playing)
      → q ≡ after_part b sc.playing m.mixed
      → ◌≡◌ {A = Scene} (record { playing = q; left = put_at sc.playing.from b sc.left m.left; right = put_at sc.playing.from b sc.right m.right }) (rendered_to x b sc)
  unfolding rendered_to
  some-frames h m e q d =
      ap (λ (r : Playing). record { playing = r; left = put_at sc.playing.from b sc.left m.left; right = put_at sc.playing.from b sc.right m.right }) d
      ∙ ap (scene_after sc.playing.from b sc) e
      ∙ sym (ap (λ t. cond t (scene_after sc.playing.from b sc (mixture_of x sc.playing.from b sc)) sc) (lt-ltb sc.playing.from b h))

  rendered-offs : (rendered_to x b sc).playing.offs ≡ sc.playing.offs
  unfolding rendered_to after_part
  rendered-offs = by-case (ltb sc.playing.from b) where
    by-case : (t : Bool) → (cond t (scene_after sc.playing.from b sc (mixture_of x sc.playing.from b sc)) sc).playing.offs ≡ sc.playing.offs
    by-case true = refl
    by-case false = refl

  pub rendered-ok : (ws : List ℕ) → PlayingOk ws sc.playing → (r : Scene) → r ≡ rendered_to x b sc → PlayersOk r.playing.voice.players → PlayingOk ws r.playing
  rendered-ok ws ok r e h = record {
    voice = record {
      players = h;
      bindable = ok.voice.bindable;
      regions = rw (ap (λ (y : Scene). y.playing.voice.program) e ∙ (rendered-lasts x b sc).program) ok.voice.regions;
    };
    offs = rw (ap (λ (y : Scene). y.playing.offs) e ∙ rendered-offs) ok.offs;
  }
