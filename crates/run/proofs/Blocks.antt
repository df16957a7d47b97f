-- A block leaves the book steady. Assumes nothing.
use Rattle.std.specs.Prelude.{Ok, Err}
use Prim.Native.Nat.{ℕ, ◌+◌}
use mathlib.Core.Path.{◌≡◌, refl, sym, ◌∙◌, subst}
use mathlib.Core.Bool.{true}
use mathlib.Core.List.{List, []}
use native.Mathlib.Omega.{arith}
use Rattle.session.specs.Rules.{slots_of}
use Rattle.session.specs.State.{view}
use Rattle.session.specs.declared.Session.{Session}
use Rattle.events.specs.declared.Both.{Both}
use Rattle.events.specs.declared.SampleVoice.{SampleVoice}
use Rattle.block.specs.Block.{played_block}
use Rattle.block.specs.Inputs.{Lent}
use Rattle.voice.specs.Calls.{BlockLeft, Answer, done, if_done, block_answer, block_done, blocked}
use Rattle.run.specs.Run.{block, Book, put, note, starts_of, players_in, drops_in, last_gate, ids_in, is_live, one, records_of}
use Rattle.run.specs.Starts.{Started, starts_of_block}
use Rattle.run.proofs.Moves.{Moves, Kept}
use Rattle.run.proofs.BlockChain.{block-chain}
use Rattle.run.proofs.Gates.{block-gate}
use Rattle.run.proofs.Preserved.{kept, voices-same, no-stray-after}
use Rattle.run.proofs.Preserved as preserved
use Rattle.run.proofs.Steady.{Steady, together, shaped, kept-now, held-few, held-some}
use Rattle.run.proofs.Changes.{book-same, Left, steady-changed, follows-slots}
use Rattle.run.proofs.Told.{block-live, block-some}

-- the slots of another voice
rest-slots : {id starts drops : ℕ} {b c : Both} {xs : List Started} → Moves id b xs c → Kept id starts drops b → (j : ℕ) → (j ≡ id → ⊥)
    → slots_of j (view c.session) ≡ slots_of j (view b.session)
rest-slots {b = b} {c = c} {xs = xs} m k j n =
    follows-slots j xs (records_of j (view b.session)) (records_of j (view c.session)) (preserved.others m k j n)

-- the book after a block with this answer
abbrev pub noted_block : Book → ℕ → Lent → Answer → Book
noted_block b id l a =
    let s = b.world.session in
    let v = b.world.voices id in
    let r = (if_done {A = BlockLeft} a (block_done l s v) (record { called = record { answer = a; session = s; voice = v }; left = l.left; right = l.right })).called in
    let xs = if_done a (starts_of_block l s v) [] in
    record {
      world = record { session = r.session; voices = put id r.voice b.world.voices };
      starts = put id (b.starts id + players_in xs) b.starts;
      drops = put id (b.drops id + drops_in xs) b.drops;
      gate = if_done a (put id (last_gate l) b.gate) b.gate;
    }

module _ (b : Book) (h : Steady b) where
  module _ (id : ℕ) (l : Lent) where
    back : (s : Session) (v : SampleVoice) (p d : ℕ) → s ≡ b.world.session → v ≡ b.world.voices id → p ≡ b.starts id → d ≡ b.drops id
        → Steady (record { world = record { session = s; voices = put id v b.world.voices }; starts = put id p b.starts; drops = put id d b.drops; gate = b.gate })
    back s v p d e f m n = rw (book-same b id s v p d b.gate e f m n refl) h

    module _ (e : block_answer l b.world.session (b.world.voices id) ≡ done) where
      live : is_live b id ≡ true
      live = block-live b h id l e

      pub block-moves : Moves id (together b.world.session (b.world.voices id)) (starts_of_block l b.world.session (b.world.voices id))
          (played_block l b.world.session (b.world.voices id)).both
      block-moves =
          subst (λ k. Moves k (together b.world.session (b.world.voices id)) (starts_of_block l b.world.session (b.world.voices id))
          (played_block l b.world.session (b.world.voices id)).both) (h.named id)
          (block-chain l b.world.session (b.world.voices id) (shaped b h id live))

      block-left : Left b id (played_block l b.world.session (b.world.voices id)).both.session (played_block l b.world.session (b.world.voices id)).both.voice
          (b.starts id + players_in (starts_of_block l b.world.session (b.world.voices id))) (b.drops id + drops_in (starts_of_block l b.world.session (b.world.voices id))) (last_gate l)
      block-left =
          let k = kept block-moves (kept-now b h id live) in
          let v = h.each id live in
          let g = block-gate l b.world.session (b.world.voices id) (block-some b h id l e) (v.down ∙ sym v.prev) (omega (arith, held-few b h)) (held-some b h id live) in
          record {
            places = k.shape.places;
            few = k.shape.list;
            voices = voices-same block-moves;
            known = no-stray-after block-moves (kept-now b h id live) (ids_in b.world) live h.known;
            name = k.shape.voice;
            own = record {
              few = k.shape.few;
              seats = k.shape.seats;
              next = k.next;
              dropped = k.dropped;
              under = k.under;
              mirror = k.mirror;
              down = g.gate;
              prev = g.prev;
            };
            rest = λ j n. rest-slots block-moves (kept-now b h id live) j n;
            held = subst (λ t. (played_block l b.world.session (b.world.voices id)).both.session.held + one t ≡ b.world.session.held + one (last_gate l)) v.down g.held;
          }

    block_noted : (a : Answer) → block_answer l b.world.session (b.world.voices id) ≡ a → Steady (noted_block b id l a)
    unfolding block_done
    block_noted (Ok x) e = steady-changed b h id (live e) _ _ _ _ _ (block-left e)
    block_noted (Err r) e = back _ _ _ _ refl refl (omega arith) (omega arith)

    pub block-steady : Steady (note b (block id l))
    unfolding blocked starts_of
    block-steady = block_noted (block_answer l b.world.session (b.world.voices id)) refl
