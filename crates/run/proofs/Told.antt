-- What the answer of a call that is done tells. Assumes nothing.
use Rattle.std.specs.Prelude.{Ok, Err, cond}
use Prim.Native.Nat.{ℕ, ◌<◌}
use mathlib.Core.Path.{◌≡◌, refl, sym, ap, ◌∙◌}
use mathlib.Core.Bool.{Bool, true, false, not, ◌&&◌}
use native.Mathlib.Omega.{arith}
use lib.ListN.{length}
use lib.Dec.{eqb}
use borrow.Author.Tests.{eqb-false, not-true}
use Rattle.session.specs.Lists.{elem}
use Rattle.session.specs.State.{live_ids}
use Rattle.session.specs.Tests as tests
use Rattle.session.specs.declared.Session.{Session}
use Rattle.events.specs.declared.SampleVoice.{SampleVoice}
use Rattle.block.specs.Inputs.{Signals, Lent}
use Rattle.voice.specs.Calls.{Answer, done, if_done, block_answer, end_answer}
use Rattle.causes.specs.Tests.{parts_fit, lent_fits, well_formed, program_fits, in_time}
use Rattle.voice.specs.declared.Refusal.TheVariants.{BadRate, TooManyVoices, BadBlock, BadState, TooLate}
use Rattle.run.specs.Run.{Book, ids_in, is_live}
use Rattle.run.proofs.Steady.{Steady}
use Rattle.run.proofs.Sums.{clash}

never : {A : Type 0} {x : Answer} → x ≡ done → ◌≡◌ {A = Bool} (if_done x true false) false → A
never e n = clash (sym (ap (λ y. if_done y true false) e) ∙ n)

and_left : (a b : Bool) → a && b ≡ true → a ≡ true
and_left true b e = refl
and_left false b e = e

block-tests : (p q r : Bool) → cond p (cond q (cond r done (Err TooLate)) (Err BadState)) (Err BadBlock) ≡ done → (p ≡ true) × (q ≡ true)
block-tests true true r e = (refl, refl)
block-tests true false r e = never e refl
block-tests false q r e = never e refl

end_test : (p : Bool) → cond p done (Err BadState) ≡ done → p ≡ true
end_test true e = refl
end_test false e = never e refl

pub make-tests : (p q r : Bool) → cond p (cond q (Err TooManyVoices) (cond r done (Err TooLate))) (Err BadRate) ≡ done → (q ≡ false) × (r ≡ true)
make-tests true true r e = never e refl
make-tests true false true e = (refl, refl)
make-tests true false false e = never e refl
make-tests false q r e = never e refl

-- a voice that passes the tests is live
formed-live : (s : Session) (v : SampleVoice) → well_formed s v ≡ true → elem v.voice (live_ids s.voices) ≡ true
unfolding well_formed tests.is_live
formed-live s v e = and_left (elem v.voice (live_ids s.voices)) _ e

fits-some : (n : ℕ) (x : Signals) (left right : ℕ) → parts_fit n x left right ≡ true → 0 < n
unfolding parts_fit
fits-some n x left right e = let p : n ≡ 0 → ⊥ = eqb-false n 0 (not-true (eqb n 0) (and_left (not (eqb n 0)) _ e)) in omega arith

module _ (b : Book) (h : Steady b) (id : ℕ) where
  pub ended-live : end_answer b.world.session (b.world.voices id) ≡ done → is_live b id ≡ true
  unfolding end_answer
  ended-live e =
      ap (λ k. elem k (ids_in b.world)) (sym (h.named id))
      ∙ formed-live b.world.session (b.world.voices id) (end_test (well_formed b.world.session (b.world.voices id)) e)

  module _ (l : Lent) (e : block_answer l b.world.session (b.world.voices id) ≡ done) where
    told : (lent_fits l ≡ true)
        × ((well_formed b.world.session (b.world.voices id) && program_fits (b.world.voices id) l.words l.samples (length l.pcm) (length l.table)) ≡ true)
    unfolding block_answer
    told = block-tests _ _ (in_time l.time.offset b.world.session.event_serial) e

    pub block-live : is_live b id ≡ true
    block-live =
        ap (λ k. elem k (ids_in b.world)) (sym (h.named id))
        ∙ formed-live b.world.session (b.world.voices id) (and_left (well_formed b.world.session (b.world.voices id)) _ told.1)

    -- a block has a frame
    pub block-some : 0 < l.time.frames
    block-some = fits-some l.time.frames l.inputs (length l.left) (length l.right) told.0
