-- A quiet block leaves what the plain way leaves. Assumes nothing.
use Prim.Native.Nat.{◌-◌}
use mathlib.Core.Path.{◌≡◌, ap, ◌∙◌}
use mathlib.Core.Bool.{true}
use mathlib.Core.List.{List, ◌++◌}
use lib.ListN.{length, take, drop, replicate}
use lib.Ieee.{Float}
use Rattle.exact.specs.Single.{f0}
use Rattle.session.specs.declared.Session.{Session}
use Rattle.events.specs.declared.SampleVoice.{SampleVoice}
use Rattle.block.specs.Inputs.{Lent}
use Rattle.block.specs.Block.{amplified, Played}
use Rattle.block.proofs.Quiet.{quiet_block}
use Rattle.causes.specs.Tests.{lent_fits}
use Rattle.causes.specs.Quiet.{is_quiet}
use Rattle.causes.proofs.Idle.{quiet-state, quiet-time, quiet-played}
use Rattle.causes.proofs.Passed.{in_left, in_right, part_length}
use Rattle.voice.specs.Calls.{done, called, blocked}
use Rattle.voice.specs.declared.Called.{Called}
use Rattle.voice.proofs.Refusals.{block_out}

module _ (l : Lent) (s : Session) (v : SampleVoice)
    (quiet : is_quiet l.time l.inputs.gate l.words l.samples (length l.pcm) (length l.table) s v ≡ true)
    (size : length s.players ≡ 512) (fits : lent_fits l ≡ true) where
  -- the outputs as they come back from the silence
  pub quiet-out : (r : Called) → r ≡ called done s v → (xs ys : List Float)
      → xs ≡ amplified l.inputs.amp (replicate (length (take (l.time.frames - 0) (drop 0 l.left))) f0)
      → ys ≡ amplified l.inputs.amp (replicate (length (take (l.time.frames - 0) (drop 0 l.right))) f0)
      → length (take 0 l.left ++ (xs ++ drop (l.time.frames - 0) (drop 0 l.left))) ≡ length l.left
      → length (take 0 l.right ++ (ys ++ drop (l.time.frames - 0) (drop 0 l.right))) ≡ length l.right
      → record {
        called = r;
        left = take 0 l.left ++ (xs ++ drop (l.time.frames - 0) (drop 0 l.left));
        right = take 0 l.right ++ (ys ++ drop (l.time.frames - 0) (drop 0 l.right));
      } ≡ blocked l s v
  quiet-out r er xs ys e f g h =
      let a : xs ≡ amplified l.inputs.amp (replicate l.time.frames f0) = e ∙ ap (λ n. amplified l.inputs.amp (replicate n f0)) (part_length l.time.frames l.left (in_left l s v fits)) in
      let b : ys ≡ amplified l.inputs.amp (replicate l.time.frames f0) = f ∙ ap (λ n. amplified l.inputs.amp (replicate n f0)) (part_length l.time.frames l.right (in_right l s v fits)) in
      let same : ◌≡◌ {A = Played} (record { both = record { session = s; voice = v }; left = xs; right = ys }) (quiet_block l s v)
      = ap (λ (z : List Float). record { both = record { session = s; voice = v }; left = z; right = ys }) a
      ∙ ap (λ (z : List Float). record { both = record { session = s; voice = v }; left = amplified l.inputs.amp (replicate l.time.frames f0); right = z }) b in
      block_out l s v fits (quiet-state l s v quiet) (quiet-time l s v quiet) r (record { both = record { session = s; voice = v }; left = xs; right = ys }) er l.left l.right (same ∙ quiet-played l s v quiet size) g h
