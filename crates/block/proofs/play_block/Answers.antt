use Rattle.block.proofs.Wholes.{started-from, started-ok, covers-as, cues-ok, freq-there, bend-there, played-is}
use Rattle.block.specs.Inputs.{Lent, signals_of}
use Rattle.exact.specs.Single.{f0}
use lib.ListN.{replicate}
use mathlib.Core.Path.{◌∙◌, sym, ap}
use Rattle.block.proofs.play_block.Goals as goal

pub start_block-p-requires : goal.start_block-p-requires
start_block-p-requires c = let a = c.args in let l : Lent = record { time = a.t; words = a.words.now; samples = a.samples.now; pcm = a.pcm.now; table = a.table.now; inputs = signals_of a.inputs; left = a.left.now; right = a.right.now } in (c.requires.voice.players, freq-there l a.v c.requires, bend-there l a.v c.requires)

pub play_frames-q-requires : goal.play_frames-q-requires
play_frames-q-requires c = let a = c.args in let l : Lent = record { time = a.t; words = a.words.now; samples = a.samples.now; pcm = a.pcm.now; table = a.table.now; inputs = signals_of a.inputs; left = a.left.now; right = a.right.now } in (started-ok (signals_of a.inputs) a.v a.s a.words.now c.requires.voice _ c.start_block-p.ensures.0 c.start_block-p.ensures.1, started-from (signals_of a.inputs) a.v a.s _ c.start_block-p.ensures.0, rw c.entries_of-entries.ensures (cues-ok l a.v c.requires), c.clear_both.auto.left ∙ c.requires.left, c.clear_both.auto.right ∙ c.requires.right)

pub amplify_both-requires : goal.amplify_both-requires
amplify_both-requires c = let a = c.args in (covers-as (signals_of a.inputs).amp _ a.t.frames (c.play_frames-q.auto.left ∙ c.clear_both.auto.left ∙ c.requires.left) c.requires.amp, covers-as (signals_of a.inputs).amp _ a.t.frames (c.play_frames-q.auto.right ∙ c.clear_both.auto.right ∙ c.requires.right) c.requires.amp)

pub shape_of-left : goal.shape_of-left
shape_of-left c = c.amplify_both.auto.left ∙ c.play_frames-q.auto.left ∙ c.clear_both.auto.left

pub shape_of-right : goal.shape_of-right
shape_of-right c = c.amplify_both.auto.right ∙ c.play_frames-q.auto.right ∙ c.clear_both.auto.right

pub returns : goal.returns
returns c = let a = c.args in let l : Lent = record { time = a.t; words = a.words.now; samples = a.samples.now; pcm = a.pcm.now; table = a.table.now; inputs = signals_of a.inputs; left = a.left.now; right = a.right.now } in (played-is l a.s a.v _ _ (c.clear_both.ensures.0 ∙ ap (λ n. replicate n f0) c.requires.left) (c.clear_both.ensures.1 ∙ ap (λ n. replicate n f0) c.requires.right) _ c.start_block-p.ensures.0 _ (rw c.entries_of-entries.ensures at c.play_frames-q.ensures.0) _ _ c.amplify_both.ensures.0 c.amplify_both.ensures.1, c.play_frames-q.ensures.1)
