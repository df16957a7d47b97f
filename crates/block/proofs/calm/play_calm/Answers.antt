use mathlib.Core.Path.{sym, ap, ◌∙◌}
use lib.ListN.{length, take, replicate}
use Rattle.exact.specs.Single.{f0}
use Rattle.std.specs.Option.{option_copied}
use Rattle.players.specs.Mix.{Sounds}
use Rattle.block.proofs.Calming.{part-is}
use Rattle.block.proofs.Wholes.{covers-as}
use Rattle.block.proofs.calm.play_calm.Goals as goal

pub sound_all-m-requires : goal.sound_all-m-requires
sound_all-m-requires c = let k = c.clear_both.auto in
    (c.requires.0, k.right ∙ c.requires.2 ∙ sym k.left)

pub amplify_both-requires : goal.amplify_both-requires
amplify_both-requires c = let k = c.clear_both.auto in
    let m = c.sound_all-m in
    (covers-as (option_copied c.args.amp) _ (length c.args.left.now) (m.auto.left ∙ k.left) c.requires.3, covers-as (option_copied c.args.amp) _ (length c.args.left.now) (m.auto.right ∙ k.right ∙ c.requires.2) c.requires.3)

pub returns : goal.returns
returns c = let a = c.args in
    let x : Sounds = record { samples = a.samples.now; frames = a.pcm.now; table = take 8194 a.table.now } in
    let m = c.sound_all-m.ensures in
    let k = c.clear_both.ensures in
    let w = c.amplify_both.ensures in
    (part-is x a.x (option_copied a.amp) a.ps (length a.left.now) _ _ k.0 (k.1 ∙ ap (λ n. replicate n f0) c.requires.2) _ (rw c.entries_of.ensures at m.0) _ _ w.0 w.1, m.1, m.2)
