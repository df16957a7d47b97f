use mathlib.Core.Path.{sym, ap, subst, ◌∙◌}
use Rattle.player.specs.Bounds.{PlayerOk}
use Rattle.player.specs.declared.Player.{Player}
use Rattle.program.specs.Sample.{sample_at}
use Rattle.segments.specs.Source.{Sound}
use Rattle.segments.specs.Segment.{played_by}
use Rattle.players.specs.Mix.{Sounds, lent_to}
use Rattle.players.proofs.Lending.{is-lent}
use Rattle.players.proofs.Tuning.{tuned-ok}
use Rattle.players.proofs.mix.sound_one.Goals as goal

pub play-y-requires : goal.play-y-requires
play-y-requires c = (subst PlayerOk (sym c.tune_one.ensures) (tuned-ok c.args.tune c.args.p.now c.requires.0), c.requires.1)

pub returns : goal.returns
returns c = let a = c.args in
    let x : Sounds = record { samples = a.sounds.samples.now; frames = a.sounds.frames.now; table = a.sounds.table.now } in
    let q = c.tune_one.new.p in (
      c.play-y.ensures.0
          ∙ ap (λ (s : Sound). played_by s q a.left.now a.right.now)
          (is-lent x q c.sample_at-s.result (c.sample_at-s.ensures ∙ ap (sample_at x.samples) c.unwrap_or.ensures) _ _ c.first_channel.ensures c.second_channel.ensures)
          ∙ ap (λ (y : Player). played_by (lent_to x y) y a.left.now a.right.now) c.tune_one.ensures,
      c.play-y.ensures.1,
    )
