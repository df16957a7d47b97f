use mathlib.Core.Path.{◌≡◌, sym}
use Rattle.player.specs.Start.{started_player}
use Rattle.player.proofs.Within.{turned}
use Rattle.player.proofs.start.start.Goals as goal

pub returns : goal.returns
unfolding started_player
returns c = rw (c.set_pitch-cold.ensures, c.cold_at-base.ensures, c.pan_matrix-matrix.ensures, c.width_of.ensures, c.gain_of-gain.ensures, c.hot_at-hot.ensures, sym (turned _ _ c.is_none.ensures), c.sample_for-pcm.ensures, c.build_filters-f.ensures, c.named.ensures, c.is_note_on.ensures)
