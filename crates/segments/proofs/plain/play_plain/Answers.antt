use Rattle.segments.proofs.plain.play_plain.Goals as goal

pub play_silent-requires : goal.play_silent-requires
play_silent-requires c = (c.requires.1, c.requires.2, c.requires.3)

pub returns-then-c : goal.returns-then-c
returns-then-c c = c.play_silent.ensures _ _

pub returns : goal.returns
returns c = c.play_stored.ensures
