-- The tests of 8 and 9 as a block asks them that is not quiet. Definitions only.
use Rattle.std.specs.Prelude.{ℕ, Bool, not, ◌&&◌, List, [], ◌∷◌}
use Rattle.program.specs.Valid.{every}
use Rattle.players.specs.Seats.{sounding, slot_numbers}
use Rattle.player_checks.specs.Sound.{players_fit, samples_fit}
use Rattle.session.specs.declared.Session.{Session}
use Rattle.events.specs.declared.SampleVoice.{SampleVoice}
use Rattle.block.specs.declared.BlockTime.{BlockTime}
use Rattle.causes.specs.Others.{list_fits}
use Rattle.causes.specs.Quiet.{ground_tests}
use Rattle.causes.specs.Tests.{over_players}

abbrev pub look_tests : BlockTime → List ℕ → List ℕ → ℕ → ℕ → Session → SampleVoice → List Bool
look_tests t ws ss frames table s v =
    every (ground_tests t ws ss frames table s v) ∷ not (over_players v.players)
    ∷ (players_fit v.program v.players && samples_fit ss v.players)
    ∷ list_fits v.program.regions v.voice (slot_numbers (sounding v.players)) s ∷ []

-- 8 and 9 pass
unfoldable pub look_fits : BlockTime → List ℕ → List ℕ → ℕ → ℕ → Session → SampleVoice → Bool
look_fits t ws ss frames table s v = every (look_tests t ws ss frames table s v)
