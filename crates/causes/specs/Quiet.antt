-- A block in which nothing happens: when it is one. Definitions only.
use Rattle.std.specs.Prelude.{ℕ, Bool, not, List, [], ◌∷◌, eqb, Float, Option, Some, is_some}
use Rattle.program.specs.Bind.{program_ok}
use Rattle.program.specs.Valid.{every}
use Rattle.session.specs.Tests.{over_held}
use Rattle.session.specs.declared.Session.{Session}
use Rattle.events.specs.declared.SampleVoice.{SampleVoice}
use Rattle.block.specs.Next.{next_gate}
use Rattle.block.specs.declared.BlockTime.{BlockTime}
use Rattle.causes.specs.Others.{others_fit}
use Rattle.causes.specs.Tests.{live_tests, rate_fits, in_time}

-- 8, what neither the list nor a player shows
abbrev pub rest_tests : Session → SampleVoice → List Bool
rest_tests s v = every (live_tests v.voice s) ∷ rate_fits v.sample_rate ∷ not (over_held s) ∷ []

-- 8 and 9, what neither the list nor a player shows
abbrev pub ground_tests : BlockTime → List ℕ → List ℕ → ℕ → ℕ → Session → SampleVoice → List Bool
ground_tests t ws ss frames table s v =
    every (rest_tests s v) ∷ program_ok v.program ws ss frames table ∷ in_time t.offset s.event_serial ∷ []

abbrev pub quiet_tests : BlockTime → Option (List Float) → List ℕ → List ℕ → ℕ → ℕ → Session → SampleVoice → List Bool
quiet_tests t gate ws ss frames table s v =
    eqb v.players.count 0 ∷ every (ground_tests t ws ss frames table s v) ∷ others_fit (Some v.program.regions) (Some v.voice) s
    ∷ not (is_some (next_gate v.gate_prev gate 0 t.frames)) ∷ []

-- 8 and 9 pass, the voice has no player, and its gate does not turn
unfoldable pub is_quiet : BlockTime → Option (List Float) → List ℕ → List ℕ → ℕ → ℕ → Session → SampleVoice → Bool
is_quiet t gate ws ss frames table s v = every (quiet_tests t gate ws ss frames table s v)
