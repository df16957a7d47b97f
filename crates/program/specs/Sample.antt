-- A program's samples: four words each, and their frames. Definitions only.
use Rattle.std.specs.Prelude.{ℕ, ◌+◌, ◌*◌, Bool, not, cond, List, [], ◌∷◌, length, take, drop, ltb, leb, Float}
use Rattle.std.specs.Float.Ieee.{le}
use Rattle.program.specs.declared.sample.Sample.{Sample}
use Rattle.program.specs.Region.{float_of, word}
use Rattle.std.specs.Float.{float_is_finite}
use Rattle.program.specs.Valid.{every, all_finite, not_above}

-- the sample whose words begin at `at`
abbrev pub sample_of : List ℕ → ℕ → Sample
sample_of ss at = record { rate = float_of (word ss at); channels = word ss (at + 1); frames = word ss (at + 2); start = word ss (at + 3) }

-- sample j; where there are fewer, every word counts as 0
unfoldable pub sample_at : List ℕ → ℕ → Sample
sample_at ss j = cond (leb (j * 4 + 4) (length ss)) (sample_of ss (j * 4)) (record { rate = float_of 0; channels = 0; frames = 0; start = 0 })

-- a positive finite rate, as `SamplePcm::new` asks, and at most 01's 768,000
abbrev pub rate_tests : Float → List Bool
rate_tests x = float_is_finite x ∷ not (le x (float_of 0)) ∷ not_above (float_of 0x493b_8000) x ∷ []

-- What `SamplePcm::new` asks without looking at a frame, 01's limits on rate and frames, and that the frames are among those lent, of which
-- there are `total`. The second channel's frames follow the first's.
abbrev pub shape_tests : ℕ → Sample → List Bool
shape_tests total s =
    ltb 0 s.channels ∷ leb s.channels 2 ∷ every (rate_tests s.rate) ∷ ltb 0 s.frames ∷ leb s.frames 2147483647 ∷ leb (s.start + s.channels * s.frames) total ∷ []

-- the sample's own frames
abbrev pub frames_of : List Float → Sample → List Float
frames_of fs s = take (s.channels * s.frames) (drop s.start fs)

-- 01's third test of one sample
abbrev pub sample_tests : List Float → Sample → List Bool
sample_tests fs s = every (shape_tests (length fs) s) ∷ all_finite (frames_of fs s) ∷ []
