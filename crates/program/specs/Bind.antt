-- Binding: 01's tests 1, 2, 3 and 4 in that order, and what is bound. Definitions only.
use Rattle.std.specs.Prelude.{ℕ, ◌/◌, Bool, not, cond, ◌&&◌, List, [], ◌∷◌, ◌++◌, find, length, leb, eqb, Float, Option, Some, None, Result, Ok, Err}
use Rattle.std.specs.List.{list_all, range_with_len}
use Rattle.std.specs.Option.{option_map_or}
use Rattle.program.specs.declared.bind.BoundProgram.{BoundProgram}
use Rattle.program.specs.declared.bind.BindError.{BindError}
use Rattle.program.specs.declared.bind.BindError.TheVariants.{Counts, BadRegion, BadSample, BadTable}
use Rattle.program.specs.Region.{words_of}
use Rattle.program.specs.Valid.{every, all_finite, counts_tests, valid_region}
use Rattle.program.specs.Sample.{sample_at, shape_tests, sample_tests}

-- 392 words are a region, 4 a sample; what is left over means nothing
abbrev pub region_count : List ℕ → ℕ
region_count ws = length ws / 392

abbrev pub sample_count : List ℕ → ℕ
sample_count ss = length ss / 4

-- test 1 of region i
abbrev pub counts_in : List ℕ → ℕ → Bool
counts_in ws i = every (counts_tests (words_of ws i))

-- test 1
unfoldable pub counts_ok : List ℕ → List ℕ → Bool
counts_ok ws ss =
    every (leb (region_count ws) 256 ∷ leb (sample_count ss) 256 ∷ list_all (counts_in ws) (range_with_len 0 (region_count ws)) ∷ [])

-- test 2 of region i, where there are m samples
abbrev pub region_in : List ℕ → ℕ → ℕ → Bool
region_in ws m i = valid_region m (words_of ws i)

-- test 3 of sample j
abbrev pub sample_in : List ℕ → List Float → ℕ → Bool
sample_in ss fs j = every (sample_tests fs (sample_at ss j))

-- the same without a look at the frames, of which there are `total`
abbrev pub shape_in : List ℕ → ℕ → ℕ → Bool
shape_in ss total j = every (shape_tests total (sample_at ss j))

-- test 4
unfoldable pub table_ok : List Float → Bool
table_ok tb = eqb (length tb) 8194 && all_finite tb

-- What a call tells its caller: the bound program, or 01's number of the refusal and the values that go with it.
pub data Answer : Type 0 where
  bound : BoundProgram → Answer
  refused : ℕ → List ℕ → Answer

abbrev pub answer_of : Result BoundProgram BindError → Answer
answer_of (Ok b) = bound b
answer_of (Err Counts) = refused 1 []
answer_of (Err (BadRegion i)) = refused 2 (i ∷ [])
answer_of (Err (BadSample j)) = refused 3 (j ∷ [])
answer_of (Err BadTable) = refused 4 []

-- the two parts of that
abbrev pub error_number : BindError → ℕ
error_number Counts = 1
error_number (BadRegion i) = 2
error_number (BadSample j) = 3
error_number BadTable = 4

abbrev pub error_part : BindError → Option ℕ
error_part Counts = None
error_part (BadRegion i) = Some i
error_part (BadSample j) = Some j
error_part BadTable = None

abbrev pub bound_of : List ℕ → List ℕ → List Float → BoundProgram
bound_of ws ss fs = record { regions = region_count ws; samples = sample_count ss; frames = length fs }

-- the first region that test 2 refuses, and the first sample that test 3 refuses
abbrev pub bad_region : List ℕ → List ℕ → Option ℕ
bad_region ws ss = find (λ i. not (region_in ws (sample_count ss) i)) (range_with_len 0 (region_count ws))

abbrev pub bad_sample : List ℕ → List Float → Option ℕ
bad_sample ss fs = find (λ j. not (sample_in ss fs j)) (range_with_len 0 (sample_count ss))

unfoldable pub binding : List ℕ → List ℕ → List Float → List Float → Answer
binding ws ss fs tb =
    cond (counts_ok ws ss)
    (option_map_or (λ i. refused 2 (i ∷ [])) (bad_region ws ss)
    (option_map_or (λ j. refused 3 (j ∷ [])) (bad_sample ss fs)
    (cond (table_ok tb) (bound (bound_of ws ss fs)) (refused 4 []))))
    (refused 1 [])

-- n regions and m samples are lent, as many as are bound, and no fewer frames and entries of the table
abbrev pub size_tests : BoundProgram → ℕ → ℕ → ℕ → ℕ → List Bool
size_tests b n m frames table = eqb n b.regions ∷ eqb m b.samples ∷ leb b.frames frames ∷ leb 8194 table ∷ []

-- The program's share of 01's test 8: the bound program is what binding makes of the regions and samples, as far as their words show it, and
-- frames and table are not lent shorter than bound.
abbrev pub program_tests : BoundProgram → List ℕ → List ℕ → ℕ → ℕ → List Bool
program_tests b ws ss frames table =
    size_tests b (region_count ws) (sample_count ss) frames table
    ++ (counts_ok ws ss ∷ list_all (region_in ws (sample_count ss)) (range_with_len 0 (region_count ws))
    ∷ list_all (shape_in ss b.frames) (range_with_len 0 (sample_count ss)) ∷ [])

unfoldable pub program_ok : BoundProgram → List ℕ → List ℕ → ℕ → ℕ → Bool
program_ok b ws ss frames table = every (program_tests b ws ss frames table)
