-- Lookup in a bound program: the Rust's `regions_for_key`, `sample_of` and `has_release_for`. Definitions only.
use Rattle.program.specs.declared.sample.Sample.{Sample}
use Rattle.std.specs.Prelude.{ℕ, ◌-◌, min, Bool, cond, ◌&&◌, List, filter, slice_get, ltb, leb, None, Option, Some, option_and_then}
use Rattle.std.specs.List.{list_any, range_with_len}
use Rattle.program.specs.Region.{region_at, is_release}
use Rattle.program.specs.Sample.{sample_at}
use Rattle.program.specs.Bind.{sample_count}

-- region i's key window holds the key; a key above 127 counts as 127
abbrev pub holds_key : List ℕ → ℕ → ℕ → Bool
holds_key ws key i = leb (region_at ws i).window.lokey (min key 127) && leb (min key 127) (region_at ws i).window.hikey

-- of n regions those whose key window holds the key, in program order; and those of them from i on
unfoldable pub regions_for_key : List ℕ → ℕ → ℕ → List ℕ
regions_for_key ws n key = filter (holds_key ws key) (range_with_len 0 n)

unfoldable pub regions_from : List ℕ → ℕ → ℕ → ℕ → List ℕ
regions_from ws n key i = filter (holds_key ws key) (range_with_len i (n - i))

abbrev pub first_of : List ℕ → Option ℕ
first_of is = slice_get is 0

-- region i is a release region whose velocity window holds the velocity
abbrev pub releases : List ℕ → ℕ → ℕ → Bool
releases ws vel i =
    is_release (region_at ws i).chosen.trigger && (leb (region_at ws i).window.lovel vel && leb vel (region_at ws i).window.hivel)

unfoldable pub has_release_for : List ℕ → ℕ → ℕ → ℕ → Bool
has_release_for ws n key vel = list_any (releases ws vel) (regions_for_key ws n key)

-- the sample that region i reads; silence, or an index outside the table, reads none
unfoldable pub sample_of_region : List ℕ → List ℕ → ℕ → Option Sample
sample_of_region ws ss i =
    option_and_then (λ j. cond (ltb j (sample_count ss)) (Some (sample_at ss j)) None) (region_at ws i).sample
