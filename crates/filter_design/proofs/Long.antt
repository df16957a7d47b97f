-- A region that a function owns has six places for filters and six for bands. Assumes nothing.
use mathlib.Core.Path.{◌≡◌}
use mathlib.Core.List.{List}
use lib.ListN.{length}
use mir.Val.{Val}
use denote.Laws.{Is}
use denote.Struct.Declared.{row}
use Rattle.program.specs.declared.region.Region.{Region}
use Rattle.program.specs.contracts.region.Region.{the_type}

module _ (x : Region) (vs : List Val) (p : Is (row the_type) x vs) where
  pub filters-long : length x.filters ≡ 6
  filters-long = p.1.1.1.1.1.1.1.1.1.1.1.0.1.0.1

  pub bands-long : length x.eq ≡ 6
  bands-long = p.1.1.1.1.1.1.1.1.1.1.1.1.1.0.1.0.1
