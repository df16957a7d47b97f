-- What 01's test 8 asks of a player, as far as its frames lean on it. Definitions only.
use Rattle.player.specs.declared.LoopRt.{LoopRt}
use Rattle.std.specs.Prelude.{◌≡◌, false, ◌+◌, ◌-◌, ◌≤◌, ◌<◌, T, pos, Float, None, Option, Some}
use Rattle.std.specs.Float.{fin, binary64}
use Rattle.std.specs.Float.Ieee.{le, of_bits}
use Rattle.filter.specs.Filter.{AllStages}
use Rattle.interp.specs.Position.{Position, first, double}
use Rattle.player.specs.declared.Cold.{Cold}
use Rattle.player.specs.declared.Player.{Player}

-- 4096.0
abbrev pub most : Float
most = of_bits binary64 0x40b0_0000_0000_0000

-- from 0 to 4,096
pub record Step (s : Float) : Type 0 where
  pub low : T (le first s)
  pub high : T (le s most)

-- the end is below the frame count, which is at most 4,294,967,295, and not below the start; the size is end + 1 - start
abbrev pub LoopOk : Option LoopRt → Type 0
LoopOk None = Unit {0}
LoopOk (Some l) = (l.start ≤ l.end) × (l.end < 4294967295) × (l.size ≡ double (l.end + 1 - l.start))

-- 4294967296.0
abbrev pub bound : Float
bound = fin false 1 (pos 32)

-- a position in a loop is at most that
abbrev pub Wrapped : Option LoopRt → Float → Type 0
Wrapped None p = Unit {0}
Wrapped (Some l) p = T (le p bound)

pub record ColdOk (c : Cold) : Type 0 where
  pub step : Step c.step
  pub half : c.span.half ≤ 40
  -- below the frame count
  pub last : c.last < 4294967295
  pub lp : LoopOk c.lp
  pub filters : c.n_filters ≤ 6

pub record PlayerOk (p : Player) : Type 0 where
  pub cold : ColdOk p.cold
  pub stages : AllStages p.slots
  pub position : Position p.hot.pos
