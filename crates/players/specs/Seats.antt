-- A voice's players: 32 places, of which the first ones are in use, in the order of their starts. Definitions only.
use Rattle.std.specs.Prelude.{ℕ, ◌+◌, ◌≤◌, ◌<◌, ◌≡◌, Bool, true, false, not, List, map, length, take, set, get_or, replicate, pos, Float, None, filter}
use Rattle.exact.specs.Single.{f0}
use Rattle.envelope.specs.declared.EgState.TheVariants.{Done}
use Rattle.envelope.specs.declared.Env.{Env}
use Rattle.envelope.specs.Envelope.{is_done}
use Rattle.filter.specs.declared.FilterShape.TheVariants.{Off}
use Rattle.interp.specs.Position.{first}
use Rattle.interp.specs.declared.Interp.TheVariants.{Linear}
use Rattle.program.specs.declared.region.LoopMode.TheVariants.{NoLoop}
use Rattle.program.specs.declared.region.OffMode.TheVariants.{Fast}
use Rattle.session.specs.Lists.{used_of, packed}
use Rattle.session.specs.declared.Slots.{Slots}
use Rattle.player.specs.declared.Cold.{Cold}
use Rattle.player.specs.declared.Player.{Player}
use Rattle.player.specs.Bounds.{PlayerOk}
use Rattle.player.specs.Pitch.{pitched}
use Rattle.players.specs.declared.Players.{Players}
use Rattle.players.specs.declared.Reaped.{Reaped}

-- the players in use, in order
abbrev pub sounding : Players → List Player
sounding ps = take (used_of 32 ps.count) ps.players

-- these players in front, and each place behind them as it was
abbrev pub reseat : List Player → Players → Players
reseat qs ps = record { players = packed qs ps.players; count = length qs }

abbrev pub no_env : Env
no_env = record {
  state = Done;
  value = f0;
  start = f0;
  delay = pos 0;
  attack_step = f0;
  hold = pos 0;
  decay_rate = f0;
  sustain = f0;
  release_rate = f0;
  transition_delta = f0;
  free_running = false;
  sample_rate = f0;
}

abbrev pub no_cold : Cold
no_cold = record {
  step = first;
  span = record { half = 0; fc = f0 };
  last = 0;
  interp = Linear;
  stereo = false;
  silent = true;
  lp = None;
  loop_mode = NoLoop;
  n_filters = 0;
  gain = f0;
  matrix = record { ll = f0; rl = f0; lr = f0; rr = f0 };
  rate_ratio = first;
  base_cents = f0;
  keytrack = f0;
  keycenter = f0;
  bend_up = f0;
  bend_down = f0;
  off_mode = Fast;
  off_time = f0;
  release_time = f0;
}

-- a place that nothing has used
unfoldable pub no_player : Player
no_player = record {
  hot = record { env = no_env; pos = first; data_delay = pos 0; data_ended = false; offed = false };
  cold = no_cold;
  slots = replicate 6 Off;
  states = replicate 72 f0;
  slot = 0;
  region = 0;
  sample = None;
  on_note = false;
}

-- no player
unfoldable pub no_players : Players
no_players = record { players = replicate 32 no_player; count = 0 }

-- what the segments of all players lean on
pub record PlayersOk (ps : Players) : Type 0 where
  pub few : ps.count ≤ 32
  pub size : length ps.players ≡ 32
  pub each : (k : ℕ) → k < ps.count → PlayerOk (get_or ps.players k no_player)

-- one player more, behind the others
abbrev pub seated : Player → Players → Players
seated p ps = record { players = set ps.players ps.count p; count = ps.count + 1 }

-- slot numbers, at most 32 of them, in front; the places behind them 0
abbrev pub slots_from : List ℕ → Slots
slots_from ks = record { slots = packed (take 32 ks) (replicate 32 0); count = length (take 32 ks) }

-- one slot more, behind the others
abbrev pub slot_pushed : ℕ → Slots → Slots
slot_pushed k e = record { slots = set e.slots e.count k; count = e.count + 1 }

abbrev pub slot_numbers : List Player → List ℕ
slot_numbers qs = map (λ p. p.slot) qs

abbrev pub with_cold : Cold → Player → Player
with_cold c p = record {
  hot = p.hot;
  cold = c;
  slots = p.slots;
  states = p.states;
  slot = p.slot;
  region = p.region;
  sample = p.sample;
  on_note = p.on_note;
}

-- a player at another note and bend
abbrev pub retuned : Float → Float → Player → Player
retuned note bend p = with_cold (pitched p.cold note bend) p

unfoldable pub retuned_all : Float → Float → Players → Players
retuned_all note bend ps = reseat (map (retuned note bend) (sounding ps)) ps

-- its envelope is done
abbrev pub is_over : Player → Bool
is_over p = is_done p.hot.env.state

-- the players whose envelope is done are gone; the others keep their order. Beside them the slots of those that are gone
unfoldable pub reaped : Players → Reaped
reaped ps = record {
  players = reseat (filter (λ p. not (is_over p)) (sounding ps)) ps;
  gone = slots_from (slot_numbers (filter is_over (sounding ps)));
}
