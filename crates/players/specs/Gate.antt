-- What a falling gate and an off mark do to a voice's players. Definitions only.
use Rattle.std.specs.List.{list_any}
use Rattle.std.specs.Prelude.{ℕ, Bool, true, false, not, ◌&&◌, cond, List, [], ◌∷◌, pos, eqb, Float}
use Rattle.std.specs.Int.Signed.{lt_z}
use Rattle.envelope.specs.declared.Env.{Env}
use Rattle.envelope.specs.declared.EgState.TheVariants.{Done}
use Rattle.envelope.specs.Envelope.{delay_left, released, release_timed, at_state}
use Rattle.program.specs.declared.region.LoopMode.{LoopMode}
use Rattle.program.specs.declared.region.LoopMode.TheVariants.{NoLoop, OneShot, Continuous, Sustain}
use Rattle.program.specs.declared.region.OffMode.{OffMode}
use Rattle.program.specs.declared.region.OffMode.TheVariants.{Fast, Normal, Time}
use Rattle.player.specs.declared.Cold.{Cold}
use Rattle.player.specs.declared.Player.{Player}
use Rattle.segments.specs.Segment.{off_fast}
use Rattle.session.specs.Lists.{change_where, change_first}
use Rattle.players.specs.declared.Players.{Players}
use Rattle.players.specs.declared.Released.{Released}
use Rattle.players.specs.declared.Offed.{Offed}
use Rattle.players.specs.declared.OffMark.{OffMark}
use Rattle.players.specs.declared.OffMark.TheVariants.{NoPlayer, Ignored, Turned}
use Rattle.players.specs.Seats.{sounding, reseat}

-- its envelope has delay left
abbrev pub delays : Player → Bool
delays p = lt_z (pos 0) (delay_left p.hot.env)

-- a player that is ended in its delay, and one that is released otherwise
unfoldable pub ended_env : Env → Env
ended_env e = cond (lt_z (pos 0) (delay_left e)) (at_state Done e) (released e)

abbrev pub with_envelope : Env → Bool → Player → Player
with_envelope e off p = record {
  hot = record { env = e; pos = p.hot.pos; data_delay = p.hot.data_delay; data_ended = p.hot.data_ended; offed = off };
  cold = p.cold;
  slots = p.slots;
  states = p.states;
  slot = p.slot;
  region = p.region;
  sample = p.sample;
  on_note = p.on_note;
}

abbrev pub plays_on : LoopMode → Bool
plays_on NoLoop = false
plays_on OneShot = true
plays_on Continuous = false
plays_on Sustain = false

-- a note-off reaches players of a note-on, but no one-shot
unfoldable pub hears_gate : Player → Bool
hears_gate p = p.on_note && not (plays_on p.cold.loop_mode)

abbrev pub let_go : Player → Player
let_go p = with_envelope (ended_env p.hot.env) p.hot.offed p

-- a falling gate: each player that hears it is released, or ended in its delay; and whether one was ended so
unfoldable pub released_all : Players → Released
released_all ps = record {
  players = reseat (change_where hears_gate let_go (sounding ps)) ps;
  killed = list_any (λ p. hears_gate p && delays p) (sounding ps);
}

-- the release that its region's off_mode gives
abbrev pub off_time_of : OffMode → Cold → Float
off_time_of Fast c = off_fast
off_time_of Normal c = c.release_time
off_time_of Time c = c.off_time

-- an off mark acts: off, with the release of its off mode, begun now, or ended in its delay
unfoldable pub turned_off : Player → Player
turned_off p = with_envelope (ended_env (release_timed (off_time_of p.cold.off_mode p.cold) p.hot.env)) true p

abbrev pub in_slot : ℕ → Player → Bool
in_slot k p = eqb p.slot k

-- on a player that is off already nothing acts
abbrev pub off_once : Player → Player
off_once p = cond p.hot.offed p (turned_off p)

-- what an off mark does on a player; and on the first one in slot k
abbrev pub mark_on : Player → OffMark
mark_on x = cond x.hot.offed Ignored (Turned x.on_note)

abbrev pub met_in : ℕ → List Player → OffMark
met_in k [] = NoPlayer
met_in k (x ∷ xs) = cond (in_slot k x) (mark_on x) (met_in k xs)

-- whether that one was off already; and whether it was not and belongs to a note-on
abbrev pub ignored : OffMark → Bool
ignored NoPlayer = false
ignored Ignored = true
ignored (Turned on_note) = false

abbrev pub fires : OffMark → Bool
fires NoPlayer = false
fires Ignored = false
fires (Turned on_note) = on_note

-- The off mark of slot k acts on the first player in that slot
unfoldable pub offed_slot : ℕ → Players → Offed
offed_slot k ps = record {
  players = reseat (change_first (in_slot k) off_once (sounding ps)) ps;
  mark = met_in k (sounding ps);
}
