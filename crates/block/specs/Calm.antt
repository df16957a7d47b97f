-- A block without events: the players are tuned and sound to its end in one part, and then the session hears of those that ended.
-- Definitions only.
use Rattle.note.specs.declared.NoteState.{NoteState}
use Rattle.std.specs.Prelude.{ℕ, true, false, List, replicate, Float, None, Option, Some}
use Rattle.exact.specs.Single.{f0}
use Rattle.session.specs.declared.Slots.{Slots}
use Rattle.note.specs.Note.{note_of}
use Rattle.players.specs.Mix.{Sounds, Mixture, tuned_all, played_all}
use Rattle.players.specs.declared.Players.{Players}
use Rattle.players.specs.declared.Tune.{Tune}
use Rattle.gates.specs.Off.{reaped_both}
use Rattle.events.specs.declared.Both.{Both}
use Rattle.block.specs.Inputs.{Signals, input_at, bend_of}
use Rattle.block.specs.Render.{with_ended}
use Rattle.block.specs.Block.{amplified}

-- the pitch of a sounding note: this block's first frequency and bend; without a note none is set
unfoldable pub tune_of : Option NoteState → Signals → Option Tune
tune_of None x = None
tune_of (Some n) x = Some (record { note_f = note_of (input_at x.freq 0 f0) n.note_f; bend = bend_of (input_at x.bend 0 f0) })

-- all n frames of the players, tuned, under the amp input
unfoldable pub calm_part : Sounds → Option Tune → Option (List Float) → Players → ℕ → Mixture
calm_part x t amp ps n =
    let m = played_all x (tuned_all t ps) (replicate n f0) (replicate n f0) in
    record { mixed = m.mixed; left = amplified amp m.left; right = amplified amp m.right }

-- ended data are marked, finished players leave
unfoldable pub settled : Slots → Both → Both
settled e b = reaped_both (record { session = with_ended b.voice.voice e b.session; voice = b.voice })
