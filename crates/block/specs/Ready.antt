-- What a block leans on, as plain facts: the tests of the call give them, and each step keeps them. Definitions only.
use Rattle.std.specs.Prelude.{ℕ, ◌≤◌, ◌<◌, ◌^◌, ◌≡◌, List, length, Float, Option, IfSome}
use Rattle.players.specs.Seats.{PlayersOk}
use Rattle.events.specs.Voice.{Bindable}
use Rattle.events.specs.declared.SampleVoice.{SampleVoice}
use Rattle.session.specs.declared.Offs.{Offs}
use Rattle.block.specs.declared.Playing.{Playing}
use Rattle.block.specs.Inputs.{Lent, Cues}

-- of a voice under a program's words
pub record VoiceOk (ws : List ℕ) (v : SampleVoice) : Type 0 where
  pub players : PlayersOk v.players
  pub bindable : Bindable ws
  pub regions : v.program.regions ≤ 256

-- of off times collected
pub record OffsOk (q : Offs) : Type 0 where
  pub few : q.count ≤ 32
  pub size : length q.offs ≡ 32

-- of a block under way
pub record PlayingOk (ws : List ℕ) (p : Playing) : Type 0 where
  pub voice : VoiceOk ws p.voice
  pub offs : OffsOk p.offs

-- a connected input is as long as the block
abbrev pub Covers : Option (List Float) → ℕ → Type 0
Covers input n = IfSome input (λ (xs : List Float). n ≤ length xs)

-- of what the events and frames read
pub record CuesOk (c : Cues) : Type 0 where
  pub some : 0 < c.time.frames
  pub most : c.time.frames ≤ 128
  pub offset : c.time.offset ≤ 2 ^ 63
  pub table : length c.table ≡ 8194
  pub freq : Covers c.inputs.freq c.time.frames
  pub gate : Covers c.inputs.gate c.time.frames
  pub vel : Covers c.inputs.vel c.time.frames
  pub seed : Covers c.inputs.seed c.time.frames
  pub quality : Covers c.inputs.quality c.time.frames

-- of all that the block is lent, and of its voice
pub record Ready (l : Lent) (v : SampleVoice) : Type 0 where
  pub voice : VoiceOk l.words v
  pub some : 0 < l.time.frames
  pub most : l.time.frames ≤ 128
  pub offset : l.time.offset ≤ 2 ^ 63
  pub table : 8194 ≤ length l.table
  pub freq : Covers l.inputs.freq l.time.frames
  pub gate : Covers l.inputs.gate l.time.frames
  pub vel : Covers l.inputs.vel l.time.frames
  pub amp : Covers l.inputs.amp l.time.frames
  pub seed : Covers l.inputs.seed l.time.frames
  pub bend : Covers l.inputs.bend l.time.frames
  pub quality : Covers l.inputs.quality l.time.frames
  pub left : length l.left ≡ l.time.frames
  pub right : length l.right ≡ l.time.frames
