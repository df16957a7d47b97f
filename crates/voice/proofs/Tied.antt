-- The promises that a run of the port cites are the functions' own, as the check reads their contracts. Assumes nothing.
use Rattle.std.specs.Prelude.{Result}
use mathlib.Core.Path.{◌≡◌}
use mathlib.Core.Bool.{Bool}
use lib.Ieee.{Float}
use contract.Lifetimes.{Lfts}
use denote.Triple.Clauses.{AtExit}
use borrow.Fn.Kinds.{ended_of, Dens}
use Rattle.program.specs.declared.bind.BoundProgram.{BoundProgram}
use Rattle.session.specs.declared.Session.{Session}
use Rattle.events.specs.declared.SampleVoice.{SampleVoice}
use Rattle.block.specs.Inputs.{Lent, signals_of}
use Rattle.voice.specs.Calls.{number_of, BlockLeft, made, blocked, Program, asked, was_reset, was_closed}
use Rattle.voice.specs.Numbers.{make_number, block_number, ask_number, end_number}
use Rattle.voice.specs.declared.Called.{Called}
use Rattle.voice.specs.declared.Refusal.{Refusal}
use Rattle.voice.specs.declared.Closed.{Closed}
use Rattle.voice.proofs.make.Reads as make-reads
use Rattle.voice.proofs.make.Kinds as make-kinds
use Rattle.voice.proofs.block.Reads as block_reads
use Rattle.voice.proofs.block.Kinds as block-kinds
use Rattle.voice.proofs.is_finished.Reads as ask-reads
use Rattle.voice.proofs.is_finished.Kinds as ask-kinds
use Rattle.voice.proofs.reset.Reads as reset-reads
use Rattle.voice.proofs.reset.Kinds as reset-kinds
use Rattle.voice.proofs.close.Reads as close-reads
use Rattle.voice.proofs.close.Kinds as close-kinds

pub make-says : (κs : Lfts 0) (s : Session) (rate : Float) (b : BoundProgram) (r : Called) (x : AtExit (ended_of 0 make-kinds.ps make-kinds.r) κs)
    → make-reads.Post κs (s, (rate, (b, tt))) r x → (r ≡ made rate b s) × (number_of r.answer ≡ make_number rate s)
make-says κs s rate b r x p = p

pub reset-says : (κs : Lfts 0) (s : Session) (v : SampleVoice) (r : Called) (x : AtExit (ended_of 0 reset-kinds.ps reset-kinds.r) κs)
    → reset-reads.Post κs (s, (v, tt)) r x → (r ≡ was_reset s v) × (number_of r.answer ≡ end_number s v)
reset-says κs s v r x p = p

pub close-says : (κs : Lfts 0) (s : Session) (v : SampleVoice) (r : Closed) (x : AtExit (ended_of 0 close-kinds.ps close-kinds.r) κs)
    → close-reads.Post κs (s, (v, tt)) r x → (r ≡ was_closed s v) × (number_of r.answer ≡ end_number s v)
close-says κs s v r x p = p

pub ask-says : (κs : Lfts 4) (d : Dens κs ask-kinds.ps) (r : Result Bool Refusal) (x : AtExit (ended_of 4 ask-kinds.ps ask-kinds.r) κs) → ask-reads.Post κs d r x
    → let k : Program = record { words = d.1.1.0.now; samples = d.1.1.1.0.now; pcm = d.1.1.1.1.0.now; table = d.1.1.1.1.1.0.now } in (r ≡ asked k d.0 d.1.0) × (number_of r ≡ ask_number k d.0 d.1.0)
ask-says κs d r x p = p

pub block-says : (κs : Lfts 7) (d : Dens κs block-kinds.ps) (r : Called) (x : AtExit (ended_of 7 block-kinds.ps block-kinds.r) κs) → block_reads.Post κs d r x
    → let l : Lent = record { time = d.1.1.0; words = d.1.1.1.1.0.now; samples = d.1.1.1.1.1.0.now; pcm = d.1.1.1.1.1.1.0.now; table = d.1.1.1.1.1.1.1.0.now; inputs = signals_of d.1.1.1.0; left = d.1.1.1.1.1.1.1.1.0.now; right = d.1.1.1.1.1.1.1.1.1.0.now } in
    (◌≡◌ {A = BlockLeft} (record { called = r; left = x.1.1.1.1.1.1.1.1.0.now; right = x.1.1.1.1.1.1.1.1.1.0.now }) (blocked l d.0 d.1.0)) × (number_of r.answer ≡ block_number l d.0 d.1.0)
block-says κs d r x p = p
