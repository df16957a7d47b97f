-- No step's span passes 40 half taps. Assumes nothing.
use Rattle.std.proofs.Common.{◌≤◌, arith}
use lib.Ieee.{Float}
use Rattle.interp.specs.Span.{span_for}

pub half-small : (step : Float) → (span_for step).half ≤ 40
unfolding span_for
half-small step = omega arith
