use Rattle.causes.specs.Others.{IsPlace}
use Rattle.causes.proofs.Tallies.{Tallied}
use Rattle.causes.proofs.tally.others_fit.Given as goal

abbrev pub invariant-loop-r : goal.invariant-loop-r
invariant-loop-r l = record { tallied : Tallied l.regions l.own l.ids l.r-items l.r-index l.counts; place : IsPlace l.ids l.last }
