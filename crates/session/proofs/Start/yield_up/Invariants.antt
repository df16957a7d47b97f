use Rattle.std.proofs.Common.{◌≡◌, ◌-◌}
use Rattle.session.specs.Rules.{yield_up}
use Rattle.session.proofs.Start.yield_up.Given as goal

abbrev pub invariant-loop-round : goal.invariant-loop-round
invariant-loop-round l = yield_up l.self (l.rounds - l.round) l.records ≡ yield_up l.self l.rounds l.initial.records
