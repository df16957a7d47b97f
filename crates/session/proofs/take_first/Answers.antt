use Rattle.std.proofs.Common.{◌∙◌}
use Rattle.session.proofs.OffTimes.{took-none, none-taken, took_one, one-taken}
use Rattle.session.proofs.take_first.Goals as goal

pub returns-in_err-k-clause-taken : goal.returns-in_err-k-clause-taken
returns-in_err-k-clause-taken c = took-none c.args.voice _ _ c.first_waiting.ensures c.in_err-k.was

pub returns-in_err-k-clause-first : goal.returns-in_err-k-clause-first
returns-in_err-k-clause-first c = c.from_residual.ensures ∙ none-taken c.args.voice _ _ c.first_waiting.ensures c.in_err-k.was

pub returns-clause-taken : goal.returns-clause-taken
returns-clause-taken c = took_one c.args.voice _ _ c.first_waiting.ensures _ c.in_ok-k.was _ _ c.collected.ensures

pub returns-clause-first : goal.returns-clause-first
returns-clause-first c = one-taken c.args.voice _ _ c.first_waiting.ensures _ c.in_ok-k.was _ _ c.off_for.ensures
