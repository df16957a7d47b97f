use Rattle.session.proofs.Voices.{open-new, open-not}
use Rattle.std.proofs.Common.{sym, ◌∙◌}
use Rattle.session.proofs.new_voice.Goals as goal

pub returns-then-not-has_place : goal.returns-then-not-has_place
returns-then-not-has_place c = open-not c.args.s _ c.has_place.ensures c.if-not-has_place.true

pub push_next-requires : goal.push_next-requires
push_next-requires c = sym c.has_place.ensures ∙ c.if-not-has_place.false

pub returns : goal.returns
returns c = open-new c.args.s _ c.has_place.ensures c.if-not-has_place.false _ c.push_next.ensures
