use Rattle.cal_paced.proofs.Common.{sym, ◌∙◌, false≢true}
use Rattle.cal_paced.proofs.rounds.make_turns.Goals as goal

pub whole_turns-requires-clause-nothing : goal.whole_turns-requires-clause-nothing
whole_turns-requires-clause-nothing g c = c.requires.nothing (c.slows_nobody.ensures.0 c.if-slows_nobody.true)

pub returns-then-slows_nobody-clause-nothing : goal.returns-then-slows_nobody-clause-nothing
returns-then-slows_nobody-clause-nothing g c nobody = c.whole_turns.ensures.nothing

pub returns-then-slows_nobody-clause-shares : goal.returns-then-slows_nobody-clause-shares
returns-then-slows_nobody-clause-shares g c = c.whole_turns.ensures.shares c.args.plan.now (c.slows_nobody.ensures.0 c.if-slows_nobody.true)

pub returns-clause-nothing : goal.returns-clause-nothing
returns-clause-nothing g c nobody = absurd (false≢true (sym c.if-slows_nobody.false ∙ c.slows_nobody.ensures.1 nobody))
