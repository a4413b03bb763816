use Rattle.cal_facts.proofs.Common.{take, moves_of, Gathers}
use Rattle.cal_facts.proofs.spans.facts.SpanFacts.of_history.Given as goal

abbrev pub invariant-loop-pass : goal.invariant-loop-pass
invariant-loop-pass l = Gathers l.gathering (moves_of (take l.pass l.history))
