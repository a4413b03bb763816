use Rattle.cal_facts.proofs.Common.{◌≡◌, works_by}
use Rattle.cal_measure.specs.Joined.{joined_below}
use Rattle.cal_facts.proofs.turns.working.works_below.Given as goal

abbrev pub invariant-loop-thread : goal.invariant-loop-thread
invariant-loop-thread l = l.works.items ≡ joined_below (works_by l.last l.journals l.left) l.thread
