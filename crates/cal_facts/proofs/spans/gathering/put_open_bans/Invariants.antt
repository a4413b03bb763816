use Rattle.cal_facts.proofs.Common.{◌≡◌, ◌++◌, List, Move, open_bans}
use Rattle.cal_measure.specs.Spans.Bans.{TracksBans}
use Rattle.cal_facts.proofs.spans.gathering.put_open_bans.Given as goal

abbrev pub invariant-loop-core : goal.invariant-loop-core
invariant-loop-core l = (moves : List Move) → TracksBans l.bans moves → l.lifted.items ≡ l.initial.lifted.items ++ open_bans moves l.core
