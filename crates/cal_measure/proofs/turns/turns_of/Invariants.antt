use Rattle.cal_measure.proofs.Common.{◌≡◌, take, served_since, turns_of}
use Rattle.cal_measure.proofs.turns.turns_of.Given as goal

abbrev pub invariant-loop-entry : goal.invariant-loop-entry
invariant-loop-entry l = record {
  turns : l.turns.items ≡ turns_of (take l.entry-index l.journal);
  served : l.served ≡ served_since (take l.entry-index l.journal);
}
