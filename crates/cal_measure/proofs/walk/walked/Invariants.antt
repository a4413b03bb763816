use Rattle.cal_measure.proofs.Common.{take, IsReady, IsStateAfter, IsOpenFor, IsWalkOf}
use Rattle.cal_measure.proofs.walk.walked.Given as goal

abbrev pub invariant-loop-pass : goal.invariant-loop-pass
invariant-loop-pass l = record {
  ready : IsReady l.config l.state;
  state : IsStateAfter l.state (take l.pass l.history);
  is_open : IsOpenFor l.config l.walk;
  walk : IsWalkOf l.config (take l.pass l.history) l.walk;
}
