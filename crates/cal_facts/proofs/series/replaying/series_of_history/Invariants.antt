use Rattle.cal_facts.proofs.Common.{◌≡◌, take, IsReady, IsStateAfter, series_of}
use Rattle.cal_facts.proofs.series.replaying.series_of_history.Given as goal

abbrev pub invariant-loop-pass : goal.invariant-loop-pass
invariant-loop-pass l = record {
  ready : IsReady l.config l.board;
  state : IsStateAfter l.board (take l.pass l.history);
  points : l.points.items ≡ series_of l.config (take l.pass l.history);
}
