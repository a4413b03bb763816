use Rattle.cal_replay.proofs.Legal.{is_run}
use Rattle.cal_replay.proofs.laws.replay_of_policy_is_run.Goals as goal

pub returns : goal.returns
returns c = is_run c.fitting_looks_are_publications.ensures c.linear_is_legal_by.ensures
