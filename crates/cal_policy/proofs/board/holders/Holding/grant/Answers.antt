use Rattle.std.proofs.Common.{rules}
use Rattle.cal_policy.proofs.BoardLemmas.Agreement.{Holding_grant}
use Rattle.cal_policy.proofs.board.holders.Holding.grant.Goals as goal

pub returns-clause-agrees : goal.returns-clause-agrees
returns-clause-agrees c = λ x class s. Holding_grant c.args.self.now x _ _ class (search rules) (search rules) (search rules) c.requires.core c.requires.thread s _ c.one_more-number.ensures
