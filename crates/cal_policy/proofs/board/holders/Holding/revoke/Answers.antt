use Rattle.std.proofs.Common.{rules}
use Rattle.cal_policy.proofs.BoardLemmas.Agreement.{Holding_revoke, Holding_revoke_none}
use Rattle.cal_policy.proofs.board.holders.Holding.revoke.Goals as goal

pub returns-in-None-clause-agrees : goal.returns-in-None-clause-agrees
returns-in-None-clause-agrees c = λ x s. Holding_revoke_none c.args.self.now x _ _ (search rules) c.requires.core s c.in-None.is

pub returns-in-Some-clause-agrees : goal.returns-in-Some-clause-agrees
returns-in-Some-clause-agrees c = λ x s. Holding_revoke c.args.self.now x _ _ _ (search rules) (search rules) c.requires.core (search rules) s c.in-Some.is _ c.one_more-number.ensures
