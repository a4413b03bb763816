use Rattle.cal_policy.proofs.Common.{◌≡◌, ◌++◌, ◌≤◌, length, NO_TURN, grants, setting_in, Begun, IsReady, Stands}
use Rattle.cal_policy.specs.declared.history.action_list.TheConstants.{MOST_ACTIONS}
use Rattle.cal_policy.proofs.AssuredLemmas.NextTurn.{HasCome}
use Rattle.cal_policy.proofs.pass.Pass.grant_in_turn.Given as goal

abbrev pub invariant-loop : goal.invariant-loop
invariant-loop l = record {
  acts : (h : Begun) → let s = setting_in l.self h in length (l.fn.out ++ grants s l.fn.out) ≤ MOST_ACTIONS → Stands l.fn.board s l.fn.out → HasCome s l.fn.out l.out l.board NO_TURN l.turns l.counter;
  ready : IsReady l.self.config.now l.board;
  all : length l.turns ≡ 16;
}
