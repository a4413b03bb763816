use Rattle.cal_policy.proofs.Common.{Some, act_in_place, setting_in, Begun, IsReady, Stands}
use Rattle.cal_policy.proofs.PassLemmas.PartSoFar.{Reached}
use Rattle.cal_policy.proofs.pass.Pass.take_turn.Given as goal

abbrev pub invariant-loop : goal.invariant-loop
invariant-loop l = record {
  acts : (h : Begun) → let s = setting_in l.self h in Stands l.fn.board s l.fn.out → Reached (λ made act. act_in_place s made (Some l.task)) s l.fn.out l.out l.board l.counter;
  ready : IsReady l.self.config.now l.board;
}
