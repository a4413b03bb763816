use Rattle.cal_kthread.proofs.Common.{sym, ap, ◌∙◌, ◌++◌, ◌∷◌, [], run_of, EndView}
use Rattle.cal_kthread.proofs.EndLemmas.HandingOut.{one-more, one-more-left}
use Rattle.cal_kthread.proofs.end.handing_out.hand_out.Goals as goal

pub loop-request-preserved : goal.loop-request-preserved
loop-request-preserved g c =
    let at = c.loop-request in
    let handed = c.in-Some.ensures.handed in record {
      moved = one-more c.args.end.now.rest at.end.rest c.left.new.self.rest handed.0 at.invariant.moved handed.2;
      same = ap (λ (e : EndView). run_of e) handed.3 ∙ at.invariant.same;
      list = c.in_ok-push.ensures.items ∙ (λ i. at.invariant.list i ++ sym handed.1 i ∷ []) ∙ sym (one-more-left at.end.rest c.left.new.self.rest handed.0 handed.2);
    }

pub returns-in_err-push-clause-moved : goal.returns-in_err-push-clause-moved
returns-in_err-push-clause-moved g c =
    let at = c.loop-request in
    let handed = c.in-Some.ensures.handed in
    one-more c.args.end.now.rest at.end.rest c.left.new.self.rest handed.0 at.invariant.moved handed.2
