use Rattle.cal_kthread.proofs.Common.{◌≡◌, ◌+◌, refl, subst, KeepsItsWork, EndView, to_hand_out, queue_shares}
use Rattle.cal_kthread.proofs.EndLemmas.Account.{keeps-work, one-fewer}
use Rattle.cal_kthread.proofs.end.kernel_end.ThreadEnd.left.Goals as goal

pub returns-clause-fewer : goal.returns-clause-fewer
returns-clause-fewer g c =
    subst (λ (e : EndView). e.rest.queue.shares ≡ queue_shares → to_hand_out c.hand_out.new.self + 1 ≡ to_hand_out e.rest) c.self.view_is
    (λ all. one-fewer c.in_ok-waiting.waiting c.self.inside.rest c.hand_out.new.self c.in_ok-waiting.ensures.handed (c.in_ok-waiting.ensures.came all))

pub returns-clause-work : goal.returns-clause-work
returns-clause-work g c =
    let before : EndView = record {
      number = c.self.inside.number;
      journal = g.J.Kept.entries c.self.inside.journal;
      publisher = c.self.inside.publisher;
      taker = c.self.inside.taker;
      rest = c.self.inside.rest;
    } in
    let after : EndView = record before { rest = c.hand_out.new.self } in
    subst (λ (e : EndView). KeepsItsWork e → KeepsItsWork after) c.self.view_is (keeps-work before after c.in_ok-waiting.waiting c.in_ok-waiting.ensures.handed refl)
