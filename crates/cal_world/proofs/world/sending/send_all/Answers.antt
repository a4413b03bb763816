use Rattle.cal_world.proofs.Common.{◌≡◌, ◌+◌, ◌-◌, length, ◌∙◌, arith, subst, AreGranted, AreSent, HaveRoom}
use Rattle.cal_world.proofs.WorldLemmas.Sent.{one_on, all_on}
use Rattle.cal_world.proofs.world.sending.send_all.Goals as goal

pub send_one-requires : goal.send_one-requires
send_one-requires c = λ k outbox at. let room = c.loop-action.invariant.room k outbox at in let low = c.loop-action-test.true in omega arith

pub loop-action-preserved : goal.loop-action-preserved
loop-action-preserved c =
    let i = c.loop-action.action-index in
    let acts = c.args.actions.now in
    let was = c.loop-action.invariant in
    let low = c.loop-action-test.true in
    let fewer : length acts - i ≡ (length acts - (i + 1)) + 1 = omega arith in record {
      all = c.send_one.ensures.length ∙ was.all;
      granted = λ x g. one_on (λ y. AreGranted c.note_grant.new.granted y) x acts i _ low (c.note_grant.ensures _ (was.granted x g));
      sent = λ x g s. one_on (λ y. AreSent c.send_one.new.sent.items y) x acts i _ low (c.send_one.ensures.sent _ (was.granted x g) (was.sent x g s));
      room = c.send_one.ensures.room (length acts - (i + 1)) (subst (HaveRoom c.loop-action.sent.items) fewer was.room);
    }

pub returns-clause-granted : goal.returns-clause-granted
returns-clause-granted c = λ x g.
    all_on (λ y. AreGranted c.loop-action.granted y) x c.args.actions.now c.loop-action.action-index c.loop-action-test.false c.loop-action.auto.action-index-end (c.loop-action.invariant.granted x g)

pub returns-clause-sent : goal.returns-clause-sent
returns-clause-sent c = λ x g s.
    all_on (λ y. AreSent c.loop-action.sent.items y) x c.args.actions.now c.loop-action.action-index c.loop-action-test.false c.loop-action.auto.action-index-end (c.loop-action.invariant.sent x g s)
