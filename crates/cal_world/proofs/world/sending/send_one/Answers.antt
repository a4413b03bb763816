use Rattle.cal_world.proofs.Common.{◌≡◌, Some, length, refl, sym, ap, ◌∙◌, arith, slice_get, slice_get_read, core_changed, addressed_to}
use Rattle.cal_world.proofs.WorldLemmas.Sent.{sent_one, sent_past, sent_none, room_one}
use Rattle.cal_world.proofs.world.sending.send_one.Goals as goal

pub returns-then-thread-len-clause-sent : goal.returns-then-thread-len-clause-sent
returns-then-thread-len-clause-sent c = λ x granted was.
    let sent = c.args.sent.now.items in
    let there : slice_get sent c.in-Some.thread ≡ Some c.index_mut.result.now =
    slice_get_read sent (length sent) c.in-Some.thread c.index_mut.result.now refl (let size = c.len.ensures in let low = c.if-thread-len.true in omega arith) c.index_mut.ensures.value in
    sent_one c.action_is_one_more.ensures sent x c.args.action c.in-Some.thread c.in-Some.command c.index_mut.result.now c.send.new.self there
    (λ k. sym (c.command_for.ensures x (λ core cause is. c.last_granted-last.ensures x core granted (ap core_changed is)) k) ∙ ap (addressed_to k) c.in-Some.is) c.send.ensures.commands was

pub returns-then-thread-len-clause-room : goal.returns-then-thread-len-clause-room
returns-then-thread-len-clause-room c = λ n was.
    let sent = c.args.sent.now.items in
    let there : slice_get sent c.in-Some.thread ≡ Some c.index_mut.result.now =
    slice_get_read sent (length sent) c.in-Some.thread c.index_mut.result.now refl (let size = c.len.ensures in let low = c.if-thread-len.true in omega arith) c.index_mut.ensures.value in
    room_one sent c.in-Some.thread n c.index_mut.result.now c.send.new.self there c.send.ensures.room was

pub returns-else-thread-len-clause-sent : goal.returns-else-thread-len-clause-sent
returns-else-thread-len-clause-sent c = λ x granted was.
    sent_past c.action_is_one_more.ensures c.args.sent.now.items x c.args.action c.in-Some.thread c.in-Some.command
    (let size = c.len.ensures in let past = c.if-thread-len.false in omega arith) (λ k. sym (c.command_for.ensures x (λ core cause is. c.last_granted-last.ensures x core granted (ap core_changed is)) k) ∙ ap (addressed_to k) c.in-Some.is) was

pub returns-in_default-clause-sent : goal.returns-in_default-clause-sent
returns-in_default-clause-sent c = λ x granted was.
    sent_none c.action_is_one_more.ensures c.args.sent.now.items x c.args.action
    (λ k. sym (c.command_for.ensures x (λ core cause is. c.last_granted-last.ensures x core granted (ap core_changed is)) k) ∙ ap (addressed_to k) c.in_default.is) was
