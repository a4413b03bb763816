use Rattle.cal_run.proofs.PartsLemmas.Opened.{saw_nothing, sent_nothing}
use Rattle.check_refused_calls.proofs.scheduling.open.Goals as goal

pub new-requires-clause-unseen : goal.new-requires-clause-unseen
new-requires-clause-unseen c = let team = c.in_ok-threads.field-0 in
    saw_nothing team.threads.items team.observers.items team.senders.items team.watchers.items c.in_ok-threads.ensures.opened

pub new-requires-clause-unsent : goal.new-requires-clause-unsent
new-requires-clause-unsent c = let team = c.in_ok-threads.field-0 in
    sent_nothing team.threads.items team.observers.items team.senders.items team.watchers.items c.in_ok-threads.ensures.opened
