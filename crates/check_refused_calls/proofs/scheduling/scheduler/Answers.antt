use Rattle.cal_run.proofs.PartsLemmas.Opened.{saw_nothing, sent_nothing}
use Rattle.check_refused_calls.proofs.scheduling.scheduler.Goals as goal

pub scheduler_of-requires-clause-unseen : goal.scheduler_of-requires-clause-unseen
scheduler_of-requires-clause-unseen c = let team = c.in_ok-observers.field-0 in
    saw_nothing team.threads.items team.observers.items team.senders.items team.watchers.items c.in_ok-observers.ensures.opened

pub scheduler_of-requires-clause-unsent : goal.scheduler_of-requires-clause-unsent
scheduler_of-requires-clause-unsent c = let team = c.in_ok-observers.field-0 in
    sent_nothing team.threads.items team.observers.items team.senders.items team.watchers.items c.in_ok-observers.ensures.opened
