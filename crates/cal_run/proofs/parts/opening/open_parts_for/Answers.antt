use Rattle.cal_run.proofs.Common.{List, [], ap, subst, sym, ◌∙◌, KernelView, Table, SchedulerView, HaveMadeNoTurn}
use Rattle.cal_run.proofs.PartsLemmas.Opened.{are_opened, opened_are_fresh, saw_nothing, sent_nothing}
use Rattle.cal_run.proofs.parts.opening.open_parts_for.Goals as goal

pub open_workers-requires-clause-fresh : goal.open_workers-requires-clause-fresh
open_workers-requires-clause-fresh c = let team = c.in_ok-threads.field-0 in
    opened_are_fresh team.threads.items team.observers.items team.senders.items team.watchers.items c.in_ok-threads.ensures.opened

pub new_by-requires-clause-unseen : goal.new_by-requires-clause-unseen
new_by-requires-clause-unseen c = let team = c.in_ok-threads.field-0 in
    saw_nothing team.threads.items team.observers.items team.senders.items team.watchers.items c.in_ok-threads.ensures.opened

pub new_by-requires-clause-unsent : goal.new_by-requires-clause-unsent
new_by-requires-clause-unsent c = let team = c.in_ok-threads.field-0 in
    sent_nothing team.threads.items team.observers.items team.senders.items team.watchers.items c.in_ok-threads.ensures.opened

pub returns-clause-parts : goal.returns-clause-parts
returns-clause-parts c =
    let team = c.in_ok-threads.field-0 in
    let arrivals = c.args.arrivals.now in
    let fresh : Table → SchedulerView = λ t. record { table = t; policy = c.args.policy; history = []; observers = team.observers.items; senders = team.senders.items } in
    are_opened c.args.policy c.args.config.now arrivals c.args.rounds _ team.threads.items team.observers.items team.senders.items team.watchers.items
    c.in_ok-threads.ensures.count c.in_ok-threads.ensures.opened c.in_ok-threads.ensures.team c.in_ok-workers.ensures.threads c.in_ok-workers.ensures.made
    (c.in-Ok.ensures.made ∙ ap fresh c.in_ok-config.ensures)
    c.in-Ok-new.ensures.made

-- its workers are of the threads that were opened
pub returns-clause-fresh : goal.returns-clause-fresh
returns-clause-fresh c =
    let team = c.in_ok-threads.field-0 in
    let P : List KernelView → Type 0 = λ l. HaveMadeNoTurn l in
    subst P (sym c.in_ok-workers.ensures.threads)
    (opened_are_fresh team.threads.items team.observers.items team.senders.items team.watchers.items c.in_ok-threads.ensures.opened)
