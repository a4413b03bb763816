use Rattle.cal_kthread.proofs.Common.{List, map, length, sym, ap, ◌∙◌, subst, arith, unlinked, AreOpened, KernelView}
use Rattle.cal_kthread.proofs.TeamLemmas.Opened.{opened-linked, written-back}
use Rattle.cal_kthread.proofs.team.open_bare_threads.Goals as goal

pub returns-clause-opened : goal.returns-clause-opened
returns-clause-opened c = subst (λ threads. AreOpened threads c.in_ok-threads.field-0.observers.items c.in_ok-threads.field-0.senders.items c.in_ok-threads.field-0.watchers.items)
    (sym (written-back c.link_tasks.new.threads c.in_ok-threads.field-0.threads.items c.in_ok-threads.field-0.threads.len (let o = c.in_ok-threads.field-0.threads.ok in omega (arith, o))
    (let a = c.link_tasks.auto.threads in let b = ap (λ (l : List KernelView). length l) c.as_mut_slice.ensures.value in omega (arith, a, b))))
    (opened-linked c.in_ok-threads.field-0.threads.items c.link_tasks.new.threads _ _ _ c.in_ok-threads.ensures.opened (c.in_ok-link_tasks.ensures.same ∙ ap (map unlinked) c.as_mut_slice.ensures.value) c.in_ok-link_tasks.ensures.idle)
