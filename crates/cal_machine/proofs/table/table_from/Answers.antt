use Rattle.std.proofs.Common.{arith}
use Rattle.cal_machine.proofs.Accepted.{few_tasks, parts_are}
use Rattle.cal_machine.proofs.table.table_from.Goals as goal

pub guaranteed_in-requires : goal.guaranteed_in-requires
guaranteed_in-requires c = rw (c.as_slice.ensures.value) (few_tasks _ _ _ c.in-Ok.ensures c.in_ok-tasks.ensures)

pub threads_in-requires : goal.threads_in-requires
threads_in-requires c = rw (c.as_slice-2.ensures.value) (few_tasks _ _ _ c.in-Ok.ensures c.in_ok-tasks.ensures)

pub new-requires : goal.new-requires
new-requires c = parts_are _ _ _ c.in-Ok.ensures c.in_ok-tasks.ensures
    (rw (← c.as_slice.ensures.value, ← c.guaranteed_in.ensures, ← c.cores.ensures.value) (omega (arith, c.if-cores-guaranteed_in.false)))
    (rw (← c.as_slice-2.ensures.value, ← c.threads_in.ensures) (omega (arith, c.if-threads_in-gt-MOST_THREADS.false)))
