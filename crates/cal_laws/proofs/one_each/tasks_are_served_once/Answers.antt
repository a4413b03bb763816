use Rattle.cal_laws.proofs.Common.{◌≡◌, ℕ, ◌+◌, ◌*◌, Some, ap, arith, Table, owner_of, Action, Free, Unban, Ban, Revoke, Cap, Grant, task_served, turn_of, place_of_task}
use Rattle.cal_policy.specs.declared.history.action.Cause.TheVariants as causes
use Rattle.cal_laws.proofs.one_each.tasks_are_served_once.Goals as goal

-- the turn of what is done for a task is the task's
turn_of_served : (table : Table) (a : Action) (t : ℕ) → task_served table a ≡ Some t → turn_of table a ≡ 4 * table.cores + 2 + place_of_task table t
turn_of_served table (Grant core thread class) t e = let same : owner_of table thread ≡ t = cc in ap (λ n. 4 * table.cores + 2 + place_of_task table n) same
turn_of_served table (Revoke core (causes.Preempt task)) t e = let same : task ≡ t = cc in ap (λ n. 4 * table.cores + 2 + place_of_task table n) same
turn_of_served table (Revoke core (causes.Ban by)) t e = cc
turn_of_served table (Revoke core causes.Bandwidth) t e = cc
turn_of_served table (Free core) t e = cc
turn_of_served table (Unban core) t e = cc
turn_of_served table (Ban core thread started) t e = cc
turn_of_served table (Cap task cap) t e = cc

pub returns : goal.returns
returns c = λ here is action t e serves j earlier lt f again.
    let last = turn_of_served here.table action t serves in
    let same = turn_of_served here.table earlier t again in
    let before = c.actions_come_in_turn.ensures here is action e j earlier lt f in
    absurd (omega (arith, last, same, before))
