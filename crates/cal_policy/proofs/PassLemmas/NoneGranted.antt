-- Where no thread waits no core is granted, and none revoked for a task.
use Rattle.cal_policy.proofs.Common.{◌≡◌, ℕ, ◌<◌, ◌≤◌, ◌++◌, List, length, false, sym, arith, append-nil, next_le, threads_of_table, has_thread, Kind, Board, Action, KeepsSets, grant_of_kind_at, grants_of_kind, Setting, Stands}
use Rattle.cal_policy.proofs.PassLemmas.NothingDue.{none_waits}
use Rattle.cal_policy.proofs.PassLemmas.PartSoFar.{Reached_skip}

pub nothing_granted : (b : Board) (s : Setting) (acts : List Action) → Stands b s acts → KeepsSets b.keeping → threads_of_table s.table ≤ 128 →
    ((k : ℕ) → k < threads_of_table s.table → has_thread b.keeping.waiting k ≡ false) → (kind : Kind) → acts ≡ acts ++ grants_of_kind kind s acts
nothing_granted b s acts st sets most none kind =
    let reached = Reached_skip (grant_of_kind_at kind s) s acts acts b 0 (length s.table.tasks) (omega arith)
    (λ t from lt.
    let end = next_le s.table.tasks t lt in
    none_waits b s acts st sets kind t (omega (arith, end, most)) (λ j x y. none j (omega (arith, y, end))))
    (sym (append-nil acts), st) in
    reached.0
