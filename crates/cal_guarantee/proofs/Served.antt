-- What a pass grants a short task that waits.
use Rattle.cal_guarantee.proofs.Common.{ℕ, ◌<◌, ◌≤◌, length, ap, ◌∙◌, arith, ⊎_elim, cases_lt, Setting, FewCoresAreKept, OpenCoresCome, OwedCoresCome, pass_of, IsTable, sum_by-append, grants_to, granted_to, needs_at}
use Rattle.cal_guarantee.proofs.Own.{waits_parts}
use Rattle.cal_guarantee.proofs.FewKept.{few_kept}
use Rattle.cal_guarantee.proofs.PassTurns.{with_turn, the_turn}
use Rattle.cal_guarantee.proofs.Histories.{steady_after}
use Rattle.cal_guarantee.proofs.OwedWhole.{enough_ungiven, owed_granted}

-- the turn of the task is part of its pass
pub turn_part : (s : Setting) (t : ℕ) → IsTable s.table → t < length s.table.tasks → granted_to s.table t (with_turn s t) ≤ granted_to s.table t (pass_of s)
turn_part s t ok lt =
    let turn = the_turn s t ok lt in
    let whole = ap (granted_to s.table t) turn.pass ∙ sum_by-append (grants_to s.table t) (with_turn s t) turn.rest in
    omega (arith, whole)

-- the laws of one pass
pub few_cores : FewCoresAreKept
few_cores s x t waiting none = let parts = waits_parts s x t waiting in few_kept s x t parts.0 parts.1 none

pub open_come : OpenCoresCome
open_come s t w enough =
    let steady = steady_after s.table s.history w.table w.legal in ⊎_elim
    (λ few. absurd (enough_ungiven s t w.table w.own steady w.waiting few enough))
    (λ (all : needs_at s t ≤ granted_to s.table t (with_turn s t)). omega (arith, all, turn_part s t w.table w.own))
    (cases_lt (granted_to s.table t (with_turn s t)) (needs_at s t))

pub owed_come : OwedCoresCome
owed_come s t w =
    let steady = steady_after s.table s.history w.table w.legal in ⊎_elim
    (λ few. omega (arith, owed_granted s t w.table w.own steady w.waiting few, turn_part s t w.table w.own))
    (λ (all : needs_at s t ≤ granted_to s.table t (with_turn s t)). omega (arith, all, turn_part s t w.table w.own))
    (cases_lt (granted_to s.table t (with_turn s t)) (needs_at s t))
