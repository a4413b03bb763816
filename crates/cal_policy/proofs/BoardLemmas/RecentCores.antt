-- The cores that a task had last, as the board keeps them.
use Rattle.cal_policy.proofs.Common.{◌≡◌, ℕ, ◌<◌, List, Option, Some, None, ap, sym, ◌∙◌, IfSome, option_map, Table, MOST_TASKS, Board, Action, last_thread, last_placement, is_thread_for, Agrees, AreRecent, had_by, last_thread_in}
use Rattle.cal_policy.specs.declared.board.holders.Placement as placements
use Rattle.cal_policy.proofs.HistoryLemmas.OneMore.{last_thread_placement}
use Rattle.cal_policy.proofs.BoardLemmas.AsKept.{thread_as_kept}

pub thread_below : (grant : Option placements.Placement) (n : ℕ) → IfSome grant (λ p. p.thread < n) →
    IfSome (option_map (λ (p : placements.Placement). p.thread) grant) (λ thread. thread < n)
thread_below None n h = h
thread_below (Some p) n h = h

-- the set of a task has the cores that were last granted to its threads
pub recent_says : (table : Table) (b : Board) (x : List Action) (t k : ℕ) → t < MOST_TASKS → k < 128 → Agrees b x →
    AreRecent table (last_thread_in b.holding) b.recent → had_by b.recent t k ≡ is_thread_for table t (last_thread x k)
recent_says table b x t k lt low a recent =
    let thread : placements.Placement → ℕ = λ p. p.thread in
    recent.cores t lt k
    ∙ ap (is_thread_for table t) (ap (option_map thread) (a.holding.granted k low) ∙ thread_as_kept (last_placement x k) ∙ sym (last_thread_placement x k))
