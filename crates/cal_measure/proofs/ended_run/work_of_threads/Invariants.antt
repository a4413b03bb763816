use Rattle.cal_measure.proofs.Common.{ℕ, List, Entry, thread_of, joined_below, AreTotalsOfEach, IsWithin, IsWorkOf, stolen_at, suspensions_at, worked_at}
use Rattle.cal_measure.proofs.ended_run.work_of_threads.Given as goal

abbrev pub invariant-loop-j : goal.invariant-loop-j
invariant-loop-j l = (last : ℕ) (journals : List (List Entry)) → AreTotalsOfEach last journals l.threads →
    IsWithin l.j l.work
    × IsWorkOf (joined_below (λ j. worked_at last journals (thread_of l.config l.task j)) l.j)
    (joined_below (λ j. stolen_at journals (thread_of l.config l.task j)) l.j)
    (joined_below (λ j. suspensions_at journals (thread_of l.config l.task j)) l.j) l.work
