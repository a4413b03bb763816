use Rattle.cal_measure.proofs.Common.{◌≡◌, ℕ, List, Entry, thread_of, joined_below, services_at, AreTotalsOfEach}
use Rattle.cal_measure.proofs.ended_run.services_of_threads.Given as goal

abbrev pub invariant-loop-j : goal.invariant-loop-j
invariant-loop-j l = (last : ℕ) (journals : List (List Entry)) → AreTotalsOfEach last journals l.threads →
    l.services.items ≡ joined_below (λ j. services_at last journals (thread_of l.config l.task j)) l.j
