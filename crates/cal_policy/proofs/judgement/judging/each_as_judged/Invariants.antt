use Rattle.cal_policy.proofs.Common.{◌≡◌, ℕ, ◌<◌, List, Some, slice_get, Seen, Action, look_of, judged, Agrees}
use Rattle.cal_policy.proofs.judgement.judging.each_as_judged.Given as goal

abbrev pub invariant-loop-k : goal.invariant-loop-k
invariant-loop-k l =
    (x : List Action) → Agrees l.fn.board x →
    (j : ℕ) → j < l.k → (look : Seen) → slice_get l.seen j ≡ Some look → look ≡ judged l.fn.cores x j (look_of look)
