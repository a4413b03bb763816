use Rattle.cal_policy.proofs.Common.{◌≡◌, ℕ, ◌<◌, Option, List, Some, None, nat_lt, MatchOption, ltb-true, ltb-false, IsStrictWeakOrder-by_number, IsStrictWeakOrder-flip, Candidate, Action, Setting, limit_of, thread_of, thread_rank, thread_choice, HasWaitedLongest}
use Rattle.cal_policy.proofs.PassLemmas.Best.{BestOrNone, best_is_best}
use Rattle.cal_policy.proofs.laws.chosen_has_waited_longest.Goals as goal

in_words : (s : Setting) (x : List Action) (t : ℕ) (o : Option (Candidate ℕ)) →
    BestOrNone (λ rank best. nat_lt best rank) (λ j. thread_rank s x (thread_of s.table t j)) (limit_of s.table t) o →
    MatchOption o ((j : ℕ) → j < limit_of s.table t → thread_rank s x (thread_of s.table t j) ≡ None) (HasWaitedLongest s x t)
in_words s x t None b = b
in_words s x t (Some thread) b = record {
  own = b.below;
  may_have = b.ranked;
  none_longer = λ j delay lt e. ltb-false _ _ (b.unbeaten j delay lt e);
  earlier_less = λ j delay lt e. ltb-true _ _ (b.first j delay lt e);
}

pub returns : goal.returns
returns c = λ s x t. in_words s x t (thread_choice s x t)
    (best_is_best _ _ (IsStrictWeakOrder-flip nat_lt (IsStrictWeakOrder-by_number (λ n. n))) (limit_of s.table t))
