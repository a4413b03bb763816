use Rattle.cal_policy.proofs.Common.{◌≡◌, ℕ, ◌<◌, Option, List, Some, None, nat_lt, length, MatchOption, ltb-true, ltb-false, IsStrictWeakOrder-by_number, IsStrictWeakOrder-flip, Candidate, Action, Setting, victim_rank, victim_of, HasMostMisses}
use Rattle.cal_policy.proofs.PassLemmas.Best.{BestOrNone, best_is_best}
use Rattle.cal_policy.proofs.laws.victim_has_most_misses.Goals as goal

in_words : (s : Setting) (x : List Action) (o : Option (Candidate ℕ)) →
    BestOrNone (λ rank best. nat_lt best rank) (victim_rank s x) (length s.table.tasks) o →
    MatchOption o ((t : ℕ) → t < length s.table.tasks → victim_rank s x t ≡ None) (HasMostMisses s x)
in_words s x None b = b
in_words s x (Some victim) b = record {
  own = b.below;
  may_be = b.ranked;
  none_more = λ t misses lt e. ltb-false _ _ (b.unbeaten t misses lt e);
  earlier_less = λ t misses lt e. ltb-true _ _ (b.first t misses lt e);
}

pub returns : goal.returns
returns c = λ s x. in_words s x (victim_of s x)
    (best_is_best _ _ (IsStrictWeakOrder-flip nat_lt (IsStrictWeakOrder-by_number (λ n. n))) (length s.table.tasks))
