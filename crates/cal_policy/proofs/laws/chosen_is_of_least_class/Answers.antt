use Rattle.cal_policy.proofs.Common.{◌≡◌, ℕ, ◌<◌, Option, List, Some, None, MatchOption, ltb-true, ltb-false, IsStrictWeakOrder-by_number, Candidate, CoreClass, class_number, comes_before, Action, Setting, class_of, choice_of, IsOfLeastClass}
use Rattle.cal_policy.proofs.PassLemmas.Best.{BestOrNone, best_is_best}
use Rattle.cal_policy.proofs.laws.chosen_is_of_least_class.Goals as goal

in_words : (s : Setting) (acts : List Action) (t : ℕ) (o : Option (Candidate CoreClass)) →
    BestOrNone comes_before (class_of s acts t) s.table.cores o →
    MatchOption o ((c : ℕ) → c < s.table.cores → class_of s acts t c ≡ None) (IsOfLeastClass s acts t)
in_words s acts t None b = b
in_words s acts t (Some core) b = record {
  own = b.below;
  class = b.ranked;
  none_less = λ c class lt e. ltb-false _ _ (b.unbeaten c class lt e);
  lower_greater = λ c class lt e. ltb-true _ _ (b.first c class lt e);
}

pub returns : goal.returns
returns c = λ s acts t. in_words s acts t (choice_of s acts t) (best_is_best _ _ (IsStrictWeakOrder-by_number class_number) s.table.cores)
