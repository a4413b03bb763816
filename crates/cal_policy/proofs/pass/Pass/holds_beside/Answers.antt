-- The sibling's holder is asked as it is kept.
use Rattle.cal_policy.proofs.Common.{◌≡◌, ℕ, ◌<◌, Bool, List, ap, ◌∙◌, arith, Table, sibling_of, Action, Holder, holder_of, is_held_for, kept_holder}
use Rattle.cal_policy.proofs.BoardLemmas.AsKept.{held_as_kept}
use Rattle.cal_policy.proofs.pass.Pass.holds_beside.Goals as goal

says : (table : Table) (x : List Action) (t core sibling : ℕ) (found : Bool) (beside : Holder) →
    beside ≡ kept_holder (holder_of x sibling) → sibling ≡ sibling_of core → found ≡ is_held_for table t beside →
    found ≡ is_held_for table t (holder_of x (sibling_of core))
says table x t core sibling found beside e f k =
    k ∙ ap (is_held_for table t) (e ∙ ap (λ c. kept_holder (holder_of x c)) f) ∙ held_as_kept table t (holder_of x (sibling_of core))

pub returns : goal.returns
returns c = λ x a.
    let beside_low : c.sibling-sibling.result < 128 = omega arith in
    says c.args.self.now.config.now x c.args.task c.args.core c.sibling-sibling.result _ _
    (a.holding.holders c.sibling-sibling.result beside_low) c.sibling-sibling.ensures.value c.holds_for.ensures
