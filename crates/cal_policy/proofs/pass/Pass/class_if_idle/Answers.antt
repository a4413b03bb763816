-- The class goes by the sibling's holder and the last grant as they are kept.
use Rattle.cal_policy.proofs.Common.{◌≡◌, ℕ, ◌<◌, List, Option, ap, sym, ◌∙◌, arith, option_map, Table, sibling_of, Action, CoreClass, Holder, holder_of, last_thread, last_placement, idle_class, kept_holder, kept_placement}
use Rattle.cal_policy.specs.declared.board.holders.Placement as placements
use Rattle.cal_policy.proofs.HistoryLemmas.OneMore.{last_thread_placement}
use Rattle.cal_policy.proofs.BoardLemmas.AsKept.{thread_as_kept, idle_as_kept}
use Rattle.cal_policy.proofs.pass.Pass.class_if_idle.Goals as goal

says : (table : Table) (x : List Action) (t core sibling : ℕ) (class : CoreClass) (beside : Holder) (last : Option placements.Placement) →
    beside ≡ kept_holder (holder_of x sibling) → sibling ≡ sibling_of core → last ≡ option_map kept_placement (last_placement x core) →
    class ≡ idle_class table t beside (option_map (λ (p : placements.Placement). p.thread) last) →
    class ≡ idle_class table t (holder_of x (sibling_of core)) (last_thread x core)
says table x t core sibling class beside last e f g k =
    let thread : placements.Placement → ℕ = λ p. p.thread in
    k ∙ ap (λ (h : Holder). idle_class table t h (option_map thread last)) (e ∙ ap (λ c. kept_holder (holder_of x c)) f)
    ∙ idle_as_kept table t (holder_of x (sibling_of core)) (option_map thread last)
    ∙ ap (idle_class table t (holder_of x (sibling_of core)))
    (ap (option_map thread) g ∙ thread_as_kept (last_placement x core) ∙ sym (last_thread_placement x core))

pub returns : goal.returns
returns c = λ x a.
    let low : c.args.core < 128 = omega arith in
    let beside_low : c.sibling-sibling.result < 128 = omega arith in
    says c.args.self.now.config.now x c.args.task c.args.core c.sibling-sibling.result _ _ _
    (a.holding.holders c.sibling-sibling.result beside_low) c.sibling-sibling.ensures.value
    (a.holding.granted c.args.core low) c.idle_class.ensures
