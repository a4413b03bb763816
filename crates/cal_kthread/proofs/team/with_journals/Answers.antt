use Rattle.cal_kthread.proofs.Common.{◌≡◌, ◌∷◌, ◌++◌, [], List, ap, sym, ◌∙◌, append_assoc, into_iter_items, KernelView}
use Rattle.cal_kthread.proofs.TeamLemmas.Opened.{next-is-fresh}
use Rattle.cal_kthread.proofs.team.with_journals.Goals as goal

pub new-requires : goal.new-requires
new-requires c =
    let steps : into_iter_items c.loop-thread.thread-iterator ≡ c.in-Some.thread ∷ into_iter_items c.next.new.self = c.in-Some.ensures.steps.0 in
    next-is-fresh _ c.loop-thread.kept.items _ c.in-Some.thread (ap (λ (l : List KernelView). c.loop-thread.kept.items ++ l) (sym steps) ∙ c.loop-thread.invariant) c.requires.fresh

pub loop-thread-preserved : goal.loop-thread-preserved
loop-thread-preserved c =
    let rest = into_iter_items c.next.new.self in
    let steps : into_iter_items c.loop-thread.thread-iterator ≡ c.in-Some.thread ∷ rest = c.in-Some.ensures.steps.0 in
    ap (λ (l : List KernelView). l ++ rest) c.in_ok-push.ensures.items
    ∙ append_assoc c.loop-thread.kept.items (c.new.result ∷ []) rest
    ∙ ap (λ (t : KernelView). c.loop-thread.kept.items ++ t ∷ rest) c.new.ensures
    ∙ ap (λ (l : List KernelView). c.loop-thread.kept.items ++ l) (sym steps) ∙ c.loop-thread.invariant
