use Rattle.cal_run.proofs.Common.{◌≡◌, ◌∷◌, ◌++◌, [], List, ap, sym, ◌∙◌, append_assoc, into_iter_items, Entry}
use Rattle.cal_run.proofs.collector.collected.close_each.Goals as goal

pub loop-journal-preserved : goal.loop-journal-preserved
loop-journal-preserved c =
    let rest = into_iter_items c.next.new.self in
    let steps : into_iter_items c.loop-journal.journal-iterator ≡ c.in-Some.journal ∷ rest = c.in-Some.ensures.steps.0 in
    ap (λ (l : List (List Entry)). l ++ rest) c.in_ok-push.ensures.items
    ∙ append_assoc c.loop-journal.closed.items (c.close.result ∷ []) rest
    ∙ ap (λ (j : List Entry). c.loop-journal.closed.items ++ j ∷ rest) c.close.ensures
    ∙ ap (λ (l : List (List Entry)). c.loop-journal.closed.items ++ l) (sym steps) ∙ c.loop-journal.invariant
