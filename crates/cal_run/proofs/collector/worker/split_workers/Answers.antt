use Rattle.cal_run.proofs.Common.{◌≡◌, ◌∷◌, ◌++◌, [], List, ap, sym, ◌∙◌, append_assoc, into_iter_items, Entry, journals_of, Worker}
use Rattle.cal_run.proofs.collector.worker.split_workers.Goals as goal

pub loop-worker-preserved : goal.loop-worker-preserved
loop-worker-preserved c =
    let rest = into_iter_items c.next.new.self in
    let worker = c.in-Some.worker in
    let bare = c.loop-worker.bare.items in
    let journals = c.loop-worker.journals.items in
    let steps : into_iter_items c.loop-worker.worker-iterator ≡ worker ∷ rest = c.in-Some.ensures.steps.0 in
    let parts = c.into_parts-parts.result in
    record {
      workers = ap (λ (l : List Worker). l ++ rest) c.in_ok-push.ensures.items
          ∙ append_assoc bare (parts.0 ∷ []) rest
          ∙ ap (λ (w : Worker). bare ++ w ∷ rest) c.into_parts-parts.ensures.worker
          ∙ ap (λ (l : List Worker). bare ++ l) (sym steps) ∙ c.loop-worker.invariant.workers;
      journals = ap (λ (l : List (List Entry)). l ++ journals_of rest) c.in_ok-push-2.ensures.items
          ∙ append_assoc journals (parts.1 ∷ []) (journals_of rest)
          ∙ ap (λ (j : List Entry). journals ++ j ∷ journals_of rest) c.into_parts-parts.ensures.journal
          ∙ ap (λ (l : List Worker). journals ++ journals_of l) (sym steps) ∙ c.loop-worker.invariant.journals;
    }
