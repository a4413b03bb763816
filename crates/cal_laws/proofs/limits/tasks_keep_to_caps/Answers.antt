use Rattle.std.proofs.Common.{inl, inr, ⊎_elim}
use Rattle.cal_laws.proofs.CapLemmas.Capped.{capped_at}
use Rattle.cal_laws.proofs.limits.tasks_keep_to_caps.Goals as goal

pub returns : goal.returns
returns c = λ here is t best. ⊎_elim
    (λ within. inl within)
    (λ cut. inr (record { earlier = cut.earlier; cap = cut.cap; just_before = cut.just_before; core = cut.core; next = cut.next; own = cut.own; held = cut.held }))
    (capped_at c.legal_is_sound.ensures c.action_is_one_more.ensures c.threads_are_of_their_task.ensures c.chosen_has_waited_longest.ensures here is t best)
