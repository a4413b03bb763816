use Rattle.cal_signal.proofs.Common.{rules, ap, ◌∙◌, sees}
use Rattle.cal_signal.proofs.PageSteps.{M, joins, learns}
use Rattle.cal_signal.proofs.page.close_page.Goals as goal

pub join_seat-requires : goal.join_seat-requires
join_seat-requires c = (search rules, search rules, search rules, search rules, joins _ _ _ _ c.publisher.invariant.part c.observer.invariant.part)

pub load-requires : goal.load-requires
load-requires c = let e = c.join_seat.ensures.2 in (search rules, search rules, learns _ _ _ (ap (λ (m : M). m.0.publishes) e) (ap (λ (m : M). sees m.0) e ∙ c.observer.invariant.part))
