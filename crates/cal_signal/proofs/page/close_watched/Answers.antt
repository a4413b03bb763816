use Rattle.cal_signal.proofs.Common.{rules, ap, ◌∙◌, false, sees, parts_of}
use Rattle.cal_signal.proofs.PageSteps.{M, joins, learns, splits}
use Rattle.cal_signal.proofs.page.close_watched.Goals as goal

pub join_seat-requires : goal.join_seat-requires
join_seat-requires c = (search rules, search rules, search rules, search rules, joins _ _ _ _ c.publisher.invariant.part c.first.invariant.part)

pub load-requires : goal.load-requires
load-requires c = let e = c.join_seat.ensures.2 in (search rules, search rules, learns _ _ _ (ap (λ (m : M). m.0.publishes) e) (ap (λ (m : M). sees m.0) e ∙ c.first.invariant.part))

pub split_seat-observing-requires : goal.split_seat-observing-requires
split_seat-observing-requires c = (search rules, search rules, splits _ _)

pub join_seat-requires-2 : goal.join_seat-requires-2
join_seat-requires-2 c = let e = c.load.ensures.2.0 ∙ c.join_seat.ensures.2 in
    (search rules, search rules, search rules, search rules, joins _ _ _ _ (ap (λ (m : M). parts_of m.0) c.split_seat-observing.ensures.2 ∙ ap (λ (m : M). (m.0.publishes, false, false)) e) c.second.invariant.part)

pub load-requires-2 : goal.load-requires-2
load-requires-2 c = let e = c.join_seat-2.ensures.2 in (search rules, search rules, learns _ _ _ (ap (λ (m : M). m.0.publishes) e) (ap (λ (m : M). sees m.0) e ∙ c.second.invariant.part))
