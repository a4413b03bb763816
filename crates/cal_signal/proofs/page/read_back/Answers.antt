use Rattle.cal_signal.proofs.Common.{rules, length, ap, sym, ◌∙◌, floor_of, last_published, sees}
use Rattle.cal_signal.proofs.PageLists.{floor_snoc}
use Rattle.cal_signal.proofs.PageSteps.{M, joins_reading, splits}
use Rattle.cal_signal.proofs.page.read_back.Goals as goal

pub join_seat-requires : goal.join_seat-requires
join_seat-requires c = (search rules, search rules, search rules, search rules, joins_reading _ _ _ _ c.publisher.invariant.part c.observer.invariant.part)

pub split_seat-observing-requires : goal.split_seat-observing-requires
split_seat-observing-requires c = (search rules, search rules, splits _ _)

pub invariant_of-observer : goal.invariant_of-observer
invariant_of-observer c = let w = c.split_seat-observing.ensures.4 in let e = c.join_seat.ensures.2 in record {
  sits = record { table = search rules; words = c.observer.invariant.sits.words; empty = ap (λ (m : M). m.1) w };
  part = ap (λ (m : M). sees m.0) w ∙ (ap (λ (m : M). sees m.0) e ∙ c.observer.invariant.part);
  low = c.publisher.invariant.placed
      ∙ sym (ap (λ (m : M). floor_of m.0.looks) w ∙ (ap (λ (m : M). floor_of m.0.looks) e
      ∙ floor_snoc 0 c.observer.inside.seat.me.0.looks (length c.publisher.inside.seat.me.0.published) (last_published c.publisher.inside.seat.me.0.published)));
}
