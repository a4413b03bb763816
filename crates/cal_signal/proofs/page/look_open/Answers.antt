use Rattle.std.proofs.Common.{rules}
use Rattle.cal_signal.proofs.PageSteps.{joins_looking, splits}
use Rattle.cal_signal.proofs.page.look_open.Goals as goal

pub join_seat-requires : goal.join_seat-requires
join_seat-requires c = (search rules, search rules, search rules, search rules, joins_looking _ _ _ _ c.page.invariant.part c.observer.invariant.part)

pub split_seat-observing-requires : goal.split_seat-observing-requires
split_seat-observing-requires c = (search rules, search rules, splits _ _)
