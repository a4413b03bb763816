use Rattle.std.proofs.Common.{rules, ap}
use Rattle.cal_signal.proofs.PageSteps.{M, splits, splits_watcher, begins}
use Rattle.cal_signal.proofs.page.open_watched.Goals as goal

pub of_words-requires : goal.of_words-requires
of_words-requires c = begins

pub split_seat-watching-requires : goal.split_seat-watching-requires
split_seat-watching-requires c = let e = c.in_ok-table.ensures.4 in (search rules, search rules, splits_watcher _ _ (ap (λ (m : M). m.0.observes) e) (ap (λ (m : M). m.0.watches) e))

pub split_seat-observing-requires : goal.split_seat-observing-requires
split_seat-observing-requires c = (search rules, search rules, splits _ _)
