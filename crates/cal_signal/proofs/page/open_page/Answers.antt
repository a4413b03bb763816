use Rattle.std.proofs.Common.{rules}
use Rattle.cal_signal.proofs.PageSteps.{splits, begins}
use Rattle.cal_signal.proofs.page.open_page.Goals as goal

pub of_words-requires : goal.of_words-requires
of_words-requires c = begins

pub split_seat-observing-requires : goal.split_seat-observing-requires
split_seat-observing-requires c = (search rules, search rules, splits _ _)
