-- What a run came to is of one run, so its steps can be put in order again.
use Rattle.cal_machine.specs.Table.{Table}
use Rattle.cal_linear.specs.Law.{FittingLooksArePublications}
use Rattle.cal_linear.specs.Runs.{AreOfOneRun}
use Rattle.cal_run.specs.Outcome.{IsRun}
use Rattle.cal_run.specs.Outcome.Headline.{Headline}
use Rattle.cal_run.specs.declared.outcome.Outcome.{Outcome}
use Rattle.cal_trace.specs.declared.arrivals.Arrivals.{Arrivals}

pub is_of_one_run : (table : Table) (arrivals : Arrivals) (outcome : Outcome) → IsRun table arrivals outcome → Headline table outcome → FittingLooksArePublications →
    AreOfOneRun table outcome.history outcome.journals
is_of_one_run table arrivals outcome run headline fitting = record {
  legal = headline.history;
  count = run.threads;
  kept = run.kept;
  looks = fitting outcome.history outcome.journals run.looks;
  first = run.taken;
}
