use Rattle.check_refused_calls.proofs.OneRun.{is_of_one_run}
use Rattle.check_refused_calls.proofs.order.of_run.Goals as goal

pub of_outcome-requires-clause-run : goal.of_outcome-requires-clause-run
of_outcome-requires-clause-run c =
    is_of_one_run c.args.given.now.config _ c.in-Ok.outcome c.in-Ok.ensures.run c.in-Ok.ensures.headline c.fitting_looks_are_publications.ensures

pub of_outcome-requires-clause-watched : goal.of_outcome-requires-clause-watched
of_outcome-requires-clause-watched c = c.in-Ok.ensures.run.watched
