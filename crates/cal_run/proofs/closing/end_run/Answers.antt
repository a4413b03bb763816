use Rattle.cal_run.proofs.Common.{WatchView, HaveClosed, filled, journals_of}
use Rattle.std.specs.Prelude.{refl}
use Rattle.cal_linear.specs.Linear.{linear}
use Rattle.cal_run.proofs.OutcomeLemmas.Filled.{filled_watched, many_filled}
use Rattle.cal_run.proofs.OutcomeLemmas.Runs.{are_of_one_run, are_watched, is_run, many_watchers}
use Rattle.cal_run.proofs.closing.end_run.Goals as goal

-- the rounds that the watch did not make stand in the run as ones that read nothing
pub returns-clause-run : goal.returns-clause-run
returns-clause-run c =
    let table = c.args.config.now in
    let arrivals = c.args.arrivals.now in
    let s = c.args.parts.scheduler in
    let v = c.args.parts.watch in
    let w : WatchView = record { given = v.given; observers = v.observers; rounds = filled table arrivals v.rounds; most = v.most } in
    let workers = c.args.parts.workers.items in
    let journals = journals_of workers in
    let lefts = c.in_ok-left.left.items in
    let kept = c.end-observers.ensures.kept in
    let made = c.requires.made in
    let together = made.are.together in
    let closed : HaveClosed workers s.observers w.observers s.senders journals lefts =
    rw (← c.end-observers.ensures.observers, ← c.end-watchers.ensures.observers, ← c.end-observers.ensures.senders) c.in_ok-left.ensures in
    let watched = filled_watched table arrivals v.given v.observers v.rounds (many_watchers table s v workers journals lefts kept c.end-watchers.ensures.watched together closed) c.end-watchers.ensures.watched in
    let linearised = c.linear_is_legal_by.ensures s.policy table s.history journals w.rounds
    (are_of_one_run table s w workers journals lefts kept watched together closed c.fitting_looks_are_publications.ensures)
    (are_watched table s w workers journals lefts kept watched together closed) in
    rw (c.new.ensures, c.new-2.ensures, c.end-watchers.ensures.rounds)
    (is_run table s w workers journals lefts kept watched together closed arrivals (linear s.history journals w.rounds)
    c.requires.fits made.are.passes made.are.turns (many_filled table arrivals v.rounds made.few) linearised refl c.given_stand_once.ensures)
