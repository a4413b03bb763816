use Rattle.std.proofs.Common.{List, length, subst, sym}
use Rattle.cal_machine.specs.declared.request.Request.{Request}
use Rattle.cal_run.specs.Closing.{AreOtherEnds, HaveClosed}
use Rattle.cal_run.specs.Workers.{journals_of, pages_of_seats, rings_of_seats, seats_of}
use Rattle.cal_signal.specs.Ends.{ObserverView}
use Rattle.cal_replay.specs.Replays.{IsReplay}
use Rattle.cal_replay.proofs.Ended.{is_replay}
use Rattle.cal_replay.proofs.ending.end_replay.Goals as goal

pub close_threads-requires-clause-count : goal.close_threads-requires-clause-count
close_threads-requires-clause-count c = c.requires.some.1.threads

pub close_threads-requires-clause-team : goal.close_threads-requires-clause-team
close_threads-requires-clause-team c = c.requires.some.1.team

pub close_threads-requires-clause-others : goal.close_threads-requires-clause-others
close_threads-requires-clause-others c =
    let parts = c.args.parts in
    let seats = seats_of parts.workers.items in
    subst (λ (ws : List ObserverView). AreOtherEnds (pages_of_seats seats) (rings_of_seats seats) parts.replayer.observers.items ws parts.replayer.senders.items) (sym c.end-watchers.ensures.observers) c.requires.some.1.others

pub returns : goal.returns
returns c = λ history are passed.
    let parts = c.args.parts in
    let lefts = c.in_ok-left.left.items in
    let journals = journals_of parts.workers.items in
    let closed : HaveClosed parts.workers.items parts.replayer.observers.items parts.watch.observers parts.replayer.senders.items journals lefts =
    subst (λ (ws : List ObserverView). HaveClosed parts.workers.items parts.replayer.observers.items ws parts.replayer.senders.items journals lefts) c.end-watchers.ensures.observers c.in_ok-left.ensures in
    subst (λ (l : List (List Request)). IsReplay c.args.config.now c.args.arrivals.now history journals l) (sym c.new.ensures)
    (is_replay c.args.config.now c.args.arrivals.now history parts lefts are closed c.requires.fits passed c.given_stand_once.ensures)
