use Rattle.std.proofs.Common.{List, length, sym, subst, ap, ◌∙◌}
use Rattle.cal_run.specs.Parts.{SchedulerSeat}
use Rattle.cal_run.specs.Workers.{HaveMade, seats_of}
use Rattle.cal_run.specs.declared.workers.worker.Worker.{Worker}
use Rattle.cal_sched.specs.Scheduler.{SchedulerView}
use Rattle.cal_sched.specs.Watching.{WatchView}
use Rattle.cal_threads.specs.Promises.{HasMadePasses, HasMadeRounds}
use Rattle.cal_threads.proofs.Together.{kept_passes, ran}
use Rattle.cal_threads.proofs.running.run_within.Goals as goal

-- The scheduler and the others came back, each as was promised; the gate that let the scheduler's passes through is the one
-- that was handed in.
pub returns-in_ok-made-in-Ok-clause-ran : goal.returns-in_ok-made-in-Ok-clause-ran
returns-in_ok-made-in-Ok-clause-ran g c =
    let both = c.in-Ok.ensures.values in
    let arrivals = c.args.arrivals.now in
    let before = c.args.parts in
    let apart = c.in_ok-made-in-Ok.ensures in
    let joined = rw both.0 at c.join-scheduler.ensures in
    let turns = rw both.1 at c.run_others-others.ensures.turns in
    let seats = rw both.1 at c.run_others-others.ensures.seats in
    let rounds = rw both.1 at c.run_others-others.ensures.rounds in
    let passes = kept_passes _ _ arrivals _ before.scheduler c.in_ok-passing.ensures.was c.in_ok-passing.ensures.arrivals joined.made in
    let P : SchedulerView → Type 0 = λ s. HasMadePasses arrivals before.scheduler s in
    let Q : List Worker → Type 0 = λ l. HaveMade arrivals (length arrivals.turns) l in
    let R : WatchView → Type 0 = λ w. HasMadeRounds (length arrivals.passes) before.watch w in
    record {
      ran = ran _ _ before c.in_ok-made-in-Ok.made.0 c.requires.parts.opened c.requires.parts.most (subst P (sym apart.scheduler) passes) (subst Q (sym apart.workers) turns)
          (ap seats_of apart.workers ∙ seats) (subst R (sym apart.watch) rounds);
      policy = ap (λ (s : SchedulerView). s.policy) apart.scheduler ∙ ap (λ (s : SchedulerSeat). s.policy) passes.seat;
      collected = apart.collected;
      passes_asked = rw (← c.in_ok-passing.ensures.gate, ← c.in_ok-passing.ensures.arrivals) joined.asked;
      turns_asked = rw both.1 at c.run_others-others.ensures.asked;
    }
