-- The parts of a run, brought together.
use Rattle.std.proofs.Common.{◌≡◌, arith, ℕ, List, length, subst, sym, ap, ◌∙◌}
use Rattle.std.specs.Prelude.{vec_len}
use Rattle.std.proofs.lemmas.List.{length-map}
use Rattle.cal_machine.specs.Table.{Table}
use Rattle.cal_sched.specs.Scheduler.{SchedulerView}
use Rattle.cal_trace.specs.declared.arrivals.Arrivals.{Arrivals}
use Rattle.cal_run.specs.Parts.{AreOfOneTeam, AreParts, SchedulerSeat, WatchSeat, rounds_of, scheduler_seat_of, watch_seat_of}
use Rattle.cal_run.specs.Workers.{HaveMade, Seat, seat_of, seats_of}
use Rattle.cal_run.specs.declared.workers.worker.Worker.{Worker}
use Rattle.cal_machine.specs.TableTasks.{threads_of_table}
use Rattle.cal_run.specs.declared.parts.Parts.{Parts}
use Rattle.cal_threads.specs.Promises.{HasMadePasses, HasMadeRounds, HaveRun}

-- each worker came back in its seat and made all that it was given
pub ran : (table : Table) (arrivals : Arrivals) (before after : Parts) → AreParts table arrivals 0 0 0 before → before.watch.most ≡ rounds_of arrivals →
    HasMadePasses arrivals before.scheduler after.scheduler →
    HaveMade arrivals (length arrivals.turns) after.workers.items → seats_of after.workers.items ≡ seats_of before.workers.items →
    HasMadeRounds (length arrivals.passes) before.watch after.watch →
    HaveRun table arrivals after
ran table arrivals before after parts most passes turns seats rounds =
    let P : SchedulerSeat → Type 0 = λ s. AreOfOneTeam table s (seats_of before.workers.items) (watch_seat_of before.watch) in
    let Q : List Seat → Type 0 = λ s. AreOfOneTeam table (scheduler_seat_of after.scheduler) s (watch_seat_of before.watch) in
    let R : WatchSeat → Type 0 = λ w. AreOfOneTeam table (scheduler_seat_of after.scheduler) (seats_of after.workers.items) w in
    record {
      most = ap (λ (w : WatchSeat). w.most) rounds.seat ∙ most;
      made = record {
        together = subst R (sym rounds.seat) (subst Q (sym seats) (subst P (sym passes.seat) parts.together));
        passes = passes.passes;
        turns = turns;
        rounds =
            let made = rounds.rounds in
            omega (arith, made, most);
      };
    }

-- the same of what keeps a promise of this scheduler
pub kept_passes : (was is : SchedulerView) (arrivals given : Arrivals) (before : SchedulerView) → was ≡ before → given ≡ arrivals → HasMadePasses given was is → HasMadePasses arrivals before is
kept_passes was is arrivals given before same of made =
    let P : SchedulerView → Type 0 = λ s. HasMadePasses given s is in
    let Q : Arrivals → Type 0 = λ a. HasMadePasses a before is in
    subst Q of (subst P same made)

-- there are as many kernel threads as the table has
pub threads_of_parts : (table : Table) (arrivals : Arrivals) (p j r : ℕ) (parts : Parts) → AreParts table arrivals p j r parts → vec_len parts.workers ≡ threads_of_table table
threads_of_parts table arrivals p j r parts are = parts.workers.ok.0 ∙ sym (length-map parts.workers.items (λ (w : Worker). seat_of w.thread)) ∙ are.together.threads
