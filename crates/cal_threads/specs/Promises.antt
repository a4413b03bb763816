-- What the threads of a run promise.
use Rattle.std.specs.Prelude.{◌≡◌, ℕ, ◌<◌, Bool, Result, MatchResult, length, min, vec_len}
use Rattle.cal_sched.specs.Scheduler.{SchedulerView}
use Rattle.cal_sched.specs.Watching.{WatchView}
use Rattle.cal_trace.specs.declared.arrivals.Arrivals.{Arrivals}
use Rattle.cal_machine.specs.Table.{Table}
use Rattle.cal_run.specs.Collecting.{IsCollectedOf}
use Rattle.cal_run.specs.Parts.{AreParts, HasPassed, rounds_of, scheduler_seat_of, watch_seat_of}
use Rattle.cal_run.specs.declared.collector.collected.Collected.{Collected}
use Rattle.cal_run.specs.declared.parts.Parts.{Parts}
use Rattle.cal_run.specs.Workers.{HasMade, seat_of}
use Rattle.cal_run.specs.declared.workers.worker.Worker.{Worker}
use Rattle.cal_run.specs.declared.fault.SimFault.{SimFault}
use Rattle.cal_threads.specs.Gates.{EndedBy, LetsAllTurns, LetsPasses, LetsTurns, MayRefuseTurn}
use Rattle.cal_threads.specs.declared.kernel_threads.Turned.{Turned}

-- the parts of a run on these arrivals that has not begun: no pass, turn or round is made, and the
-- watch is for all rounds of such a run
pub record HaveNotRun (arrivals : Arrivals) (parts : Parts) : Type 0 where
  pub opened : AreParts parts.scheduler.table arrivals 0 0 0 parts
  pub most : parts.watch.most ≡ rounds_of arrivals

-- the parts of a run on these arrivals that has come to its end: all passes, turns and rounds are
-- made, as many rounds as the watch is for
pub record HaveRun (table : Table) (arrivals : Arrivals) (parts : Parts) : Type 0 where
  pub made : AreParts table arrivals (length arrivals.passes) (length arrivals.turns)
      (rounds_of arrivals) parts
  pub most : parts.watch.most ≡ rounds_of arrivals

-- what a run of these parts comes back with where it ends well: they have run, by the same policy,
-- what was collected is theirs, and before each pass and each turn the gate may have answered yes
pub record EndsWell (passes : ℕ → Bool → Type 0) (turns : ℕ → ℕ → Bool → Type 0)
    (arrivals : Arrivals) (parts : Parts) (run : Parts × Collected) : Type 0 where
  pub ran : HaveRun parts.scheduler.table arrivals run.0
  pub policy : run.0.scheduler.policy ≡ parts.scheduler.policy
  pub collected : IsCollectedOf run.0 run.1
  pub passes_asked : LetsPasses passes arrivals
  pub turns_asked : LetsAllTurns turns (vec_len parts.workers) arrivals

-- the scheduler is in its seat, and has made all its passes
pub record HasMadePasses (arrivals : Arrivals) (before after : SchedulerView) : Type 0 where
  pub passes : HasPassed arrivals (length arrivals.passes) after
  pub seat : scheduler_seat_of after ≡ scheduler_seat_of before

-- and the gate may have let each of its passes through
pub record AsksEachPass (answers : ℕ → Bool → Type 0) (arrivals : Arrivals)
    (before after : SchedulerView) : Type 0 where
  pub made : HasMadePasses arrivals before after
  pub asked : LetsPasses answers arrivals

-- the watch is in its seat, and has made as many rounds as passes, up to the last one that it was
-- made for
pub record HasMadeRounds (passes : ℕ) (before after : WatchView) : Type 0 where
  pub rounds : length after.rounds ≡ min passes before.most
  pub seat : watch_seat_of after ≡ watch_seat_of before

-- the kernel thread is in its seat, and has made all its turns, which are those given to thread k
pub record HasMadeTurns (arrivals : Arrivals) (k : ℕ) (before after : Worker) : Type 0 where
  pub turns : HasMade arrivals k (length arrivals.turns) after
  pub seat : seat_of after.thread ≡ seat_of before.thread

module _ {G : Type 0} where
  -- the promise is of this kernel thread, one of so many, on these arrivals and with this gate
  pub record IsOf (threads : ℕ) (arrivals : Arrivals) (gate : G) (worker : Worker)
      (promise : Turned G) : Type 0 where
    pub worker_is : promise.was.value ≡ worker
    pub number : worker.number ≡ promise.k
    pub place : promise.k < threads
    pub arrivals_are : promise.arrivals.now ≡ arrivals
    pub gate_is : promise.gate.now ≡ gate

  -- the gate may have let each turn of the thread that made this promise through
  abbrev pub MayGoOn : (G → ℕ → ℕ → Bool → Type 0) → Turned G → Type 0
  MayGoOn answers promise =
      LetsTurns (answers promise.gate.now promise.k) promise.arrivals.now

  -- the promise is kept by this kernel thread
  pub record IsPromiseKept (answers : G → ℕ → ℕ → Bool → Type 0) (promise : Turned G)
      (worker : Worker) : Type 0 where
    pub turns : HasMadeTurns promise.arrivals.now promise.k promise.was.value worker
    pub asked : MayGoOn answers promise

  -- the gate may end the thread that made this promise
  abbrev pub MayEnd : (G → ℕ → ℕ → Bool → Type 0) → Turned G → Type 0
  MayEnd answers promise =
      MayRefuseTurn (answers promise.gate.now promise.k) promise.arrivals.now

  -- what the thread that made this promise may come back with
  abbrev pub MayGive : (G → ℕ → ℕ → Bool → Type 0) → Turned G → Result Worker SimFault → Type 0
  MayGive answers promise result =
      MatchResult result (IsPromiseKept answers promise) (EndedBy (MayEnd answers promise))
