-- The parts of a run: its scheduler, its kernel threads and its watch. They belong together by
-- their pages, rings and places, which no pass, turn or round changes.
use Rattle.std.specs.Prelude.{◌≡◌, ℕ, ◌-◌, ◌≤◌, ◌++◌, List, length, map, min, take, replicate}
use Rattle.atomic_table.specs.Seated.{TableId}
use Rattle.cal_machine.specs.Table.{Table}
use Rattle.cal_command.specs.Rings.{RingId, SenderView}
use Rattle.cal_signal.specs.Ends.{ObserverView}
use Rattle.cal_signal.specs.declared.look.Look.{Look}
use Rattle.cal_signal.specs.declared.look.Look.TheVariants.{Busy}
use Rattle.cal_policy.specs.Policies.{IsLegalBy}
use Rattle.cal_policy.specs.declared.history.entry.PassEntry.{PassEntry}
use Rattle.cal_policy.specs.declared.policy.Policy.{Policy}
use Rattle.cal_machine.specs.TableTasks.{threads_of_table}
use Rattle.cal_sched.specs.Scheduler.{HaveSeenNothing, SchedulerView}
use Rattle.cal_sched.specs.Watching.{WatchView}
use Rattle.cal_kthread.specs.Team.{IsTeam}
use Rattle.cal_trace.specs.declared.arrivals.Arrivals.{Arrivals}
use Rattle.cal_run.specs.Outcome.{figures_of}
use Rattle.cal_run.specs.declared.parts.opening.TheConstants.{MOST_ROUNDS}
use Rattle.cal_run.specs.Workers.{HaveMade, Seat, pages_of_seats, rings_of_seats, seats_of}
use Rattle.cal_run.specs.declared.parts.Parts.{Parts}

-- what a scheduler keeps over its passes
pub record SchedulerSeat : Type 0 where
  pub table : Table
  pub policy : Policy
  pub pages : List TableId
  pub rings : List RingId

abbrev pub scheduler_seat_of : SchedulerView → SchedulerSeat
scheduler_seat_of s = record {
  table = s.table;
  policy = s.policy;
  pages = map (λ (o : ObserverView). o.page) s.observers;
  rings = map (λ (r : SenderView). r.ring) s.senders;
}

-- what a watch keeps over its rounds
pub record WatchSeat : Type 0 where
  pub given : List ObserverView
  pub pages : List TableId
  pub most : ℕ

abbrev pub watch_seat_of : WatchView → WatchSeat
watch_seat_of w = record {
  given = w.given;
  pages = map (λ (o : ObserverView). o.page) w.observers;
  most = w.most;
}

-- They are of this table and of one team: in thread order, the scheduler has the other ends of each
-- thread's page and ring, and the watch the second observer of each page, which had seen nothing
-- when it was given.
pub record AreOfOneTeam (table : Table) (scheduler : SchedulerSeat) (seats : List Seat)
    (watch : WatchSeat) : Type 0 where
  pub same_table : scheduler.table ≡ table
  pub threads : length seats ≡ threads_of_table table
  pub pages : scheduler.pages ≡ pages_of_seats seats
  pub rings : scheduler.rings ≡ rings_of_seats seats
  pub watched : watch.pages ≡ pages_of_seats seats
  pub unwatched : HaveSeenNothing watch.given
  pub team : IsTeam (map (λ (s : Seat). s.place) seats)

-- the scheduler has made the first p passes of those given, and no other
abbrev pub HasPassed : Arrivals → ℕ → SchedulerView → Type 0
HasPassed arrivals p scheduler = map figures_of scheduler.history ≡ take p arrivals.passes

-- a history of the policy whose passes have the clocks and the bandwidth figures of the first passes
-- that are given; that its looks are those of a run is not said
pub record AreFirstPasses (policy : Policy) (table : Table) (arrivals : Arrivals)
    (history : List PassEntry) : Type 0 where
  pub legal : IsLegalBy policy table history
  pub given : map figures_of history ≡ take (length history) arrivals.passes

-- how many watched rounds the outcome of a run has
abbrev pub rounds_of : Arrivals → ℕ
rounds_of arrivals = min (length arrivals.passes) MOST_ROUNDS

-- the parts of a run on these arrivals, of which the first p passes, the first j turns of each
-- thread and r rounds are made
pub record AreParts (table : Table) (arrivals : Arrivals) (p j r : ℕ) (parts : Parts) : Type 0 where
  pub together : AreOfOneTeam table (scheduler_seat_of parts.scheduler)
      (seats_of parts.workers.items)
      (watch_seat_of parts.watch)
  pub passes : HasPassed arrivals p parts.scheduler
  pub turns : HaveMade arrivals j parts.workers.items
  pub rounds : length parts.watch.rounds ≡ r

-- all passes and turns are made, and no more watched rounds than the outcome of a run has
pub record MayBeEnded (table : Table) (arrivals : Arrivals) (parts : Parts) : Type 0 where
  pub are : AreParts table arrivals (length arrivals.passes) (length arrivals.turns)
      (length parts.watch.rounds) parts
  pub few : length parts.watch.rounds ≤ rounds_of arrivals

-- a round whose looks read no record, each because it met an odd version
abbrev pub unread_round : Table → List Look
unread_round table = replicate (threads_of_table table) (Busy 1 1)

-- these rounds, and in the place of each that was not made one that read no record
abbrev pub filled : Table → Arrivals → List (List Look) → List (List Look)
filled table arrivals rounds =
    rounds ++ replicate (rounds_of arrivals - length rounds) (unread_round table)
