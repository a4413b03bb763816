-- The requests that the threads of a run served, by their names.
use Rattle.std.specs.Prelude.{◌≡◌, ◌+◌, ◌==◌, ◌++◌, ℕ, nat_eq, List, [], ◌∷◌, map}
use Rattle.std.specs.Prelude.{Option, Some, None, if◌then◌else◌}
use Rattle.std.specs.HashMap.{get}
use Rattle.cal_kthread.specs.declared.journal.entry.Entry.{Entry}
use Rattle.cal_machine.specs.Table.{Table}
use Rattle.cal_measure.specs.Clocks.{run_end}
use Rattle.cal_measure.specs.Ends.{timed_of}
use Rattle.cal_measure.specs.Services.{services_of}
use Rattle.cal_measure.specs.Turns.{turns_of}
use Rattle.cal_measure.specs.declared.services.Service.{Service}
use Rattle.cal_paced.specs.declared.plan.Plan.{Plan}
use Rattle.cal_policy.specs.History.Lists.{last_of}
use Rattle.cal_policy.specs.declared.policy.Policy.{Policy}
use Rattle.cal_run.specs.declared.outcome.Outcome.{Outcome}
use Rattle.cal_tables.specs.Planned.{IsRunGiven}
use Rattle.cal_trace.specs.declared.arrivals.Arrivals.{Arrivals}
use Rattle.cal_facts.specs.declared.requests.served.Served.{Served}
use Rattle.cal_facts.specs.declared.requests.served.ServedRequests.{ServedRequests}

-- a request that a thread served
abbrev pub served_by : ℕ → Service → Served
served_by thread service = record { thread = thread; service = service }

-- the requests that a thread with this journal served, in a run with this last clock
abbrev pub served_in : ℕ → ℕ → List Entry → List Served
served_in last thread journal =
    map (served_by thread) (services_of (timed_of last (turns_of journal)))

-- those that the threads with these journals served, of which the first has this number
abbrev pub served_from : ℕ → ℕ → List (List Entry) → List Served
served_from last thread [] = []
served_from last thread (journal ∷ journals) =
    served_in last thread journal ++ served_from last (thread + 1) journals

-- a service of the request of this name
abbrev pub told_of : ℕ → List Served → Served → Option Served
told_of id before served = if served.service.id == id then Some served else None

-- what came of the request of this name, if it was served. A run serves each request once at most
abbrev pub service_of : List Served → ℕ → Option Served
service_of all id = last_of (told_of id) all

-- what is kept by the names of requests is what came of those that were served
pub record AreServed (all : List Served) (served : ServedRequests) : Type 0 where
  pub same : (id : ℕ) → get nat_eq served.by_id id ≡ service_of all id

-- a run on these arrivals, which was given these, came to some outcome, and these are the requests
-- that its threads served
pub record IsRunServed (plan : Option Plan) (policy : Policy) (table : Table)
    (arrivals given : Arrivals) (served : ServedRequests) : Type 0 where
  pub outcome : Outcome
  pub run : IsRunGiven plan policy table arrivals given outcome
  pub are : AreServed (served_from (run_end given) 0 outcome.journals) served
