-- What came of the requests of a task. They come to its threads, are served by one of them, or are
-- left with one of them.
use Rattle.std.specs.Prelude.{◌≡◌, ℕ, ◌+◌, ◌-◌, ◌==◌, List, [], length, map, sum}
use Rattle.std.specs.Prelude.{slice_index_or, Option, Some, None, option_map, if◌then◌else◌}
use Rattle.std.specs.List.{count_by}
use Rattle.cal_machine.specs.Table.{Table}
use Rattle.cal_machine.specs.declared.request.Request.{Request}
use Rattle.cal_kthread.specs.declared.journal.entry.Entry.{Entry}
use Rattle.cal_machine.specs.TableTasks.{limit_of, owner_of, thread_of}
use Rattle.cal_trace.specs.declared.arrivals.Arrival.{Arrival}
use Rattle.cal_trace.specs.declared.arrivals.Arrivals.{Arrivals}
use Rattle.cal_policy.specs.History.Lists.{each_of}
use Rattle.cal_came.specs.Came.{came_at, came_to}
use Rattle.cal_came.specs.Windows.{is_within}
use Rattle.cal_came.specs.declared.came.Came.{Came}
use Rattle.cal_came.specs.declared.counted.Counted.{Counted}
use Rattle.cal_came.specs.declared.window.Window.{Window}
use Rattle.cal_measure.specs.Clocks.{run_end}
use Rattle.cal_measure.specs.Joined.{joined_below}
use Rattle.cal_measure.specs.Services.{clocked, services_of}
use Rattle.cal_measure.specs.Shares.{thousandths_of}
use Rattle.cal_measure.specs.Spread.{IsSpread}
use Rattle.cal_measure.specs.Turns.{one_of}
use Rattle.cal_measure.specs.Work.{AreWorkOf, turns_at}
use Rattle.cal_measure.specs.declared.requests.TaskRequests.{TaskRequests}
use Rattle.cal_measure.specs.declared.times.TaskTimes.{TaskTimes}
use Rattle.cal_measure.specs.declared.services.Service.{Service}

-- the requests that thread k served
abbrev pub services_at : ℕ → List (List Entry) → ℕ → List Service
services_at last journals k = services_of (turns_at last journals k)

-- those that the threads of task t served, thread by thread
abbrev pub services_of_task : Table → ℕ → List (List Entry) → ℕ → List Service
services_of_task table last journals t =
    joined_below (λ j. services_at last journals (thread_of table t j)) (limit_of table t)

-- how long a request took, from when it came to its answer
abbrev pub response_of : List Came → Service → ℕ
response_of came service = service.answered - came_at came service.id

-- how long it waited, from when it came until it was begun
abbrev pub wait_of : List Came → Service → ℕ
wait_of came service = service.begun - came_at came service.id

-- for how long it was worked at
abbrev pub worked_of : Service → ℕ
worked_of service = service.worked

-- its slowdown, where it was worked at for some time: how many thousandths of that it took
abbrev pub slowdown_of : List Came → Service → Option ℕ
slowdown_of came service =
    option_map clocked (thousandths_of (response_of came service) service.worked)

abbrev pub slowdown_by : List Came → List Service → Service → List ℕ
slowdown_by came before service = one_of (slowdown_of came service)

-- the slowdowns of these requests
abbrev pub slowdowns_of : List Came → List Service → List ℕ
slowdowns_of came services = each_of (slowdown_by came) services

-- the requests that were left with thread k
abbrev pub left_at : List (List Request) → ℕ → List Request
left_at left k = slice_index_or left k []

-- those that were left with the threads of task t, thread by thread
abbrev pub left_of_task : Table → List (List Request) → ℕ → List Request
left_of_task table left t =
    joined_below (λ j. left_at left (thread_of table t j)) (limit_of table t)

-- how long a request that was left has waited by this clock, from when it came on
abbrev pub so_far_of : List Came → ℕ → Request → ℕ
so_far_of came end request = end - came_at came request.id

-- how many requests come to the threads of task t
abbrev pub given_to : Table → List Arrival → ℕ → ℕ
given_to table requests t =
    count_by (λ (arrival : Arrival). owner_of table arrival.thread == t) requests

-- a request of this name, where it came to a turn within a window
abbrev pub if_within : {X : Type 0} → Window → List Came → ℕ → X → Option X
if_within window came id x = if is_within window (came_to came id) then Some x else None

abbrev pub service_within : Window → List Came → List Service → Service → List Service
service_within window came before service = one_of (if_within window came service.id service)

-- those of these requests that came within a window
abbrev pub services_within : Window → List Came → List Service → List Service
services_within window came services = each_of (service_within window came) services

abbrev pub request_within : Window → List Came → List Request → Request → List Request
request_within window came before request = one_of (if_within window came request.id request)

abbrev pub requests_within : Window → List Came → List Request → List Request
requests_within window came requests = each_of (request_within window came) requests

-- what the times of these requests come to, which were served, or remained at this clock
pub record AreTimesOf (came : List Came) (end : ℕ) (services : List Service)
    (remaining : List Request) (times : TaskTimes) : Type 0 where
  -- of all of them, those that remain being pending
  pub response : IsSpread (map (response_of came) services) (map (so_far_of came end) remaining)
      times.response
  pub together : times.together ≡ sum (map (response_of came) services)
      + sum (map (so_far_of came end) remaining)
  -- of those that were served
  pub wait : IsSpread (map (wait_of came) services) [] times.wait
  pub service : IsSpread (map worked_of services) [] times.service
  pub slowdown : IsSpread (slowdowns_of came services) [] times.slowdown
  -- of those that remain
  pub so_far : IsSpread (map (so_far_of came end) remaining) [] times.so_far

-- the times among the numbers of a task's requests
abbrev pub times_in : TaskRequests → TaskTimes
times_in numbers = record {
  response = numbers.response;
  together = numbers.together;
  wait = numbers.wait;
  service = numbers.service;
  slowdown = numbers.slowdown;
  so_far = numbers.so_far;
}

-- the numbers of a task's requests in a run with this last clock that came to these services by its
-- threads, and in which these requests remained with them: how many there are of each, and the
-- times of those that came within the window
pub record AreOfServices (counted : Counted) (end : ℕ) (services : List Service)
    (remaining : List Request) (numbers : TaskRequests) : Type 0 where
  pub served : numbers.served ≡ length services
  pub left : numbers.left ≡ length remaining
  pub times : AreTimesOf counted.came end (services_within counted.window counted.came services)
      (requests_within counted.window counted.came remaining) (times_in numbers)

-- the numbers of task t's requests, counted so, in a run on these arrivals that came to these
-- journals and in which these requests remained
pub record AreRequestsOf (table : Table) (arrivals : Arrivals) (counted : Counted)
    (journals : List (List Entry)) (remaining : List (List Request)) (t : ℕ)
    (numbers : TaskRequests) : Type 0 where
  pub given : numbers.given ≡ given_to table arrivals.requests t
  pub are : AreOfServices counted (run_end arrivals)
      (services_of_task table (run_end arrivals) journals t) (left_of_task table remaining t)
      numbers
  pub work : AreWorkOf table (run_end arrivals) journals t numbers.work
