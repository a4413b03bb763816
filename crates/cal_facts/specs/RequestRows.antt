-- What came of each request of a run: the rows of the word `requests`.
use Rattle.std.specs.Prelude.{◌≡◌, ◌-◌, ◌++◌, ℕ, List, [], ◌∷◌, codes, decimal, Option, Some, None}
use Rattle.std.specs.List.{concat, flat_map}
use Rattle.cal_kthread.specs.declared.journal.entry.Entry.{Entry}
use Rattle.cal_machine.specs.Table.{Table}
use Rattle.cal_came.specs.Came.{came_at, clock_of}
use Rattle.cal_came.specs.declared.came.Came.{Came}
use Rattle.cal_measure.specs.Clocks.{AreClocksOf, run_end}
use Rattle.cal_measure.specs.declared.clocks.ArrivalClocks.{ArrivalClocks}
use Rattle.cal_trace.specs.declared.arrivals.Arrival.{Arrival}
use Rattle.cal_trace.specs.declared.arrivals.Arrivals.{Arrivals}
use Rattle.cal_facts.specs.Cells.{cell, task_in}
use Rattle.cal_facts.specs.Served.{served_from, service_of}
use Rattle.cal_facts.specs.declared.requests.served.Served.{Served}

-- the cells of a request that was served: by which thread, when it was begun and when answered, and
-- for how long it was worked at; of one that is pending, for how long
abbrev pub served_text : ℕ → Option Served → List ℕ
served_text waits None = concat (codes ",,,,," ∷ decimal waits ∷ codes "\n" ∷ [])
served_text waits (Some served) =
    concat (codes "," ∷ decimal served.thread ∷ codes "," ∷ decimal served.service.begun ∷
    codes "," ∷ decimal served.service.answered ∷ codes "," ∷ decimal served.service.worked ∷
    codes ",\n" ∷ [])

-- the cells of a request that came at this clock
abbrev pub arrival_text : Table → ℕ → Arrival → List ℕ
arrival_text table came arrival =
    concat (decimal arrival.request.id ∷ codes "," ∷ cell (task_in table arrival.thread) ∷
    codes "," ∷ decimal arrival.thread ∷ codes "," ∷ decimal came ∷ codes "," ∷
    decimal arrival.request.work ∷ [])

-- when a request came: as is told, or at the clock of its turn
abbrev pub came_in : Option (List Came) → List ℕ → Arrival → ℕ
came_in None turns arrival = clock_of turns arrival
came_in (Some came) turns arrival = came_at came arrival.request.id

-- the clocks are those at which requests came, where that is told
abbrev pub AreClocksTold : Option (List Came) → Option ArrivalClocks → Type 0
AreClocksTold None clocks = clocks ≡ None
AreClocksTold (Some came) clocks =
    (own : ArrivalClocks) × (clocks ≡ Some own) × AreClocksOf came own

-- the row of a request of these arrivals, which came so, where these were served
abbrev pub request_line : Table → Arrivals → Option (List Came) → List Served → Arrival → List ℕ
request_line table arrivals came all arrival =
    arrival_text table (came_in came arrivals.turns arrival) arrival
    ++ served_text (run_end arrivals - came_in came arrivals.turns arrival)
    (service_of all arrival.request.id)

abbrev pub request_columns : List ℕ
request_columns =
    codes "id,task,thread,arrived [ticks],work [turns],by thread,begun [ticks],"
    ++ codes "answered [ticks],worked [ticks],pending [ticks]\n"

-- the text of the requests of these arrivals, which came so, where these were served
abbrev pub text_of_requests : Table → Arrivals → Option (List Came) → List Served → List ℕ
text_of_requests table arrivals came all =
    request_columns ++ flat_map (request_line table arrivals came all) arrivals.requests

-- the text of the requests of a run on these arrivals, which came so, whose threads keep these
-- journals
abbrev pub requests_text : Table → Arrivals → Option (List Came) → List (List Entry) → List ℕ
requests_text table arrivals came journals =
    text_of_requests table arrivals came (served_from (run_end arrivals) 0 journals)
