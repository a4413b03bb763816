-- The turns in which the kernel threads of a run worked at requests: the rows of the word `turns`. A
-- thread is at one request until that is served. So each of its turns at work was at the first
-- request that it had not served before.
use Rattle.std.specs.Prelude.{◌≡◌, ◌++◌, ℕ, List, [], ◌∷◌, codes, decimal, length, slice_get}
use Rattle.std.specs.Prelude.{Option, Some, None, option_map, if◌then◌else◌}
use Rattle.std.specs.List.{concat, flat_map}
use Rattle.std.specs.Option.{is_some}
use Rattle.cal_kthread.specs.declared.journal.entry.Entry.{Entry}
use Rattle.cal_machine.specs.Table.{Table}
use Rattle.cal_machine.specs.TableTasks.{threads_of_table}
use Rattle.cal_machine.specs.declared.request.Request.{Request}
use Rattle.cal_measure.specs.Clocks.{run_end}
use Rattle.cal_measure.specs.Joined.{joined_below}
use Rattle.cal_measure.specs.Requests.{left_at}
use Rattle.cal_measure.specs.Turns.{one_of}
use Rattle.cal_measure.specs.Work.{turns_at}
use Rattle.cal_measure.specs.declared.ends.TimedTurn.{TimedTurn}
use Rattle.cal_paced.specs.declared.plan.Plan.{Plan}
use Rattle.cal_policy.specs.History.Lists.{each_of}
use Rattle.cal_policy.specs.declared.policy.Policy.{Policy}
use Rattle.cal_run.specs.declared.outcome.Outcome.{Outcome}
use Rattle.cal_tables.specs.Planned.{IsRunGiven}
use Rattle.cal_trace.specs.declared.arrivals.Arrivals.{Arrivals}
use Rattle.cal_facts.specs.Cells.{cell, task_in, truth_number}
use Rattle.cal_facts.specs.declared.turns.work.WorkTurn.{WorkTurn}

-- the request of which a turn did the last work, if it did
abbrev pub served_in : List TimedTurn → TimedTurn → List ℕ
served_in before turn = one_of turn.served

-- the requests that were served in these turns, in order
abbrev pub all_served : List TimedTurn → List ℕ
all_served turns = each_of served_in turns

-- the first of the requests that were left with thread k, if there were any: where it was at one
-- when the run ended, that one
abbrev pub first_left : List (List Request) → ℕ → Option ℕ
first_left left k = option_map (λ request. request.id) (slice_get (left_at left k) 0)

-- the requests that a thread was at in these turns, in order: those that it served, and then this
-- one, the first that was left with it
abbrev pub all_begun : List TimedTurn → Option ℕ → List ℕ
all_begun turns left = all_served turns ++ one_of left

-- the first of these requests that was not served in these turns
abbrev pub first_unserved : List ℕ → List TimedTurn → Option ℕ
first_unserved requests turns = slice_get requests (length (all_served turns))

-- a turn of thread k in which it worked at this request, if it worked and there is one
abbrev pub work_at : ℕ → TimedTurn → Option ℕ → List WorkTurn
work_at k turn None = []
work_at k turn (Some request) = if turn.at_work then record {
  thread = k;
  request = request;
  from = turn.stamp;
  to = turn.ends;
  served = is_some turn.served;
} ∷ [] else []

-- a turn of thread k, if it worked, with the first of these requests that was not served in the turns
-- before it
abbrev pub work_in : ℕ → List ℕ → List TimedTurn → TimedTurn → List WorkTurn
work_in k requests before turn = work_at k turn (first_unserved requests before)

-- the turns at work among these of thread k, with which this request was left first
abbrev pub works_of : ℕ → List TimedTurn → Option ℕ → List WorkTurn
works_of k turns left = each_of (work_in k (all_begun turns left)) turns

-- the turns at work of thread k, in a run with this last clock whose threads keep these journals and
-- leave these requests
abbrev pub works_by : ℕ → List (List Entry) → List (List Request) → ℕ → List WorkTurn
works_by last journals left k = works_of k (turns_at last journals k) (first_left left k)

-- of each of n threads, in thread order
abbrev pub works_below : ℕ → ℕ → List (List Entry) → List (List Request) → List WorkTurn
works_below n last journals left = joined_below (works_by last journals left) n

-- the row of a turn at work
abbrev pub turn_line : Table → WorkTurn → List ℕ
turn_line table work =
    concat (decimal work.thread ∷ codes "," ∷ cell (task_in table work.thread) ∷ codes "," ∷
    decimal work.request ∷ codes "," ∷ decimal work.from ∷ codes "," ∷ decimal work.to ∷
    codes "," ∷ decimal (truth_number work.served) ∷ codes "\n" ∷ [])

abbrev pub turn_columns : List ℕ
turn_columns = codes "thread,task,request,from clock [ticks],to clock [ticks],served\n"

-- the text of these turns at work
abbrev pub text_of_turns : Table → List WorkTurn → List ℕ
text_of_turns table works = turn_columns ++ flat_map (turn_line table) works

-- the text of the turns at work of a run with this last clock, whose threads keep these journals
-- and leave these requests
abbrev pub turns_text : Table → ℕ → List (List Entry) → List (List Request) → List ℕ
turns_text table last journals left =
    text_of_turns table (works_below (threads_of_table table) last journals left)

-- a run on these arrivals, by the plan or in lockstep, came to some outcome, and these are the turns at
-- work of its threads
pub record AreTurnsOfRun (plan : Option Plan) (policy : Policy) (table : Table)
    (arrivals : Arrivals) (works : List WorkTurn) : Type 0 where
  pub given : Arrivals
  pub outcome : Outcome
  pub run : IsRunGiven plan policy table arrivals given outcome
  pub are : works ≡ works_below (threads_of_table table) (run_end given) outcome.journals
      outcome.left
