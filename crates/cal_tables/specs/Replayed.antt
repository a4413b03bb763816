-- Runs whose passes are a history's, and their numbers.
use Rattle.std.specs.Prelude.{◌≡◌, ℕ, List, Option, Some, None, Ok}
use Rattle.cal_came.specs.declared.counted.Counted.{Counted}
use Rattle.cal_input.specs.Parts.{RunInput, run_input_of}
use Rattle.cal_kthread.specs.declared.journal.entry.Entry.{Entry}
use Rattle.cal_machine.specs.Table.{Table}
use Rattle.cal_machine.specs.declared.request.Request.{Request}
use Rattle.cal_paced.specs.Making.{DifferFrom}
use Rattle.cal_paced.specs.declared.plan.Plan.{Plan}
use Rattle.cal_policy.specs.declared.history.entry.PassEntry.{PassEntry}
use Rattle.cal_replay.specs.Replays.{IsReplay, ended}
use Rattle.cal_tables.specs.Measured.{AreRunNumbers}
use Rattle.cal_tables.specs.Measuring.{MayBeCounted}
use Rattle.cal_tables.specs.Planned.{ArePlannedBy}
use Rattle.cal_tables.specs.declared.measuring.MeasuredInput.{MeasuredInput}
use Rattle.cal_tables.specs.declared.measuring.RunNumbers.{RunNumbers}
use Rattle.cal_tables.specs.declared.replayed.ReplayedInput.{ReplayedInput}
use Rattle.cal_trace.specs.History.Reading.{extent_of}
use Rattle.cal_trace.specs.History.{history_of}
use Rattle.cal_trace.specs.Rows.{rows_of}
use Rattle.cal_trace.specs.declared.arrivals.Arrivals.{Arrivals}

-- these were read: the table and the arrivals of an input, and from rows a history for the table
pub record AreRead (input rows : List ℕ) (read : ReplayedInput) : Type 0 where
  pub run : run_input_of input ≡ Ok (record { table = read.config; arrivals = read.arrivals })
  pub told : history_of (extent_of read.config) (rows_of rows) ≡ Ok read.history.items

-- what a replay gives back of what it was given: in lockstep the same; by a plan it may differ in the
-- figures of passes
abbrev pub AreGivenBack : Option Plan → Arrivals → Arrivals → Type 0
AreGivenBack None before after = after ≡ before
AreGivenBack (Some plan) before after = DifferFrom 0 before after

-- a run on these arrivals, by the plan or in lockstep, whose passes and turns were given these, made
-- the passes of this history
pub record IsReplayGiven (plan : Option Plan) (table : Table) (arrivals given : Arrivals)
    (history : List PassEntry) (journals : List (List Entry)) (left : List (List Request)) :
    Type 0 where
  pub planned : Arrivals
  pub by_plan : ArePlannedBy plan arrivals planned
  pub back : AreGivenBack plan planned given
  pub replay : IsReplay table given history journals left

-- some run did
pub record IsReplayOn (plan : Option Plan) (table : Table) (arrivals : Arrivals)
    (history : List PassEntry) : Type 0 where
  pub given : Arrivals
  pub journals : List (List Entry)
  pub left : List (List Request)
  pub replay : IsReplayGiven plan table arrivals given history journals left

-- a run on the arrivals of an input made the passes of the history that these rows tell, and of it
-- this holds
pub record IsReplayOf (plan : Option Plan) (input rows : List ℕ)
    (Holds : RunInput → Arrivals → List PassEntry → List (List Entry) → List (List Request) →
    Type 0) : Type 0 where
  pub run : RunInput
  pub asked : run_input_of input ≡ Ok run
  pub history : List PassEntry
  pub told : history_of (extent_of run.table) (rows_of rows) ≡ Ok history
  pub given : Arrivals
  pub journals : List (List Entry)
  pub left : List (List Request)
  pub replay : IsReplayGiven plan run.table run.arrivals given history journals left
  pub holds : Holds run given history journals left

-- a run on these arrivals made the passes of this history, and these are its numbers, counted so
pub record IsReplayedRun (table : Table) (given : Arrivals) (history : List PassEntry)
    (counted : Counted) (numbers : RunNumbers) : Type 0 where
  pub journals : List (List Entry)
  pub left : List (List Request)
  pub replay : IsReplay table given history journals left
  pub are : AreRunNumbers table given counted (ended history journals left) numbers

-- there is such a run of what is asked for, and its requests can be counted so
abbrev pub MayBeReplayed : MeasuredInput → List ℕ → Type 0
MayBeReplayed asked rows = IsReplayOf asked.plan asked.bytes.now rows
    (λ run given history journals left. MayBeCounted asked.counting run.table run.arrivals)
