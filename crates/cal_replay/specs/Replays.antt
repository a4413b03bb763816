-- A run whose passes are those of a history.
use Rattle.std.specs.Prelude.{◌≡◌, ◌<◌, ℕ, List, [], length, map}
use Rattle.cal_guard.specs.Permitted.{IsPermittedHistory}
use Rattle.cal_kthread.specs.End.Account.{IsAccounted}
use Rattle.cal_kthread.specs.Journal.{IsJournal, commands_of}
use Rattle.cal_kthread.specs.Turn.Turns.{AreTurns}
use Rattle.cal_kthread.specs.declared.journal.entry.Entry.{Entry}
use Rattle.cal_linear.specs.Runs.{AreFirst, page_at}
use Rattle.cal_linear.specs.Steps.{journal_at}
use Rattle.cal_machine.specs.Table.{Table, IsTable}
use Rattle.cal_machine.specs.TableTasks.{threads_of_table}
use Rattle.cal_machine.specs.declared.request.Request.{Request}
use Rattle.cal_policy.specs.History.Found.{looks_at}
use Rattle.cal_policy.specs.History.{actions_of, commands_to}
use Rattle.cal_policy.specs.Policies.{IsLegalBy}
use Rattle.cal_policy.specs.declared.history.entry.PassEntry.{PassEntry}
use Rattle.cal_policy.specs.declared.policy.Policy.{Policy}
use Rattle.cal_run.specs.Outcome.{EachStandsOnce, IsRunEndBy, figures_of}
use Rattle.cal_run.specs.Parts.{filled}
use Rattle.cal_run.specs.Workers.GivenTurns.{turns_given}
use Rattle.cal_run.specs.declared.outcome.Outcome.{Outcome}
use Rattle.cal_run.specs.declared.outcome.RunEnd.{RunEnd}
use Rattle.cal_signal.specs.Pages.{FitsPage}
use Rattle.cal_trace.specs.declared.arrivals.Arrivals.{Arrivals}
use Rattle.cal_replay.specs.Passes.{AreWhole}

-- what a replay ends with, as an outcome whose events are not listed and which nobody watched
abbrev pub ended : List PassEntry → List (List Entry) → List (List Request) → Outcome
ended history journals left = record {
  history = history;
  journals = journals;
  left = left;
  events = [];
  watched = [];
}

-- A run on these arrivals made the passes of this history: these are the journals of its threads,
-- and what was left with them.
pub record IsReplay (table : Table) (arrivals : Arrivals) (history : List PassEntry)
    (journals : List (List Entry)) (left : List (List Request)) : Type 0 where
  -- one pass for each given one, in order, with its clock and its bandwidth figure
  pub passes : map figures_of history ≡ arrivals.passes
  -- each action of the history is permitted
  pub permitted : IsPermittedHistory table history
  -- each look of the history is whole, and what the looks found of a thread fits the page of its
  -- journal: each is the record that it published at that place, and places do not fall
  pub whole : AreWhole history
  pub looks : (k : ℕ) → FitsPage (page_at journals k) (looks_at history k)
  -- the commands that a thread took are the first ones of those that the actions of the history send
  -- to it
  pub taken : (k : ℕ) → AreFirst (commands_of (journal_at journals k))
      (commands_to (actions_of history) k)
  -- all else is a run as any: one journal for each thread, and in it one turn for each given one
  pub threads : length journals ≡ threads_of_table table
  pub turns : (k : ℕ) → k < threads_of_table table →
      AreTurns (turns_given arrivals.requests arrivals.turns k) [] (journal_at journals k)
  pub kept : (k : ℕ) → IsJournal (journal_at journals k)
  pub lefts : length left ≡ threads_of_table table
  pub account : IsAccounted journals left
  pub once : EachStandsOnce arrivals (ended history journals left)

-- it did, and of the journals this holds
pub record IsReplayTo (holds : List (List Entry) → Type 0) (table : Table) (arrivals : Arrivals)
    (history : List PassEntry) (left : List (List Request)) : Type 0 where
  pub journals : List (List Entry)
  pub replay : IsReplay table arrivals history journals left
  pub collected : holds journals

-- A replay of a history of a policy is a run by the policy, which had this history.
abbrev pub ReplayOfPolicyIsRun : Type 0
ReplayOfPolicyIsRun = (policy : Policy) (table : Table) (arrivals : Arrivals)
    (history : List PassEntry) (journals : List (List Entry)) (left : List (List Request)) →
    IsTable table → IsReplay table arrivals history journals left →
    IsLegalBy policy table history → IsRunEndBy policy table arrivals (record {
      history = history;
      journals = journals;
      left = left;
      watched = filled table arrivals [];
    })
