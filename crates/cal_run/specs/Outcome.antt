-- The outcome of a run: each field is promised by every run, in whichever order its threads made
-- their steps. What names no policy is by Policy::Caladan.
pub mod GivenOnce
pub mod Headline
use Rattle.std.specs.Prelude.{◌≡◌, ◌<◌, ℕ, List, [], length, map, min}
use Rattle.std.specs.List.{AllZip}
use Rattle.cal_machine.specs.Table.{Table}
use Rattle.cal_machine.specs.declared.request.Request.{Request}
use Rattle.cal_signal.specs.Pages.{FitsPage}
use Rattle.cal_policy.specs.declared.history.entry.PassEntry.{PassEntry}
use Rattle.cal_policy.specs.declared.policy.Policy.{Policy}
use Rattle.cal_policy.specs.declared.policy.Policy.TheVariants.{Caladan}
use Rattle.cal_machine.specs.TableTasks.{threads_of_table}
use Rattle.cal_policy.specs.History.{actions_of, commands_to}
use Rattle.cal_policy.specs.History.Found.{looks_at}
use Rattle.cal_kthread.specs.End.Account.{IsAccounted}
use Rattle.cal_kthread.specs.Journal.{IsJournal, commands_of}
use Rattle.cal_kthread.specs.declared.journal.entry.Entry.{Entry}
use Rattle.cal_kthread.specs.End.OnePlace.{LeftAt, Nowhere, ServedAt, StandsInOnePlace}
use Rattle.cal_kthread.specs.Turn.Turns.{AreTurns}
use Rattle.cal_linear.specs.Law.{IsLinearisedBy}
use Rattle.cal_linear.specs.Linear.{linear}
use Rattle.cal_linear.specs.Runs.{AreFirst, AreWatched, page_at}
use Rattle.cal_linear.specs.Steps.{journal_at}
use Rattle.cal_trace.specs.Report.Summary.{IsTallyOf}
use Rattle.cal_trace.specs.declared.arrivals.Arrivals.{Arrivals}
use Rattle.cal_trace.specs.declared.arrivals.GivenPass.{GivenPass}
use Rattle.cal_run.specs.Workers.GivenTurns.{IsGiven, turns_given}
use Rattle.cal_run.specs.declared.outcome.Outcome.{Outcome}
use Rattle.cal_run.specs.declared.parts.opening.TheConstants.{MOST_ROUNDS}
use Rattle.cal_run.specs.declared.outcome.RunEnd.{RunEnd}
use Rattle.cal_run.specs.declared.outcome.TalliedEnd.{TalliedEnd}

-- the clock and the bandwidth figure of a pass that was made
abbrev pub figures_of : PassEntry → GivenPass
figures_of entry = record { now = entry.input.now; bandwidth = entry.input.bandwidth }

-- An id that was given is in exactly one place: one thread served its request, once, or one thread
-- has it left. An id that was not given is nowhere.
pub record EachStandsOnce (arrivals : Arrivals) (outcome : Outcome) : Type 0 where
  pub given : (id : ℕ) → IsGiven arrivals.requests id →
      StandsInOnePlace outcome.journals outcome.left id
  pub others : (id : ℕ) → (IsGiven arrivals.requests id → ⊥) →
      Nowhere (ServedAt outcome.journals id) × Nowhere (LeftAt outcome.left id)

-- The outcome of a run on these arrivals, whose passes are the policy's.
pub record IsRunBy (policy : Policy) (table : Table) (arrivals : Arrivals) (outcome : Outcome) :
    Type 0 where
  -- one pass for each given one, in order, with its clock and its bandwidth figure
  pub passes : map figures_of outcome.history ≡ arrivals.passes
  -- one journal for each thread, and in it one turn for each given one, in order: its request
  -- arrived, where one came, and then it published one record, with its clock as the stamp
  pub threads : length outcome.journals ≡ threads_of_table table
  pub turns : (k : ℕ) → k < threads_of_table table →
      AreTurns (turns_given arrivals.requests arrivals.turns k) [] (journal_at outcome.journals k)
  -- each journal is one that a kernel thread can keep
  pub kept : (k : ℕ) → IsJournal (journal_at outcome.journals k)
  -- as many watched rounds as passes, MOST_ROUNDS at most
  pub rounds : length outcome.watched ≡ min (length arrivals.passes) MOST_ROUNDS
  -- what the passes found of a thread, refused looks too, fits the page of its journal
  pub looks : (k : ℕ) → FitsPage (page_at outcome.journals k) (looks_at outcome.history k)
  -- each round has one look at each thread, and what all of them found of a thread fits its page
  pub watched : AreWatched table outcome.journals outcome.watched
  -- the commands that a thread took are the first ones of those sent to it
  pub taken : (k : ℕ) → AreFirst (commands_of (journal_at outcome.journals k))
      (commands_to (actions_of outcome.history) k)
  -- the steps of all are in one legal list, whose projections are the history, the steps of each
  -- journal and the watched looks
  pub events : IsLinearisedBy policy table outcome.history outcome.journals outcome.watched
      outcome.events
  -- and that list is the one in which `linearise` puts them
  pub order : outcome.events ≡ linear outcome.history outcome.journals outcome.watched
  -- one list of what is left for each thread; for each id as many requests arrived as were served
  -- and are left; and each request that is left is one that arrived, its work as at first
  pub lefts : length outcome.left ≡ threads_of_table table
  pub account : IsAccounted outcome.journals outcome.left
  -- and each id stands in one place
  pub once : EachStandsOnce arrivals outcome

abbrev pub IsRun : Table → Arrivals → Outcome → Type 0
IsRun table arrivals outcome = IsRunBy Caladan table arrivals outcome

-- the outcome of a run that ended with these: its events are those that `linearise` makes of them
abbrev pub outcome_of : RunEnd → Outcome
outcome_of end = record {
  history = end.history;
  journals = end.journals;
  left = end.left;
  events = linear end.history end.journals end.watched;
  watched = end.watched;
}

-- a run on these arrivals ended with these
abbrev pub IsRunEndBy : Policy → Table → Arrivals → RunEnd → Type 0
IsRunEndBy policy table arrivals end = IsRunBy policy table arrivals (outcome_of end)

abbrev pub IsRunEnd : Table → Arrivals → RunEnd → Type 0
IsRunEnd table arrivals end = IsRunEndBy Caladan table arrivals end

-- a run on these arrivals came to some outcome, whose journals these tallies are of, and of which
-- this is what was left
pub record IsTalliedEndBy (policy : Policy) (table : Table) (arrivals : Arrivals)
    (end : TalliedEnd) : Type 0 where
  pub outcome : Outcome
  pub run : IsRunBy policy table arrivals outcome
  pub tallies : AllZip IsTallyOf outcome.journals end.tallies
  pub left : outcome.left ≡ end.left

abbrev pub IsTalliedEnd : Table → Arrivals → TalliedEnd → Type 0
IsTalliedEnd table arrivals end = IsTalliedEndBy Caladan table arrivals end

-- a run on these arrivals came to some outcome, of whose history and journals this holds, and of
-- which this remained
pub record IsCollectedEndBy (policy : Policy)
    (holds : List PassEntry → List (List Entry) → Type 0) (table : Table) (arrivals : Arrivals)
    (remaining : List (List Request)) : Type 0 where
  pub outcome : Outcome
  pub run : IsRunBy policy table arrivals outcome
  pub collected : holds outcome.history outcome.journals
  pub left : outcome.left ≡ remaining
