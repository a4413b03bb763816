-- A paced run while it is made.
use Rattle.std.specs.Prelude.{◌≡◌, ◌*◌, ◌<◌, ℕ, zero, suc, Bool, Option, Some, List, [], ◌∷◌, ◌++◌}
use Rattle.std.specs.Prelude.{◌-◌, length, min, nat_lt, replicate, slice_get, sum_by}
use Rattle.cal_kthread.specs.declared.journal.entry.Entry.{Entry}
use Rattle.cal_kthread.specs.Turn.Entries.{work}
use Rattle.cal_kthread.specs.Turn.OnCores.{turned_on, work_in_turn}
use Rattle.cal_kthread.specs.Turn.Thread.{KernelView}
use Rattle.cal_kthread.specs.Turn.{Answers}
use Rattle.cal_kthread.specs.declared.turn.entries.TurnEntries.{TurnEntries}
use Rattle.cal_machine.specs.CoreSet.{has}
use Rattle.cal_machine.specs.Table.{Table}
use Rattle.cal_machine.specs.declared.core_set.CoreSet.{CoreSet}
use Rattle.cal_machine.specs.declared.machine.TheConstants.{MOST_CORES}
use Rattle.cal_machine.specs.declared.request.Request.{Request}
use Rattle.cal_kthread.specs.Journal.{records_of}
use Rattle.cal_run.specs.Parts.{AreParts}
use Rattle.cal_run.specs.Workers.{journals_of}
use Rattle.cal_paced.specs.Paced.{SlowsNobody}
use Rattle.cal_paced.specs.declared.plan.Figure.TheVariants.{Shown}
use Rattle.cal_run.specs.declared.parts.Parts.{Parts}
use Rattle.cal_run.specs.declared.workers.worker.Worker.{Worker}
use Rattle.cal_trace.specs.declared.arrivals.Arrivals.{Arrivals}
use Rattle.cal_trace.specs.declared.arrivals.GivenPass.{GivenPass}
use Rattle.cal_paced.specs.Figures.{misses_at}
use Rattle.cal_paced.specs.Pace.{pass_clock, pass_of}
use Rattle.cal_paced.specs.Rounds.{AreFirstRounds, Standing}
use Rattle.cal_paced.specs.Shares.{last_record}
use Rattle.cal_paced.specs.declared.plan.Plan.{Plan}
use Rattle.cal_paced.specs.declared.plan.TheConstants.{WHOLE}

-- the first n passes before a turn, in order
abbrev pub passes_before : (pace before turn bandwidth n : ℕ) → List GivenPass
passes_before pace before turn bandwidth zero = []
passes_before pace before turn bandwidth (suc n) = passes_before pace before turn bandwidth n
    ++ (record { now = pass_clock pace before turn n; bandwidth = bandwidth }) ∷ []

-- what a turn handed out is what the definition of it says: what its third step put into the
-- journal, and the record that it published
pub record IsTurnTold (works : ℕ → Bool) (now : ℕ) (request : Option Request) (answers : Answers)
    (before after : KernelView) (entries : TurnEntries) : Type 0 where
  pub thread : after ≡ turned_on works now request answers before
  pub work : work entries ≡ work_in_turn works now request answers before
  pub shows : entries.published.shown ≡ last_record after

-- these threads, with what they have left over, in the same order
abbrev pub standings_of : List Worker → List ℕ → List Standing
standings_of (worker ∷ workers) (saved ∷ others) =
    record { thread = worker.thread; saved = saved } ∷ standings_of workers others
standings_of _ _ = []

-- these are all cores that a machine can have
abbrev pub AreAllCores : CoreSet → Type 0
AreAllCores set = (core : ℕ) → has set core ≡ nat_lt core MOST_CORES

-- each amount that is left over is below a turn's whole work
abbrev pub AreBelowWhole : List ℕ → Type 0
AreBelowWhole saved = (k amount : ℕ) → slice_get saved k ≡ Some amount → amount < WHOLE

-- the parts after the first n rounds: so many passes to each, one turn of each thread, and as many
-- rounds of the watch as passes, as long as there are any left
abbrev pub AreAfterRounds : Plan → Table → Arrivals → ℕ → Parts → Type 0
AreAfterRounds plan table given n parts =
    AreParts table given (plan.pace * n) n (min (plan.pace * n) parts.watch.most) parts

-- arrivals that differ in the figures of passes alone, and there from this pass on
pub record DifferFrom (p : ℕ) (before after : Arrivals) : Type 0 where
  pub turns : after.turns ≡ before.turns
  pub requests : after.requests ≡ before.requests
  pub many : length after.passes ≡ length before.passes
  pub clocks : (i : ℕ) (was is : GivenPass) → slice_get before.passes i ≡ Some was →
      slice_get after.passes i ≡ Some is → is.now ≡ was.now
  pub same : (i : ℕ) → i < p → slice_get after.passes i ≡ slice_get before.passes i

-- the misses that the last records of these threads show, all together
abbrev pub misses_of : List Worker → ℕ
misses_of workers = sum_by (λ (worker : Worker). (last_record worker.thread).misses) workers

-- the misses that the n-th records of these journals show, all together
abbrev pub misses_of_records : List (List Entry) → ℕ → ℕ
misses_of_records journals n = sum_by (λ journal. misses_at journal n) journals

-- by how much that rose in the turns before turn j
abbrev pub risen_before : List (List Entry) → ℕ → ℕ
risen_before journals j = misses_of_records journals j - misses_of_records journals (j - 1)

-- the passes of the first n rounds have the figures that the records show
abbrev pub AreShown : ℕ → ℕ → List (List Entry) → List GivenPass → Type 0
AreShown pace n journals passes = (j i : ℕ) (pass : GivenPass) → j < n → i < pace →
    slice_get passes (pass_of pace j i) ≡ Some pass → pass.bandwidth ≡ risen_before journals j

-- the first n rounds of turns led to these threads
abbrev pub HaveLedTo : Plan → Arrivals → ℕ → List Standing → Type 0
HaveLedTo plan given n standings = (rounds : List (List Standing))
    × AreFirstRounds plan given n rounds × (slice_get rounds n ≡ Some standings)

-- a thread has published the n records of its journal
pub record IsShownAt (n : ℕ) (k : KernelView) : Type 0 where
  pub page : records_of k.journal ≡ k.thread.publisher.published
  pub count : length (records_of k.journal) ≡ n

abbrev pub HaveShown : ℕ → List Worker → Type 0
HaveShown n workers = (k : ℕ) (worker : Worker) → slice_get workers k ≡ Some worker →
    IsShownAt n worker.thread

-- A paced run after its first n rounds: its parts, what each thread has left over, and the misses
-- that all records showed before the last round of turns.
pub record IsMadeUpTo (n : ℕ) (plan : Plan) (table : Table) (given : Arrivals) (parts : Parts)
    (saved : List ℕ) (misses : ℕ) : Type 0 where
  pub are : AreAfterRounds plan table given n parts
  pub kept : length saved ≡ length parts.workers.items
  pub below : AreBelowWhole saved
  -- where nobody is slowed nothing is left over
  pub nothing : SlowsNobody plan → saved ≡ replicate (length parts.workers.items) 0
  pub shares : HaveLedTo plan given n (standings_of parts.workers.items saved)
  pub shown : HaveShown n parts.workers.items
  -- where the figures are those that the records show
  pub figures : plan.figure ≡ Shown →
      AreShown plan.pace n (journals_of parts.workers.items) given.passes
  pub before : plan.figure ≡ Shown →
      misses ≡ misses_of_records (journals_of parts.workers.items) (n - 1)
