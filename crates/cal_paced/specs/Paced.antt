-- Paced runs, and what they end with.
use Rattle.std.specs.Prelude.{◌≡◌, ◌≢◌, ◌≤◌, ◌<◌, ◌*◌, ℕ, List, [], length, map, Some, None, slice_get}
use Rattle.cal_kthread.specs.declared.journal.entry.Entry.{Entry}
use Rattle.cal_machine.specs.Table.{Table}
use Rattle.cal_machine.specs.declared.request.Request.{Request}
use Rattle.cal_policy.specs.declared.history.entry.PassEntry.{PassEntry}
use Rattle.cal_policy.specs.declared.history.entry.TheConstants.{MOST_PASSES}
use Rattle.cal_policy.specs.declared.policy.Policy.{Policy}
use Rattle.cal_run.specs.Outcome.Headline.{HeadlineBy}
use Rattle.cal_run.specs.Outcome.{EachStandsOnce, IsRunBy, outcome_of}
use Rattle.cal_run.specs.declared.outcome.Outcome.{Outcome}
use Rattle.cal_run.specs.declared.outcome.RunEnd.{RunEnd}
use Rattle.cal_trace.specs.declared.arrivals.Arrivals.{Arrivals}
use Rattle.cal_paced.specs.Figures.{HaveFigures, figure_before}
use Rattle.cal_paced.specs.Pace.{StandEvenly}
use Rattle.cal_paced.specs.Rounds.{AreRounds, Standing}
use Rattle.cal_paced.specs.declared.fault.PaceFault.TheVariants.{Memory, NoMisses, NoPlan}
use Rattle.cal_paced.specs.declared.fault.PaceFault.TheVariants.{Passes, Rows}
use Rattle.cal_paced.specs.declared.fault.PaceFault.{PaceFault}
use Rattle.cal_paced.specs.declared.plan.Figure.TheVariants.{Given}
use Rattle.cal_paced.specs.declared.plan.Plan.{Plan}
use Rattle.cal_paced.specs.declared.plan.TheConstants.{WHOLE}

-- a plan that a run can go by: at least one pass to a turn, and shares of a turn at most
pub record IsPlan (plan : Plan) : Type 0 where
  pub pace : 1 ≤ plan.pace
  pub beside : plan.beside ≤ WHOLE

-- each turn does all of its work by this plan, whatever the threads are
abbrev pub SlowsNobody : Plan → Type 0
SlowsNobody plan = (plan.beside ≡ WHOLE) × (plan.memory ≡ None)

-- the arrivals can be paced: there is one pass row for each turn, and no more passes come of them
-- than a history has room for
pub record MayBePaced (pace : ℕ) (arrivals : Arrivals) : Type 0 where
  pub rows : length arrivals.passes ≡ length arrivals.turns
  pub few : pace * length arrivals.turns ≤ MOST_PASSES

-- why arrivals cannot be paced, in this order; where memory was refused they could be
abbrev pub IsPaceFault : ℕ → Arrivals → PaceFault → Type 0
IsPaceFault pace arrivals Rows = length arrivals.passes ≢ length arrivals.turns
IsPaceFault pace arrivals Passes = (length arrivals.passes ≡ length arrivals.turns)
    × (MOST_PASSES < pace * length arrivals.turns)
IsPaceFault pace arrivals Memory = MayBePaced pace arrivals
IsPaceFault pace arrivals NoPlan = ⊥
IsPaceFault pace arrivals NoMisses = ⊥

-- these are paced arrivals: the turns and the requests are as they were, and the passes stand
-- evenly before their turns
pub record ArePaced (pace : ℕ) (arrivals given : Arrivals) : Type 0 where
  pub turns : given.turns ≡ arrivals.turns
  pub requests : given.requests ≡ arrivals.requests
  pub clocks : StandEvenly pace arrivals.turns given.passes

-- these arrivals are paced for a run by this plan: where the figures are given, they have those
pub record IsPacedFor (plan : Plan) (arrivals given : Arrivals) : Type 0 where
  pub paced : ArePaced plan.pace arrivals given
  pub figures : plan.figure ≡ Given → HaveFigures plan.pace
      (figure_before Given arrivals.passes []) given.passes

-- A run on these arrivals by this plan, whose passes and turns were given these, came to this
-- outcome.
pub record IsPacedRunOf (policy : Policy) (table : Table) (plan : Plan)
    (arrivals given : Arrivals) (outcome : Outcome) : Type 0 where
  -- what its passes and turns were given: paced arrivals, with the figures of the plan
  pub paced : ArePaced plan.pace arrivals given
  pub figures : HaveFigures plan.pace
      (figure_before plan.figure arrivals.passes outcome.journals) given.passes
  -- it is a run on these, whose headline and account hold as of any run
  pub run : IsRunBy policy table given outcome
  pub headline : HeadlineBy policy table outcome
  pub once : EachStandsOnce arrivals outcome
  -- the threads before each round of turns and after the last: each turn does its share of work
  pub rounds : List (List Standing)
  pub shares : AreRounds plan arrivals rounds
  -- and what they did by then are the journals
  pub journals : (threads : List Standing) →
      slice_get rounds (length arrivals.turns) ≡ Some threads →
      outcome.journals ≡ map (λ (standing : Standing). standing.thread.journal) threads

-- with these or others
abbrev pub IsPacedRunBy : Policy → Table → Plan → Arrivals → Outcome → Type 0
IsPacedRunBy policy table plan arrivals outcome =
    (given : Arrivals) × IsPacedRunOf policy table plan arrivals given outcome

-- a paced run ended with these
abbrev pub IsPacedEndOf : Policy → Table → Plan → Arrivals → Arrivals → RunEnd → Type 0
IsPacedEndOf policy table plan arrivals given end =
    IsPacedRunOf policy table plan arrivals given (outcome_of end)

-- a paced run came to some outcome, of whose history and journals this holds, and of which this
-- remained
pub record IsPacedCollectedOf (policy : Policy)
    (holds : List PassEntry → List (List Entry) → Type 0) (table : Table) (plan : Plan)
    (arrivals given : Arrivals) (remaining : List (List Request)) : Type 0 where
  pub outcome : Outcome
  pub run : IsPacedRunOf policy table plan arrivals given outcome
  pub collected : holds outcome.history outcome.journals
  pub left : outcome.left ≡ remaining
