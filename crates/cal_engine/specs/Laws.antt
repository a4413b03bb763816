-- Laws over the definitions alone.
use Rattle.std.specs.Prelude.{◌≡◌, ◌++◌, ℕ, List, Ok}
use Rattle.cal_machine.specs.Table.{Table, IsTable}
use Rattle.cal_policy.specs.Judgement.Orderly.{IsOrderly}
use Rattle.cal_policy.specs.Pass.{IsLegal}
use Rattle.cal_policy.specs.Policies.{IsLegalBy}
use Rattle.cal_policy.specs.declared.history.entry.PassEntry.{PassEntry}
use Rattle.cal_policy.specs.declared.policy.Policy.{Policy}
use Rattle.cal_trace.specs.History.Ranges.{IsSized}
use Rattle.cal_trace.specs.History.Text.{history_text}
use Rattle.cal_input.specs.Parts.{parts_of}
use Rattle.cal_input.specs.Recorded.{recorded_run_of}
use Rattle.cal_engine.specs.Front.{front_of}
use Rattle.cal_engine.specs.declared.jobs.front.Front.TheVariants as fronts

-- the text of a history of the policy that a file can hold, with the table of an input in front, is
-- an input: of that table and that history
abbrev pub WithTableIsReadBackBy : Type 0
WithTableIsReadBackBy =
    (policy : Policy) (given : List ℕ) (table : Table) (trace : List ℕ) (history : List PassEntry) →
    parts_of given ≡ Ok (record { table = table; trace = trace }) →
    IsLegalBy policy table history → IsSized history →
    recorded_run_of (front_of fronts.Table given ++ history_text history)
    ≡ Ok (record { table = table; history = history })

-- the same of Policy::Caladan
abbrev pub WithTableIsReadBack : Type 0
WithTableIsReadBack =
    (given : List ℕ) (table : Table) (trace : List ℕ) (history : List PassEntry) →
    parts_of given ≡ Ok (record { table = table; trace = trace }) → IsLegal table history →
    IsSized history →
    recorded_run_of (front_of fronts.Table given ++ history_text history)
    ≡ Ok (record { table = table; history = history })

-- a history of any policy is orderly
abbrev pub HistoriesAreOrderly : Type 0
HistoriesAreOrderly = (policy : Policy) (table : Table) (history : List PassEntry) →
    IsTable table → IsLegalBy policy table history → IsOrderly table history
