-- The passes of an input, counted as they are given.
use Rattle.cal_facts.proofs.Common.{◌≡◌, ◌∙◌, ◌<◌, ◌^◌, ◌+◌, ℕ, List, length, Result, Ok, Err, sym, ap, arith, Table, PassEntry, extent_of, parts_of, RunFault}
use Rattle.cal_trace.specs.History.{history_of}
use Rattle.cal_trace.specs.Rows.{rows_of}
use Rattle.cal_trace.specs.Rows.Answers as files
use Rattle.cal_trace.specs.declared.fault.TraceFault.{TraceFault}
use Rattle.cal_trace.specs.declared.history.file.HistoryRows.{HistoryRows}
use Rattle.cal_trace.proofs.HistoryLemmas.GivenPasses.{few_given}
use Rattle.cal_input.specs.Answers.{Decided}
use Rattle.cal_input.specs.Recorded.{recorded_in, recorded_on, recorded_run, recorded_run_of, HasGivenOf, Run}
use Rattle.cal_input.specs.declared.fault.RunFault.TheVariants as fault
use Rattle.cal_input.proofs.Refusals.{refused_history, run_decided}
use Rattle.cal_facts.specs.Counting.{passes_in}

-- the first passes of an input were given, and they are so many
pub record IsCounting (input : List ℕ) (history : HistoryRows) (count : ℕ) : Type 0 where
  pub table : Table
  pub given : List PassEntry
  pub has : HasGivenOf input table given history
  pub counted : count ≡ length given

-- there is room for one more
pub one_more : (input : List ℕ) (history : HistoryRows) (count : ℕ)
    → (counting : IsCounting input history count) → length counting.given + 1 < 2 ^ 64
one_more input history count counting =
    let has = counting.has in
    omega (arith, few_given (extent_of counting.table) has.trace counting.given history has.has)

-- an input with no run has no passes either
no_passes_in : (outcome : Result Run RunFault) (f : RunFault) → outcome ≡ Err f
    → passes_in outcome ≡ Err f
no_passes_in outcome f e = ap passes_in e

pub no_passes : (outcome : Result Run RunFault) (f : RunFault) → Decided f (outcome ≡ Err f)
    → Decided f (passes_in outcome ≡ Err f)
no_passes outcome f h =
    run_decided f (outcome ≡ Err f) (passes_in outcome ≡ Err f) (no_passes_in outcome f) h

-- the run of an input whose table and trace are known
in_parts : (input : List ℕ) (table : Table) (trace : List ℕ)
    → parts_of input ≡ Ok (record { table = table; trace = trace })
    → recorded_run_of input ≡ recorded_in table trace
in_parts input table trace parts = ap recorded_run parts

-- the history of an input is refused
pub refused_rows : (input : List ℕ) (table : Table) (trace : List ℕ) (f : TraceFault)
    → parts_of input ≡ Ok (record { table = table; trace = trace })
    → files.Decided f.kind (history_of (extent_of table) (rows_of trace) ≡ Err f)
    → Decided (fault.Trace f) (passes_in (recorded_run_of input) ≡ Err (fault.Trace f))
refused_rows input table trace f parts h =
    let history = history_of (extent_of table) (rows_of trace) in
    rw (in_parts input table trace parts)
    (no_passes (recorded_in table trace) (fault.Trace f) (refused_history table history f h))

-- the history of an input was all given
pub all_counted : (input : List ℕ) (history : HistoryRows) (count : ℕ)
    → (counting : IsCounting input history count)
    → history_of (extent_of counting.table) (rows_of counting.has.trace) ≡ Ok counting.given
    → passes_in (recorded_run_of input) ≡ Ok count
all_counted input history count counting gives =
    let table = counting.table in
    ap passes_in (in_parts input table counting.has.trace counting.has.parts)
    ∙ ap (λ r. passes_in (recorded_on table r)) gives ∙ ap Ok (sym counting.counted)
