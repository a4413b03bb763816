-- Look rows and pass rows, as signals and histories have them: a row's value, or the first of its
-- checks that fails.
use Rattle.std.specs.Prelude.{◌==◌, ◌&&◌, nat_lt, ℕ, Bool, Result, Ok, Err, if◌then◌else◌}
use Rattle.cal_trace.specs.Rows.RowFields.{number_at, has_numbers}
use Rattle.cal_trace.specs.Rows.{Fields}
use Rattle.cal_trace.specs.Rows.Shown.{record_of}
use Rattle.cal_signal.specs.Tests.{is_shaped, is_busy_pair}
use Rattle.cal_signal.specs.declared.look.Look.{Look}
use Rattle.cal_signal.specs.declared.look.Look.TheVariants as looks
use Rattle.cal_policy.specs.declared.judgement.open_input.FoundLook.{FoundLook}
use Rattle.cal_trace.specs.declared.arrivals.GivenPass.{GivenPass}
use Rattle.cal_trace.specs.declared.fault.FaultKind.{FaultKind}
use Rattle.cal_trace.specs.declared.fault.FaultKind.TheVariants as kind
use Rattle.cal_trace.specs.declared.rows.look_rows.LookForm.{LookForm}
use Rattle.cal_trace.specs.declared.rows.look_rows.LookForm.TheVariants as form
use Rattle.cal_policy.specs.declared.history.entry.TheConstants.{MOST_PASSES}

-- a check, and what comes after it
abbrev pub check : {X : Type 0} → Bool → FaultKind → Result X FaultKind → Result X FaultKind
check holds k more = if holds then more else Err k

-- a pass row after so many passes
abbrev pub pass_row : ℕ → Fields → Result GivenPass FaultKind
pass_row passes fields =
    check (has_numbers fields) kind.Number (
    check (nat_lt passes MOST_PASSES) kind.Range (
    Ok (record { now = number_at fields 1; bandwidth = number_at fields 2 })))

-- the look of a row of this form: each but a busy one has a record
abbrev pub look_of : LookForm → Fields → Look
look_of form.Busy fields = looks.Busy (number_at fields 3) (number_at fields 4)
look_of form fields = looks.Whole (number_at fields 3) (record_of fields)

-- whether a page can give this look: a record has the right shape, a busy look a busy pair
abbrev pub is_possible : Look → Bool
is_possible (looks.Whole number rec) = is_shaped rec
is_possible (looks.Busy first second) = is_busy_pair first second

-- a look row of this form, where the next look is this thread's
abbrev pub look_row : LookForm → ℕ → Fields → Result FoundLook FaultKind
look_row form thread fields =
    check (has_numbers fields) kind.Number (
    check (number_at fields 1 == thread) kind.Order (
    check (nat_lt (number_at fields 2) 2 && is_possible (look_of form fields)) kind.Range (
    Ok (record { look = look_of form fields; room = number_at fields 2 == 1 }))))

-- an end row after so many passes: what it gives is their number
abbrev pub end_row : ℕ → Fields → Result ℕ FaultKind
end_row passes fields =
    check (has_numbers fields) kind.Number (
    check (number_at fields 1 == passes) kind.Order (
    Ok passes))
