-- What the rows of a file of signals say; what all files of passes have in common is in
-- Rows/SoFar.antt.
pub mod Fitting
pub mod Reading
use Rattle.std.specs.Prelude.{ℕ, List, [], ◌∷◌, ◌++◌, length, codes}
use Rattle.std.specs.Prelude.{slice_get, Option, Some, None, Result, Ok, Err}
use Rattle.std.specs.Prelude.{if◌then◌else◌}
use Rattle.std.specs.Option.{option_and_then, unwrap_or}
use Rattle.cal_signal.specs.declared.look.Look.{Look}
use Rattle.cal_signal.specs.declared.look.Look.TheVariants as look
use Rattle.cal_trace.specs.Rows.RowFields.{is_row}
use Rattle.cal_trace.specs.Rows.Version.{record_fields}
use Rattle.cal_trace.specs.Rows.Header.{header_of}
use Rattle.cal_trace.specs.Rows.LookRows.{check, look_row}
use Rattle.cal_trace.specs.Rows.Reading.{read_under}
use Rattle.cal_trace.specs.Rows.SoFar.{SoFar, at_start, passes_of, whole, next_thread}
use Rattle.cal_trace.specs.Rows.SoFar.{take_pass, take_look, take_end}
use Rattle.cal_trace.specs.Rows.{Fields}
use Rattle.cal_signal.specs.Shown.{nothing_shown}
use Rattle.cal_signal.specs.Tests.{is_shown_after}
use Rattle.cal_policy.specs.History.Lists.{last_of}
use Rattle.cal_trace.specs.declared.fault.FaultKind.{FaultKind}
use Rattle.cal_trace.specs.declared.fault.FaultKind.TheVariants as kind
use Rattle.cal_trace.specs.declared.fault.TraceFault.{TraceFault}
use Rattle.cal_trace.specs.declared.arrivals.GivenPass.{GivenPass}
use Rattle.cal_trace.specs.declared.rows.look_rows.LookForm.{LookForm}
use Rattle.cal_trace.specs.declared.rows.look_rows.LookForm.TheVariants as looks
use Rattle.cal_signal.specs.declared.shown.Shown.{Shown}
use Rattle.cal_policy.specs.declared.judgement.open_input.FoundLook.{FoundLook}
use Rattle.cal_trace.specs.declared.signals.SignalPass.{SignalPass}
use Rattle.cal_trace.specs.declared.signals.reading.Form.{Form}
use Rattle.cal_trace.specs.declared.signals.reading.Form.TheVariants as form
use Rattle.cal_trace.specs.declared.rows.version.Version.{Version}

-- what a row is, by its first field and its number of fields
abbrev pub form_of : Version → Fields → Option Form
form_of version fields =
    if is_row (codes "pass") 3 fields then Some form.Pass
    else if is_row (codes "whole") (record_fields version) fields then Some (form.Look looks.Whole)
    else if is_row (codes "busy") 5 fields then Some (form.Look looks.Busy)
    else if is_row (codes "end") 2 fields then Some form.End
    else if is_row (codes "caladan-signals") 2 fields then Some form.Header
    else None

-- how many looks a pass has
abbrev pub looks_in : SignalPass → ℕ
looks_in pass = length pass.looks

-- a pass that has no looks yet
abbrev pub begun : GivenPass → SignalPass
begun row = record { now = row.now; bandwidth = row.bandwidth; looks = [] }

-- what a look showed
abbrev pub shown_by : Look → Option Shown
shown_by (look.Whole number rec) = Some (record { number = number; rec = rec })
shown_by (look.Busy first second) = None

-- what thread k showed in a pass
abbrev pub shown_in : ℕ → SignalPass → Option Shown
shown_in k pass = option_and_then (λ seen. shown_by seen.look) (slice_get pass.looks k)

-- what thread k showed last in these passes
abbrev pub last_shown : ℕ → List SignalPass → Shown
last_shown k passes = unwrap_or (last_of (λ before pass. shown_in k pass) passes) nothing_shown

-- one more look of the pass at hand
abbrev pub with_look : FoundLook → SignalPass → SignalPass
with_look seen pass = record {
  now = pass.now;
  bandwidth = pass.bandwidth;
  looks = pass.looks ++ seen ∷ [];
}

-- a look, where a thread that showed this last may give it: one that finds no record shows nothing
-- new
abbrev pub following : Shown → Result FoundLook FaultKind → Result FoundLook FaultKind
following last (Err k) = Err k
following last (Ok found) =
    check (is_shown_after last (unwrap_or (shown_by found.look) last)) kind.Backwards (Ok found)

-- what a look row of this form says, where the next look is this thread's
abbrev pub next_look : SoFar SignalPass → LookForm → Fields → ℕ → Result FoundLook FaultKind
next_look so_far form fields thread =
    following (last_shown thread (passes_of so_far)) (look_row form thread fields)

-- what the rows say with one more row of this form
abbrev pub take_form : ℕ → SoFar SignalPass → Option Form → Fields →
    Result (SoFar SignalPass) FaultKind
take_form threads so_far None fields = Err kind.Fields
take_form threads so_far (Some form.Header) fields = Err kind.Order
take_form threads so_far (Some form.Pass) fields = take_pass looks_in begun threads so_far fields
take_form threads so_far (Some form.End) fields = take_end looks_in threads so_far fields
take_form threads so_far (Some (form.Look look)) fields =
    take_look with_look (next_look so_far look fields) so_far
    (next_thread looks_in threads so_far.at_hand)

-- what the rows say with one more row, or the first of the row's checks that fails
abbrev pub take_row : ℕ → Version → SoFar SignalPass → Fields → Result (SoFar SignalPass) FaultKind
take_row threads version so_far fields = take_form threads so_far (form_of version fields) fields

-- the passes of a file of signals for so many threads, or the first of its checks that fails, with
-- its row
abbrev pub signals_of : ℕ → List Fields → Result (List SignalPass) TraceFault
signals_of threads rows =
    read_under (take_row threads) whole at_start (header_of (codes "caladan-signals") rows)
