-- What the rows of a history say; what all files of passes have in common is in Rows/SoFar.antt.
pub mod ActionRows
pub mod Ranges
pub mod Reading
pub mod Text
use Rattle.std.specs.Prelude.{◌==◌, nat_lt, ℕ, List, [], ◌∷◌, ◌++◌, length, codes}
use Rattle.std.specs.Prelude.{Option, Some, None, Result, Ok, Err, if◌then◌else◌}
use Rattle.std.specs.Option.{option_map}
use Rattle.cal_signal.specs.declared.look.Look.{Look}
use Rattle.cal_signal.specs.declared.look.Look.TheVariants as look
use Rattle.cal_policy.specs.declared.judgement.open_input.FoundLook.{FoundLook}
use Rattle.cal_policy.specs.declared.history.look.Seen.{Seen}
use Rattle.cal_policy.specs.declared.history.look.Seen.TheVariants as seen
use Rattle.cal_policy.specs.declared.history.action.Action.{Action}
use Rattle.cal_policy.specs.declared.history.action_list.TheConstants.{MOST_ACTIONS}
use Rattle.cal_policy.specs.declared.history.entry.PassEntry.{PassEntry}
use Rattle.cal_trace.specs.History.ActionRows.{action_form, action_row}
use Rattle.cal_trace.specs.Rows.RowFields.{is_row}
use Rattle.cal_trace.specs.Rows.Version.{record_fields}
use Rattle.cal_trace.specs.Rows.Header.{header_of}
use Rattle.cal_trace.specs.Rows.LookRows.{check, look_row}
use Rattle.cal_trace.specs.Rows.Reading.{read_under}
use Rattle.cal_trace.specs.Rows.SoFar.{SoFar, at_start, whole, next_thread}
use Rattle.cal_trace.specs.Rows.SoFar.{take_pass, take_look, take_end}
use Rattle.cal_trace.specs.Rows.{Fields}
use Rattle.cal_trace.specs.declared.history.action_rows.ActionForm.{ActionForm}
use Rattle.cal_trace.specs.declared.history.action_rows.Extent.{Extent}
use Rattle.cal_trace.specs.declared.fault.FaultKind.{FaultKind}
use Rattle.cal_trace.specs.declared.fault.FaultKind.TheVariants as kind
use Rattle.cal_trace.specs.declared.fault.TraceFault.{TraceFault}
use Rattle.cal_trace.specs.declared.history.reading.Form.{Form}
use Rattle.cal_trace.specs.declared.history.reading.Form.TheVariants as form
use Rattle.cal_trace.specs.declared.arrivals.GivenPass.{GivenPass}
use Rattle.cal_trace.specs.declared.rows.look_rows.LookForm.{LookForm}
use Rattle.cal_trace.specs.declared.rows.look_rows.LookForm.TheVariants as looks
use Rattle.cal_trace.specs.declared.rows.version.Version.{Version}

-- what a look row is, by its first field and its number of fields
abbrev pub look_form : Version → Fields → Option LookForm
look_form version fields =
    if is_row (codes "whole") (record_fields version) fields then Some looks.Whole
    else if is_row (codes "busy") 5 fields then Some looks.Busy
    else if is_row (codes "ahead") (record_fields version) fields then Some looks.Ahead
    else if is_row (codes "foreign") (record_fields version) fields then Some looks.Foreign
    else None

-- a look row, else an action row
abbrev pub look_or_action : Option LookForm → Option ActionForm → Option Form
look_or_action (Some look) action = Some (form.Look look)
look_or_action None action = option_map (λ a. form.Act a) action

-- what a row is, by its first field and its number of fields
abbrev pub form_of : Version → Fields → Option Form
form_of version fields =
    if is_row (codes "pass") 3 fields then Some form.Pass
    else if is_row (codes "end") 2 fields then Some form.End
    else if is_row (codes "caladan-history") 2 fields then Some form.Header
    else look_or_action (look_form version fields) (action_form fields)

-- a look of a row of this form, as it was judged
abbrev pub judged : LookForm → Look → Seen
judged form (look.Busy first second) = seen.Busy first second
judged looks.Ahead (look.Whole number rec) = seen.Ahead number rec
judged looks.Foreign (look.Whole number rec) = seen.Foreign number rec
judged form (look.Whole number rec) = seen.Whole number rec

-- how many looks a pass has
abbrev pub looks_in : PassEntry → ℕ
looks_in entry = length entry.input.seen

-- a pass that has no looks and no actions yet
abbrev pub begun : GivenPass → PassEntry
begun row = record {
  input = record {
    now = row.now;
    bandwidth = row.bandwidth;
    seen = [];
    rooms = [];
  };
  actions = [];
}

-- one more look, of a row of this form, and one more action
abbrev pub with_look : LookForm → FoundLook → PassEntry → PassEntry
with_look form found entry = record {
  input = record {
    now = entry.input.now;
    bandwidth = entry.input.bandwidth;
    seen = entry.input.seen ++ judged form found.look ∷ [];
    rooms = entry.input.rooms ++ found.room ∷ [];
  };
  actions = entry.actions;
}

abbrev pub with_action : Action → PassEntry → PassEntry
with_action action entry = record { input = entry.input; actions = entry.actions ++ action ∷ [] }

abbrev pub add_action : SoFar PassEntry → PassEntry → Result Action FaultKind →
    Result (SoFar PassEntry) FaultKind
add_action so_far entry (Err k) = Err k
add_action so_far entry (Ok action) =
    check (nat_lt (length entry.actions) MOST_ACTIONS) kind.Range
    (Ok (record so_far { at_hand = Some (with_action action entry) }))

-- an action row, which comes after all looks of its pass
abbrev pub take_action : Extent → SoFar PassEntry → ActionForm → Fields → Option PassEntry →
    Result (SoFar PassEntry) FaultKind
take_action extent so_far action fields None = Err kind.Order
take_action extent so_far action fields (Some entry) =
    check (length entry.input.seen == extent.threads) kind.Order
    (add_action so_far entry (action_row action extent fields))

-- what the rows say with one more row of this form
abbrev pub take_form : Extent → SoFar PassEntry → Option Form → Fields →
    Result (SoFar PassEntry) FaultKind
take_form extent so_far None fields = Err kind.Fields
take_form extent so_far (Some form.Header) fields = Err kind.Order
take_form extent so_far (Some form.Pass) fields =
    take_pass looks_in begun extent.threads so_far fields
take_form extent so_far (Some form.End) fields = take_end looks_in extent.threads so_far fields
take_form extent so_far (Some (form.Look look)) fields =
    take_look (with_look look) (λ thread. look_row look thread fields) so_far
    (next_thread looks_in extent.threads so_far.at_hand)
take_form extent so_far (Some (form.Act action)) fields =
    take_action extent so_far action fields so_far.at_hand

-- what the rows say with one more row, or the first of the row's checks that fails
abbrev pub take_row : Extent → Version → SoFar PassEntry → Fields →
    Result (SoFar PassEntry) FaultKind
take_row extent version so_far fields = take_form extent so_far (form_of version fields) fields

-- the history of a file, for a table of this extent, or the first of its checks that fails, with
-- its row
abbrev pub history_of : Extent → List Fields → Result (List PassEntry) TraceFault
history_of extent rows =
    read_under (take_row extent) whole at_start (header_of (codes "caladan-history") rows)
