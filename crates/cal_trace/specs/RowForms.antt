-- The rows that are handed out as text are those that the readers take: what each of them is, by its
-- word and its number of fields, one after the other. Each row of a file but its header is among
-- them. A text with another row is refused.
use Rattle.std.specs.Prelude.{◌≡◌, ◌==◌, ℕ, List, [], ◌∷◌, map, refl, Some, if◌then◌else◌}
use Rattle.csv.specs.Records.{field_at}
use Rattle.cal_trace.specs.Arrivals as arrivals
use Rattle.cal_trace.specs.History as history
use Rattle.cal_trace.specs.Signals as signals
use Rattle.cal_trace.specs.Rows.{Fields}
use Rattle.cal_trace.specs.declared.arrivals.reading.Form.TheVariants as arrival
use Rattle.cal_trace.specs.declared.history.action_rows.ActionForm.TheVariants as action
use Rattle.cal_trace.specs.declared.history.reading.Form.TheVariants as of_history
use Rattle.cal_trace.specs.declared.row_forms.TheConstants.{SIGNAL_ROWS, ARRIVAL_ROWS, HISTORY_ROWS}
use Rattle.cal_trace.specs.declared.rows.look_rows.LookForm.TheVariants as look
use Rattle.cal_trace.specs.declared.rows.version.TheConstants.Version.{WRITTEN}
use Rattle.cal_trace.specs.declared.signals.reading.Form.TheVariants as signal

-- a byte before the first of some parts
abbrev with_first : ℕ → List (List ℕ) → List (List ℕ)
with_first byte [] = (byte ∷ []) ∷ []
with_first byte (part ∷ parts) = (byte ∷ part) ∷ parts

-- the parts of a text between these bytes
abbrev parts_at : ℕ → List ℕ → List (List ℕ)
parts_at mark [] = [] ∷ []
parts_at mark (byte ∷ text) =
    if byte == mark then [] ∷ parts_at mark text else with_first byte (parts_at mark text)

-- the rows of a text, a line each: its fields, by commas
abbrev rows_in : List ℕ → List Fields
rows_in text = map (parts_at 44) (parts_at 10 text)

pub signal_rows-are : map (signals.form_of WRITTEN) (rows_in SIGNAL_ROWS.now) ≡
    Some signal.Pass ∷ Some (signal.Look look.Whole) ∷ Some (signal.Look look.Busy) ∷
    Some signal.End ∷ []
unfolding field_at
signal_rows-are = refl

pub arrival_rows-are : map arrivals.form_of (rows_in ARRIVAL_ROWS.now) ≡
    Some arrival.Pass ∷ Some arrival.Turn ∷ Some arrival.Arrival ∷ Some arrival.End ∷ []
unfolding field_at
arrival_rows-are = refl

pub history_rows-are : map (history.form_of WRITTEN) (rows_in HISTORY_ROWS.now) ≡
    Some of_history.Pass ∷ Some (of_history.Look look.Whole) ∷ Some (of_history.Look look.Busy) ∷
    Some (of_history.Look look.Ahead) ∷ Some (of_history.Look look.Foreign) ∷
    Some (of_history.Act action.Free) ∷ Some (of_history.Act action.Unban) ∷
    Some (of_history.Act action.Ban) ∷ Some (of_history.Act action.RevokeForBan) ∷
    Some (of_history.Act action.RevokeForBandwidth) ∷ Some (of_history.Act action.RevokeForTask) ∷
    Some (of_history.Act action.Cap) ∷ Some (of_history.Act action.Grant) ∷ Some of_history.End ∷ []
unfolding field_at
history_rows-are = refl
