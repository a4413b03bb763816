-- What the rows of a file of comings say.
pub mod Reading
pub mod Text
use Rattle.std.specs.Prelude.{◌==◌, ◌&&◌, nat_le, nat_lt, ℕ, List, [], ◌∷◌, ◌++◌, length, codes}
use Rattle.std.specs.Prelude.{Bool, true, Option, Some, None, Result, Ok, Err, if◌then◌else◌}
use Rattle.csv.specs.Records.{field_at}
use Rattle.cal_trace.specs.Arrivals.{last_in}
use Rattle.cal_trace.specs.Rows.Header.{with_version}
use Rattle.cal_trace.specs.Rows.LookRows.{check}
use Rattle.cal_trace.specs.Rows.Reading.{read_under}
use Rattle.cal_trace.specs.Rows.RowFields.{has_numbers, is_number_at, is_row, is_word, number_at}
use Rattle.cal_trace.specs.Rows.{Fields}
use Rattle.cal_trace.specs.declared.arrivals.Arrival.{Arrival}
use Rattle.cal_trace.specs.declared.comings.Coming.{Coming}
use Rattle.cal_trace.specs.declared.comings.Comings.{Comings}
use Rattle.cal_trace.specs.declared.comings.LeftOut.{LeftOut}
use Rattle.cal_trace.specs.declared.comings.reading.Form.{Form}
use Rattle.cal_trace.specs.declared.comings.reading.Form.TheVariants as form
use Rattle.cal_trace.specs.declared.fault.FaultKind.{FaultKind}
use Rattle.cal_trace.specs.declared.fault.FaultKind.TheVariants as kind
use Rattle.cal_trace.specs.declared.fault.TraceFault.{TraceFault}
use Rattle.cal_trace.specs.declared.rows.version.Version.{Version}
use Rattle.cal_trace.specs.declared.rows.version.Version.TheVariants as version

-- whether a row is the header
abbrev pub is_header : Fields → Bool
is_header fields = is_row (codes "id") 2 fields && is_word (field_at fields 1) (codes "turn")

-- the rows after the header, which is the first row; there is one version
abbrev pub below_header : List Fields → Result (Version × List Fields) TraceFault
below_header [] = with_version None []
below_header (header ∷ rest) =
    with_version (if is_header header then Some version.One else None) rest

-- what a row is, by its first field and its number of fields
abbrev pub form_of : Fields → Option Form
form_of fields =
    if is_row (codes "left out") 3 fields then Some form.LeftOut
    else if length fields == 2 then Some form.Coming
    else None

-- what the rows so far have given, and the requests whose rows are still to come
pub record SoFar : Type 0 where
  pub requests : List Coming
  pub left_out : List LeftOut
  pub to_come : List Arrival

-- nothing yet
abbrev pub at_start : List Arrival → SoFar
at_start requests = record { requests = []; left_out = []; to_come = requests }

-- the row of this request: it came to its turn, or to an earlier one
abbrev pub coming_row : Arrival → Fields → Result Coming FaultKind
coming_row next fields =
    check (is_number_at fields 0 && is_number_at fields 1) kind.Number (
    check (number_at fields 0 == next.request.id) kind.Order (
    check (nat_le (number_at fields 1) next.turn) kind.Range (
    Ok (record { arrival = next; turn = number_at fields 1 }))))

-- whether a task comes after the one of the last row
abbrev pub is_later : Option LeftOut → ℕ → Bool
is_later None task = true
is_later (Some last) task = nat_lt last.task task

-- a row of requests that are left out, after this one, for so many tasks
abbrev pub left_out_row : ℕ → Option LeftOut → Fields → Result LeftOut FaultKind
left_out_row tasks last fields =
    check (has_numbers fields) kind.Number (
    check (is_later last (number_at fields 1)) kind.Order (
    check (nat_lt (number_at fields 1) tasks && nat_le 1 (number_at fields 2)) kind.Range (
    Ok (record { task = number_at fields 1; count = number_at fields 2 }))))

-- one more request, with those that are then to come; one more task
abbrev pub add_coming : SoFar → List Arrival → Result Coming FaultKind → Result SoFar FaultKind
add_coming so_far to_come (Err k) = Err k
add_coming so_far to_come (Ok coming) =
    Ok (record so_far { requests = so_far.requests ++ coming ∷ []; to_come = to_come })

abbrev pub add_left_out : SoFar → Result LeftOut FaultKind → Result SoFar FaultKind
add_left_out so_far (Err k) = Err k
add_left_out so_far (Ok left_out) =
    Ok (record so_far { left_out = so_far.left_out ++ left_out ∷ [] })

-- the row of the next request, where one is to come
abbrev pub take_coming : SoFar → List Arrival → Fields → Result SoFar FaultKind
take_coming so_far [] fields = Err kind.Order
take_coming so_far (next ∷ to_come) fields = add_coming so_far to_come (coming_row next fields)

-- the row of a task, where no request is to come
abbrev pub take_left_out : ℕ → SoFar → List Arrival → Fields → Result SoFar FaultKind
take_left_out tasks so_far [] fields =
    add_left_out so_far (left_out_row tasks (last_in so_far.left_out) fields)
take_left_out tasks so_far (next ∷ to_come) fields = Err kind.Order

-- what the rows say with one more row of this form
abbrev pub take_form : ℕ → SoFar → Option Form → Fields → Result SoFar FaultKind
take_form tasks so_far None fields = Err kind.Fields
take_form tasks so_far (Some form.Coming) fields = take_coming so_far so_far.to_come fields
take_form tasks so_far (Some form.LeftOut) fields =
    take_left_out tasks so_far so_far.to_come fields

-- what the rows say with one more row, or the first of the row's checks that fails
abbrev pub take_row : ℕ → SoFar → Fields → Result SoFar FaultKind
take_row tasks so_far fields = take_form tasks so_far (form_of fields) fields

-- the comings of a file that has the row of each request
abbrev pub whole_if : SoFar → List Arrival → Option Comings
whole_if so_far [] = Some (record { requests = so_far.requests; left_out = so_far.left_out })
whole_if so_far (next ∷ to_come) = None

abbrev pub whole : SoFar → Option Comings
whole so_far = whole_if so_far so_far.to_come

-- the comings of these requests in a file, for so many tasks, or the first of its checks that
-- fails, with its row
abbrev pub comings_of : ℕ → List Arrival → List Fields → Result Comings TraceFault
comings_of tasks requests rows =
    read_under (λ version. take_row tasks) whole (at_start requests) (below_header rows)
