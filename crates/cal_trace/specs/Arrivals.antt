-- What the rows of a file of arrivals say.
pub mod FitsTable
pub mod Ids
pub mod Reading
pub mod Text
use Rattle.std.specs.Prelude.{◌==◌, ◌&&◌, ◌||◌, ◌+◌, ◌-◌, not, nat_le, nat_lt, ℕ, List, [], ◌∷◌}
use Rattle.std.specs.Prelude.{◌++◌, length, codes, slice_get, Bool, true, false, Option, Some, None}
use Rattle.std.specs.Prelude.{Result, Ok, Err, if◌then◌else◌}
use Rattle.std.specs.List.{list_any}
use Rattle.std.specs.Option.{unwrap_or}
use Rattle.cal_trace.specs.Rows.RowFields.{is_row, number_at, has_numbers}
use Rattle.cal_trace.specs.Rows.Header.{header_of, in_version_one}
use Rattle.cal_trace.specs.Rows.LookRows.{check, pass_row, end_row}
use Rattle.cal_trace.specs.Rows.Reading.{read_under}
use Rattle.cal_trace.specs.Rows.{Fields}
use Rattle.cal_trace.specs.declared.arrivals.reading.Form.{Form}
use Rattle.cal_trace.specs.declared.arrivals.reading.Form.TheVariants as form
use Rattle.cal_trace.specs.declared.arrivals.reading.TheConstants.{MOST_TURNS, MOST_WORK}
use Rattle.cal_trace.specs.declared.arrivals.reading.TheConstants.{MOST_REQUEST_MISSES}
use Rattle.cal_trace.specs.declared.arrivals.Arrival.{Arrival}
use Rattle.cal_trace.specs.declared.arrivals.Arrivals.{Arrivals}
use Rattle.cal_trace.specs.declared.arrivals.GivenPass.{GivenPass}
use Rattle.cal_trace.specs.declared.fault.FaultKind.{FaultKind}
use Rattle.cal_trace.specs.declared.fault.FaultKind.TheVariants as kind
use Rattle.cal_trace.specs.declared.fault.TraceFault.{TraceFault}

-- what a row is, by its first field and its number of fields
abbrev pub form_of : Fields → Option Form
form_of fields =
    if is_row (codes "pass") 3 fields then Some form.Pass
    else if is_row (codes "turn") 2 fields then Some form.Turn
    else if is_row (codes "request") 6 fields then Some form.Arrival
    else if is_row (codes "end") 2 fields then Some form.End
    else if is_row (codes "caladan-arrivals") 2 fields then Some form.Header
    else None

-- what the rows so far have given, and whether the end row came
pub record SoFar : Type 0 where
  pub passes : List GivenPass
  pub turns : List ℕ
  pub requests : List Arrival
  pub ended : Bool

-- nothing yet
abbrev pub at_start : SoFar
at_start = record { passes = []; turns = []; requests = []; ended = false }

-- how many rows there are below the header: each gave a pass, a turn or a request
abbrev pub rows_in : SoFar → ℕ
rows_in so_far = length so_far.passes + length so_far.turns + length so_far.requests

-- the last of a list, if it has one
abbrev pub last_in : {X : Type 0} → List X → Option X
last_in xs = slice_get xs (length xs - 1)

-- a turn row after these turns: its clock is at least 1, and not below that of the turn before
abbrev pub turn_row : List ℕ → Fields → Result ℕ FaultKind
turn_row turns fields =
    check (has_numbers fields) kind.Number (
    check (nat_lt (length turns) MOST_TURNS && nat_le 1 (number_at fields 1) &&
    nat_le (unwrap_or (last_in turns) 0) (number_at fields 1)) kind.Range (
    Ok (number_at fields 1)))

-- whether a request for this thread before this turn comes after the last one: a later thread, or
-- the same one and a later turn
abbrev pub comes_after : Option Arrival → ℕ → ℕ → Bool
comes_after None thread turn = true
comes_after (Some last) thread turn =
    nat_lt last.thread thread || ((last.thread == thread) && nat_lt last.turn turn)

-- whether a request of this id is among these
abbrev pub is_given : ℕ → List Arrival → Bool
is_given id requests = list_any (λ (arrival : Arrival). arrival.request.id == id) requests

-- whether a request has so much work, at least 1, and so few misses
abbrev pub is_size : ℕ → ℕ → Bool
is_size work misses =
    nat_le 1 work && nat_le work MOST_WORK && nat_le misses MOST_REQUEST_MISSES

-- a request row after this request, for so many threads and so many turns, whatever ids came before
abbrev pub arrival_row : ℕ → ℕ → Option Arrival → Fields → Result Arrival FaultKind
arrival_row threads turns last fields =
    check (has_numbers fields) kind.Number (
    check (comes_after last (number_at fields 1) (number_at fields 2)) kind.Order (
    check (nat_lt (number_at fields 1) threads && nat_lt (number_at fields 2) turns &&
    is_size (number_at fields 4) (number_at fields 5)) kind.Range (
    Ok (record {
      thread = number_at fields 1;
      turn = number_at fields 2;
      request = record {
        id = number_at fields 3;
        work = number_at fields 4;
        misses = number_at fields 5;
      };
    }))))

-- one more pass, one more turn, one more request, the end
abbrev pub add_pass : SoFar → Result GivenPass FaultKind → Result SoFar FaultKind
add_pass so_far (Err k) = Err k
add_pass so_far (Ok pass) = Ok (record so_far { passes = so_far.passes ++ pass ∷ [] })

abbrev pub add_turn : SoFar → Result ℕ FaultKind → Result SoFar FaultKind
add_turn so_far (Err k) = Err k
add_turn so_far (Ok now) = Ok (record so_far { turns = so_far.turns ++ now ∷ [] })

abbrev pub add_arrival : SoFar → Result Arrival FaultKind → Result SoFar FaultKind
add_arrival so_far (Err k) = Err k
add_arrival so_far (Ok arrival) =
    check (not (is_given arrival.request.id so_far.requests)) kind.Repeated
    (Ok (record so_far { requests = so_far.requests ++ arrival ∷ [] }))

abbrev pub add_end : SoFar → Result ℕ FaultKind → Result SoFar FaultKind
add_end so_far (Err k) = Err k
add_end so_far (Ok count) = Ok (record so_far { ended = true })

-- whether a list is empty
abbrev pub is_none_yet : {X : Type 0} → List X → Bool
is_none_yet [] = true
is_none_yet (x ∷ xs) = false

-- what the rows say with one more row of this form: passes come first, then turns, then requests,
-- then the end row
abbrev pub take_form : ℕ → SoFar → Option Form → Fields → Result SoFar FaultKind
take_form threads so_far None fields = Err kind.Fields
take_form threads so_far (Some form.Header) fields = Err kind.Order
take_form threads so_far (Some form.Pass) fields =
    check (not so_far.ended && is_none_yet so_far.turns && is_none_yet so_far.requests) kind.Order
    (add_pass so_far (pass_row (length so_far.passes) fields))
take_form threads so_far (Some form.Turn) fields =
    check (not so_far.ended && is_none_yet so_far.requests) kind.Order
    (add_turn so_far (turn_row so_far.turns fields))
take_form threads so_far (Some form.Arrival) fields =
    check (not so_far.ended) kind.Order
    (add_arrival so_far (arrival_row threads (length so_far.turns)
    (last_in so_far.requests) fields))
take_form threads so_far (Some form.End) fields =
    check (not so_far.ended) kind.Order (add_end so_far (end_row (rows_in so_far) fields))

-- what the rows say with one more row, or the first of the row's checks that fails
abbrev pub take_row : ℕ → SoFar → Fields → Result SoFar FaultKind
take_row threads so_far fields = take_form threads so_far (form_of fields) fields

-- the arrivals of a file that came to its end row
abbrev pub whole : SoFar → Option Arrivals
whole so_far =
    if so_far.ended then Some (record {
      passes = so_far.passes;
      turns = so_far.turns;
      requests = so_far.requests;
    }) else None

-- the arrivals of a file for so many threads, or the first of its checks that fails, with its row
abbrev pub arrivals_of : ℕ → List Fields → Result Arrivals TraceFault
arrivals_of threads rows =
    read_under (λ version. take_row threads) whole at_start
    (in_version_one (header_of (codes "caladan-arrivals") rows))
