-- Reading a file row by row: what its rows give one after the other, or the first of its checks
-- that fails, with its row.
use Rattle.std.specs.Prelude.{◌+◌, ℕ, List, [], ◌∷◌, Option, Some, None, Result, Ok, Err}
use Rattle.cal_trace.specs.Rows.{Fields, rest_of}
use Rattle.cal_trace.specs.declared.fault.FaultKind.{FaultKind}
use Rattle.cal_trace.specs.declared.fault.FaultKind.TheVariants as kind
use Rattle.cal_trace.specs.declared.fault.TraceFault.{TraceFault}
use Rattle.cal_trace.specs.declared.rows.Rows.{Rows}
use Rattle.cal_trace.specs.declared.rows.version.Version.{Version}

-- after the last row, which has this number: a file ends with its end row
abbrev pub ending : {Value : Type 0} → ℕ → Option Value → Result Value TraceFault
ending row None = Err (record { row = row + 1; kind = kind.Order })
ending row (Some value) = Ok value

-- So is what the rows so far have given, Value what the whole file gives
module _ {So Value : Type 0} where
  -- a row with this number, and then the others
  abbrev pub and_then : ℕ → Result So FaultKind → (So → Result Value TraceFault) →
      Result Value TraceFault
  and_then row (Err k) more = Err (record { row = row; kind = k })
  and_then row (Ok so_far) more = more so_far

  -- what a file gives, from what its rows up to this number have given and the rows after it
  unfoldable pub read_from : (So → Fields → Result So FaultKind) → (So → Option Value) → So → ℕ →
      List Fields → Result Value TraceFault
  read_from take value so_far row [] = ending row (value so_far)
  read_from take value so_far row (fields ∷ rest) =
      and_then (row + 1) (take so_far fields) (λ next. read_from take value next (row + 1) rest)

  -- the same, where these rows are still to come
  abbrev pub read_on : (So → Fields → Result So FaultKind) → (So → Option Value) → So → Rows →
      Result Value TraceFault
  read_on take value so_far rows = read_from take value so_far rows.number (rest_of rows)

  -- what a file gives under its header, which is row 1 and names the version by which the rows
  -- after it are taken
  abbrev pub read_under : (Version → So → Fields → Result So FaultKind) → (So → Option Value) → So →
      Result (Version × List Fields) TraceFault → Result Value TraceFault
  read_under take value start (Err fault) = Err fault
  read_under take value start (Ok file) = read_from (take file.0) value start 1 file.1
