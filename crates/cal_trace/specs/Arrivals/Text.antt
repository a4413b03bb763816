-- The text of arrivals, as it is written.
use Rattle.std.specs.Prelude.{◌+◌, ℕ, List, [], ◌∷◌, ◌++◌, length, map, codes, decimal}
use Rattle.cal_trace.specs.History.Ranges.{Each, IsWord}
use Rattle.cal_trace.specs.History.Text.{end_fields, lines_of}
use Rattle.cal_trace.specs.Rows.{Fields}
use Rattle.cal_trace.specs.declared.arrivals.Arrival.{Arrival}
use Rattle.cal_trace.specs.declared.arrivals.Arrivals.{Arrivals}
use Rattle.cal_trace.specs.declared.arrivals.GivenPass.{GivenPass}

abbrev pub header_row : Fields
header_row = codes "caladan-arrivals" ∷ codes "1" ∷ []

-- the row of a pass
abbrev pub pass_fields : GivenPass → Fields
pass_fields pass = codes "pass" ∷ decimal pass.now ∷ decimal pass.bandwidth ∷ []

-- the row of a turn, by its clock
abbrev pub turn_fields : ℕ → Fields
turn_fields now = codes "turn" ∷ decimal now ∷ []

-- the row of a request
abbrev pub request_fields : Arrival → Fields
request_fields arrival =
    codes "request" ∷ decimal arrival.thread ∷ decimal arrival.turn ∷ decimal arrival.request.id ∷
    decimal arrival.request.work ∷ decimal arrival.request.misses ∷ []

-- how many rows there are between the header and the end row
abbrev pub row_count : Arrivals → ℕ
row_count arrivals = length arrivals.passes + length arrivals.turns + length arrivals.requests

-- the rows of arrivals: the passes, the turns and the requests, each in their order
abbrev pub arrivals_rows : Arrivals → List Fields
arrivals_rows arrivals =
    header_row ∷ map pass_fields arrivals.passes ++ (map turn_fields arrivals.turns
    ++ (map request_fields arrivals.requests ++ end_fields (row_count arrivals) ∷ []))

-- the text of arrivals
abbrev pub arrivals_text : Arrivals → List ℕ
arrivals_text arrivals = lines_of (arrivals_rows arrivals)

-- fields can spell the clock and the bandwidth figure of a pass
abbrev pub HasPassWords : GivenPass → Type 0
HasPassWords pass = IsWord pass.now × IsWord pass.bandwidth

-- arrivals whose clocks, bandwidth figures and ids fields can spell; the other numbers of arrivals
-- that fit a table are small
pub record AreSpelled (arrivals : Arrivals) : Type 0 where
  pub passes : Each HasPassWords arrivals.passes
  pub turns : Each IsWord arrivals.turns
  pub ids : Each (λ arrival. IsWord arrival.request.id) arrivals.requests
