-- The text of comings, as it is written.
use Rattle.std.specs.Prelude.{ℕ, List, [], ◌∷◌, ◌++◌, map, codes, decimal}
use Rattle.cal_trace.specs.History.Text.{lines_of}
use Rattle.cal_trace.specs.Rows.{Fields}
use Rattle.cal_trace.specs.declared.comings.Coming.{Coming}
use Rattle.cal_trace.specs.declared.comings.Comings.{Comings}
use Rattle.cal_trace.specs.declared.comings.LeftOut.{LeftOut}

abbrev pub header_row : Fields
header_row = codes "id" ∷ codes "turn" ∷ []

-- the row of a request
abbrev pub coming_fields : Coming → Fields
coming_fields coming = decimal coming.arrival.request.id ∷ decimal coming.turn ∷ []

-- the row of a task of which requests are left out
abbrev pub left_out_fields : LeftOut → Fields
left_out_fields left_out =
    codes "left out" ∷ decimal left_out.task ∷ decimal left_out.count ∷ []

-- the rows of comings: the requests, and then what is left out, each in their order
abbrev pub comings_rows : Comings → List Fields
comings_rows comings =
    header_row ∷ map coming_fields comings.requests ++ map left_out_fields comings.left_out

-- the text of comings
abbrev pub comings_text : Comings → List ℕ
comings_text comings = lines_of (comings_rows comings)
