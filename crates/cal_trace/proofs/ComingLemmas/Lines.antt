-- The lines of comings, as they are written one after another.
use Rattle.cal_trace.proofs.Common.{ℕ, List, Option, map, Appends, Appends-trans, coming_fields, comings_text, left_out_fields, lines_of, line_of}
use Rattle.cal_trace.specs.Comings.Text.{header_row}
use Rattle.cal_trace.specs.declared.comings.Comings.{Comings}
use Rattle.cal_trace.proofs.ArrivalLemmas.Lines.{two}

-- the header, the requests, and what is left out
pub whole_comings : (a b c d : Option (List ℕ)) (comings : Comings) → Appends a b (line_of header_row) → Appends b c (lines_of (map coming_fields comings.requests))
    → Appends c d (lines_of (map left_out_fields comings.left_out)) → Appends a d (comings_text comings)
whole_comings a b c d comings header requests left_out =
    Appends-trans a b d _ _ header (two b c d (map coming_fields comings.requests) _ requests left_out)
