-- The lines of arrivals, as they are written one after another.
use Rattle.cal_trace.proofs.Common.{ℕ, List, [], ◌∷◌, ◌++◌, Option, map, sym, subst, Appends, Appends-trans, flat_map-append, header_row, pass_fields, turn_fields, request_fields, row_count, arrivals_text, end_fields, lines_of, Fields, line_of, Arrivals}
use Rattle.cal_trace.proofs.ListLemmas.Numbered.{flat_map-one}

-- the lines of some rows, and then the lines of others
pub two : (a b c : Option (List ℕ)) (rows more : List Fields) → Appends a b (lines_of rows) → Appends b c (lines_of more) → Appends a c (lines_of (rows ++ more))
two a b c rows more p q = subst (λ t. Appends a c t) (sym (flat_map-append line_of rows more)) (Appends-trans a b c _ _ p q)

last : (a b c : Option (List ℕ)) (rows : List Fields) (row : Fields) → Appends a b (lines_of rows) → Appends b c (line_of row) → Appends a c (lines_of (rows ++ row ∷ []))
last a b c rows row p q = subst (λ t. Appends a c t) (sym (flat_map-one line_of rows row)) (Appends-trans a b c _ _ p q)

-- the header, the passes, the turns, the requests and the end row
pub whole_arrivals : (a b c d e f : Option (List ℕ)) (arrivals : Arrivals) → Appends a b (line_of header_row) → Appends b c (lines_of (map pass_fields arrivals.passes))
    → Appends c d (lines_of (map turn_fields arrivals.turns)) → Appends d e (lines_of (map request_fields arrivals.requests))
    → Appends e f (line_of (end_fields (row_count arrivals))) → Appends a f (arrivals_text arrivals)
whole_arrivals a b c d e f arrivals header passes turns requests end =
    let ended = last d e f (map request_fields arrivals.requests) (end_fields (row_count arrivals)) requests end in
    let from_turns = two c d f (map turn_fields arrivals.turns) _ turns ended in
    let from_passes = two b c f (map pass_fields arrivals.passes) _ passes from_turns in
    Appends-trans a b f _ _ header from_passes
