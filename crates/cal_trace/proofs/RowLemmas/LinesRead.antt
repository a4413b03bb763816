-- Lines of plain fields, as rows again.
use Rattle.cal_trace.proofs.Common.{◌≡◌, ◌<◌, ◌≤◌, ◌+◌, ◌∙◌, ℕ, zero, suc, List, [], ◌∷◌, ◌++◌, length, Some, refl, ap, arith, append_assoc, length-append, ne_eqb, default_config, records_from, strip_bom, lines_of, Fields, rows_of, after_first, line_of}
use Rattle.csv.specs.Machine.{next_record}
use Rattle.csv.specs.declared.parser.State.TheVariants as st
use Rattle.csv.proofs.RoundTrip.{plain-run, start-same, record-same}
use Rattle.cal_trace.proofs.RowLemmas.Spelled.{IsPlain}

-- fields that are read as they stand
abbrev pub ArePlain : Fields → Type 0
ArePlain [] = Unit {0}
ArePlain (field ∷ fields) = IsPlain field × ArePlain fields

-- rows of such fields, one at least
abbrev pub IsPlainRow : Fields → Type 0
IsPlainRow [] = ⊥
IsPlainRow (field ∷ fields) = IsPlain field × ArePlain fields

abbrev pub ArePlainRows : List Fields → Type 0
ArePlainRows [] = Unit {0}
ArePlainRows (row ∷ rows) = IsPlainRow row × ArePlainRows rows

pub plain_rows-append : (a b : List Fields) → ArePlainRows a → ArePlainRows b → ArePlainRows (a ++ b)
plain_rows-append [] b p q = q
plain_rows-append (row ∷ a) b p q = (p.0, plain_rows-append a b p.1 q)

-- the bytes of a field, from its start
field_read : (fields : Fields) (field tail : List ℕ) → IsPlain field
    → next_record default_config st.StartField fields [] (field ++ tail) ≡ next_record default_config st.InField fields field tail
field_read fields field tail p =
    let u = rw p.is at p.unmarked in
    rw p.is (start-same fields [] p.front (p.more ++ tail) (ne_eqb p.front 34 (λ e. let a = p.above in omega arith)) ∙ plain-run fields [] (p.front ∷ p.more) tail u)

-- the bytes of a row's first field
first_read : (field tail : List ℕ) → IsPlain field
    → next_record default_config st.StartRecord [] [] (field ++ tail) ≡ next_record default_config st.StartField [] [] (field ++ tail)
first_read field tail p =
    let a = p.above in
    rw p.is (record-same [] [] p.front (p.more ++ tail) (ne_eqb p.front 13 (λ e. omega arith)) (ne_eqb p.front 10 (λ e. omega arith)))

-- the rest of a row, after a field
rest_read : (fields : Fields) (field : List ℕ) (rest : Fields) (tail : List ℕ) → ArePlain rest
    → next_record default_config st.InField fields field (after_first rest ++ tail) ≡ Some (fields ++ (field ∷ rest), st.StartRecord, tail)
unfolding next_record
rest_read fields field [] tail p = refl
rest_read fields field (next ∷ rest) tail p =
    let start = ap (next_record default_config st.StartField (fields ++ (field ∷ [])) []) (append_assoc next (after_first rest) tail) in
    let run = field_read (fields ++ (field ∷ [])) next (after_first rest ++ tail) p.0 in
    let more = rest_read (fields ++ (field ∷ [])) next rest tail p.1 in
    start ∙ run ∙ more ∙ ap (λ (f : Fields). Some (f, st.StartRecord, tail)) (append_assoc fields (field ∷ []) (next ∷ rest))

-- a row's line
line_read : (field : List ℕ) (rest : Fields) (tail : List ℕ) → IsPlainRow (field ∷ rest)
    → next_record default_config st.StartRecord [] [] (line_of (field ∷ rest) ++ tail) ≡ Some (field ∷ rest, st.StartRecord, tail)
line_read field rest tail p =
    ap (next_record default_config st.StartRecord [] []) (append_assoc field (after_first rest) tail)
    ∙ first_read field (after_first rest ++ tail) p.0 ∙ field_read [] field (after_first rest ++ tail) p.0 ∙ rest_read [] field rest tail p.1

line_ends : (rest : Fields) → 1 ≤ length (after_first rest)
line_ends [] = omega arith
line_ends (field ∷ rest) = omega arith

-- the lines of rows, by as many turns as there are bytes and one more
lines_read : (rows : List Fields) (n : ℕ) → ArePlainRows rows → length (lines_of rows) < n → records_from default_config n st.StartRecord (lines_of rows) ≡ rows
unfolding records_from next_record
lines_read rows zero p lt = absurd (omega arith)
lines_read [] (suc n) p lt = refl
lines_read ([] ∷ rows) (suc n) p lt = absurd p.0
lines_read ((field ∷ rest) ∷ rows) (suc n) p lt =
    let longer = line_ends rest in
    let fewer : length (lines_of rows) < n = omega (arith, length-append (line_of (field ∷ rest)) (lines_of rows), length-append field (after_first rest)) in
    rw (line_read field rest (lines_of rows) p.0) (ap (λ (r : List Fields). (field ∷ rest) ∷ r) (lines_read rows n p.1 fewer))

-- the rows of a text of lines that begins with no byte order mark
pub text_read : (rows : List Fields) → ArePlainRows rows → strip_bom (lines_of rows) ≡ lines_of rows → rows_of (lines_of rows) ≡ rows
text_read rows p e = rw e (lines_read rows (length (lines_of rows) + 1) p (omega arith))
