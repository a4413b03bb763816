-- Files, row by row.
use Rattle.cal_trace.proofs.Common.{◌≡◌, ◌+◌, ℕ, List, [], ◌∷◌, Ok, Err, Option, Some, None, Result, refl, ap, sym, ◌∙◌, ButMemory, Decided, and_then, ending, read_from, read_under, Fields, FaultKind, TraceFault, Version}
use Rattle.cal_trace.proofs.RowLemmas.Refusals.{decided, row_decided}

module _ {So Value : Type 0} (take : So → Fields → Result So FaultKind) (value : So → Option Value) (so_far : So) (row : ℕ) where
  -- the rows after one that is taken, and none
  pub one_row : (next : So) (fields : Fields) (rest : List Fields) → take so_far fields ≡ Ok next
      → read_from take value so_far row (fields ∷ rest) ≡ read_from take value next (row + 1) rest
  unfolding read_from
  one_row next fields rest takes = rw takes refl

  pub ends : read_from take value so_far row [] ≡ ending row (value so_far)
  unfolding read_from
  ends = refl

  -- where what is left to read gives this, so does the rest after a row that is taken
  pub more_rows : (next : So) (fields : Fields) (all rest : List Fields) (gives : Result Value TraceFault) → read_from take value so_far row all ≡ gives
      → all ≡ fields ∷ rest → take so_far fields ≡ Ok next → read_from take value next (row + 1) rest ≡ gives
  unfolding read_from
  more_rows next fields all rest gives same some takes = sym (rw (some, takes) refl) ∙ same

  -- a row that is not taken
  is_bad : (fields : Fields) (all rest : List Fields) (k : FaultKind) → all ≡ fields ∷ rest → take so_far fields ≡ Err k
      → read_from take value so_far row all ≡ Err (record { row = row + 1; kind = k })
  unfolding read_from
  is_bad fields all rest k some takes = rw (some, takes) refl

  pub bad_row : (fields : Fields) (all rest : List Fields) (k : FaultKind) (gives : Result Value TraceFault) → read_from take value so_far row all ≡ gives
      → all ≡ fields ∷ rest → ButMemory k (take so_far fields ≡ Err k) → Decided k (gives ≡ Err (record { row = row + 1; kind = k }))
  bad_row fields all rest k gives same some takes = row_decided k _ _ (λ e. sym same ∙ is_bad fields all rest k some e) takes

  -- after the last row
  pub no_row : (all : List Fields) (whole : Option Value) (gives : Result Value TraceFault) → read_from take value so_far row all ≡ gives → all ≡ [] → whole ≡ value so_far
      → gives ≡ ending row whole
  unfolding read_from
  no_row all whole gives same none ends = sym same ∙ rw (none, ends) refl

-- the file, from its header and the rows after it
module _ {So Value : Type 0} (take : Version → So → Fields → Result So FaultKind) (value : So → Option Value) (start : So) (file : Result (Version × List Fields) TraceFault) where
  pub no_header : (fault : TraceFault) → Decided fault.kind (file ≡ Err fault) → Decided fault.kind (read_under take value start file ≡ Err fault)
  no_header fault h = decided fault.kind (file ≡ Err fault) (read_under take value start file ≡ Err fault) (λ e. ap (read_under take value start) e) h

-- what each row keeps holds of what the whole file gives
after_row : {So Value : Type 0} (P : So → Type 0) (Q : Type 0) (row : ℕ) (taken : Result So FaultKind) (more : So → Result Value TraceFault) (v : Value)
    → ((next : So) → taken ≡ Ok next → P next) → ((next : So) → P next → more next ≡ Ok v → Q) → and_then row taken more ≡ Ok v → Q
after_row P Q row (Err k) more v keeps again e = absurd (cc)
after_row P Q row (Ok next) more v keeps again e = again next (keeps next refl) e

at_end : {Value : Type 0} (row : ℕ) (o : Option Value) (v : Value) → ending row o ≡ Ok v → o ≡ Some v
at_end row None v e = absurd (cc)
at_end row (Some value) v e = cc

pub kept_from : {So Value : Type 0} (take : So → Fields → Result So FaultKind) (value : So → Option Value) (P : So → Type 0) (Q : Value → Type 0)
    → ((so_far next : So) (fields : Fields) → P so_far → take so_far fields ≡ Ok next → P next) → ((so_far : So) (v : Value) → P so_far → value so_far ≡ Some v → Q v)
    → (so_far : So) (row : ℕ) (rows : List Fields) (v : Value) → P so_far → read_from take value so_far row rows ≡ Ok v → Q v
unfolding read_from
kept_from take value P Q keeps ends so_far row [] v p e = ends so_far v p (at_end row (value so_far) v e)
kept_from take value P Q keeps ends so_far row (fields ∷ rows) v p e =
    after_row P (Q v) (row + 1) (take so_far fields) (λ next. read_from take value next (row + 1) rows) v (λ next was. keeps so_far next fields p was)
    (λ next p same. kept_from take value P Q keeps ends next (row + 1) rows v p same) e

pub kept_under : {So Value : Type 0} (take : Version → So → Fields → Result So FaultKind) (value : So → Option Value) (P : So → Type 0) (Q : Value → Type 0)
    → ((version : Version) (so_far next : So) (fields : Fields) → P so_far → take version so_far fields ≡ Ok next → P next) → ((so_far : So) (v : Value) → P so_far → value so_far ≡ Some v → Q v)
    → (start : So) (file : Result (Version × List Fields) TraceFault) (v : Value) → P start → read_under take value start file ≡ Ok v → Q v
kept_under take value P Q keeps ends start (Err fault) v p e = absurd (cc)
kept_under take value P Q keeps ends start (Ok file) v p e = kept_from (take file.0) value P Q (keeps file.0) ends start 1 file.1 v p e
