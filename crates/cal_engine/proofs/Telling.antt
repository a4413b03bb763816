-- A history that is written pass by pass.
use Rattle.cal_engine.proofs.Common.{◌≡◌, ℕ, List, [], ◌∷◌, ◌++◌, Option, Result, Ok, Err, IfOk, IfErr, true, append_assoc, length, sym, ap, subst, ◌∙◌, false≢true, Appends, flat_map, append-nil, PassEntry, begun_text, end_fields, entry_rows, header_row, history_text, lines_of, line_of, begun_ends}
use Rattle.std.specs.Result.{is_ok}
use Rattle.std.proofs.KnownBytes.{Appends-trans}
use Rattle.std.proofs.lemmas.Grind.{flat_map-append}

-- the rows of some passes, and then those of the next one
pub told_more : (a b c : Option (List ℕ)) (before after : List PassEntry) (entry : PassEntry) → after ≡ before ++ entry ∷ []
    → Appends a b (lines_of (flat_map entry_rows before)) → Appends b c (lines_of (entry_rows entry)) → Appends a c (lines_of (flat_map entry_rows after))
told_more a b c before after entry is p q =
    let e = ap (λ h. lines_of (flat_map entry_rows h)) is ∙ ap lines_of (flat_map-append entry_rows before (entry ∷ []))
    ∙ flat_map-append line_of (flat_map entry_rows before) (flat_map entry_rows (entry ∷ []))
    ∙ ap (λ (rows : List (List (List ℕ))). lines_of (flat_map entry_rows before) ++ lines_of rows) (append-nil (entry_rows entry)) in
    subst (Appends a c) (sym e) (Appends-trans a b c _ _ p q)

-- what a run told, whether it was made to its end or stopped
pub in_any_case : {T E S : Type 0} (r : Result T E) (P : T → Type 0) → ((x : T) → P x → S) → IfOk r P → IfErr r (λ _. S) → S
in_any_case (Ok x) P f made stopped = f x made
in_any_case (Err e) P f made stopped = stopped

pub at_ok : {T E : Type 0} (r : Result T E) (P : T → Type 0) → is_ok r ≡ true → IfOk r P → (x : T) × P x
at_ok (Ok x) P e made = (x, made)
at_ok (Err f) P e made = absurd (false≢true e)

-- what stands before a history and its first row, and then the rows of its passes
pub begun : (front : List ℕ) (a b c : Option (List ℕ)) (text : List ℕ) (history : List PassEntry) → text ≡ front ++ line_of header_row → Appends a b text
    → Appends b c (lines_of (flat_map entry_rows history)) → Appends a c (front ++ begun_text history)
begun front a b c text history is p q =
    let rows = lines_of (flat_map entry_rows history) in
    subst (Appends a c) (ap (λ t. t ++ rows) is ∙ append_assoc front (line_of header_row) rows) (Appends-trans a b c text rows p q)

-- and then its last row
pub ended : (front : List ℕ) (a b c : Option (List ℕ)) (history : List PassEntry) (passes : ℕ) → length history ≡ passes → Appends a b (front ++ begun_text history)
    → Appends b c (line_of (end_fields passes)) → Appends a c (front ++ history_text history)
ended front a b c history passes many p q =
    let e = append_assoc front (begun_text history) (line_of (end_fields passes)) ∙ ap (λ n. front ++ (begun_text history ++ line_of (end_fields n))) (sym many)
    ∙ ap (λ t. front ++ t) (sym (begun_ends history)) in
    subst (Appends a c) e (Appends-trans a b c _ _ p q)
