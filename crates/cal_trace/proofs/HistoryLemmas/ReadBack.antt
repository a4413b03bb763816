-- The text of a history in range is read as that history.
use Rattle.cal_trace.proofs.Common.{◌≡◌, ◌<◌, ◌≤◌, ◌+◌, ◌∙◌, ℕ, List, [], ◌∷◌, ◌++◌, length, map, codes, Bool, true, false, Some, Ok, slice_index_or, refl, sym, ap, ap₂, subst, arith, append_assoc, length-append, lt-ltb, eq-eqb, field_at, Seen, Action, PassEntry, header_of, SoFar, at_start, passes_of, whole, is_between, next_thread, with_action, history_of, MOST_ACTIONS, look_fields, action_fields, look_rows, entry_rows, end_fields, history_text, MOST_PASSES, Each, HasLookWords, HasActionWord, IsLookInRange, IsActionInRange, IsEntryInRange, IsInRange, read_from, read_under, Fields, rows_of, numbered, Extent, WRITTEN}
use Rattle.std.proofs.Common.{flat_map, append-nil}
use Rattle.cal_trace.specs.History.{take_row, looks_in}
use Rattle.cal_trace.specs.History.Text.{pass_fields, header_row}
use Rattle.cal_trace.proofs.ListLemmas.EachOne.{each_first, each_other}
use Rattle.cal_trace.proofs.RowLemmas.Readings.{one_row, ends}
use Rattle.cal_trace.proofs.HistoryLemmas.Extents.{IsExtent, byte_word}
use Rattle.cal_trace.proofs.HistoryLemmas.PlainRows.{rows_back}
use Rattle.cal_trace.proofs.HistoryLemmas.RowsTaken.{within, ended, pass_taken, end_taken, look_taken, action_taken}

-- these rows, after what the rows before have given, are read as this history
record IsReadAs (extent : Extent) (so_far : SoFar PassEntry) (rows : List Fields) (history : List PassEntry) : Type 0 where
  pub from : (row : ℕ) → read_from (take_row extent WRITTEN) whole so_far row rows ≡ Ok history

row_more : (extent : Extent) (so_far next : SoFar PassEntry) (fields : Fields) (rows : List Fields) (history : List PassEntry) → take_row extent WRITTEN so_far fields ≡ Ok next
    → IsReadAs extent next rows history → IsReadAs extent so_far (fields ∷ rows) history
row_more extent so_far next fields rows history takes more = record {
  from = λ row. one_row (take_row extent WRITTEN) whole so_far row next fields rows takes ∙ more.from (row + 1);
}

-- a pass with these looks and no actions yet
abbrev looked : ℕ → ℕ → List Seen → List Bool → PassEntry
looked now bandwidth seen rooms = record { input = record { now = now; bandwidth = bandwidth; seen = seen; rooms = rooms }; actions = [] }

-- a pass with these actions in place of its own
abbrev acted : PassEntry → List Action → PassEntry
acted entry actions = record { input = entry.input; actions = actions }

next_is : (extent : Extent) (entry : PassEntry) (k : ℕ) → k ≡ length entry.input.seen → k < extent.threads → next_thread looks_in extent.threads (Some entry) ≡ Ok k
next_is extent entry k same lt = let t = lt-ltb (length entry.input.seen) extent.threads (omega arith) in rw t (cc)

answer_at : (before : List Bool) (room : Bool) (after : List Bool) → slice_index_or (before ++ room ∷ after) (length before) false ≡ room
answer_at [] room after = refl
answer_at (b ∷ before) room after = answer_at before room after

-- the rows of looks
looks_more : (extent : Extent) (before : List PassEntry) (now bandwidth : ℕ) (rooms : List Bool) (seen : List Seen) (done left : List Bool) (looks : List Seen) (k : ℕ)
    (rest : List Fields) (history : List PassEntry) → extent.threads < 256 → k ≡ length seen → k ≡ length done → rooms ≡ done ++ left → length left ≡ length looks
    → k + length looks ≡ extent.threads → Each HasLookWords looks → Each IsLookInRange looks
    → IsReadAs extent (within before (looked now bandwidth (seen ++ looks) rooms)) rest history
    → IsReadAs extent (within before (looked now bandwidth seen done)) (numbered (λ k look. look_fields k (slice_index_or rooms k false) look) k looks ++ rest) history
looks_more extent before now bandwidth rooms seen done [] [] k rest history few is_k is_done is same all words ranges more =
    subst (λ (entry : PassEntry). IsReadAs extent (within before entry) rest history) (ap₂ (looked now bandwidth) (append-nil seen) (is ∙ append-nil done)) more
looks_more extent before now bandwidth rooms seen done (room ∷ left) [] k rest history few is_k is_done is same all words ranges more = absurd (omega arith)
looks_more extent before now bandwidth rooms seen done [] (look ∷ looks) k rest history few is_k is_done is same all words ranges more = absurd (omega arith)
looks_more extent before now bandwidth rooms seen done (room ∷ left) (look ∷ looks) k rest history few is_k is_done is same all words ranges more =
    let entry = looked now bandwidth seen done in
    let answer = slice_index_or rooms k false in
    let lt : k < extent.threads = omega arith in
    let is_answer : answer ≡ room = ap₂ (λ (x : List Bool) (n : ℕ). slice_index_or x n false) is is_done ∙ answer_at done room left in
    let parts : rooms ≡ (done ++ answer ∷ []) ++ left = is ∙ ap (λ (r : Bool). done ++ r ∷ left) (sym is_answer) ∙ sym (append_assoc done (answer ∷ []) left) in
    let takes = look_taken extent before entry k answer look (next_is extent entry k is_k lt) (byte_word k (omega arith)) (each_first HasLookWords look looks words) (each_first IsLookInRange look looks ranges) in
    let later = subst (λ (s : List Seen). IsReadAs extent (within before (looked now bandwidth s rooms)) rest history) (sym (append_assoc seen (look ∷ []) looks)) more in
    let is_next : k + 1 ≡ length (seen ++ look ∷ []) = omega (arith, length-append seen (look ∷ [])) in
    let is_next_done : k + 1 ≡ length (done ++ answer ∷ []) = omega (arith, length-append done (answer ∷ [])) in
    row_more extent (within before entry) _ _ _ history takes
    (looks_more extent before now bandwidth rooms (seen ++ look ∷ []) (done ++ answer ∷ []) left looks (k + 1) rest history few is_next is_next_done parts (omega arith) (omega arith)
    (each_other HasLookWords look looks words) (each_other IsLookInRange look looks ranges) later)

-- the rows of actions
actions_more : (extent : Extent) (before : List PassEntry) (entry : PassEntry) (actions : List Action) (rest : List Fields) (history : List PassEntry) → IsExtent extent
    → length entry.input.seen ≡ extent.threads → length entry.actions + length actions ≤ MOST_ACTIONS → Each HasActionWord actions → Each (IsActionInRange extent) actions
    → IsReadAs extent (within before (acted entry (entry.actions ++ actions))) rest history
    → IsReadAs extent (within before entry) (map action_fields actions ++ rest) history
actions_more extent before entry [] rest history few full most words ranges more =
    subst (λ (acts : List Action). IsReadAs extent (within before (acted entry acts)) rest history) (append-nil entry.actions) more
actions_more extent before entry (action ∷ actions) rest history few full most words ranges more =
    let takes = action_taken extent before entry action few full (omega arith) (each_first HasActionWord action actions words) (each_first (IsActionInRange extent) action actions ranges) in
    let later = subst (λ (acts : List Action). IsReadAs extent (within before (acted entry acts)) rest history) (sym (append_assoc entry.actions (action ∷ []) actions)) more in
    let room : length (entry.actions ++ action ∷ []) + length actions ≤ MOST_ACTIONS = omega (arith, length-append entry.actions (action ∷ [])) in
    row_more extent (within before entry) _ _ _ history takes
    (actions_more extent before (with_action action entry) actions rest history few full room (each_other HasActionWord action actions words) (each_other (IsActionInRange extent) action actions ranges) later)

-- the rows of a pass
entry_more : (extent : Extent) (so_far : SoFar PassEntry) (entry : PassEntry) (rest : List Fields) (history : List PassEntry) → IsExtent extent → is_between looks_in extent.threads so_far ≡ true
    → length (passes_of so_far) < MOST_PASSES → IsEntryInRange extent entry → IsReadAs extent (within (passes_of so_far) entry) rest history
    → IsReadAs extent so_far (entry_rows entry ++ rest) history
entry_more extent so_far entry rest history few between room r more =
    let input = entry.input in
    let before = passes_of so_far in
    let after = looked input.now input.bandwidth input.seen input.rooms in
    let most : length after.actions + length entry.actions ≤ MOST_ACTIONS = omega (arith, r.most) in
    let acts = actions_more extent before after entry.actions rest history few r.looks most r.words.starts r.actions more in
    let looks = looks_more extent before input.now input.bandwidth input.rooms [] [] input.rooms input.seen 0 (map action_fields entry.actions ++ rest) history few.few_threads refl refl refl
    (r.rooms ∙ sym r.looks) (omega (arith, r.looks)) r.words.looks r.seen acts in
    let rows = subst (λ (rows : List Fields). IsReadAs extent (within before (looked input.now input.bandwidth [] [])) rows history)
    (sym (append_assoc (look_rows input.rooms input.seen) (map action_fields entry.actions) rest)) looks in
    row_more extent so_far _ (pass_fields entry) _ history (pass_taken extent so_far entry between room r.words.now r.words.bandwidth) rows

-- the passes and the end row
entries_more : (extent : Extent) (so_far : SoFar PassEntry) (history : List PassEntry) (count : ℕ) → IsExtent extent → is_between looks_in extent.threads so_far ≡ true
    → count ≡ length (passes_of so_far) + length history → count ≤ MOST_PASSES → Each (IsEntryInRange extent) history
    → IsReadAs extent so_far (flat_map entry_rows history ++ end_fields count ∷ []) (passes_of so_far ++ history)
entries_more extent so_far [] count few between is most ranges =
    let done : IsReadAs extent (ended (passes_of so_far)) [] (passes_of so_far) = record { from = λ row. ends (take_row extent WRITTEN) whole (ended (passes_of so_far)) row } in
    subst (λ (history : List PassEntry). IsReadAs extent so_far (end_fields count ∷ []) history) (sym (append-nil (passes_of so_far)))
    (row_more extent so_far _ (end_fields count) [] (passes_of so_far) (end_taken extent so_far count between (omega arith) (omega arith)) done)
entries_more extent so_far (entry ∷ history) count few between is most ranges =
    let r = each_first (IsEntryInRange extent) entry history ranges in
    let next = within (passes_of so_far) entry in
    let count_next : count ≡ length (passes_of so_far ++ entry ∷ []) + length history = omega (arith, length-append (passes_of so_far) (entry ∷ [])) in
    let full : is_between looks_in extent.threads next ≡ true = eq-eqb (length entry.input.seen) extent.threads r.looks in
    let later = entries_more extent next history count few full count_next most (each_other (IsEntryInRange extent) entry history ranges) in
    let all = subst (λ (all : List PassEntry). IsReadAs extent next (flat_map entry_rows history ++ end_fields count ∷ []) all) (append_assoc (passes_of so_far) (entry ∷ []) history) later in
    subst (λ (rows : List Fields). IsReadAs extent so_far rows (passes_of so_far ++ entry ∷ history)) (sym (append_assoc (entry_rows entry) (flat_map entry_rows history) (end_fields count ∷ [])))
    (entry_more extent so_far entry (flat_map entry_rows history ++ end_fields count ∷ []) (passes_of so_far ++ entry ∷ history) few between (omega arith) r all)

header_taken : (rest : List Fields) → header_of (codes "caladan-history") (header_row ∷ rest) ≡ Ok (WRITTEN, rest)
unfolding field_at
header_taken rest = refl

-- the text of a history in range is read as that history
pub history_back : (extent : Extent) (history : List PassEntry) → IsExtent extent → IsInRange extent history → history_of extent (rows_of (history_text history)) ≡ Ok history
history_back extent history few r =
    let rest = flat_map entry_rows history ++ end_fields (length history) ∷ [] in
    let start = entries_more extent at_start history (length history) few refl (omega arith) r.passes r.each in
    ap (history_of extent) (rows_back extent history few r) ∙ ap (read_under (take_row extent) whole at_start) (header_taken rest) ∙ start.from 1
