-- The lines of a history, as they are written one after another.
use Rattle.cal_trace.proofs.Common.{◌≡◌, ◌<◌, ◌+◌, ◌∙◌, ℕ, List, [], ◌∷◌, ◌++◌, append_assoc, Option, Bool, false, length, take, get_or, codes, slice_index_or, sym, ap, subst, zero-add, Appends, flat_map, Appends-trans, flat_map-append, Seen, PassEntry, look_fields, look_rows, entry_rows, end_fields, lines_of, begun_text, history_text, line_of, WRITTEN}
use Rattle.cal_trace.specs.History.Text.{header_row}
use Rattle.cal_trace.specs.Rows.Version.{version_word}
use Rattle.cal_trace.proofs.ListLemmas.Numbered.{numbered-more, flat_map-one}

along : (a b : Option (List ℕ)) (s t : List ℕ) → s ≡ t → Appends a b s → Appends a b t
along a b s t e h = subst (λ x. Appends a b x) e h

-- one more look
pub one_look : (a b c : Option (List ℕ)) (rooms : List Bool) (looks : List Seen) (i : ℕ) (d : Seen) → i < length looks
    → Appends a b (lines_of (look_rows rooms (take i looks))) → Appends b c (line_of (look_fields i (slice_index_or rooms i false) (get_or looks i d)))
    → Appends a c (lines_of (look_rows rooms (take (i + 1) looks)))
one_look a b c rooms looks i d lt p q =
    let more = numbered-more (λ k l. look_fields k (slice_index_or rooms k false) l) 0 looks i d lt in
    let e = ap lines_of more ∙ flat_map-one line_of (look_rows rooms (take i looks)) (look_fields (0 + i) (slice_index_or rooms (0 + i) false) (get_or looks i d)) in
    along a c _ _ (sym e) (rw (zero-add i) (Appends-trans a b c _ _ p q))

-- the header, as it is put together
pub header_line : (a b : Option (List ℕ)) (word : List ℕ) → word ≡ version_word WRITTEN → Appends a b (codes "caladan-history," ++ (word ++ codes "\n")) → Appends a b (line_of header_row)
header_line a b word is p = along a b _ _ (ap (λ w. codes "caladan-history," ++ (w ++ codes "\n")) is) p

-- the header, the passes and the end row
pub whole_history : (a b c d : Option (List ℕ)) (history : List PassEntry) → Appends a b (line_of header_row) → Appends b c (lines_of (flat_map entry_rows history))
    → Appends c d (line_of (end_fields (length history))) → Appends a d (history_text history)
whole_history a b c d history p q r =
    let e = flat_map-one line_of (flat_map entry_rows history) (end_fields (length history)) in
    along a d _ _ (ap (λ t. line_of header_row ++ t) (sym e)) (Appends-trans a b d _ _ p (Appends-trans b c d _ _ q r))

-- one pass more
pub begun_more : (history : List PassEntry) (entry : PassEntry) → begun_text (history ++ entry ∷ []) ≡ begun_text history ++ lines_of (entry_rows entry)
begun_more history entry =
    ap (λ t. line_of header_row ++ t) (ap lines_of (flat_map-one entry_rows history entry) ∙ flat_map-append line_of (flat_map entry_rows history) (entry_rows entry))
    ∙ sym (append_assoc (line_of header_row) (lines_of (flat_map entry_rows history)) (lines_of (entry_rows entry)))

-- and the end
pub begun_ends : (history : List PassEntry) → history_text history ≡ begun_text history ++ line_of (end_fields (length history))
begun_ends history = flat_map-one line_of (header_row ∷ flat_map entry_rows history) (end_fields (length history))
