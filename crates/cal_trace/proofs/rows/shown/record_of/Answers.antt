-- The words that were copied are the numbers at their places.
use Rattle.cal_trace.proofs.Common.{◌≡◌, ◌≤◌, ◌<◌, ◌+◌, ◌∙◌, ℕ, List, length, take, drop, get_or, slice_index, refl, sym, ap, arith, same_number_lists, get_or-take, get_or-drop, WORDS, number_at, shown_words, Fields}
use Rattle.std.proofs.lemmas.List.FromFn.{length-map-range_with_len, get_or-map-range_with_len}
use Rattle.cal_signal.specs.Records as records
use Rattle.cal_trace.specs.declared.rows.fields.TheConstants.{FIRST_WORD, RECORD_FIELDS}
use Rattle.cal_trace.proofs.rows.shown.record_of.Goals as goal

copied : (words numbers : List ℕ) (fields : Fields) → words ≡ take WORDS (drop FIRST_WORD numbers) → length words ≡ WORDS
    → ((k : ℕ) → 1 ≤ k → k < RECORD_FIELDS → slice_index numbers k ≡ number_at fields k) → words ≡ shown_words fields
copied words numbers fields is long each =
    same_number_lists words (shown_words fields) (long ∙ sym (length-map-range_with_len (number_at fields) FIRST_WORD WORDS)) (λ k lt.
    let below : k < WORDS = omega (arith, long) in
    ap (λ xs. get_or xs k 0) is ∙ get_or-take WORDS (drop FIRST_WORD numbers) k 0 below ∙ get_or-drop FIRST_WORD numbers k 0
    ∙ each (FIRST_WORD + k) (omega arith) (omega arith) ∙ sym (get_or-map-range_with_len (number_at fields) FIRST_WORD WORDS k (FIRST_WORD + k) 0 below refl))

pub returns : goal.returns
returns c = λ fields each.
    c.from_words.ensures ∙ ap records.record_of (copied _ c.args.numbers.now fields c.copy_from_slice.ensures.after c.copy_from_slice.ensures.len each)
