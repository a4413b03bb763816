use Rattle.cal_trace.proofs.Common.{◌<◌, ◌≤◌, ◌∙◌, sym, length, fields_of}
use Rattle.cal_trace.proofs.RowLemmas.Numbers.{no_number, one_number, no_more}
use Rattle.cal_trace.proofs.rows.fields.has_numbers.Goals as goal

pub returns-then-not-is_number_at : goal.returns-then-not-is_number_at
returns-then-not-is_number_at c =
    let lt : c.loop-place.place < length (fields_of c.args.row.now) = rw c.len-place-end.ensures at c.loop-place-test.true in
    sym (c.loop-place.invariant ∙ no_number _ c.loop-place.place lt (sym c.is_number_at.ensures ∙ c.if-not-is_number_at.true))

pub loop-place-preserved : goal.loop-place-preserved
loop-place-preserved c =
    let lt : c.loop-place.place < length (fields_of c.args.row.now) = rw c.len-place-end.ensures at c.loop-place-test.true in
    c.loop-place.invariant ∙ one_number _ c.loop-place.place lt (sym c.is_number_at.ensures ∙ c.if-not-is_number_at.false)

pub returns : goal.returns
returns c =
    let le : length (fields_of c.args.row.now) ≤ c.loop-place.place = rw c.len-place-end.ensures at c.loop-place-test.false in
    sym (c.loop-place.invariant ∙ no_more _ c.loop-place.place le)
