-- Each number is put at its place, and no field past the row's end is one.
use Rattle.cal_trace.proofs.Common.{◌≡◌, ◌<◌, ◌≤◌, ◌+◌, ℕ, zero, suc, Bool, true, false, List, [], ◌∷◌, cond, eqb, length, get_or, Some, None, refl, sym, ap, ◌∙◌, subst, arith, ⊎_elim, cases_lt, nat_tests, is_some, fields_of, field_at, Fields, number_in, number_at}
use Rattle.std.specs.Option.{unwrap_or}
use Rattle.cal_trace.proofs.RowLemmas.Numbers.{no_number, one_number, no_more}
use Rattle.cal_trace.proofs.rows.fields.numbers_of.Goals as goal

no_field : (fields : Fields) (k : ℕ) → length fields ≤ k → field_at fields k ≡ None
unfolding field_at
no_field [] k le = refl
no_field (f ∷ fields) zero le = absurd (omega arith)
no_field (f ∷ fields) (suc k) le = no_field fields k (omega arith)

past : (fields : Fields) (k : ℕ) → length fields ≤ k → number_at fields k ≡ 0
past fields k le = rw (no_field fields k le) refl

-- the number that was put is that of its field, and the others stay
put_at : (fields : Fields) (numbers : List ℕ) (place number k : ℕ) → Some number ≡ number_in fields place →
    (k < place → get_or numbers k 0 ≡ number_at fields k) → k < place + 1 → (b : Bool) → eqb place k ≡ b →
    cond b number (get_or numbers k 0) ≡ number_at fields k
put_at fields numbers place number k e h lt true at =
    let same : place ≡ k = grind (arith, nat_tests) in
    let P : ℕ → Type 0 = λ m. number ≡ number_at fields m in
    subst P same (ap (λ o. unwrap_or o 0) e)
put_at fields numbers place number k e h lt false off = let less : k < place = grind (arith, nat_tests) in h less

put_off : (numbers : List ℕ) (place number k : ℕ) → place + 1 ≤ k → get_or numbers k 0 ≡ 0 → (b : Bool) → eqb place k ≡ b → cond b number (get_or numbers k 0) ≡ 0
put_off numbers place number k le h true at = let same : place ≡ k = grind (arith, nat_tests) in absurd (omega arith)
put_off numbers place number k le h false off = h

pub returns-in-None : goal.returns-in-None
returns-in-None c =
    let lt : c.loop-place.place < length (fields_of c.args.row.now) = rw c.len-place-end.ensures at c.loop-place-test.true in
    record {
      all = sym (c.loop-place.invariant.all ∙ no_number _ c.loop-place.place lt (ap is_some (sym c.in-None.ensures)));
      each = tt;
    }

pub loop-place-preserved : goal.loop-place-preserved
loop-place-preserved c =
    let fields = fields_of c.args.row.now in
    let i = c.loop-place.invariant in
    let place = c.loop-place.place in
    let lt : place < length fields = rw c.len-place-end.ensures at c.loop-place-test.true in
    record {
      all = i.all ∙ one_number _ place lt (ap is_some (sym c.in-Some.ensures));
      each = λ k from low less. c.put.ensures k low
          ∙ put_at fields c.loop-place.numbers place c.in-Some.number k c.in-Some.ensures (λ l. i.each k from low l) less (eqb place k) refl;
      rest = λ k low le. c.put.ensures k low ∙ put_off c.loop-place.numbers place c.in-Some.number k le (i.rest k low (omega arith)) (eqb place k) refl;
    }

pub returns : goal.returns
returns c =
    let fields = fields_of c.args.row.now in
    let i = c.loop-place.invariant in
    let le : length fields ≤ c.loop-place.place = rw c.len-place-end.ensures at c.loop-place-test.false in
    record {
      all = sym (i.all ∙ no_more _ c.loop-place.place le);
      each = λ k from low. ⊎_elim (λ less. i.each k from low less) (λ past_end. i.rest k low past_end ∙ sym (past fields k (omega arith)))
          (cases_lt k c.loop-place.place);
    }
