-- The first passes of a history, and one more.
use Rattle.std.proofs.Common.{◌≡◌, ℕ, ◌<◌, ◌≤◌, ◌+◌, Bool, true, false, ltb, List, Some, length, get_or, take, slice_get, sym, subst, ◌∙◌, refl, arith}
use Rattle.std.proofs.lemmas.Bool.{ltb-false, ltb-true}
use Rattle.std.proofs.lemmas.List.{get_or-take, length-take-le, take-take}
use Rattle.std.proofs.lemmas.Option.{get_or_from_slice_get, slice_get_read, slice_get_within}
use Rattle.cal_machine.specs.Table.{Table}
use Rattle.cal_policy.specs.Judgement.Orderly.{IsOrderly, IsOrderlyEntry}
use Rattle.cal_policy.specs.declared.history.entry.PassEntry.{PassEntry}
use Rattle.cal_explain.specs.Comes.{ComesOf}
use Rattle.cal_explain.specs.declared.recorded.Explained.TheVariants.{Done}

-- where the first n passes are orderly, each of them is
pub each_of : (table : Table) (history : List PassEntry) (n : ℕ) → n ≤ length history → IsOrderly table (take n history) →
    (p : ℕ) → p < n → (entry : PassEntry) → slice_get history p ≡ Some entry → IsOrderlyEntry table (take p history) entry
each_of table history n le o p lt entry e =
    let len = length-take-le n history le in
    let here : entry ≡ get_or history p entry = sym (get_or_from_slice_get history p entry entry e) in
    let taken : entry ≡ get_or (take n history) p entry = here ∙ sym (get_or-take n history p entry lt) in
    let low : p < length (take n history) = omega arith in
    let there : slice_get (take n history) p ≡ Some entry = slice_get_read (take n history) (length (take n history)) p entry refl low taken in
    let P : List PassEntry → Type 0 = λ before. IsOrderlyEntry table before entry in
    subst P (take-take p n history (omega arith)) (o.entries p entry there)

-- where each of the first n passes is orderly, they are
pub orderly_of : (table : Table) (history : List PassEntry) (n : ℕ) → n ≤ length history →
    ((p : ℕ) → p < n → (entry : PassEntry) → slice_get history p ≡ Some entry → IsOrderlyEntry table (take p history) entry) → IsOrderly table (take n history)
orderly_of table history n le each = record {
  entries = λ p entry e.
      let len = length-take-le n history le in
      let within = slice_get_within (take n history) p entry e in
      let lt : p < n = omega arith in
      let low : p < length history = omega arith in
      let here : get_or history p entry ≡ entry = sym (get_or-take n history p entry lt) ∙ get_or_from_slice_get (take n history) p entry entry e in
      let there : slice_get history p ≡ Some entry = slice_get_read history (length history) p entry refl low (sym here) in
      let P : List PassEntry → Type 0 = λ before. IsOrderlyEntry table before entry in
      subst P (sym (take-take p n history (omega arith))) (each p lt entry there);
}

-- where the first n + 1 passes are orderly, the first n are
pub orderly_before : (table : Table) (history : List PassEntry) (n : ℕ) → n < length history → IsOrderly table (take (n + 1) history) → IsOrderly table (take n history)
orderly_before table history n lt o =
    orderly_of table history n (omega (arith, lt)) (λ p low entry e. each_of table history (n + 1) (omega (arith, lt)) o p (omega (arith, low)) entry e)

-- where each pass from the first to before this one is explained, and this one is, the first is
pub first_comes : (table : Table) (history : List PassEntry) (first pass : ℕ) → first ≤ pass →
    ((p : ℕ) → first ≤ p → p < pass → ComesOf table history p Done) → ComesOf table history pass Done → ComesOf table history first Done
first_comes table history first pass le each here = compare (ltb first pass) refl
  where
    compare : (b : Bool) → ltb first pass ≡ b → ComesOf table history first Done
    compare true e = each first (omega arith) (ltb-true first pass e)
    compare false e =
        let least : pass ≤ first = ltb-false first pass e in
        let same : pass ≡ first = omega (arith, least, le) in
        subst (λ (p : ℕ). ComesOf table history p Done) same here
