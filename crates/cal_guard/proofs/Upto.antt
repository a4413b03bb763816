-- Permitted histories, pass by pass.
use Rattle.cal_guard.proofs.Common.{◌≡◌, ℕ, ◌<◌, ◌≤◌, List, length, get_or, take, Some, sym, subst, ◌∙◌, arith, refl, length-take-le, get_or-take, take-take, slice_get_within, slice_get_read, get_or_from_slice_get, Table, PassEntry, IsPermittedPass, IsPermittedHistory}
use Rattle.std.proofs.Common.{slice_get}

-- where each of the first n entries is a pass after those before it, they are a permitted history
pub permitted_upto : (table : Table) (history : List PassEntry) (n : ℕ) → n ≤ length history →
    ((p : ℕ) → p < n → (entry : PassEntry) → slice_get history p ≡ Some entry → IsPermittedPass table (take p history) entry) → IsPermittedHistory table (take n history)
permitted_upto table history n le each = record {
  passes = λ p entry e.
      let len = length-take-le n history le in
      let within = slice_get_within (take n history) p entry e in
      let lt : p < n = omega arith in
      let low : p < length history = omega arith in
      let here : get_or history p entry ≡ entry = sym (get_or-take n history p entry lt) ∙ get_or_from_slice_get (take n history) p entry entry e in
      let there : slice_get history p ≡ Some entry = slice_get_read history (length history) p entry refl low (sym here) in
      let same = take-take p n history (omega arith) in
      let P : List PassEntry → Type 0 = λ before. IsPermittedPass table before entry in
      subst P (sym same) (each p lt entry there);
}
