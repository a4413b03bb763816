-- Legal histories of this policy, pass by pass.
use Rattle.cal_assured.proofs.Common.{◌≡◌, ℕ, ◌<◌, ◌≤◌, Bool, true, false, nat_lt, List, [], ◌∷◌, ◌++◌, length, get_or, take, Some, slice_get, inl, inr, sym, subst, ◌∙◌, arith, refl, length-append, Table, IsPass, IsLegal}
use Rattle.std.proofs.lemmas.List.{length-take-le, get_or-take, take-take, take-append-le, take_all}
use Rattle.std.proofs.lemmas.Option.{slice_get_within, slice_get_read, get_or_from_slice_get}
use Rattle.std.proofs.Math.Seq.{take-append_seam}
use Rattle.cal_machine.proofs.Last.{slice_get-last, last_or_before}
use Rattle.cal_policy.specs.declared.history.entry.PassEntry.{PassEntry}
use Rattle.cal_assured.specs.Histories.{NothingIsLegal, PrefixesAreLegal, OnePassMoreIsLegal}

first : (table : Table) (history : List PassEntry) (n : ℕ) → n ≤ length history → IsLegal table history → IsLegal table (take n history)
first table history n le legal = record {
  passes = λ p entry e.
      let len = length-take-le n history le in
      let within = slice_get_within (take n history) p entry e in
      let lt : p < n = omega arith in
      let low : p < length history = omega arith in
      let here : get_or history p entry ≡ entry = sym (get_or-take n history p entry lt) ∙ get_or_from_slice_get (take n history) p entry entry e in
      let there : slice_get history p ≡ Some entry = slice_get_read history (length history) p entry refl low (sym here) in
      let same = take-take p n history (omega arith) in
      let P : List PassEntry → Type 0 = λ before. IsPass table before entry in
      subst P (sym same) (legal.passes p entry there);
}

pub prefixes : PrefixesAreLegal
prefixes table history n legal = go (nat_lt n (length history)) refl
  where
    go : (b : Bool) → nat_lt n (length history) ≡ b → IsLegal table (take n history)
    go true is = let le : n ≤ length history = grind arith in first table history n le legal
    go false is =
        let past : length history ≤ n = grind arith in
        subst (λ (h : List PassEntry). IsLegal table h) (sym (take_all n history past)) legal

pub nothing : NothingIsLegal
nothing table = record { passes = λ p entry e. absurd (cc) }

more : (table : Table) (history : List PassEntry) (entry : PassEntry) → IsLegal table history → IsPass table history entry → IsLegal table (history ++ entry ∷ [])
more table history entry legal next = record {
  passes = λ p other e. elim (last_or_before history entry other p e) [
    | inl h ↦ let lt : p ≤ length history = omega (arith, h.0) in rw (take-append-le p history (entry ∷ [])) (legal.passes p other h.1)
    | inr h ↦ rw (h.0, ← h.1, take-append_seam history (entry ∷ [])) next
  ];
}

before : (table : Table) (history : List PassEntry) (entry : PassEntry) → IsLegal table (history ++ entry ∷ []) → IsLegal table history
before table history entry legal =
    let le : length history ≤ length (history ++ entry ∷ []) = omega (arith, length-append history (entry ∷ [])) in
    subst (λ (before : List PassEntry). IsLegal table before) (take-append_seam history (entry ∷ [])) (first table (history ++ entry ∷ []) (length history) le legal)

last : (table : Table) (history : List PassEntry) (entry : PassEntry) → IsLegal table (history ++ entry ∷ []) → IsPass table history entry
last table history entry legal =
    subst (λ (before : List PassEntry). IsPass table before entry) (take-append_seam history (entry ∷ [])) (legal.passes (length history) entry (slice_get-last history entry))

pub one_more : OnePassMoreIsLegal
one_more table history entry = (λ legal. (before table history entry legal, last table history entry legal), λ both. more table history entry both.0 both.1)
