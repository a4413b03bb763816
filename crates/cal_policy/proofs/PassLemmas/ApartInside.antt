-- No core is banned while its sibling is, at each place inside each pass of a legal history.
use Rattle.cal_policy.proofs.Common.{◌≡◌, ℕ, suc, zero, List, [], ◌∷◌, ◌++◌, take, Some, slice_get, IsTrue, refl, sym, subst, append_assoc, arith, append-nil, slice_get_within, Table, IsTable, Action, PassEntry, actions_of, setting_of, so_far, fits_state, FitInTurn, NoPairBanned, IsLegal, Caladan}
use Rattle.cal_policy.proofs.PassLemmas.Apart.{apart_push, orderly_apart}
use Rattle.cal_policy.proofs.PassLemmas.Legality.{legal_upto_by}
use Rattle.cal_policy.proofs.PassLemmas.LegalOrderly.{legal_orderly}

-- after the first i of actions that fit in turn no pair is banned, where none was before
pub apart_at : (table : Table) (x acts : List Action) → FitInTurn table x acts → NoPairBanned x → (i : ℕ) → NoPairBanned (x ++ take i acts)
apart_at table x acts fits h zero = rw append-nil h
apart_at table x [] fits h (suc i) = rw append-nil h
apart_at table x (a ∷ acts) fits h (suc i) =
    let P : List Action → Type 0 = λ l. IsTrue (fits_state table l a) in
    let N : List Action → Type 0 = λ l. NoPairBanned l in
    subst N (append_assoc x (a ∷ []) (take i acts))
    (apart_at table (x ++ a ∷ []) acts
    (λ j b e. let Q : List Action → Type 0 = λ l. IsTrue (fits_state table l b) in subst Q (sym (append_assoc x (a ∷ []) (take j acts))) (fits (suc j) b e))
    (apart_push table x a (subst P (append-nil x) (fits zero a refl)) h) i)

pub legal_apart : (table : Table) (history : List PassEntry) → IsTable table → IsLegal table history → (p : ℕ) (entry : PassEntry) → slice_get history p ≡ Some entry →
    (i : ℕ) → NoPairBanned (so_far (setting_of table (take p history) entry) (take i entry.actions))
legal_apart table history ok legal p entry e i =
    let lt = slice_get_within history p entry e in
    let before = legal_upto_by Caladan table history p (omega arith) (λ q low past is. legal.passes q past is) in
    apart_at table (actions_of (take p history)) entry.actions ((legal_orderly table history ok legal).entries p entry e).actions
    (orderly_apart table (take p history) (legal_orderly table (take p history) ok before)) i
