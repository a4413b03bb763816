-- What was found of the threads, one more.
use Rattle.cal_policy.proofs.Common.{◌≡◌, ◌+◌, ℕ, zero, suc, Bool, List, [], ◌∷◌, ◌++◌, length, map, Some, slice_get, ap, sym, ◌∙◌, arith, true≢false, is_some, unwrap_or, map-append, length-map, enumerate_from, Table, Seen, FoundLook, PassEntry, OpenView, IsOfFound, judged_looks, rooms_found, actions_of, judged, look_of, Action}
use Rattle.std.proofs.lemmas.List.FromFn.{length-enumerate_from}
use Rattle.cal_policy.proofs.JudgementLemmas.Judged.{look_of-judged}

enumerate_from-append : {X : Type 0} (n : ℕ) (xs : List X) (x : X) → enumerate_from n (xs ++ x ∷ []) ≡ enumerate_from n xs ++ (n + length xs, x) ∷ []
enumerate_from-append n [] x = let same : n ≡ n + 0 = omega arith in ap (λ m. (m, x) ∷ []) same
enumerate_from-append n (y ∷ ys) x =
    let same : n + 1 + length ys ≡ n + length (y ∷ ys) = omega arith in
    ap (λ zs. (n, y) ∷ zs) (enumerate_from-append (n + 1) ys x ∙ ap (λ m. enumerate_from (n + 1) ys ++ (m, x) ∷ []) same)

-- one look more, as judged
pub judged_looks-append : (table : Table) (history : List PassEntry) (looks : List FoundLook) (found : FoundLook)
    → judged_looks table history (looks ++ found ∷ []) ≡ judged_looks table history looks ++ judged table.cores (actions_of history) (length looks) found.look ∷ []
judged_looks-append table history looks found =
    let f : ℕ × FoundLook → Seen = λ one. judged table.cores (actions_of history) one.0 one.1.look in
    let zero : 0 + length looks ≡ length looks = omega arith in
    ap (λ es. map f es) (enumerate_from-append 0 looks found) ∙ map-append f (enumerate_from 0 looks) ((0 + length looks, found) ∷ [])
    ∙ ap (λ k. map f (enumerate_from 0 looks) ++ judged table.cores (actions_of history) k found.look ∷ []) zero

-- one answer on room more
pub rooms_found-append : (looks : List FoundLook) (found : FoundLook) → rooms_found (looks ++ found ∷ []) ≡ rooms_found looks ++ found.room ∷ []
rooms_found-append looks found = map-append (λ (one : FoundLook). one.room) looks (found ∷ [])

-- lists of what was found, with one look and its ring's room more
pub found_push : (table : Table) (history : List PassEntry) (looks : List FoundLook) (found : FoundLook) (old new : OpenView) →
    IsOfFound table history looks old → new.seen ≡ old.seen ++ judged table.cores (actions_of history) (length looks) found.look ∷ []
    → new.rooms ≡ old.rooms ++ found.room ∷ [] → IsOfFound table history (looks ++ found ∷ []) new
found_push table history looks found old new of seen rooms = record {
  seen = seen ∙ ap (λ (xs : List Seen). xs ++ judged table.cores (actions_of history) (length looks) found.look ∷ []) of.seen ∙ sym (judged_looks-append table history looks found);
  rooms = rooms ∙ ap (λ (xs : List Bool). xs ++ found.room ∷ []) of.rooms ∙ sym (rooms_found-append looks found);
}

pub length-judged_looks : (table : Table) (history : List PassEntry) (looks : List FoundLook) → length (judged_looks table history looks) ≡ length looks
length-judged_looks table history looks =
    length-map (enumerate_from 0 looks) (λ (found : ℕ × FoundLook). judged table.cores (actions_of history) found.0 found.1.look) ∙ length-enumerate_from 0 looks

-- each look of an input that was made of what was found is as it is judged
pub made_as_judged : (cores : ℕ) (x : List Action) (n : ℕ) (found : List FoundLook) (k : ℕ) (seen : Seen)
    → slice_get (map (λ (one : ℕ × FoundLook). judged cores x one.0 one.1.look) (enumerate_from n found)) k ≡ Some seen
    → seen ≡ judged cores x (n + k) (look_of seen)
made_as_judged cores x n [] k seen e = absurd (true≢false (sym (ap is_some e)))
made_as_judged cores x n (y ∷ ys) zero seen e =
    let is : judged cores x n y.look ≡ seen = ap (λ o. unwrap_or o seen) e in
    let look : look_of seen ≡ y.look = ap look_of (sym is) ∙ look_of-judged cores x n y.look in
    let place : n ≡ n + 0 = omega arith in
    sym is ∙ ap (λ l. judged cores x n l) (sym look) ∙ ap (λ j. judged cores x j (look_of seen)) place
made_as_judged cores x n (y ∷ ys) (suc k) seen e =
    let place : n + 1 + k ≡ n + suc k = omega arith in
    made_as_judged cores x (n + 1) ys k seen e ∙ ap (λ j. judged cores x j (look_of seen)) place
