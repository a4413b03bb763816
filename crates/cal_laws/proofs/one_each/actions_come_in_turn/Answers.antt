use Rattle.cal_laws.proofs.Common.{◌≡◌, ℕ, ◌<◌, zero, suc, List, [], ◌∷◌, take, Some, sym, subst, arith, slice_get, All-get_or, slice_get_within, get_or_from_slice_get, Table, Action, EachAfter, setting_at, made_at, turn_of, each_at}
use Rattle.cal_laws.proofs.OneEachLemmas.Turns.{Below, IsInTurn, pass_in_turn}
use Rattle.cal_laws.proofs.one_each.actions_come_in_turn.Goals as goal

at_taken : {X : Type 0} (xs : List X) (n j : ℕ) (x : X) → j < n → slice_get xs j ≡ Some x → slice_get (take n xs) j ≡ Some x
at_taken [] n j x lt e = cc
at_taken (y ∷ xs) zero j x lt e = absurd (omega (arith, lt))
at_taken (y ∷ xs) (suc n) zero x lt e = e
at_taken (y ∷ xs) (suc n) (suc j) x lt e = at_taken xs n j x (omega (arith, lt)) e

below_at : (table : Table) (n : ℕ) (acts : List Action) (j : ℕ) (a : Action) → Below table n acts → slice_get acts j ≡ Some a → turn_of table a < n
below_at table n acts j a b e =
    let P : Action → Type 0 = λ a. turn_of table a < n in
    subst P (get_or_from_slice_get acts j a a e) (All-get_or P acts j a (slice_get_within acts j a e) b)

pub returns : goal.returns
returns c = λ here is action e j earlier lt f.
    let P : List Action → Type 0 = λ acts. EachAfter (IsInTurn here.table) [] acts in
    let pass = is.legal.passes here.pass here.entry is.entry in
    let each = subst P (sym pass.actions) (pass_in_turn c.threads_are_of_their_task.ensures c.chosen_has_waited_longest.ensures (setting_at here)) in
    below_at here.table (turn_of here.table action) (made_at here) j earlier (each_at (IsInTurn here.table) [] here.entry.actions here.made action each e)
    (at_taken here.entry.actions here.made j earlier lt f)
