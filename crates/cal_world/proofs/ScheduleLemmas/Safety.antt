-- Legal lists are safe.
use Rattle.cal_world.proofs.Common.{◌≡◌, ℕ, ◌≤◌, List, [], ◌∷◌, ◌++◌, length, take, None, refl, sym, arith, subst, slice_get_within, Table, IsTable, PassEntry, Policy, IsLegalBy, IsPermittedPass, EachPolicyIsPermitted, Event, Take, Yield, Publish, Read, Skip, Decide, Watch, history_in, entry_in, IsAllowedBy, IsLegalListBy, IsPermittedDecide, IsSafeEvent, LegalListsAreSafe, OfSafeLists, OfLegalLists, legal_more_by, legal_none_by}
use Rattle.cal_world.specs.declared.illegal.Illegal.TheVariants as causes
use Rattle.cal_world.specs.Policies.{LegalListsAreSafeBy}
use Rattle.cal_world.proofs.ListLemmas.OneMore.{each_last, of_each_part}
use Rattle.cal_world.proofs.ScheduleLemmas.Moves.{history_same, history_more}

legal_same : (policy : Policy) (table : Table) (before : List Event) (event : Event) → entry_in event ≡ None → IsLegalBy policy table (history_in before) → IsLegalBy policy table (history_in (before ++ event ∷ []))
legal_same policy table before event none was = subst (IsLegalBy policy table) (sym (history_same before event none)) was

legal_after : (policy : Policy) (table : Table) (before : List Event) (event : Event) → IsAllowedBy policy table before event → IsLegalBy policy table (history_in before) → IsLegalBy policy table (history_in (before ++ event ∷ []))
legal_after policy table before (Take thread) allowed was = legal_same policy table before (Take thread) refl was
legal_after policy table before (Yield thread) allowed was = legal_same policy table before (Yield thread) refl was
legal_after policy table before (Publish thread rec) allowed was = legal_same policy table before (Publish thread rec) refl was
legal_after policy table before (Read thread number) allowed was = legal_same policy table before (Read thread number) refl was
legal_after policy table before (Skip thread seen) allowed was = legal_same policy table before (Skip thread seen) refl was
legal_after policy table before (Watch thread number) allowed was = legal_same policy table before (Watch thread number) refl was
legal_after policy table before (Decide entry) allowed was =
    subst (IsLegalBy policy table) (sym (history_more before entry)) (legal_more_by policy table (history_in before) entry was (allowed causes.NotThePass).1)

-- the passes of a legal list are a legal history
pub legal_history : (policy : Policy) (table : Table) (events : List Event) → IsLegalListBy policy table events → (n : ℕ) → n ≤ length events → IsLegalBy policy table (history_in (take n events))
legal_history policy table events list =
    of_each_part events (λ part. IsLegalBy policy table (history_in part)) (legal_none_by policy table)
    (λ i event is was. legal_after policy table (take i events) event (list.each i event is) was)

-- so each is permitted
permitted_decide : EachPolicyIsPermitted → (policy : Policy) (table : Table) (before : List Event) (event : Event) → IsTable table → IsLegalBy policy table (history_in before) → IsAllowedBy policy table before event → IsPermittedDecide table before event
permitted_decide law policy table before (Decide entry) ok was allowed =
    let h : List PassEntry = history_in before in
    let pass = allowed causes.NotThePass in
    (pass.0, each_last (IsPermittedPass table) h entry (law policy table (h ++ entry ∷ []) ok (legal_more_by policy table h entry was pass.1)).passes)
permitted_decide law policy table before (Take thread) ok was allowed = tt
permitted_decide law policy table before (Yield thread) ok was allowed = tt
permitted_decide law policy table before (Publish thread rec) ok was allowed = tt
permitted_decide law policy table before (Read thread number) ok was allowed = tt
permitted_decide law policy table before (Skip thread seen) ok was allowed = tt
permitted_decide law policy table before (Watch thread number) ok was allowed = tt

safe_event : (policy : Policy) (table : Table) (before : List Event) (event : Event) → IsAllowedBy policy table before event → IsPermittedDecide table before event → IsSafeEvent table before event
safe_event policy table before event allowed permitted causes.NoThread = allowed causes.NoThread
safe_event policy table before event allowed permitted causes.NothingSent = allowed causes.NothingSent
safe_event policy table before event allowed permitted causes.NotOn = allowed causes.NotOn
safe_event policy table before event allowed permitted causes.NotItsState = allowed causes.NotItsState
safe_event policy table before event allowed permitted causes.NoSuchPlace = allowed causes.NoSuchPlace
safe_event policy table before event allowed permitted causes.OutOfTurn = allowed causes.OutOfTurn
safe_event policy table before event allowed permitted causes.NotThePass = permitted
safe_event policy table before event allowed permitted causes.Memory = tt

pub legal_is_safe : EachPolicyIsPermitted → LegalListsAreSafeBy
legal_is_safe law policy table events ok list = record {
  each = λ i event is.
      let low = slice_get_within events i event is in
      let allowed = list.each i event is in
      safe_event policy table (take i events) event allowed
      (permitted_decide law policy table (take i events) event ok (legal_history policy table events list i (omega arith)) allowed);
}

-- what holds of safe lists holds of legal ones
pub of_legal : (P : Table → List Event → Type 0) → LegalListsAreSafe → OfSafeLists P → OfLegalLists P
of_legal P safe law = λ table events ok list. law table events ok (safe table events ok list)
