-- Records that leave idle passes out.
use Rattle.std.proofs.Common.{◌≡◌, ℕ, suc, zero, Bool, true, false, cond, List, [], ◌∷◌, ◌++◌, take, Some, refl, sym, ap, subst, append_assoc, append-nil, slice_get}
use Rattle.cal_machine.specs.Table.{Table}
use Rattle.cal_policy.specs.declared.history.entry.PassEntry.{PassEntry}
use Rattle.cal_policy.specs.declared.policy.Policy.{Policy}
use Rattle.cal_policy.specs.Policies.{IsPassBy, IsLegalBy}
use Rattle.cal_idle.proofs.Going.{change_nothing}
use Rattle.cal_idle.proofs.Leaving.{same_chain, same_itself, idle_leave_the_same}
use Rattle.cal_idle.specs.Idle.{IsIdle, LeaveTheSame, GoesByWhatIsLeft}
use Rattle.cal_idle.specs.LeftOut.{Noted, passes_of, written_of, RecordsLeaveTheSame, RecordsAreLegal, IdlePassesMayBePutIn}

-- of the passes of a run that come after these, each that is not written has P
abbrev LeftOut : (List PassEntry → PassEntry → Type 0) → List PassEntry → List Noted → Type 0
LeftOut P before run = (p : ℕ) (noted : Noted) → slice_get run p ≡ Some noted → noted.is_written ≡ false → P (before ++ passes_of (take p run)) noted.entry

-- of the first, and of those after it
here : (P : List PassEntry → PassEntry → Type 0) (before : List PassEntry) (noted : Noted) (run : List Noted) → LeftOut P before (noted ∷ run) → noted.is_written ≡ false → P before noted.entry
here P before noted run left off = subst (λ h. P h noted.entry) (append-nil before) (left zero noted refl off)

rest : (P : List PassEntry → PassEntry → Type 0) (before : List PassEntry) (noted : Noted) (run : List Noted) → LeftOut P before (noted ∷ run) → LeftOut P (before ++ noted.entry ∷ []) run
rest P before noted run left p other at off = subst (λ h. P h other.entry) (sym (append_assoc before (noted.entry ∷ []) (passes_of (take p run)))) (left (suc p) other at off)

-- the first is written, or not
abbrev written_first : Noted → List Noted → Bool → List PassEntry
written_first noted run is_written = cond is_written (noted.entry ∷ []) [] ++ written_of run

is_first : (noted : Noted) (run : List Noted) (is_written : Bool) → noted.is_written ≡ is_written → written_of (noted ∷ run) ≡ written_first noted run is_written
is_first noted run is_written e = ap (written_first noted run) e

-- ---- what is left ----

leave_first : (before : List PassEntry) (noted : Noted) (run : List Noted) (b : Bool) → noted.is_written ≡ b → LeftOut IsIdle before (noted ∷ run) →
    LeaveTheSame ((before ++ noted.entry ∷ []) ++ passes_of run) ((before ++ noted.entry ∷ []) ++ written_of run) → LeaveTheSame (before ++ noted.entry ∷ passes_of run) (before ++ written_of (noted ∷ run))
leave_first before noted run b e left next = go b e
  where
    with_it : LeaveTheSame (before ++ noted.entry ∷ passes_of run) (before ++ noted.entry ∷ written_of run)
    with_it = subst (λ h. LeaveTheSame h (before ++ noted.entry ∷ written_of run)) (append_assoc before (noted.entry ∷ []) (passes_of run))
        (subst (λ h. LeaveTheSame ((before ++ noted.entry ∷ []) ++ passes_of run) h) (append_assoc before (noted.entry ∷ []) (written_of run)) next)

    go : (b : Bool) → noted.is_written ≡ b → LeaveTheSame (before ++ noted.entry ∷ passes_of run) (before ++ written_of (noted ∷ run))
    go true e = subst (λ l. LeaveTheSame (before ++ noted.entry ∷ passes_of run) (before ++ l)) (sym (is_first noted run true e)) with_it
    go false e = subst (λ l. LeaveTheSame (before ++ noted.entry ∷ passes_of run) (before ++ l)) (sym (is_first noted run false e))
        (same_chain (before ++ noted.entry ∷ passes_of run) (before ++ noted.entry ∷ written_of run) (before ++ written_of run) with_it
        (idle_leave_the_same before noted.entry (written_of run) (here IsIdle before noted run left e)))

leave_by : (before : List PassEntry) (run : List Noted) → LeftOut IsIdle before run → LeaveTheSame (before ++ passes_of run) (before ++ written_of run)
leave_by before [] left = same_itself (before ++ [])
leave_by before (noted ∷ run) left = leave_first before noted run noted.is_written refl left (leave_by (before ++ noted.entry ∷ []) run (rest IsIdle before noted run left))

pub leave_the_same : RecordsLeaveTheSame
leave_the_same run out = leave_by [] run out.idle

-- ---- legality ----

legal_first : ((policy : Policy) → GoesByWhatIsLeft policy) → (policy : Policy) (table : Table) (before : List PassEntry) (noted : Noted) (run : List Noted) (b : Bool) → noted.is_written ≡ b →
    LeftOut IsIdle before (noted ∷ run) → IsLegalBy policy table ((before ++ noted.entry ∷ []) ++ written_of run) → IsLegalBy policy table (before ++ written_of (noted ∷ run))
legal_first goes policy table before noted run b e left next = go b e
  where
    P : List PassEntry → Type 0
    P h = IsLegalBy policy table h

    with_it : IsLegalBy policy table (before ++ noted.entry ∷ written_of run)
    with_it = subst P (append_assoc before (noted.entry ∷ []) (written_of run)) next

    go : (b : Bool) → noted.is_written ≡ b → IsLegalBy policy table (before ++ written_of (noted ∷ run))
    go true e = subst (λ l. P (before ++ l)) (sym (is_first noted run true e)) with_it
    go false e = subst (λ l. P (before ++ l)) (sym (is_first noted run false e))
        ((change_nothing goes policy table before noted.entry (written_of run) (here IsIdle before noted run left e)).0 with_it).1

legal_by : ((policy : Policy) → GoesByWhatIsLeft policy) → (policy : Policy) (table : Table) (before : List PassEntry) (run : List Noted) → LeftOut IsIdle before run →
    IsLegalBy policy table (before ++ passes_of run) → IsLegalBy policy table (before ++ written_of run)
legal_by goes policy table before [] left legal = legal
legal_by goes policy table before (noted ∷ run) left legal =
    legal_first goes policy table before noted run noted.is_written refl left
    (legal_by goes policy table (before ++ noted.entry ∷ []) run (rest IsIdle before noted run left)
    (subst (λ h. IsLegalBy policy table h) (sym (append_assoc before (noted.entry ∷ []) (passes_of run))) legal))

pub are_legal : ((policy : Policy) → GoesByWhatIsLeft policy) → RecordsAreLegal
are_legal goes policy table run out legal = legal_by goes policy table [] run out.idle legal

-- the first is put in where it was left out
put_first : ((policy : Policy) → GoesByWhatIsLeft policy) → (policy : Policy) (table : Table) (before : List PassEntry) (noted : Noted) (run : List Noted) (b : Bool) → noted.is_written ≡ b →
    LeftOut IsIdle before (noted ∷ run) → LeftOut (λ h entry. IsPassBy policy table h entry) before (noted ∷ run) →
    IsLegalBy policy table (before ++ written_of (noted ∷ run)) → IsLegalBy policy table ((before ++ noted.entry ∷ []) ++ written_of run)
put_first goes policy table before noted run b e left own legal = subst P (sym (append_assoc before (noted.entry ∷ []) (written_of run))) (go b e)
  where
    P : List PassEntry → Type 0
    P h = IsLegalBy policy table h

    go : (b : Bool) → noted.is_written ≡ b → IsLegalBy policy table (before ++ noted.entry ∷ written_of run)
    go true e = subst (λ l. P (before ++ l)) (is_first noted run true e) legal
    go false e = (change_nothing goes policy table before noted.entry (written_of run) (here IsIdle before noted run left e)).1
        (here (λ h entry. IsPassBy policy table h entry) before noted run own e, subst (λ l. P (before ++ l)) (is_first noted run false e) legal)

put_in_by : ((policy : Policy) → GoesByWhatIsLeft policy) → (policy : Policy) (table : Table) (before : List PassEntry) (run : List Noted) → LeftOut IsIdle before run →
    LeftOut (λ h entry. IsPassBy policy table h entry) before run → IsLegalBy policy table (before ++ written_of run) → IsLegalBy policy table (before ++ passes_of run)
put_in_by goes policy table before [] left own legal = legal
put_in_by goes policy table before (noted ∷ run) left own legal =
    subst (λ h. IsLegalBy policy table h) (append_assoc before (noted.entry ∷ []) (passes_of run))
    (put_in_by goes policy table (before ++ noted.entry ∷ []) run (rest IsIdle before noted run left)
    (rest (λ h entry. IsPassBy policy table h entry) before noted run own) (put_first goes policy table before noted run noted.is_written refl left own legal))

pub put_in : ((policy : Policy) → GoesByWhatIsLeft policy) → IdlePassesMayBePutIn
put_in goes policy table run out own legal = put_in_by goes policy table [] run out.idle own.own legal
