-- Past the last thread of the table nothing runs.
use Rattle.cal_world.proofs.Common.{◌≡◌, ℕ, ◌+◌, ◌<◌, ◌≤◌, Bool, false, cond, eqb, List, [], ◌∷◌, length, take, None, refl, ap, ◌∙◌, arith, subst, take-length, nat_tests, Table, threads_of_table, Policy, Entry, Yielded, Published, state_after, Event, Take, Yield, Publish, Read, Skip, Decide, Watch, NoThread, entries_for, journal_in, next_command, publishes_in, takes_in, took, running_on, IsAllowedBy, IsLegalListBy}
use Rattle.cal_world.proofs.ListLemmas.OneMore.{of_each_part}
use Rattle.cal_world.proofs.ScheduleLemmas.Moves.{journal_same}

off : (thread k n : ℕ) → thread < n → n ≤ k → eqb thread k ≡ false
off thread k n low past = let apart : thread ≡ k → ⊥ = λ same. omega arith in grind (arith, nat_tests)

silent : (policy : Policy) (table : Table) (before : List Event) (event : Event) (k : ℕ) → threads_of_table table ≤ k → IsAllowedBy policy table before event → entries_for k before event ≡ []
silent policy table before (Take thread) k past allowed =
    ap (λ (b : Bool). cond b (took (takes_in before k + 1) (next_command before k)) []) (off thread k _ (allowed NoThread) past)
silent policy table before (Yield thread) k past allowed = ap (λ (b : Bool). cond b (Yielded ∷ []) []) (off thread k _ (allowed NoThread) past)
silent policy table before (Publish thread rec) k past allowed =
    ap (λ (b : Bool). cond b (Published (publishes_in before k + 1) rec ∷ []) []) (off thread k _ (allowed NoThread) past)
silent policy table before (Read thread number) k past allowed = refl
silent policy table before (Skip thread seen) k past allowed = refl
silent policy table before (Decide entry) k past allowed = refl
silent policy table before (Watch thread number) k past allowed = refl

pub nobody_runs : (policy : Policy) (table : Table) (events : List Event) → IsLegalListBy policy table events → (k : ℕ) → threads_of_table table ≤ k → running_on events k ≡ None
nobody_runs policy table events list k past =
    let P : List Event → Type 0 = λ part. journal_in part k ≡ [] in
    let all : P (take (length events) events) = of_each_part events P refl
    (λ i event at was. journal_same (take i events) event k (silent policy table (take i events) event k past (list.each i event at)) ∙ was) (length events) (omega arith) in
    let none : journal_in events k ≡ [] = subst P (take-length events) all in
    ap (λ (es : List Entry). (state_after es).core) none
