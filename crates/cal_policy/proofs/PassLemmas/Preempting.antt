-- Where no task may be preempted for another, no core that is taken has a class for that one.
use Rattle.cal_policy.proofs.Common.{◌≡◌, ℕ, ◌<◌, ◌≤◌, ◌&&◌, Bool, true, false, not, cond, nat_lt, List, length, Option, Some, None, refl, ap, ◌∙◌, arith, nat_tests, IfSome, is_some, Table, task_in, Action, CoreClass, comes_before, Holder, Held, Leaving, Board, owner_of, threads_of_table, holder_of, is_free, is_held_for, held_by, best_below, Setting, so_far, class_of, class_by, preempt_class, class_among, kept_holder, placement_of, IsReady, Stands, eq-eqb}
use Rattle.cal_policy.specs.declared.board.holders.Holder.TheVariants.{Free}
use Rattle.cal_policy.specs.Pass.Grants.{may_preempt}
use Rattle.cal_policy.proofs.BoardLemmas.StateKept.{some_counted}
use Rattle.cal_policy.proofs.BoardLemmas.TwoSets.{best_none, in_taken}

-- no task may be preempted for task t
abbrev pub NoneMayBePreempted : Table → List Action → ℕ → Type 0
NoneMayBePreempted table x t = (other : ℕ) → other < length table.tasks → (nat_lt 0 (held_by table x other) && is_some (preempt_class table x t other)) ≡ false

some_below : (n : ℕ) → 1 ≤ n → nat_lt 0 n ≡ true
some_below n le = grind (arith, nat_tests)

none_there : (a : Bool) (class : Option CoreClass) → (a && is_some class) ≡ false → a ≡ true → class ≡ None
none_there a None e f = refl
none_there false (Some k) e f = cc
none_there true (Some k) e f = cc

either : (b : Bool) (class : Option CoreClass) → cond b class class ≡ class
either true class = refl
either false class = refl

-- a task that holds a core has no class for task t
pub none_held : (table : Table) (x : List Action) (t core other : ℕ) → NoneMayBePreempted table x t → core < table.cores → other < length table.tasks →
    is_held_for table other (holder_of x core) ≡ true → preempt_class table x t other ≡ None
none_held table x t core other none low few held = none_there _ _ (none other few)
    (some_below _ (some_counted (λ c. is_held_for table other (holder_of x c)) table.cores core low held))

none_by : (s : Setting) (acts : List Action) (t core : ℕ) (h : Holder) → IfSome (placement_of (kept_holder h)) (λ placement. placement.thread < threads_of_table s.table) →
    ((other : ℕ) → other < length s.table.tasks → is_held_for s.table other h ≡ true → preempt_class s.table (so_far s acts) t other ≡ None) →
    cond (not (is_free h)) (class_by s acts t core h) None ≡ None
none_by s acts t core Free there e = refl
none_by s acts t core (Held p) there e =
    let task = task_in s.table.tasks p.thread there in
    ap (λ class. cond (may_preempt s acts t core (Held p)) class None) (e (owner_of s.table p.thread) task.0 (eq-eqb (owner_of s.table p.thread) (owner_of s.table p.thread) refl))
    ∙ either (may_preempt s acts t core (Held p)) None
none_by s acts t core (Leaving p cause) there e = refl

pub none_preempted : (b : Board) (s : Setting) (acts : List Action) (t : ℕ) → s.table.cores ≤ 128 → Stands b s acts → IsReady s.table b →
    NoneMayBePreempted s.table (so_far s acts) t → best_below comes_before (class_among b.sets.taken s acts t) s.table.cores ≡ None
none_preempted b s acts t few st ready none = best_none comes_before (class_among b.sets.taken s acts t) s.table.cores
    (λ core lt.
    let low : core < 128 = omega (arith, lt, few) in
    let holder = holder_of (so_far s acts) core in
    let there : IfSome (placement_of (kept_holder holder)) (λ placement. placement.thread < threads_of_table s.table) =
    rw (← st.agrees.holding.holders core low) (ready.own.holding.holders core) in
    ap (λ w. cond w (class_of s acts t core) None) (in_taken b s acts st ready.sets core low)
    ∙ none_by s acts t core holder there (λ other below held. none_held s.table (so_far s acts) t core other none lt below held))
