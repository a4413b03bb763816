-- Threads that do not wait do not press.
use Rattle.cal_policy.proofs.Common.{◌≡◌, ℕ, ◌+◌, ◌<◌, ◌≤◌, Bool, false, not, ◌&&◌, eqb, nat_lt, List, [], length, Option, refl, sym, ap, ◌∙◌, arith, is_some, nat_tests, and-false, first_thread, owner_of, thread_of, delay_of, limit_of, has_thread, Action, Board, IsCalm, turn_in_place, is_in_flight, is_late, presses, pressing, place_of, task_in_place, is_short, surplus, waits, waits_short, some_waits_short, KeepsSets, count_below, may_book, thread_choice, Setting, so_far, Stands}
use Rattle.cal_policy.proofs.AssuredLemmas.Acts.{idle_place, waits_not}
use Rattle.cal_policy.proofs.AssuredLemmas.Counting.{count_skip, below_nothing, none_passes}
use Rattle.cal_policy.proofs.ListLemmas.Counted.{lowest_passes}
use Rattle.cal_policy.proofs.PassLemmas.NothingDue.{no_delay}

never_below : (n : ℕ) (b : Bool) → (nat_lt n 0 && b) ≡ false
never_below n b = let e : nat_lt n 0 ≡ false = grind (arith, nat_tests) in rw e refl

-- where no task waits no short one does
pub none_short : (s : Setting) (x : List Action) → ((t : ℕ) → t < length s.table.tasks → waits s x t ≡ false) → some_waits_short s x ≡ false
none_short s x none = sym (none_passes (waits_short s x) (length s.table.tasks) (length s.table.tasks) refl
    (sym (count_skip (waits_short s x) 0 (length s.table.tasks) (omega arith) (λ t a b. ap (λ w. is_short s.table x t && w) (none t b) ∙ and-false (is_short s.table x t)))))

-- a thread that does not wait does not press
no_press : (b : Board) (s : Setting) (acts : List Action) → Stands b s acts → KeepsSets b.keeping → (k : ℕ) → k < 128 →
    has_thread b.keeping.waiting k ≡ false → presses s (so_far s acts) k ≡ false
no_press b s acts st sets k lt e =
    ap (λ d. nat_lt (delay_of s.table (owner_of s.table k)) d && not (is_in_flight s (so_far s acts) k)) (no_delay b s acts st sets k lt e)
    ∙ never_below (delay_of s.table (owner_of s.table k)) (not (is_in_flight s (so_far s acts) k))

-- so of the threads of a task as many press as did before some that do not wait
pub press_past : (b : Board) (s : Setting) (acts : List Action) → Stands b s acts → KeepsSets b.keeping → (t first n m : ℕ) →
    first ≡ first_thread s.table.tasks t → n ≤ m → first + m ≤ 128 → ((j : ℕ) → first + n ≤ j → j < first + m → has_thread b.keeping.waiting j ≡ false) →
    count_below (λ j. presses s (so_far s acts) (thread_of s.table t j)) n ≡ count_below (λ j. presses s (so_far s acts) (thread_of s.table t j)) m
press_past b s acts st sets t first n m at low most none =
    count_skip (λ j. presses s (so_far s acts) (thread_of s.table t j)) n m low
    (λ j x y. no_press b s acts st sets (first_thread s.table.tasks t + j) (omega (arith, at, most, y))
    (none (first_thread s.table.tasks t + j) (omega (arith, at, x)) (omega (arith, at, y))))

-- so a task of whose threads none waits does not wait
pub calm_task : (b : Board) (s : Setting) (acts : List Action) → Stands b s acts → KeepsSets b.keeping → (t : ℕ) →
    first_thread s.table.tasks t + limit_of s.table t ≤ 128 →
    ((j : ℕ) → first_thread s.table.tasks t ≤ j → j < first_thread s.table.tasks t + limit_of s.table t → has_thread b.keeping.waiting j ≡ false) →
    waits s (so_far s acts) t ≡ false
calm_task b s acts st sets t most none =
    let x = so_far s acts in
    let calm : pressing s x t ≡ 0 = sym (press_past b s acts st sets t (first_thread s.table.tasks t) 0 (limit_of s.table t) refl (omega arith) most (λ j from to. none j (omega (arith, from)) to)) in
    let books : Bool = may_book s x t in
    let has : Bool = is_some (thread_choice s x t) in
    ap (λ n. (nat_lt (surplus s x t) n && books) && has) calm ∙ below_nothing (surplus s x t) books has

-- and so no short one
pub calm_short : (b : Board) (s : Setting) (acts : List Action) → Stands b s acts → KeepsSets b.keeping → (t : ℕ) →
    first_thread s.table.tasks t + limit_of s.table t ≤ 128 →
    ((j : ℕ) → first_thread s.table.tasks t ≤ j → j < first_thread s.table.tasks t + limit_of s.table t → has_thread b.keeping.waiting j ≡ false) →
    waits_short s (so_far s acts) t ≡ false
calm_short b s acts st sets t most none = ap (λ w. is_short s.table (so_far s acts) t && w) (calm_task b s acts st sets t most none) ∙ and-false (is_short s.table (so_far s acts) t)

-- where no task waits none is given anything in its place
pub nothing_in_place : (s : Setting) (acts x : List Action) (place : ℕ) (o : Option ℕ) → task_in_place s x place ≡ o →
    ((t : ℕ) → t < length s.table.tasks → waits s (so_far s acts) t ≡ false) → turn_in_place s acts o ≡ []
nothing_in_place s acts x place o e calm = idle_place s acts o (λ t is.
    let there = lowest_passes (λ u. eqb (place_of s x u) place) (length s.table.tasks) t (e ∙ is) in
    waits_not s acts t (calm t there.0))

not_pressing : (s : Setting) (x : List Action) (k : ℕ) → is_late s k ≡ false → presses s x k ≡ false
not_pressing s x k e = ap (λ b. b && not (is_in_flight s x k)) e

-- a task of whose threads none is late does not wait
pub calm_waits : (s : Setting) (x : List Action) (t : ℕ) → IsCalm s t → waits s x t ≡ false
calm_waits s x t calm =
    let none : pressing s x t ≡ 0 = sym (count_skip (λ j. presses s x (thread_of s.table t j)) 0 (limit_of s.table t) (omega arith) (λ j a b. not_pressing s x (thread_of s.table t j) (calm.none_late j b))) in
    let books : Bool = may_book s x t in
    let has : Bool = is_some (thread_choice s x t) in
    ap (λ n. (nat_lt (surplus s x t) n && books) && has) none ∙ below_nothing (surplus s x t) books has

-- and where no thread of a task waits it is calm
pub is_calm : (b : Board) (s : Setting) (acts : List Action) → Stands b s acts → KeepsSets b.keeping → (t first count : ℕ) →
    first ≡ first_thread s.table.tasks t → count ≡ limit_of s.table t → first + count ≤ 128 →
    ((j : ℕ) → first ≤ j → j < first + count → has_thread b.keeping.waiting j ≡ false) → IsCalm s t
is_calm b s acts st sets t first count at many most none = record {
  none_late = λ j lt.
      let k : ℕ = first_thread s.table.tasks t + j in
      ap (λ d. nat_lt (delay_of s.table (owner_of s.table k)) d) (no_delay b s acts st sets k (omega (arith, at, many, most, lt)) (none k (omega (arith, at)) (omega (arith, at, many, lt))))
      ∙ never_less (delay_of s.table (owner_of s.table k));
}
  where
    never_less : (n : ℕ) → nat_lt n 0 ≡ false
    never_less n = grind (arith, nat_tests)
