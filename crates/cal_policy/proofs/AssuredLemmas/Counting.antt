-- Counts of numbers, and what is asked of a task that the table has not.
use Rattle.cal_policy.proofs.Common.{◌≡◌, ℕ, ◌+◌, ◌<◌, ◌≤◌, suc, zero, Bool, true, false, not, cond, eqb, ◌&&◌, nat_lt, List, length, refl, ap, ◌∙◌, add-one, arith, ⊎_elim, is_some, cases_lt, nat_tests, get_or_past, no_task, Task, limit_of, thread_of, Action, pressing, presses, is_short, surplus, waits, waits_short, count_below, may_book, thread_choice, Setting, and-false}
use Rattle.cal_policy.proofs.BoardLemmas.StateKept.{some_counted}

-- one number more
pub counted_more : (p : ℕ → Bool) (n count : ℕ) (b : Bool) → count ≡ count_below p n → b ≡ p n → count + cond b 1 0 ≡ count_below p (n + 1)
counted_more p n count b e g = rw (add-one n, e, g) refl

not_counted : (p : ℕ → Bool) (n : ℕ) → p n ≡ false → count_below p n ≡ count_below p (suc n)
not_counted p n e = rw e (omega arith)

-- numbers that do not pass are not counted
pub count_skip : (p : ℕ → Bool) (m n : ℕ) → m ≤ n → ((k : ℕ) → m ≤ k → k < n → p k ≡ false) → count_below p m ≡ count_below p n
count_skip p m zero le e = let same : m ≡ 0 = omega (arith, le) in rw same refl
count_skip p m (suc n) le e = ⊎_elim
    (λ l. count_skip p m n (omega (arith, l)) (λ k a b. e k a (omega (arith, b))) ∙ not_counted p n (e n (omega (arith, l)) (omega arith)))
    (λ g. let same : m ≡ suc n = omega (arith, g, le) in rw same refl)
    (cases_lt m (suc n))

pub below_nothing : (n : ℕ) (b r : Bool) → ((nat_lt n 0 && b) && r) ≡ false
below_nothing n b r = let e : nat_lt n 0 ≡ false = grind (arith, nat_tests) in rw e refl

-- a task past the last waits for nothing
pub waits_past : (s : Setting) (x : List Action) (t : ℕ) → length s.table.tasks ≤ t → waits s x t ≡ false
waits_past s x t le =
    let limit : limit_of s.table t ≡ 0 = ap (λ (task : Task). task.limit) (get_or_past s.table.tasks t no_task le) in
    let none : pressing s x t ≡ 0 = ap (count_below (λ j. presses s x (thread_of s.table t j))) limit in
    let books : Bool = may_book s x t in
    let has : Bool = is_some (thread_choice s x t) in
    ap (λ n. (nat_lt (surplus s x t) n && books) && has) none ∙ below_nothing (surplus s x t) books has

pub waits_short_past : (s : Setting) (x : List Action) (t : ℕ) → length s.table.tasks ≤ t → waits_short s x t ≡ false
waits_short_past s x t le = ap (λ b. is_short s.table x t && b) (waits_past s x t le) ∙ and-false (is_short s.table x t)

-- whether some number passes, by the count of those that do
pub some_passes : (p : ℕ → Bool) (n i : ℕ) → i < n → p i ≡ true → true ≡ not (eqb (count_below p n) 0)
some_passes p n i lt e = let some = some_counted p n i lt e in grind (arith, nat_tests)

pub none_passes : (p : ℕ → Bool) (m n : ℕ) → m ≡ n → count_below p m ≡ 0 → false ≡ not (eqb (count_below p n) 0)
none_passes p m n same e = let none : count_below p n ≡ 0 = rw (← same) e in rw none refl
