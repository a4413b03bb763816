-- Kernel threads numbered in task order.
use Rattle.std.proofs.Common.{◌≡◌, ◌↔◌, ◌<◌, ◌≤◌, ◌+◌, ◌-◌, ℕ, zero, suc, List, [], ◌∷◌, length, take, ◌⊎◌, inl, inr, refl, sym, ◌∙◌, arith, nat_lt, nat_le, ◌&&◌, slice_index, if◌then◌else◌, All, set, get_or-set_same, get_or-set_other}
use Rattle.std.proofs.lemmas.Bool.{cases_lt, cases_eq, lt-ltb, le-ltb, le-leb, lt-leb}
use Rattle.std.proofs.lemmas.List.Sums.{sum_by_more, sum_by-take-le, sum_by-cons}
use Rattle.std.proofs.lemmas.List.Elements.{All-head}
use Rattle.cal_machine.specs.Tasks.{task_at, no_task, threads_in, first_thread, task_of}
use Rattle.cal_machine.specs.Table.{IsTask}
use Rattle.cal_machine.specs.declared.task.Task.{Task}

pub first_next : (tasks : List Task) (t : ℕ) → t < length tasks → first_thread tasks (t + 1) ≡ first_thread tasks t + (task_at tasks t).limit
first_next tasks t lt = sum_by_more (λ task. task.limit) tasks t no_task lt

pub first_le : (tasks : List Task) (t : ℕ) → first_thread tasks t ≤ threads_in tasks
first_le tasks t = sum_by-take-le (λ task. task.limit) tasks t

-- the last thread of a task is one of all
pub next_le : (tasks : List Task) (t : ℕ) → t < length tasks → first_thread tasks t + (task_at tasks t).limit ≤ threads_in tasks
next_le tasks t lt = omega (arith, first_next tasks t lt, first_le tasks (t + 1))

first_suc : (task : Task) (tasks : List Task) (t : ℕ) → first_thread (task ∷ tasks) (suc t) ≡ task.limit + first_thread tasks t
first_suc task tasks t = sum_by-cons (λ task. task.limit) task (take t tasks)

pub task_there : (tasks : List Task) (t k : ℕ) → t < length tasks → first_thread tasks t ≤ k → k < first_thread tasks t + (task_at tasks t).limit → task_of tasks k ≡ t
unfolding task_of
task_there [] t k lt from below = absurd (omega (arith, lt))
task_there (task ∷ tasks) zero k lt from below = rw (lt-ltb k task.limit (omega (arith, below))) refl
task_there (task ∷ tasks) (suc t) k lt from below =
    let start = first_suc task tasks t in
    let past : task.limit ≤ k = omega (arith, start, from) in
    let there = task_there tasks t (k - task.limit) (omega (arith, lt)) (omega (arith, start, from)) (omega (arith, start, below, past)) in
    rw (le-ltb k task.limit past, there) (omega arith)

-- the task of a thread, and that the thread is one of its threads
abbrev pub IsIn : List Task → ℕ → Type 0
IsIn tasks k = (task_of tasks k < length tasks) × (first_thread tasks (task_of tasks k) ≤ k) × (k < first_thread tasks (task_of tasks k) + (task_at tasks (task_of tasks k)).limit)

in_first : (task : Task) (tasks : List Task) (k : ℕ) → k < task.limit → IsIn (task ∷ tasks) k
unfolding task_of
in_first task tasks k within = rw (lt-ltb k task.limit within) (omega arith, omega arith, omega (arith, within))

in_later : (task : Task) (tasks : List Task) (k : ℕ) → task.limit ≤ k → IsIn tasks (k - task.limit) → IsIn (task ∷ tasks) k
unfolding task_of
in_later task tasks k past there =
    let t = task_of tasks (k - task.limit) in
    let one : t + 1 ≡ suc t = omega arith in
    let start = first_suc task tasks t in
    rw (le-ltb k task.limit past, one) (omega (arith, there.0), omega (arith, start, there.1, past), omega (arith, start, there.2, past))

pub task_in : (tasks : List Task) (k : ℕ) → k < threads_in tasks → IsIn tasks k
task_in [] k lt = absurd (omega (arith, lt))
task_in (task ∷ tasks) k lt = choose (task_in tasks (k - task.limit)) (cases_lt k task.limit)
  where
    choose : (k - task.limit < threads_in tasks → IsIn tasks (k - task.limit)) → (k < task.limit) ⊎ (task.limit ≤ k) → IsIn (task ∷ tasks) k
    choose later (inl within) = in_first task tasks k within
    choose later (inr past) = in_later task tasks k past (later (omega (arith, sum_by-cons (λ task. task.limit) task tasks, lt, past)))

-- the first thread of one more task
pub firsts_next : (tasks : List Task) (t : ℕ) (firsts : List ℕ) → t < length firsts
    → ((s : ℕ) → s < t → slice_index firsts s ≡ first_thread tasks s)
    → (s : ℕ) → s < t + 1 → slice_index (set firsts t (first_thread tasks t)) s ≡ first_thread tasks s
firsts_next tasks t firsts lt before s below = go (cases_eq s t)
  where
    go : (s ≡ t) ⊎ (s ≡ t → ⊥) → slice_index (set firsts t (first_thread tasks t)) s ≡ first_thread tasks s
    go (inl e) = rw e (get_or-set_same firsts t (first_thread tasks t) 0 lt)
    go (inr ne) = get_or-set_other firsts t s (first_thread tasks t) 0 ne ∙ before s (omega (arith, below, ne))

-- what was given to the threads of task t after those of the tasks before it
pub owners_next : (tasks : List Task) (t : ℕ) (old new : List ℕ) → t < length tasks
    → ((k : ℕ) → k < first_thread tasks t → slice_index old k ≡ task_of tasks k)
    → ((k : ℕ) → slice_index new k ≡ (if nat_le (first_thread tasks t) k && nat_lt k (first_thread tasks t + (task_at tasks t).limit) then t else slice_index old k))
    → (k : ℕ) → k < first_thread tasks t + (task_at tasks t).limit → slice_index new k ≡ task_of tasks k
owners_next tasks t old new lt before given k below = go (cases_lt k (first_thread tasks t))
  where
    go : (k < first_thread tasks t) ⊎ (first_thread tasks t ≤ k) → slice_index new k ≡ task_of tasks k
    go (inl early) = given k ∙ rw (lt-leb (first_thread tasks t) k early) (before k early)
    go (inr from) = given k ∙ rw (le-leb (first_thread tasks t) k from, lt-ltb k (first_thread tasks t + (task_at tasks t).limit) below) (sym (task_there tasks t k lt from below))

-- tasks of which the first has a thread have one
pub some_thread : (tasks : List Task) → 1 ≤ length tasks → All IsTask tasks → 1 ≤ threads_in tasks
some_thread [] none each = absurd (omega (arith, none))
some_thread (task ∷ tasks) some each = omega (arith, (All-head IsTask task tasks each).some_limit, sum_by-cons (λ task. task.limit) task tasks)

-- a thread is of a task exactly where it is one of the task's threads
pub is_in_exactly : (tasks : List Task) (t k : ℕ) → t < length tasks → k < threads_in tasks → (task_of tasks k ≡ t) ↔ ((first_thread tasks t ≤ k) × (k < first_thread tasks t + (task_at tasks t).limit))
is_in_exactly tasks t k lt below =
    (λ e. rw (← e) ((task_in tasks k below).1, (task_in tasks k below).2), λ h. task_there tasks t k lt (h.0) (h.1))
