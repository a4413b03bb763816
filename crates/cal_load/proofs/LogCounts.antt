-- The rows of a task in a log, and what comes to the tasks of a table by a log, with one more.
use Rattle.cal_load.proofs.Common.{◌≡◌, ◌≢◌, ◌<◌, ◌≤◌, ◌+◌, ◌∙◌, ⊎_elim, ℕ, List, [], ◌∷◌, ◌++◌, length, take, Some, slice_get, cond, eqb, not, refl, ap, sym, subst, arith, length-append, append-nil, length-take, filter_more, get_or_from_slice_get, slice_get_within, AreBuilt, IsComingTo, count_of, AreGiven, AreOfTasks, IsLogCount, rows_for, IsPut, LogRow, Count, Gathered, Coming, Table, first_thread, task_at, threads_in, last_or_before}
use Rattle.std.proofs.lemmas.Bool.{eq-eqb, ne_eqb}
use Rattle.std.proofs.lemmas.List.Filters.{length-filter_both}
use Rattle.cal_load.proofs.Counted.{counted_push, task_put}

-- the rows of a task, with one more that is of it
pub row_more : (task : ℕ) (rows : List LogRow) (i : ℕ) (row : LogRow) → slice_get rows i ≡ Some row → row.task ≡ task → rows_for task (take (i + 1) rows) ≡ rows_for task (take i rows) ++ row ∷ []
row_more task rows i row at is =
    let lt = slice_get_within rows i row at in
    let same = get_or_from_slice_get rows i row row at in
    filter_more (λ (r : LogRow). eqb r.task task) rows i row lt
    ∙ ap (λ (r : LogRow). rows_for task (take i rows) ++ cond (eqb r.task task) (r ∷ []) []) same
    ∙ ap (λ b. rows_for task (take i rows) ++ cond b (row ∷ []) []) (eq-eqb row.task task is)

-- and with one that is not
pub row_other : (task : ℕ) (rows : List LogRow) (i : ℕ) (row : LogRow) → slice_get rows i ≡ Some row → row.task ≢ task → rows_for task (take (i + 1) rows) ≡ rows_for task (take i rows)
row_other task rows i row at other =
    let lt = slice_get_within rows i row at in
    let same = get_or_from_slice_get rows i row row at in
    filter_more (λ (r : LogRow). eqb r.task task) rows i row lt
    ∙ ap (λ (r : LogRow). rows_for task (take i rows) ++ cond (eqb r.task task) (r ∷ []) []) same
    ∙ ap (λ b. rows_for task (take i rows) ++ cond b (row ∷ []) []) (ne_eqb row.task task other)
    ∙ append-nil (rows_for task (take i rows))

-- no more rows are of a task than there are
pub rows_few : (task : ℕ) (rows : List LogRow) (i : ℕ) → length (rows_for task (take i rows)) ≤ length rows
rows_few task rows i =
    let both = length-filter_both (λ (r : LogRow). eqb r.task task) (λ r. not (eqb r.task task)) (λ _. refl) (take i rows) in
    let taken = length-take i rows in
    omega (arith, both, taken)

-- the count of the next task
tasks_push : (n : ℕ) (counts : List Count) (count : Count) → AreOfTasks n counts → count.task ≡ n → AreOfTasks (n + 1) (counts ++ count ∷ [])
tasks_push n counts count h is = record {
  many = let many = h.many in omega (arith, many, length-append counts (count ∷ []));
  each = λ k c e.
      ⊎_elim
      (λ was. h.each k c was.1)
      (λ last. subst (λ (x : Count). x.task ≡ k) last.1 (is ∙ sym h.many ∙ sym last.0))
      (last_or_before counts count c k e);
}

-- nothing is given yet
pub given_nothing : (table : Table) (rows : List LogRow) (turns : ℕ) (gathered : Gathered) → AreBuilt (threads_in table.tasks) turns 0 gathered.requests.items → gathered.requests.items ≡ []
    → gathered.counts.items ≡ [] → AreGiven table rows turns 0 gathered
given_nothing table rows turns gathered built none counts = record {
  built = built;
  tasks = rw counts (record { many = refl; each = λ k count e. absurd (let lt = slice_get_within [] k count e in omega (arith, lt)) });
  counted = rw (counts, none) refl;
}

-- what comes to the next task is put, which is as many requests as its rows
pub given_more : (table : Table) (rows : List LogRow) (turns n first : ℕ) (coming : Coming) (old new : Gathered) → n < length table.tasks → first ≡ first_thread table.tasks n
    → IsComingTo (task_at table.tasks n).limit turns coming → coming.came ≡ length (rows_for n rows) → AreGiven table rows turns n old → IsPut n 0 first coming old new
    → AreGiven table rows turns (n + 1) new
given_more table rows turns n first coming old new lt at comes came h put =
    let now = task_put table turns n 0 first coming old new lt at comes h.built put in
    let count : Count = count_of n coming in
    let of : IsLogCount table rows count put.own.own = record { came = came; of = now.1 } in
    let pushed = counted_push (IsLogCount table rows) old.counts.items count old.requests.items put.own.own h.counted of in
    record {
      built = now.0;
      tasks = subst (λ (l : List Count). AreOfTasks (n + 1) l) (sym put.counts) (tasks_push n old.counts.items count h.tasks refl);
      counted = rw (put.counts, put.own.more) pushed;
    }
