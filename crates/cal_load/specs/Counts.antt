-- How many requests come.
use Rattle.std.specs.Prelude.{ℕ, List, sum_by}
use Rattle.cal_load.specs.declared.made.Count.{Count}
use Rattle.cal_load.specs.declared.making.Coming.{Coming}

-- how many come to some tasks, all of them together
abbrev pub came_in : List Count → ℕ
came_in counts = sum_by (λ count. count.came) counts

-- the count of what comes to a task
abbrev pub count_of : ℕ → Coming → Count
count_of task coming = record {
  task = task;
  came = coming.came;
  later = coming.later;
  left_out = coming.left_out;
  work = coming.work;
}
