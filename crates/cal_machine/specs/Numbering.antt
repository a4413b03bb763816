-- Kernel threads numbered once, so that they need not be counted again.
use Rattle.std.specs.Prelude.{◌≡◌, ◌<◌, ℕ, List, length, slice_index}
use Rattle.cal_machine.specs.Tasks.{threads_in, first_thread, task_of}
use Rattle.cal_machine.specs.declared.task.Task.{Task}

-- For each task the number of its first thread.
abbrev pub AreFirsts : List Task → List ℕ → Type 0
AreFirsts tasks firsts = (t : ℕ) → t < length tasks → slice_index firsts t ≡ first_thread tasks t

-- For each thread the number of its task.
abbrev pub AreOwners : List Task → List ℕ → Type 0
AreOwners tasks owners = (k : ℕ) → k < threads_in tasks → slice_index owners k ≡ task_of tasks k
