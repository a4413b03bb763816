-- The limits of the machine and its table, Doranjei's, and the number of each. The other
-- definitions cite the constants of the code alone. Each number is here once: a constant with
-- another number is refused.
use Rattle.std.specs.Prelude.{◌≡◌, ◌^◌, refl}
use Rattle.cal_machine.specs.declared.machine.TheConstants.{MOST_CORES, MOST_PAIRS}
use Rattle.cal_machine.specs.declared.numbering.TheConstants.{MOST_THREADS}
use Rattle.cal_machine.specs.declared.task_table.TheConstants.{MOST_TASKS, MOST_LIMIT, MOST_TICKS}

pub most_cores-is : MOST_CORES ≡ 128
most_cores-is = refl

pub most_pairs-is : MOST_PAIRS ≡ 64
most_pairs-is = refl

pub most_threads-is : MOST_THREADS ≡ 128
most_threads-is = refl

pub most_tasks-is : MOST_TASKS ≡ 16
most_tasks-is = refl

pub most_limit-is : MOST_LIMIT ≡ 16
most_limit-is = refl

pub most_ticks-is : MOST_TICKS ≡ 10 ^ 12
most_ticks-is = refl
