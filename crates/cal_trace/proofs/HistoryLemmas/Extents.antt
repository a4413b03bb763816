-- What an accepted table has of cores, threads and tasks fits a byte.
use Rattle.cal_trace.proofs.Common.{ℕ, ◌<◌, arith, extent_of, IsWord, Extent}
use Rattle.cal_machine.specs.Table.{Table, IsTable}

-- what a table has of each fits a byte
pub record IsExtent (extent : Extent) : Type 0 where
  pub few_cores : extent.cores < 256
  pub few_threads : extent.threads < 256
  pub few_tasks : extent.tasks < 256

pub byte_word : (n : ℕ) → n < 256 → IsWord n
byte_word n lt = omega arith

pub table_extent : (table : Table) → IsTable table → IsExtent (extent_of table)
table_extent table ok =
    let cores = ok.machine.most in
    let threads = ok.threads in
    let tasks = ok.tasks in
    record { few_cores = omega arith; few_threads = omega arith; few_tasks = omega arith }
