-- What is counted of the cores: how many each task and thread has.
use Rattle.std.specs.Prelude.{◌≡◌, ℕ, ◌+◌, ◌<◌, ◌≤◌, true, slice_index, if◌then◌else◌}
use Rattle.cal_machine.specs.Table.{Table}
use Rattle.cal_machine.specs.declared.numbering.TheConstants.{MOST_THREADS}
use Rattle.cal_machine.specs.declared.task_table.TheConstants.{MOST_TASKS}
use Rattle.cal_policy.specs.declared.board.holders.Holder.{Holder}
use Rattle.cal_policy.specs.declared.board.survey.Survey.{Survey}
use Rattle.cal_policy.specs.Pass.Choice.{count_below}
use Rattle.cal_policy.specs.Board.Counts.{is_held_for, is_booked_for, is_with}
use Rattle.cal_policy.specs.Pass.Grants.{leaves_for}

-- where `holder` says who has each core: how many cores each task holds and books, how many each
-- thread has, and how many are being left for each task
pub record Surveys (table : Table) (holder : ℕ → Holder) (survey : Survey) : Type 0 where
  pub held : (t : ℕ) → t < MOST_TASKS →
      slice_index survey.held t ≡ count_below (λ c. is_held_for table t (holder c)) table.cores
  pub booked : (t : ℕ) → t < MOST_TASKS →
      slice_index survey.booked t ≡ count_below (λ c. is_booked_for table t (holder c)) table.cores
  pub placed : (k : ℕ) → k < MOST_THREADS →
      slice_index survey.placed k ≡ count_below (λ c. is_with k (holder c)) table.cores
  pub awaited : (t : ℕ) → t < MOST_TASKS →
      slice_index survey.awaited t ≡ count_below (λ c. leaves_for t (holder c)) table.cores

-- each of the counts is at most this number
pub record CountsAtMost (most : ℕ) (survey : Survey) : Type 0 where
  pub held : (t : ℕ) → t < MOST_TASKS → slice_index survey.held t ≤ most
  pub booked : (t : ℕ) → t < MOST_TASKS → slice_index survey.booked t ≤ most
  pub placed : (k : ℕ) → k < MOST_THREADS → slice_index survey.placed k ≤ most
  pub awaited : (t : ℕ) → t < MOST_TASKS → slice_index survey.awaited t ≤ most

-- a core with this holder is among those counted
pub record IsCounted (table : Table) (holder : Holder) (survey : Survey) : Type 0 where
  pub held : (t : ℕ) → t < MOST_TASKS → is_held_for table t holder ≡ true →
      0 < slice_index survey.held t
  pub booked : (t : ℕ) → t < MOST_TASKS → is_booked_for table t holder ≡ true →
      0 < slice_index survey.booked t
  pub placed : (k : ℕ) → k < MOST_THREADS → is_with k holder ≡ true →
      0 < slice_index survey.placed k
  pub awaited : (t : ℕ) → t < MOST_TASKS → leaves_for t holder ≡ true →
      0 < slice_index survey.awaited t

-- the one counts a core with this holder beside those that the other counts
pub record CountsOneMore (table : Table) (holder : Holder) (less more : Survey) : Type 0 where
  pub held : (t : ℕ) → t < MOST_TASKS →
      slice_index more.held t ≡ slice_index less.held t + (if is_held_for table t holder then 1
      else 0)
  pub booked : (t : ℕ) → t < MOST_TASKS →
      slice_index more.booked t
      ≡ slice_index less.booked t + (if is_booked_for table t holder then 1 else 0)
  pub placed : (k : ℕ) → k < MOST_THREADS →
      slice_index more.placed k ≡ slice_index less.placed k + (if is_with k holder then 1 else 0)
  pub awaited : (t : ℕ) → t < MOST_TASKS →
      slice_index more.awaited t ≡ slice_index less.awaited t + (if leaves_for t holder then 1
      else 0)
