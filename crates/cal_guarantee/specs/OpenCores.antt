-- Nothing is kept from everybody.
use Rattle.std.specs.Prelude.{◌≡◌, ◌≢◌, ℕ, ◌<◌, true, length, Some}
use Rattle.cal_machine.specs.Table.{IsTable}
use Rattle.cal_policy.specs.Setting.{Setting, so_far}
use Rattle.cal_policy.specs.Assured.Owed.{owed_to}
use Rattle.cal_policy.specs.Assured.Pass.{IsLegal, pass_of}
use Rattle.cal_policy.specs.Assured.Short.{is_open, waits}
use Rattle.cal_guarantee.specs.WholeGuarantee.{granted_to}

-- after a pass this core is open, and task t waits, which the pass granted none
pub record WaitsBesideOpen (s : Setting) (core t : ℕ) : Type 0 where
  pub table : IsTable s.table
  pub legal : IsLegal s.table s.history
  pub low : core < s.table.cores
  pub spare : is_open (so_far s (pass_of s)) core ≡ true
  pub own : t < length s.table.tasks
  pub waiting : waits s (so_far s (pass_of s)) t ≡ true
  pub ungiven : granted_to s.table t (pass_of s) ≡ 0

-- the core is owed to another task, which the pass granted one
pub record IsLeftToAnother (s : Setting) (core t : ℕ) : Type 0 where
  pub task : ℕ
  pub owed : owed_to (so_far s (pass_of s)) core ≡ Some task
  pub other : task ≢ t
  pub given : 0 < granted_to s.table task (pass_of s)

-- so it is with each core that is left open beside a task that waits
abbrev pub NothingIsKeptFromEverybody : Type 0
NothingIsKeptFromEverybody = (s : Setting) (core t : ℕ) → WaitsBesideOpen s core t →
    IsLeftToAnother s core t
