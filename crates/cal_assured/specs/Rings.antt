-- A thread that takes its commands in time never has a full ring.
use Rattle.std.specs.Prelude.{ℕ, ◌+◌, ◌-◌, ◌<◌, ◌≤◌, List, length, take}
use Rattle.cal_machine.specs.Table.{Table, IsTable}
use Rattle.cal_policy.specs.declared.history.entry.PassEntry.{PassEntry}
use Rattle.cal_policy.specs.History.{actions_of, sent_to}
use Rattle.cal_policy.specs.Assured.Pass.{IsLegal}

-- thread k has taken so many commands where pass q begins, and takes within three passes
pub record TakesInTime (table : Table) (history : List PassEntry) (k q taken : ℕ) : Type 0 where
  -- the table is an accepted one
  pub accepted : IsTable table
  -- each pass of the history is one of this policy
  pub legal : IsLegal table history
  -- the history comes to the pass
  pub comes : q ≤ length history
  -- all that was sent before the last three passes is taken
  pub taken_so_far : sent_to (actions_of (take (q - 3) history)) k ≤ taken

-- fewer than four commands lie in its ring, which has four places
abbrev pub RingsHaveRoom : Type 0
RingsHaveRoom = (table : Table) (history : List PassEntry) (k q taken : ℕ) →
    TakesInTime table history k q taken →
    sent_to (actions_of (take q history)) k < taken + 4
