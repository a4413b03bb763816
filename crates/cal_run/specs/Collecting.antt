-- What is collected of a run.
use Rattle.std.specs.Prelude.{◌≡◌, ℕ, List, [], Some, slice_get}
use Rattle.cal_machine.specs.Table.{Table}
use Rattle.cal_policy.specs.declared.history.entry.PassEntry.{PassEntry}
use Rattle.cal_policy.specs.declared.policy.Policy.{Policy}
use Rattle.cal_run.specs.Parts.{AreFirstPasses}
use Rattle.cal_trace.specs.declared.arrivals.Arrivals.{Arrivals}
use Rattle.cal_kthread.specs.declared.journal.entry.Entry.{Entry}
use Rattle.cal_run.specs.Workers.{journals_of}
use Rattle.cal_run.specs.declared.collector.collected.Collected.{Collected}
use Rattle.cal_run.specs.declared.parts.Parts.{Parts}

-- the threads of these journals did nothing
abbrev pub AreEmpty : List (List Entry) → Type 0
AreEmpty journals = (k : ℕ) (journal : List Entry) → slice_get journals k ≡ Some journal →
    journal ≡ []

-- what was collected is the history of these parts and their journals
pub record IsCollectedOf (parts : Parts) (collected : Collected) : Type 0 where
  pub history : collected.history.items ≡ parts.scheduler.history
  pub journals : collected.journals.items ≡ journals_of parts.workers.items

-- a run by a policy stopped after its first passes, of which this was written
pub record HasStopped (policy : Policy) (table : Table) (arrivals : Arrivals)
    (wrote : List PassEntry → Type 0) : Type 0 where
  pub history : List PassEntry
  pub first : AreFirstPasses policy table arrivals history
  pub written : wrote history
