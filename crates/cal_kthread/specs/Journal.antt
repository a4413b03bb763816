-- Journals: what a kernel thread did, and what follows from it for its core, its ring and its page.
pub mod Entries
use Rattle.std.specs.Prelude.{◌≡◌, ℕ, ◌+◌, Option, Some, None, IsSome, List, [], ◌∷◌, ◌++◌, length}
use Rattle.std.specs.List.{filter_map}
use Rattle.cal_machine.specs.declared.command.Command.{Command}
use Rattle.cal_machine.specs.declared.command.Command.TheVariants.{Run, Park}
use Rattle.cal_machine.specs.declared.request.Request.{Request}
use Rattle.cal_signal.specs.declared.record.Record.{Record}
use Rattle.cal_signal.specs.Pages.{IsPage, page_of}
use Rattle.cal_signal.specs.Records.{running_word}
use Rattle.cal_kthread.specs.declared.journal.entry.Entry.{Entry}
use Rattle.cal_kthread.specs.declared.journal.entry.Entry.TheVariants.{Arrived, Took, Served}
use Rattle.cal_kthread.specs.declared.journal.entry.Entry.TheVariants.{Yielded, Published}

-- how many commands a thread has taken, and its core, if it has one
pub record State : Type 0 where
  pub taken : ℕ
  pub core : Option ℕ

abbrev pub first_state : State
first_state = record { taken = 0; core = None }

-- the core of a thread that took this command: a Run puts it on one, a Park takes it off
abbrev pub core_after : Command → Option ℕ
core_after (Run core) = Some core
core_after Park = None

-- what one entry makes of the state: a Took is one more command taken, and a Yielded takes the
-- thread off its core. Other entries change nothing
abbrev pub changed_by : Entry → State → State
changed_by (Took number command) s = record { taken = s.taken + 1; core = core_after command }
changed_by Yielded s = record s { core = None }
changed_by _ s = s

abbrev pub state_from : State → List Entry → State
state_from s [] = s
state_from s (entry ∷ entries) = state_from (changed_by entry s) entries

-- the state after these entries
abbrev pub state_after : List Entry → State
state_after = state_from first_state

-- the records that were published, in order
abbrev pub record_in : Entry → Option Record
record_in (Published number rec) = Some rec
record_in _ = None

abbrev pub records_of : List Entry → List Record
records_of = filter_map record_in

-- the commands that were taken, in order
abbrev pub command_in : Entry → Option Command
command_in (Took number command) = Some command
command_in _ = None

abbrev pub commands_of : List Entry → List Command
commands_of = filter_map command_in

-- the requests that arrived, in order
abbrev pub arrival_in : Entry → Option Request
arrival_in (Arrived request) = Some request
arrival_in _ = None

abbrev pub arrivals_of : List Entry → List Request
arrivals_of = filter_map arrival_in

-- the names of the requests that were served, in order
abbrev pub served_in : Entry → Option ℕ
served_in (Served id) = Some id
served_in _ = None

abbrev pub served_of : List Entry → List ℕ
served_of = filter_map served_in

-- An entry may stand after these ones: a Took has the number one above those taken; a Yielded
-- stands only on a core; a Published has the number one above those published, and shows the state.
abbrev pub MayStand : List Entry → Entry → Type 0
MayStand before (Took number command) = number ≡ (state_after before).taken + 1
MayStand before Yielded = IsSome (state_after before).core
MayStand before (Published number rec) = (number ≡ length (records_of before) + 1)
    × (rec.taken ≡ (state_after before).taken)
    × (rec.running ≡ running_word (state_after before).core)
MayStand before _ = Unit {0}

-- each of the entries may stand after those before it
abbrev pub StandAfter : List Entry → List Entry → Type 0
StandAfter before [] = Unit {0}
StandAfter before (entry ∷ entries) =
    MayStand before entry × StandAfter (before ++ entry ∷ []) entries

-- Each entry may stand after those before it, and the zero record and those published are a page.
pub record IsJournal (entries : List Entry) : Type 0 where
  pub each : StandAfter [] entries
  pub page : IsPage (page_of (records_of entries))
