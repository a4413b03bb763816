-- What C hands in of a kernel thread, and the input that a pass makes of it.
use Rattle.std.specs.Prelude.{ℕ, ◌==◌, not, List, map, if◌then◌else◌}
use Rattle.cal_signal.specs.declared.look.Look.{Look}
use Rattle.cal_signal.specs.declared.look.Look.TheVariants.{Whole, Busy}
use Rattle.cal_machine.specs.Table.{Table}
use Rattle.cal_policy.specs.declared.judgement.open_input.FoundLook.{FoundLook}
use Rattle.cal_policy.specs.declared.history.entry.PassEntry.{PassEntry}
use Rattle.cal_policy.specs.declared.history.input.Input.{Input}
use Rattle.cal_policy.specs.Judgement.OpenInput.{judged_input}
use Rattle.caladan_c.specs.declared.found.Found.{Found}
use Rattle.caladan_c.specs.declared.handed_in.HandedIn.{HandedIn}

-- the look: busy where `busy` is not 0, else of the record
abbrev pub look_of_found : Found → Look
look_of_found found =
    if not (found.busy == 0) then Busy found.number found.second else Whole found.number found.rec

-- the look, and whether there is room
abbrev pub found_of : Found → FoundLook
found_of found = record { look = look_of_found found; room = not (found.room == 0) }

-- the input of a pass after this history, of what was found of each thread
abbrev pub input_of_found : Table → List PassEntry → ℕ → ℕ → List Found → Input
input_of_found table history now bandwidth looks =
    judged_input table history now bandwidth (map found_of looks)

-- the same of what C handed in as one value
abbrev pub input_given : Table → List PassEntry → HandedIn → Input
input_given table history given =
    input_of_found table history given.now given.bandwidth given.looks.now
