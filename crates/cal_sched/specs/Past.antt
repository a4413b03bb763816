-- The history of a scheduler, from what each of its passes was made of.
use Rattle.std.specs.Prelude.{◌≡◌, List, [], ◌∷◌, ◌++◌}
use Rattle.cal_machine.specs.Table.{Table}
use Rattle.cal_machine.specs.TableTasks.{threads_of_table}
use Rattle.cal_policy.specs.declared.history.entry.PassEntry.{PassEntry}
use Rattle.cal_policy.specs.declared.judgement.open_pass.OpenPass.{OpenPass}
use Rattle.cal_policy.specs.declared.policy.Policy.{Policy}
use Rattle.cal_policy.specs.Judgement.OpenInput.{judged_input}
use Rattle.cal_policy.specs.Judgement.OpenPass.{IsOpenAt}
use Rattle.cal_sched.specs.declared.found_pass.FoundPass.{FoundPass}
use Rattle.cal_sched.specs.Passing.{pass_on}

-- the policy's pass on what was found, at this clock and bandwidth figure, after these passes
abbrev pub entry_of : Policy → Table → List PassEntry → FoundPass → PassEntry
entry_of policy table before made = pass_on policy table before
    (judged_input table before made.clock made.bandwidth made.found)

-- these passes and then those that were made of this, one after the other
abbrev pub history_after : Policy → Table → List PassEntry → List FoundPass → List PassEntry
history_after policy table before [] = before
history_after policy table before (made ∷ more) =
    history_after policy table (before ++ entry_of policy table before made ∷ []) more

-- the passes that were made of this, the first one first
abbrev pub history_of : Policy → Table → List FoundPass → List PassEntry
history_of policy table all = history_after policy table [] all

-- these looks, one of each thread, are those of the last of the passes that were made of this, if
-- any was
abbrev pub AreLast : Policy → Table → List FoundPass → OpenPass → Type 0
AreLast policy table all looks = (before : List FoundPass) (made : FoundPass) →
    all ≡ before ++ made ∷ [] → IsOpenAt table (history_of policy table before) made.found looks
    × (looks.count ≡ threads_of_table table)
