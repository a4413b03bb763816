-- What holds of passes that take looks one by one.
use Rattle.std.specs.Prelude.{◌≡◌, ℕ, ◌↔◌, true, List, [], ◌∷◌, ◌++◌, length, Some, None}
use Rattle.std.specs.Prelude.{slice_get}
use Rattle.std.specs.Option.{is_some}
use Rattle.cal_machine.specs.Table.{Table}
use Rattle.cal_signal.specs.declared.look.Look.{Look}
use Rattle.cal_signal.specs.declared.shown.Shown.{Shown}
use Rattle.cal_policy.specs.declared.history.action.Action.{Action}
use Rattle.cal_policy.specs.declared.history.entry.PassEntry.{PassEntry}
use Rattle.cal_policy.specs.declared.judgement.open_input.FoundLook.{FoundLook}
use Rattle.cal_machine.specs.TableTasks.{threads_of_table}
use Rattle.cal_policy.specs.History.{actions_of, looks_of}
use Rattle.cal_policy.specs.History.Looks.{kept_by, last_shown}
use Rattle.cal_policy.specs.Judgement.Judging.{judged, IsFitLook, IsInput}
use Rattle.cal_policy.specs.Judgement.OpenInput.{rooms_found}
use Rattle.cal_policy.specs.Judgement.OneByOne.{misfit_of, fault_of, fault_judged, taken_input}

-- a misfit is exactly what does not fit
abbrev pub MisfitsDoNotFit : Type 0
MisfitsDoNotFit = (last : Shown) (cores : ℕ) (x : List Action) (k : ℕ) (look : Look) →
    (misfit_of last look ≡ None) ↔ IsFitLook last (judged cores x k look)

-- a look is taken as it is exactly where it fits and is judged neither ahead nor foreign
abbrev pub OnlyFaultsAreRefused : Type 0
OnlyFaultsAreRefused = (cores : ℕ) (history : List PassEntry) (k : ℕ) (look : Look) →
    (fault_of cores history k look ≡ None)
    ↔ (IsFitLook (last_shown (looks_of history) k) (judged cores (actions_of history) k look)
    × (fault_judged (judged cores (actions_of history) k look) ≡ None))

-- with one look for each thread, whatever it shows, the pass may be given what is taken of them
abbrev pub TakenInputFits : Type 0
TakenInputFits = (table : Table) (history : List PassEntry) (now bandwidth : ℕ)
    (looks : List FoundLook) → length looks ≡ threads_of_table table →
    IsInput table history (taken_input table history now bandwidth looks)

-- a look that is not refused counts as it was given, whatever the others show, and so does the room
-- of every ring
abbrev pub OthersCountAsGiven : Type 0
OthersCountAsGiven = (table : Table) (history : List PassEntry) (now bandwidth : ℕ)
    (looks : List FoundLook) (k : ℕ) (one : FoundLook) → slice_get looks k ≡ Some one →
    fault_of table.cores history k one.look ≡ None →
    slice_get (taken_input table history now bandwidth looks).seen k
    ≡ Some (judged table.cores (actions_of history) k one.look)

abbrev pub RoomsCountAsGiven : Type 0
RoomsCountAsGiven = (table : Table) (history : List PassEntry) (now bandwidth : ℕ)
    (looks : List FoundLook) →
    (taken_input table history now bandwidth looks).rooms ≡ rooms_found looks

-- a refused look leaves no trace: after the pass, whatever it did, the thread's kept record and
-- what it showed last are as they were
pub record IsUntouched (table : Table) (history : List PassEntry) (entry : PassEntry) (k : ℕ)
    : Type 0 where
  pub kept : kept_by (looks_of (history ++ entry ∷ [])) k ≡ kept_by (looks_of history) k
  pub shown : last_shown (looks_of (history ++ entry ∷ [])) k ≡ last_shown (looks_of history) k

abbrev pub RefusedLeavesNoTrace : Type 0
RefusedLeavesNoTrace = (table : Table) (history : List PassEntry) (now bandwidth : ℕ)
    (looks : List FoundLook) (acts : List Action) (k : ℕ) (one : FoundLook) →
    slice_get looks k ≡ Some one → is_some (fault_of table.cores history k one.look) ≡ true →
    IsUntouched table history (record {
      input = taken_input table history now bandwidth looks;
      actions = acts;
    }) k
