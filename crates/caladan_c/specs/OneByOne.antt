-- The pass that takes looks one by one, as C sees it.
use Rattle.std.specs.Prelude.{◌≡◌, ℕ, ◌<◌, true, List, map, Option, Some, None, slice_get}
use Rattle.std.specs.Option.{is_some}
use Rattle.cal_machine.specs.Table.{Table}
use Rattle.cal_signal.specs.declared.look.Look.{Look}
use Rattle.cal_signal.specs.declared.look.Look.TheVariants.{Whole, Busy}
use Rattle.cal_policy.specs.declared.judgement.look_fault.LookFault.{LookFault}
use Rattle.cal_policy.specs.declared.judgement.look_fault.LookFault.TheVariants.{NoPair, Misshapen}
use Rattle.cal_policy.specs.declared.judgement.look_fault.LookFault.TheVariants.{PlaceFell, Changed}
use Rattle.cal_policy.specs.declared.judgement.look_fault.LookFault.TheVariants.{WordFell, Ahead}
use Rattle.cal_policy.specs.declared.judgement.look_fault.LookFault.TheVariants.{Foreign}
use Rattle.cal_policy.specs.declared.history.entry.PassEntry.{PassEntry}
use Rattle.cal_policy.specs.declared.history.input.Input.{Input}
use Rattle.cal_policy.specs.History.{looks_of}
use Rattle.cal_policy.specs.History.Looks.{last_shown}
use Rattle.cal_policy.specs.Judgement.OneByOne.{misfit_of, fault_of, taken_input, taken_looks}
use Rattle.cal_policy.specs.Judgement.OpenPass.{IsOpenAt}
use Rattle.cal_policy.specs.declared.judgement.open_pass.OpenPass.{OpenPass}
use Rattle.caladan_c.specs.Found.{look_of_found, found_of}
use Rattle.caladan_c.specs.declared.found.Found.{Found}
use Rattle.caladan_c.specs.declared.handed_in.HandedIn.{HandedIn}

-- the input of the pass, of what was found of each thread: each refused look is taken as busy
abbrev pub input_of_each : Table → List PassEntry → ℕ → ℕ → List Found → Input
input_of_each table history now bandwidth looks =
    taken_input table history now bandwidth (map found_of looks)

-- the same of what C handed in as one value
abbrev pub input_given_each : Table → List PassEntry → HandedIn → Input
input_given_each table history given =
    input_of_each table history given.now given.bandwidth given.looks.now

-- the looks that came in one by one are what is taken of these
abbrev pub IsTakenAt : Table → List PassEntry → List Found → OpenPass → Type 0
IsTakenAt table history looks came =
    IsOpenAt table history (taken_looks table.cores history (map found_of looks)) came

-- why a look was refused, as a number
abbrev pub look_fault_number : LookFault → ℕ
look_fault_number Ahead = 3
look_fault_number Foreign = 4
look_fault_number NoPair = 5
look_fault_number Misshapen = 6
look_fault_number PlaceFell = 7
look_fault_number Changed = 8
look_fault_number WordFell = 9

-- what was judged of a look that was taken as it is, as a number
abbrev pub look_number : Look → ℕ
look_number (Whole number rec) = 1
look_number (Busy first second) = 2

-- what C is told of a look
abbrev pub said_of : Option LookFault → Look → ℕ
said_of None look = look_number look
said_of (Some fault) look = look_fault_number fault

-- of each look C was told whether it was taken as it is, and else why it was refused
abbrev pub AreSaid : ℕ → List PassEntry → List Found → List ℕ → Type 0
AreSaid cores history looks out = (k : ℕ) (one : Found) → slice_get looks k ≡ Some one →
    slice_get out k ≡
    Some (said_of (fault_of cores history k (look_of_found one)) (look_of_found one))

-- the look at thread k does not fit what the thread showed before
abbrev pub is_unfit : List PassEntry → ℕ → Found → Option LookFault
is_unfit history k one = misfit_of (last_shown (looks_of history) k) (look_of_found one)

-- thread k is the first whose look does not fit
pub record IsFirstUnfit (history : List PassEntry) (looks : List Found) (k : ℕ) : Type 0 where
  pub one : Found
  pub there : slice_get looks k ≡ Some one
  pub unfit : is_some (is_unfit history k one) ≡ true
  pub first : (j : ℕ) (other : Found) → j < k → slice_get looks j ≡ Some other →
      is_unfit history j other ≡ None

-- every look fits
abbrev pub AllFit : List PassEntry → List Found → Type 0
AllFit history looks =
    (j : ℕ) (other : Found) → slice_get looks j ≡ Some other → is_unfit history j other ≡ None
