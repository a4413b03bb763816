-- A guard, as contracts see it, and what C learns of opening one and of handing it a pass.
use Rattle.std.specs.Prelude.{◌≡◌, ℕ, [], List, map, Option, Result, Ok, Err}
use Rattle.std.specs.Option.{IsSomeAnd}
use Rattle.cal_machine.specs.Table.{Table}
use Rattle.cal_machine.specs.declared.fault.ConfigFault.{ConfigFault}
use Rattle.cal_policy.specs.declared.history.action.Action.{Action}
use Rattle.cal_policy.specs.declared.history.entry.PassEntry.{PassEntry}
use Rattle.cal_policy.specs.declared.history.input.Input.{Input}
use Rattle.cal_policy.specs.Judgement.Judging.{IsInput}
use Rattle.cal_policy.specs.Setting.{setting}
use Rattle.cal_guard.specs.declared.guard.Guard.{Guard}
use Rattle.cal_guard.specs.declared.refusal.Why.{Why}
use Rattle.cal_guard.specs.declared.refusal.Why.TheVariants.{TooMany, DoesNotFit, NotLeft, Banned}
use Rattle.cal_guard.specs.declared.refusal.Why.TheVariants.{AtLimit, AtCap, AtGuarantee, NoRoom}
use Rattle.cal_guard.specs.declared.refusal.Why.TheVariants.{SecondCommand, BannedHeld, OverCap}
use Rattle.cal_guard.specs.declared.refusal.Refused.{Refused}
use Rattle.cal_guard.specs.Guarded.{board_in, and_then}
use Rattle.cal_policy.specs.State.{IsStateAfter}
use Rattle.cal_guard.specs.Permitted.{ArePermitted, IsPermittedHistory}
use Rattle.cal_guard.specs.Refusals.{IsFirstWrong}
use Rattle.caladan_c.specs.Opening.{number_of}
use Rattle.caladan_c.specs.Told.{told_of}
use Rattle.caladan_c.specs.declared.told.Told.{Told}
use Rattle.caladan_c.specs.declared.told.refused.ToldRefused.{ToldRefused}

-- its table, and the guard of the passes so far
pub record GuardView : Type 0 where
  pub table : Table
  pub guard : Guard

-- a guard of this table, after no pass
pub record IsNewGuard (read : Table) (opened : GuardView) : Type 0 where
  pub table : opened.table ≡ read
  pub permitted : IsPermittedHistory opened.table []
  pub after : IsStateAfter (board_in opened.guard) []

-- the number follows from the text: 0 and a guard of its table, or its first fault's
abbrev pub SaysGuard : Result Table ConfigFault → ℕ → Option GuardView → Type 0
SaysGuard (Ok table) number kept = (number ≡ 0) × IsSomeAnd kept (IsNewGuard table)
SaysGuard (Err fault) number kept = number ≡ number_of fault

-- the pass went through
pub record WentThrough (old : GuardView) (history : List PassEntry) (given : Input) (told : List Told)
    (new : GuardView) : Type 0 where
  -- its actions are the ones that C told
  pub chosen : List Action
  pub actions : map told_of chosen ≡ told
  -- it may be given its input
  pub input : IsInput old.table history given
  -- each action is permitted at its place
  pub permitted : ArePermitted (setting old.table history given) chosen
  -- the table stays
  pub table : new.table ≡ old.table
  -- with the pass the history is permitted
  pub goes_on : IsPermittedHistory new.table (and_then history given chosen)
  -- and the guard keeps the state after it
  pub after : IsStateAfter (board_in new.guard) (and_then history given chosen)

-- the pass was stopped: of the actions that C told this is the first that is not permitted, and why
pub record WasStopped (old : GuardView) (history : List PassEntry) (given : Input) (told : List Told)
    (refused : Refused) : Type 0 where
  pub chosen : List Action
  pub actions : map told_of chosen ≡ told
  pub input : IsInput old.table history given
  pub first : IsFirstWrong (setting old.table history given) [] chosen refused

-- why an action is not permitted, as a number
abbrev pub why_number : Why → ℕ
why_number TooMany = 1
why_number DoesNotFit = 2
why_number NotLeft = 3
why_number Banned = 4
why_number AtLimit = 5
why_number AtCap = 6
why_number AtGuarantee = 7
why_number NoRoom = 8
why_number SecondCommand = 9
why_number (BannedHeld core) = 10
why_number (OverCap task) = 11

-- the core or task that it names; of the others 0
abbrev pub why_names : Why → ℕ
why_names TooMany = 0
why_names DoesNotFit = 0
why_names NotLeft = 0
why_names Banned = 0
why_names AtLimit = 0
why_names AtCap = 0
why_names AtGuarantee = 0
why_names NoRoom = 0
why_names SecondCommand = 0
why_names (BannedHeld core) = core
why_names (OverCap task) = task

-- the place and the reason, in numbers
abbrev pub told_refused_of : Refused → ToldRefused
told_refused_of refused =
    record { place = refused.place; why = why_number refused.why; names = why_names refused.why }

-- the pass was stopped, and C was told where and why
pub record WasStoppedAt (old : GuardView) (history : List PassEntry) (given : Input) (told : List Told)
    (out : ToldRefused) : Type 0 where
  pub refused : Refused
  pub stopped : WasStopped old history given told refused
  pub said : out ≡ told_refused_of refused
