-- What C is told of a pass: its actions, and what was judged of its looks.
use Rattle.std.specs.Prelude.{◌≡◌, ℕ, List, length, Some, slice_get, if◌then◌else◌}
use Rattle.cal_machine.specs.ThreadSet.{has_thread}
use Rattle.cal_policy.specs.declared.judgement.open_pass.OpenPass.{OpenPass}
use Rattle.cal_policy.specs.Judgement.OpenPass.{noted_in}
use Rattle.cal_policy.specs.declared.history.look.Seen.{Seen}
use Rattle.cal_policy.specs.declared.history.look.Seen.TheVariants.{Whole, Busy, Ahead, Foreign}
use Rattle.cal_policy.specs.declared.history.action.Action.{Action}
use Rattle.cal_policy.specs.declared.history.action.Action.TheVariants.{Free, Unban, Ban, Revoke}
use Rattle.cal_policy.specs.declared.history.action.Action.TheVariants.{Cap, Grant}
use Rattle.cal_policy.specs.declared.history.action.Cause.TheVariants as causes
use Rattle.cal_policy.specs.declared.history.action.Cause.{Cause}
use Rattle.cal_policy.specs.declared.board.holders.Holder.{Holder}
use Rattle.cal_policy.specs.declared.board.holders.Holder.TheVariants as holders
use Rattle.cal_policy.specs.Board.Counts.{held_by, booked_by, cap_of}
use Rattle.cal_machine.specs.Table.{Table}
use Rattle.caladan_c.specs.declared.told.counts.Counts.{Counts}
use Rattle.caladan_c.specs.declared.told.holder.ToldHolder.{ToldHolder}
use Rattle.caladan_c.specs.declared.told.Told.{Told}

-- an action of this kind, of nothing yet
abbrev pub of_kind : ℕ → Told
of_kind kind = record {
  kind = kind;
  core = 0;
  thread = 0;
  class = 0;
  cause = 0;
  by = 0;
  task = 0;
  cap = 0;
  started = 0;
}

-- the action in numbers; what its kind does not name is 0
abbrev pub told_of : Action → Told
told_of (Free core) = record (of_kind 1) { core = core }
told_of (Unban core) = record (of_kind 2) { core = core }
told_of (Ban core thread started) =
    record (of_kind 3) { core = core; thread = thread; started = started }
told_of (Revoke core (causes.Ban by)) = record (of_kind 4) { core = core; cause = 1; by = by }
told_of (Revoke core causes.Bandwidth) = record (of_kind 4) { core = core; cause = 2 }
told_of (Revoke core (causes.Preempt task)) =
    record (of_kind 4) { core = core; cause = 3; task = task }
told_of (Cap task cap) = record (of_kind 5) { task = task; cap = cap }
told_of (Grant core thread class) =
    record (of_kind 6) { core = core; thread = thread; class = class }

-- what was judged of a look, as a number
abbrev pub judgement_of : Seen → ℕ
judgement_of (Whole number rec) = 1
judgement_of (Busy first second) = 2
judgement_of (Ahead number rec) = 3
judgement_of (Foreign number rec) = 4

-- what was judged of the look at thread k, as a number: of one that is not noted that it was kept
abbrev pub judgement_at : OpenPass → ℕ → ℕ
judgement_at came k = if has_thread came.listed k then judgement_of (noted_in came k) else 1

-- of each look C was told what was judged of it
abbrev pub AreJudgements : List Seen → List ℕ → Type 0
AreJudgements looks out = (k : ℕ) (seen : Seen) → slice_get looks k ≡ Some seen →
    slice_get out k ≡ Some (judgement_of seen)

-- C was told exactly these actions, in order
pub record AreTold (actions : List Action) (made : ℕ) (out : List Told) : Type 0 where
  pub count : made ≡ length actions
  pub each : (k : ℕ) (action : Action) → slice_get actions k ≡ Some action →
      slice_get out k ≡ Some (told_of action)

-- a cause as two numbers: its kind, and what it names
abbrev pub cause_of : Cause → ℕ × ℕ
cause_of (causes.Ban by) = (1, by)
cause_of causes.Bandwidth = (2, 0)
cause_of (causes.Preempt task) = (3, task)

-- who has a core, in numbers
abbrev pub told_holder_of : Holder → ToldHolder
told_holder_of holders.Free = record { state = 0; thread = 0; cause = 0; cause_of = 0 }
told_holder_of (holders.Held placement) =
    record { state = 1; thread = placement.thread; cause = 0; cause_of = 0 }
told_holder_of (holders.Leaving placement cause) = record {
  state = 2;
  thread = placement.thread;
  cause = (cause_of cause).0;
  cause_of = (cause_of cause).1;
}

-- what a task has after these actions
abbrev pub counts_of : Table → List Action → ℕ → Counts
counts_of table x task = record {
  held = held_by table x task;
  booked = booked_by table x task;
  cap = cap_of table x task;
}
