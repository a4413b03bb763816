-- What a pass of the scheduler finds, decides and sends.
use Rattle.std.specs.Prelude.{◌≡◌, ℕ, ◌≤◌, ◌↔◌, Bool, IsTrue}
use Rattle.std.specs.Prelude.{List, [], ◌∷◌, ◌++◌, length, Some, slice_get}
use Rattle.cal_signal.specs.Ends.{ObserverView}
use Rattle.cal_command.specs.Rings.{SenderView, HasRoom}
use Rattle.cal_machine.specs.Table.{Table}
use Rattle.cal_policy.specs.declared.judgement.open_input.FoundLook.{FoundLook}
use Rattle.cal_policy.specs.declared.history.entry.PassEntry.{PassEntry}
use Rattle.cal_policy.specs.declared.history.input.Input.{Input}
use Rattle.cal_policy.specs.declared.policy.Policy.{Policy}
use Rattle.cal_policy.specs.Judgement.OpenInput.{judged_input}
use Rattle.cal_policy.specs.History.{actions_of, commands_to}
use Rattle.cal_policy.specs.Policies.{pass_by}
use Rattle.cal_policy.specs.Setting.{setting}
use Rattle.cal_sched.specs.Looking.{HasLooked}
use Rattle.cal_sched.specs.Scheduler.{SchedulerView}

-- a ring was asked for room: the answer is whether room is known then, and no room that was known
-- is lost
pub record HasAsked (before after : SenderView) (room : Bool) : Type 0 where
  pub ring : after.ring ≡ before.ring
  pub sent : after.sent ≡ before.sent
  pub kept : before.free ≤ after.free
  pub known : IsTrue room ↔ HasRoom after

-- one look at each page and one question to each ring, in thread order: what each end was, what it
-- is then, and what was found
pub record HaveFound (observers looked : List ObserverView) (senders asked : List SenderView)
    (found : List FoundLook) : Type 0 where
  pub pages : length looked ≡ length observers
  pub rings : length asked ≡ length senders
  pub one_each : length found ≡ length observers
  pub looks : (k : ℕ) (was is : ObserverView) (one : FoundLook) → slice_get observers k ≡ Some was
      → slice_get looked k ≡ Some is → slice_get found k ≡ Some one → HasLooked was is one.look
  pub rooms : (k : ℕ) (was is : SenderView) (one : FoundLook) → slice_get senders k ≡ Some was
      → slice_get asked k ≡ Some is → slice_get found k ≡ Some one → HasAsked was is one.room

-- on each ring the commands of these passes were sent by now, and each is the ring that it was
pub record HaveSent (before after : List SenderView) (history : List PassEntry) : Type 0 where
  pub rings : length after ≡ length before
  pub same : (k : ℕ) (was is : SenderView) → slice_get before k ≡ Some was →
      slice_get after k ≡ Some is → is.ring ≡ was.ring
  pub sent : (k : ℕ) (is : SenderView) → slice_get after k ≡ Some is →
      is.sent ≡ commands_to (actions_of history) k

-- the policy's pass on this input after these passes
abbrev pub pass_on : Policy → Table → List PassEntry → Input → PassEntry
pass_on policy table before input = record {
  input = input;
  actions = pass_by policy (setting table before input);
}

-- One pass more.
pub record IsPassed (now bandwidth : ℕ) (before after : SchedulerView) : Type 0 where
  -- what was found of each thread, and the rings after they were asked
  pub found : List FoundLook
  pub asked : List SenderView
  -- one look at each page and one question to each ring, in thread order
  pub finds : HaveFound before.observers after.observers before.senders asked found
  -- the looks as they are judged, the answers and the figures that were given make the input of
  -- the pass, and its policy the actions
  pub history : after.history ≡ before.history
      ++ pass_on before.policy before.table before.history
      (judged_input before.table before.history now bandwidth found) ∷ []
  -- what was sent on each ring by then are its commands
  pub sends : HaveSent asked after.senders after.history
  pub table : after.table ≡ before.table
  pub policy : after.policy ≡ before.policy
