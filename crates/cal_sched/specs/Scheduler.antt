-- What a contract sees of a scheduler, and what it keeps from pass to pass.
use Rattle.std.specs.Prelude.{◌≡◌, ℕ, ◌≤◌, List, [], length, Some, slice_get}
use Rattle.cal_signal.specs.Ends.{ObserverView}
use Rattle.cal_command.specs.Rings.{SenderView}
use Rattle.cal_machine.specs.Table.{Table}
use Rattle.cal_policy.specs.declared.history.entry.PassEntry.{PassEntry}
use Rattle.cal_policy.specs.declared.policy.Policy.{Policy}
use Rattle.cal_policy.specs.History.{actions_of, commands_to}
use Rattle.cal_policy.specs.History.Found.{looks_at}
use Rattle.cal_policy.specs.Policies.{IsLegalBy}
use Rattle.cal_machine.specs.TableTasks.{threads_of_table}
use Rattle.cal_policy.specs.declared.history.entry.TheConstants.{MOST_PASSES}

-- its table, the policy that decides its passes, its passes so far, and its end of each thread's
-- page and of each thread's ring, in thread order
pub record SchedulerView : Type 0 where
  pub table : Table
  pub policy : Policy
  pub history : List PassEntry
  pub observers : List ObserverView
  pub senders : List SenderView

-- none has found a record yet
abbrev pub HaveSeenNothing : List ObserverView → Type 0
HaveSeenNothing observers = (k : ℕ) (observer : ObserverView) →
    slice_get observers k ≡ Some observer → observer.looks ≡ []

-- none has sent a command yet
abbrev pub HaveSentNothing : List SenderView → Type 0
HaveSentNothing senders = (k : ℕ) (sender : SenderView) → slice_get senders k ≡ Some sender →
    sender.sent ≡ []

-- What a scheduler keeps from pass to pass.
pub record IsKept (s : SchedulerView) : Type 0 where
  -- its history is one of its policy
  pub legal : IsLegalBy s.policy s.table s.history
  -- and no longer than a history may be
  pub few : length s.history ≤ MOST_PASSES
  -- it has a page of each thread
  pub pages : length s.observers ≡ threads_of_table s.table
  -- and a ring
  pub rings : length s.senders ≡ threads_of_table s.table
  -- what its passes found of a thread is, in order, what the thread's observer found
  pub looks : (k : ℕ) (observer : ObserverView) → slice_get s.observers k ≡ Some observer →
      observer.looks ≡ looks_at s.history k
  -- what was sent on a thread's ring are its commands
  pub sent : (k : ℕ) (sender : SenderView) → slice_get s.senders k ≡ Some sender →
      sender.sent ≡ commands_to (actions_of s.history) k
