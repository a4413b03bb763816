-- The passes of a history, as far as they were replayed.
use Rattle.std.specs.Prelude.{◌≡◌, ◌++◌, ◌∷◌, [], ℕ, Bool, false, true, List, length, map, Some}
use Rattle.std.specs.Prelude.{slice_get, slice_index_or}
use Rattle.cal_command.specs.Rings.{HasRoom, SenderView}
use Rattle.cal_guard.specs.Guarded.{board_in}
use Rattle.cal_guard.specs.Permitted.{IsPermittedHistory}
use Rattle.cal_machine.specs.Table.{Table}
use Rattle.cal_machine.specs.TableTasks.{threads_of_table}
use Rattle.cal_policy.specs.History.Found.{looks_at}
use Rattle.cal_policy.specs.History.Looks.{look_of}
use Rattle.cal_policy.specs.History.{actions_of, commands_to}
use Rattle.cal_policy.specs.Board.{NamesTable}
use Rattle.cal_policy.specs.State.{Agrees, IsReady, IsStateAfter}
use Rattle.cal_policy.specs.declared.history.action.Action.{Action}
use Rattle.cal_policy.specs.declared.history.entry.PassEntry.{PassEntry}
use Rattle.cal_policy.specs.declared.history.input.Input.{Input}
use Rattle.cal_policy.specs.declared.board.Board.{Board}
use Rattle.cal_policy.specs.declared.history.look.Seen.{Seen}
use Rattle.cal_sched.specs.Looking.{HasLooked}
use Rattle.cal_sched.specs.Passing.{HasAsked}
use Rattle.cal_signal.specs.Ends.{ObserverView}
use Rattle.cal_replay.specs.Unlike.{is_whole}
use Rattle.cal_replay.specs.declared.replayer.Replayer.{Replayer}

-- the look told of a thread is what its page gave, and whole
abbrev pub IsLookGiven : Seen → ObserverView → ObserverView → Type 0
IsLookGiven told was is = HasLooked was is (look_of told) × (is_whole told ≡ true)

-- one look at each page and one question to each ring: what each end was, what it is then, and that
-- the input has what each gave
pub record AreGiven (input : Input) (observers looked : List ObserverView)
    (senders asked : List SenderView) : Type 0 where
  pub pages : length looked ≡ length observers
  pub rings : length asked ≡ length senders
  pub looks : (k : ℕ) (was is : ObserverView) (told : Seen) → slice_get observers k ≡ Some was →
      slice_get looked k ≡ Some is → slice_get input.seen k ≡ Some told → IsLookGiven told was is
  pub rooms : (k : ℕ) (was is : SenderView) (told : Bool) → slice_get senders k ≡ Some was →
      slice_get asked k ≡ Some is → slice_get input.rooms k ≡ Some told → HasAsked was is told

-- each look of these passes is whole
abbrev pub AreWhole : List PassEntry → Type 0
AreWhole history = (p k : ℕ) (entry : PassEntry) (told : Seen) →
    slice_get history p ≡ Some entry → slice_get entry.input.seen k ≡ Some told →
    is_whole told ≡ true

-- on each ring the commands of these actions were sent
abbrev pub HaveSentSo : List Action → List SenderView → Type 0
HaveSentSo x senders = (k : ℕ) (sender : SenderView) → slice_get senders k ≡ Some sender →
    sender.sent ≡ commands_to x k

-- what each observer found is, in order, what these passes found of its thread
abbrev pub HaveFoundSo : List PassEntry → List ObserverView → Type 0
HaveFoundSo history observers = (k : ℕ) (observer : ObserverView) →
    slice_get observers k ≡ Some observer → observer.looks ≡ looks_at history k

-- these passes were replayed
pub record HasReplayed (table : Table) (history : List PassEntry) (r : Replayer) : Type 0 where
  -- each action is permitted, and each look is whole
  pub permitted : IsPermittedHistory table history
  pub whole : AreWhole history
  -- the guard keeps the state after them
  pub keeps : IsStateAfter (board_in r.guard) history
  pub ready : IsReady table (board_in r.guard)
  -- and the other board that after their actions
  pub sent_ready : IsReady table r.sent.value
  pub sent_agrees : Agrees r.sent.value (actions_of history)
  -- there is a page and a ring of each thread; each look was found on its page, and each command
  -- sent on its ring
  pub pages : length r.observers.items ≡ threads_of_table table
  pub rings : length r.senders.items ≡ threads_of_table table
  pub looks : HaveFoundSo history r.observers.items
  pub sent : HaveSentSo (actions_of history) r.senders.items

-- it is at the same pages and rings
pub record IsOneEnd (before after : Replayer) : Type 0 where
  pub pages : map (λ (o : ObserverView). o.page) after.observers.items
      ≡ map (λ (o : ObserverView). o.page) before.observers.items
  pub rings : map (λ (s : SenderView). s.ring) after.senders.items
      ≡ map (λ (s : SenderView). s.ring) before.senders.items

-- the commands of this pass may be sent after those of these passes
pub record MaySendSo (table : Table) (before : List PassEntry) (entry : PassEntry) (board : Board)
    (senders : List SenderView) : Type 0 where
  -- each action is permitted, and names what the table has
  pub permitted : IsPermittedHistory table (before ++ entry ∷ [])
  pub names : (i : ℕ) (action : Action) → slice_get entry.actions i ≡ Some action →
      NamesTable table action
  -- the board is the state after the actions before
  pub ready : IsReady table board
  pub agrees : Agrees board (actions_of before)
  -- there is a ring of each thread, which has the commands of the passes before
  pub rings : length senders ≡ threads_of_table table
  pub sent : HaveSentSo (actions_of before) senders
  -- room is known on each ring where the pass was told of room
  pub room : (k : ℕ) (sender : SenderView) → slice_get senders k ≡ Some sender →
      slice_index_or entry.input.rooms k false ≡ true → HasRoom sender
