-- When the commands of a pass may be sent.
use Rattle.std.specs.Prelude.{◌≡◌, ℕ, true, List, [], ◌∷◌, ◌++◌, length}
use Rattle.std.specs.Prelude.{Some, slice_get, slice_index_or, false}
use Rattle.cal_command.specs.Rings.{SenderView, HasRoom}
use Rattle.cal_machine.specs.Table.{Table}
use Rattle.cal_policy.specs.declared.book.Book.{Book}
use Rattle.cal_policy.specs.declared.history.entry.PassEntry.{PassEntry}
use Rattle.cal_policy.specs.Book.{board_in}
use Rattle.cal_policy.specs.State.{IsStateAfter}
use Rattle.cal_policy.specs.History.{actions_of, commands_to}
use Rattle.cal_policy.specs.Policies.{IsLegalBy}
use Rattle.cal_machine.specs.TableTasks.{threads_of_table}

-- The commands of the last pass may be sent.
pub record MaySend (table : Table) (book : Book) (history : List PassEntry)
    (senders : List SenderView) : Type 0 where
  -- the passes before it
  pub before : List PassEntry
  pub last : PassEntry
  pub whole : history ≡ before ++ last ∷ []
  -- the history is one of the book's policy
  pub legal : IsLegalBy book.policy table history
  -- the book keeps the state after it
  pub agrees : IsStateAfter (board_in book) history
  -- there is a ring for each thread
  pub rings : length senders ≡ threads_of_table table
  -- which has the commands of the passes before, and none of this one
  pub sent : (k : ℕ) (sender : SenderView) → slice_get senders k ≡ Some sender →
      sender.sent ≡ commands_to (actions_of before) k
  -- room is known on each ring where the pass was told of room
  pub room : (k : ℕ) (sender : SenderView) → slice_get senders k ≡ Some sender →
      slice_index_or last.input.rooms k false ≡ true → HasRoom sender
