-- The board that a book keeps, which histories its clauses speak of, and what an action of its last
-- pass sends.
use Rattle.std.specs.Prelude.{◌≡◌, ℕ, ◌<◌, List, Option}
use Rattle.std.specs.Option.{IfSome}
use Rattle.cal_machine.specs.Table.{Table}
use Rattle.cal_machine.specs.declared.command.Command.{Command}
use Rattle.cal_machine.specs.declared.command.Command.TheVariants.{Run, Park}
use Rattle.cal_policy.specs.declared.board.Board.{Board}
use Rattle.cal_policy.specs.declared.book.Book.{Book}
use Rattle.cal_policy.specs.declared.history.action.Action.{Action}
use Rattle.cal_policy.specs.declared.history.entry.PassEntry.{PassEntry}
use Rattle.cal_policy.specs.declared.history.input.Input.{Input}
use Rattle.cal_policy.specs.declared.judgement.open_input.FoundLook.{FoundLook}
use Rattle.cal_policy.specs.declared.judgement.open_pass.OpenPass.{OpenPass}
use Rattle.cal_machine.specs.TableTasks.{threads_of_table}
use Rattle.cal_policy.specs.History.{sends, addressed_to}
use Rattle.cal_policy.specs.Judgement.Judging.{IsInput}
use Rattle.cal_policy.specs.Judgement.OpenInput.{judged_input}
use Rattle.cal_policy.specs.Judgement.OpenPass.{IsOpenAt}
use Rattle.cal_policy.specs.Pass.{IsLegal}
use Rattle.cal_policy.specs.State.{IsStateAfter}

-- the board that a book keeps. A book is ready for a table where this board is, and it is a book of
-- a history where this board is the state after it
abbrev pub board_in : Book → Board
board_in book = book.board.value

-- it is so after each legal history that leaves the state which the book keeps
abbrev pub AfterLegal : Table → Book → (List PassEntry → Type 0) → Type 0
AfterLegal table book is =
    (h : List PassEntry) → IsLegal table h → IsStateAfter (board_in book) h → is h

-- it is so after each of them whose next pass may be given this input
abbrev pub AfterLegalOn : Table → Book → Input → (List PassEntry → Type 0) → Type 0
AfterLegalOn table book input is =
    AfterLegal table book (λ h. IsInput table h input → is h)

-- the same of a pass on these looks as they came in, at this clock and bandwidth figure: it is so of
-- the history and of the input that is made of the looks
abbrev pub AfterLegalOpen : Table → Book → ℕ → ℕ → OpenPass → (List PassEntry → Input → Type 0) →
    Type 0
AfterLegalOpen table book now bandwidth looks is =
    (h : List PassEntry) (found : List FoundLook) → IsLegal table h →
    IsStateAfter (board_in book) h → IsOpenAt table h found looks →
    is h (judged_input table h now bandwidth found)

-- a Run is of a core of the table
abbrev pub RunsOnTable : Table → Command → Type 0
RunsOnTable table (Run core) = core < table.cores
RunsOnTable table Park = Unit {0}

-- the action, made after the actions x, sends this command to this thread of the table and nothing
-- else, or it sends nothing
pub record IsSentBy (table : Table) (x : List Action) (action : Action)
    (sent : Option (ℕ × Command)) : Type 0 where
  pub exact : (k : ℕ) → addressed_to k sent ≡ sends k x action
  pub thread : IfSome sent (λ s. s.0 < threads_of_table table)
  pub core : IfSome sent (λ s. RunsOnTable table s.1)
