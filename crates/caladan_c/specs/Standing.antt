-- A scheduler, as contracts see it.
use Rattle.std.specs.Prelude.{List}
use Rattle.cal_machine.specs.Table.{Table}
use Rattle.cal_policy.specs.declared.history.action.Action.{Action}
use Rattle.cal_policy.specs.declared.book.Book.{Book}

-- its table, the book of its passes, and the actions of the last one
pub record Standing : Type 0 where
  pub table : Table
  pub book : Book
  pub made : List Action
