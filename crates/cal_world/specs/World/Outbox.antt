-- What a contract sees of the commands sent to one kernel thread.
use Rattle.std.specs.Prelude.{ℕ, List}
use Rattle.cal_machine.specs.declared.command.Command.{Command}

-- the commands, and for how many more there is room
pub record Outbox : Type 0 where
  pub commands : List Command
  pub room : ℕ
