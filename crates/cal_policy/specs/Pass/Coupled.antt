-- Up to two actions that are made together.
use Rattle.std.specs.Prelude.{List, ◌++◌, option_to_list}
use Rattle.std.specs.Option.{IfSome}
use Rattle.cal_machine.specs.Table.{Table}
use Rattle.cal_policy.specs.declared.history.action.Action.{Action}
use Rattle.cal_policy.specs.declared.pass.coupled.Coupled.{Coupled}
use Rattle.cal_policy.specs.Board.{NamesTable}

-- the one and the other, those that there are
abbrev pub both_of : Coupled → List Action
both_of coupled = option_to_list coupled.first ++ option_to_list coupled.second

-- both name the table's cores, threads and tasks
pub record BothName (table : Table) (coupled : Coupled) : Type 0 where
  pub first : IfSome coupled.first (NamesTable table)
  pub second : IfSome coupled.second (NamesTable table)
