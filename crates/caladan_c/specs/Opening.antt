-- What C learns of opening a table.
use Rattle.std.specs.Prelude.{◌≡◌, ℕ, [], Option, Result, Ok, Err}
use Rattle.std.specs.Option.{IsSomeAnd}
use Rattle.cal_machine.specs.Table.{Table}
use Rattle.cal_machine.specs.declared.fault.ConfigFault.{ConfigFault}
use Rattle.cal_machine.specs.declared.fault.ConfigFault.TheVariants.{NotToml, UnknownKey}
use Rattle.cal_machine.specs.declared.fault.ConfigFault.TheVariants.{MissingKey, WrongType}
use Rattle.cal_machine.specs.declared.fault.ConfigFault.TheVariants.{OutOfRange}
use Rattle.cal_machine.specs.declared.fault.ConfigFault.TheVariants.{BestEffortGuarantee}
use Rattle.cal_machine.specs.declared.fault.ConfigFault.TheVariants.{GuaranteesExceedCores}
use Rattle.cal_machine.specs.declared.fault.ConfigFault.TheVariants.{TooManyThreads, Memory}
use Rattle.cal_policy.specs.declared.policy.Policy.{Policy}
use Rattle.cal_policy.specs.Book.{board_in}
use Rattle.cal_policy.specs.Policies.{IsLegalBy}
use Rattle.cal_policy.specs.State.{IsStateAfter}
use Rattle.caladan_c.specs.Standing.{Standing}

-- the number of a table's fault
abbrev pub number_of : ConfigFault → ℕ
number_of NotToml = 1
number_of UnknownKey = 2
number_of MissingKey = 3
number_of WrongType = 4
number_of OutOfRange = 5
number_of BestEffortGuarantee = 6
number_of GuaranteesExceedCores = 7
number_of TooManyThreads = 8
number_of Memory = 9

-- a scheduler of this table by this policy, after no pass
pub record IsNew (asked : Policy) (read : Table) (scheduler : Standing) : Type 0 where
  pub table : scheduler.table ≡ read
  pub policy : scheduler.book.policy ≡ asked
  pub legal : IsLegalBy asked scheduler.table []
  pub after : IsStateAfter (board_in scheduler.book) []

-- the number follows from the text: 0 and a scheduler of its table by this policy, or its first
-- fault's
abbrev pub SaysScheduler : Policy → Result Table ConfigFault → ℕ → Option Standing → Type 0
SaysScheduler policy (Ok table) number kept =
    (number ≡ 0) × IsSomeAnd kept (IsNew policy table)
SaysScheduler policy (Err fault) number kept = number ≡ number_of fault
