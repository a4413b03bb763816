-- What may be sent on a ring.
use Rattle.std.specs.Prelude.{◌<◌}
use Rattle.cal_machine.specs.declared.command.Command.{Command}
use Rattle.cal_machine.specs.declared.command.Command.TheVariants.{Run, Park}
use Rattle.cal_machine.specs.declared.machine.TheConstants.{MOST_CORES}

-- the core of a Run is below the greatest number of cores that a machine has
abbrev pub IsSendable : Command → Type 0
IsSendable (Run core) = core < MOST_CORES
IsSendable Park = Unit {0}
