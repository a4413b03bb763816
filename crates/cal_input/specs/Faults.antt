-- What the program says of a fault, and its exit status.
use Rattle.std.specs.Prelude.{ℕ, List, ◌++◌, codes, decimal}
use Rattle.cal_machine.specs.declared.fault.ConfigFault.{ConfigFault}
use Rattle.cal_machine.specs.declared.fault.ConfigFault.TheVariants as config
use Rattle.cal_run.specs.declared.fault.SimFault.{SimFault}
use Rattle.cal_run.specs.declared.fault.SimFault.TheVariants as sim
use Rattle.cal_trace.specs.declared.fault.FaultKind.{FaultKind}
use Rattle.cal_trace.specs.declared.fault.FaultKind.TheVariants as kind
use Rattle.cal_trace.specs.declared.fault.TraceFault.{TraceFault}
use Rattle.cal_input.specs.declared.fault.RunFault.{RunFault}
use Rattle.cal_input.specs.declared.fault.RunFault.TheVariants as fault

-- the number of what is wrong with a task table, in the order of the checks
abbrev pub config_number_of : ConfigFault → ℕ
config_number_of config.NotToml = 1
config_number_of config.UnknownKey = 2
config_number_of config.MissingKey = 3
config_number_of config.WrongType = 4
config_number_of config.OutOfRange = 5
config_number_of config.BestEffortGuarantee = 6
config_number_of config.GuaranteesExceedCores = 7
config_number_of config.TooManyThreads = 8
config_number_of config.Memory = 9

-- the number of what is wrong with the row of a trace
abbrev pub trace_number_of : FaultKind → ℕ
trace_number_of kind.Read = 1
trace_number_of kind.Header = 2
trace_number_of kind.Fields = 3
trace_number_of kind.Number = 4
trace_number_of kind.Order = 5
trace_number_of kind.Range = 6
trace_number_of kind.Backwards = 7
trace_number_of kind.Memory = 8
trace_number_of kind.Repeated = 9

-- a trace's fault; of one that memory was refused to, that alone
abbrev pub folded_trace : FaultKind → TraceFault → RunFault
folded_trace kind.Memory f = fault.Memory
folded_trace k f = fault.Trace f

-- the same fault; of a part that memory was refused to, that alone
abbrev pub folded_of : RunFault → RunFault
folded_of (fault.Config config.Memory) = fault.Memory
folded_of (fault.Trace f) = folded_trace f.kind f
folded_of f = f

-- the reason of a fault that is folded
abbrev pub plain_reason_of : RunFault → List ℕ
plain_reason_of fault.Read = codes "input read"
plain_reason_of fault.Length = codes "input length"
plain_reason_of fault.Separator = codes "no separator"
plain_reason_of (fault.Config f) = codes "config " ++ decimal (config_number_of f)
plain_reason_of (fault.Trace f) =
    codes "trace row " ++ decimal f.row ++ codes " fault " ++ decimal (trace_number_of f.kind)
plain_reason_of fault.Memory = codes "memory"
plain_reason_of fault.Write = codes "write"
plain_reason_of fault.Spawn = codes "spawn"
plain_reason_of fault.Gate = codes "gate"

-- the reason as the program names it
abbrev pub reason_of : RunFault → List ℕ
reason_of f = plain_reason_of (folded_of f)

-- the one line that a program of this name writes on standard error
abbrev pub fault_line_as : List ℕ → RunFault → List ℕ
fault_line_as program f = program ++ codes ": " ++ reason_of f ++ codes "\n"

-- the one line that caladan_sim writes on standard error
abbrev pub fault_line_of : RunFault → List ℕ
fault_line_of f = fault_line_as (codes "caladan_sim") f

-- the exit status after a fault that is folded
abbrev pub plain_status_of : RunFault → ℕ
plain_status_of fault.Read = 2
plain_status_of fault.Length = 2
plain_status_of fault.Separator = 2
plain_status_of (fault.Config f) = 2
plain_status_of (fault.Trace f) = 2
plain_status_of fault.Memory = 3
plain_status_of fault.Write = 3
plain_status_of fault.Spawn = 3
plain_status_of fault.Gate = 3

-- the exit status after a fault: 2 where the input was refused, and else 3
abbrev pub status_of : RunFault → ℕ
status_of f = plain_status_of (folded_of f)

-- a run came to no outcome
abbrev pub fault_of_run : SimFault → RunFault
fault_of_run sim.Memory = fault.Memory
fault_of_run sim.Spawn = fault.Spawn
fault_of_run sim.Gate = fault.Gate
