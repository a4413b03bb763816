-- What a fault says of a part of an input, it says of the input.
use Rattle.std.proofs.Common.{◌≡◌, List, Result, Err, ap}
use Rattle.cal_machine.specs.Table.{Table}
use Rattle.cal_machine.specs.declared.fault.ConfigFault.{ConfigFault}
use Rattle.cal_machine.specs.declared.fault.ConfigFault.TheVariants as config
use Rattle.cal_policy.specs.declared.history.entry.PassEntry.{PassEntry}
use Rattle.cal_trace.specs.Rows.Answers as files
use Rattle.cal_trace.specs.declared.fault.TraceFault.{TraceFault}
use Rattle.cal_trace.proofs.RowLemmas.Refusals.{decided}
use Rattle.cal_input.specs.Answers.{ConfigDecided, Decided}
use Rattle.cal_input.specs.Recorded.{recorded_on}
use Rattle.cal_input.specs.declared.fault.RunFault.{RunFault}
use Rattle.cal_input.specs.declared.fault.RunFault.TheVariants as fault

-- what a fault says of one thing, it says of what follows from that
config_decided : (f : ConfigFault) (P Q : Type 0) → (P → Q) → ConfigDecided f P → ConfigDecided f Q
config_decided config.Memory P Q by h = tt
config_decided config.NotToml P Q by h = by h
config_decided config.UnknownKey P Q by h = by h
config_decided config.MissingKey P Q by h = by h
config_decided config.WrongType P Q by h = by h
config_decided config.OutOfRange P Q by h = by h
config_decided config.BestEffortGuarantee P Q by h = by h
config_decided config.GuaranteesExceedCores P Q by h = by h
config_decided config.TooManyThreads P Q by h = by h

pub run_decided : (f : RunFault) (P Q : Type 0) → (P → Q) → Decided f P → Decided f Q
run_decided fault.Length P Q by h = by h
run_decided fault.Separator P Q by h = by h
run_decided (fault.Config f) P Q by h = config_decided f P Q by h
run_decided (fault.Trace f) P Q by h = decided f.kind P Q by h
run_decided fault.Memory P Q by h = tt
run_decided fault.Read P Q by h = absurd h
run_decided fault.Write P Q by h = absurd h
run_decided fault.Spawn P Q by h = absurd h
run_decided fault.Gate P Q by h = absurd h

-- a history that is refused
pub refused_history : (table : Table) (history : Result (List PassEntry) TraceFault) (f : TraceFault) → files.Decided f.kind (history ≡ Err f)
    → files.Decided f.kind (recorded_on table history ≡ Err (fault.Trace f))
refused_history table history f h = decided f.kind (history ≡ Err f) (recorded_on table history ≡ Err (fault.Trace f)) (λ e. ap (recorded_on table) e) h
