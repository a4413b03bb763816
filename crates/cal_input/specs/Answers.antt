-- What an answer or a fault says of an input.
use Rattle.std.specs.Prelude.{◌≡◌, Result, Ok, Err, IsOk, ⊤}
use Rattle.cal_machine.specs.declared.fault.ConfigFault.{ConfigFault}
use Rattle.cal_machine.specs.declared.fault.ConfigFault.TheVariants as config
use Rattle.cal_trace.specs.Rows.Answers as files
use Rattle.cal_input.specs.declared.fault.RunFault.{RunFault}
use Rattle.cal_input.specs.declared.fault.RunFault.TheVariants as fault

-- P holds, unless the fault is Memory
abbrev pub ConfigDecided : ConfigFault → Type 0 → Type 0
ConfigDecided config.Memory P = ⊤
ConfigDecided _ P = P

-- P holds, unless the fault is Memory, which no input determines; no fault of a reader, a writer or
-- a thread, which no input has
abbrev pub Decided : RunFault → Type 0 → Type 0
Decided fault.Length P = P
Decided fault.Separator P = P
Decided (fault.Config f) P = ConfigDecided f P
Decided (fault.Trace f) P = files.Decided f.kind P
Decided fault.Memory P = ⊤
Decided fault.Read P = ⊥
Decided fault.Write P = ⊥
Decided fault.Spawn P = ⊥
Decided fault.Gate P = ⊥

-- What a fault says of the input: nothing where the reader failed; that there is a run where the
-- writer did, since writing comes last; else that it is the input's first, running out of memory
-- aside.
abbrev pub Failed : {X : Type 0} → RunFault → Result X RunFault → Type 0
Failed fault.Read outcome = ⊤
Failed fault.Write outcome = IsOk outcome
Failed f outcome = Decided f (outcome ≡ Err f)

-- the answer, seen by view, is what the input says
abbrev pub IsWhatInputSays : {X Y : Type 0} → (X → Y) → Result X RunFault → Result Y RunFault →
    Type 0
IsWhatInputSays view (Ok x) outcome = outcome ≡ Ok (view x)
IsWhatInputSays view (Err f) outcome = Decided f (outcome ≡ Err f)
