-- What a function that reads answers, against what the rows say.
use Rattle.std.specs.Prelude.{◌≡◌, Result, Ok, Err, ⊤}
use Rattle.csv.specs.declared.error.ErrorKind.{ErrorKind}
use Rattle.csv.specs.declared.error.ErrorKind.TheVariants as why
use Rattle.cal_trace.specs.Rows.{IsReading, HasStopped}
use Rattle.cal_trace.specs.declared.fault.FaultKind.{FaultKind}
use Rattle.cal_trace.specs.declared.fault.FaultKind.TheVariants as kind
use Rattle.cal_trace.specs.declared.fault.TraceFault.{TraceFault}
use Rattle.cal_trace.specs.declared.rows.Rows.{Rows}

-- what an error of the reader of rows is: out of memory by its name, else Read
abbrev pub kind_of : ErrorKind → FaultKind
kind_of why.OutOfMemory = kind.Memory
kind_of error = kind.Read

-- `csv` answered an error: a reader that was reading rows has stopped
pub record IsUnreadable : Type 0 where
  pub before : Rows
  pub reading : IsReading before
  pub after : Rows
  pub stopped : HasStopped after

-- P holds, unless the fault is Memory, which no row determines; of a row that is there, it is never
-- Read
abbrev pub ButMemory : FaultKind → Type 0 → Type 0
ButMemory kind.Memory P = ⊤
ButMemory kind.Read P = ⊥
ButMemory kind.Header P = P
ButMemory kind.Fields P = P
ButMemory kind.Number P = P
ButMemory kind.Order P = P
ButMemory kind.Range P = P
ButMemory kind.Backwards P = P
ButMemory kind.Repeated P = P

-- P holds, unless the fault is of memory or of the reader of rows, which no row determines: it is
-- Read only where `csv` answered an error
abbrev pub Decided : FaultKind → Type 0 → Type 0
Decided kind.Memory P = ⊤
Decided kind.Read P = IsUnreadable
Decided kind.Header P = P
Decided kind.Fields P = P
Decided kind.Number P = P
Decided kind.Order P = P
Decided kind.Range P = P
Decided kind.Backwards P = P
Decided kind.Repeated P = P

-- a fault of memory, or of the reader of rows where `csv` answered an error
abbrev pub IsRefused : FaultKind → Type 0
IsRefused k = Decided k ⊥

-- the answer, seen by view, is what the row says: whoever takes a row has it read already
abbrev pub Takes : {X Y : Type 0} → (X → Y) → Result X FaultKind → Result Y FaultKind → Type 0
Takes view (Ok x) outcome = outcome ≡ Ok (view x)
Takes view (Err k) outcome = ButMemory k (outcome ≡ Err k)

-- the answer, seen by view, is what the rows say
abbrev pub IsWhatRowsSay : {X Y : Type 0} → (X → Y) → Result X TraceFault → Result Y TraceFault →
    Type 0
IsWhatRowsSay view (Ok x) outcome = outcome ≡ Ok (view x)
IsWhatRowsSay view (Err fault) outcome = Decided fault.kind (outcome ≡ Err fault)
