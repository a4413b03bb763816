-- What the rows decide, and what they do not.
use Rattle.cal_trace.proofs.Common.{ButMemory, Decided, IsRefused, FaultKind}
use Rattle.cal_trace.specs.declared.fault.FaultKind.TheVariants as kind

-- a refusal meets any clause
pub refused : (k : FaultKind) (P : Type 0) → IsRefused k → Decided k P
refused kind.Memory P h = tt
refused kind.Read P h = h
refused kind.Header P h = absurd h
refused kind.Fields P h = absurd h
refused kind.Number P h = absurd h
refused kind.Order P h = absurd h
refused kind.Range P h = absurd h
refused kind.Backwards P h = absurd h
refused kind.Repeated P h = absurd h

-- what follows from what the rows decide
pub decided : (k : FaultKind) (P Q : Type 0) → (P → Q) → Decided k P → Decided k Q
decided kind.Memory P Q f h = tt
decided kind.Read P Q f h = h
decided kind.Header P Q f h = f h
decided kind.Fields P Q f h = f h
decided kind.Number P Q f h = f h
decided kind.Order P Q f h = f h
decided kind.Range P Q f h = f h
decided kind.Backwards P Q f h = f h
decided kind.Repeated P Q f h = f h

-- what follows from what one row decides
pub row_decided : (k : FaultKind) (P Q : Type 0) → (P → Q) → ButMemory k P → Decided k Q
row_decided kind.Memory P Q f h = tt
row_decided kind.Read P Q f h = absurd h
row_decided kind.Header P Q f h = f h
row_decided kind.Fields P Q f h = f h
row_decided kind.Number P Q f h = f h
row_decided kind.Order P Q f h = f h
row_decided kind.Range P Q f h = f h
row_decided kind.Backwards P Q f h = f h
row_decided kind.Repeated P Q f h = f h
