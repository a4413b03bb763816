-- When a gate may end a worker, and what it answered to those that it let through.
use Rattle.std.specs.Prelude.{◌≡◌, ℕ, ◌<◌, ◌⊎◌, Bool, false, true, length}
use Rattle.cal_trace.specs.declared.arrivals.Arrivals.{Arrivals}
use Rattle.cal_run.specs.declared.fault.SimFault.{SimFault}
use Rattle.cal_run.specs.declared.fault.SimFault.TheVariants.{Memory, Gate}

-- each of the first n questions may be answered by yes
abbrev pub LetsThrough : (ℕ → Bool → Type 0) → ℕ → Type 0
LetsThrough answers n = (i : ℕ) → i < n → answers i true

-- before each pass the gate may answer yes
abbrev pub LetsPasses : (ℕ → Bool → Type 0) → Arrivals → Type 0
LetsPasses answers arrivals = LetsThrough answers (length arrivals.passes)

-- before each turn of one kernel thread the gate may answer yes
abbrev pub LetsTurns : (ℕ → Bool → Type 0) → Arrivals → Type 0
LetsTurns answers arrivals = LetsThrough answers (length arrivals.turns)

-- before each turn of each of so many kernel threads the gate may answer yes
abbrev pub LetsAllTurns : (ℕ → ℕ → Bool → Type 0) → ℕ → Arrivals → Type 0
LetsAllTurns answers threads arrivals = (k : ℕ) → k < threads → LetsTurns (answers k) arrivals

-- one of the first n questions may be answered by no
abbrev pub MayRefuse : (ℕ → Bool → Type 0) → ℕ → Type 0
MayRefuse answers n = (i : ℕ) × (i < n) × answers i false

-- before one pass the gate may answer no
abbrev pub MayRefusePass : (ℕ → Bool → Type 0) → Arrivals → Type 0
MayRefusePass answers arrivals = MayRefuse answers (length arrivals.passes)

-- before one turn of one kernel thread the gate may answer no
abbrev pub MayRefuseTurn : (ℕ → Bool → Type 0) → Arrivals → Type 0
MayRefuseTurn answers arrivals = MayRefuse answers (length arrivals.turns)

-- before one turn of one of so many kernel threads the gate may answer no
abbrev pub MayRefuseOne : (ℕ → ℕ → Bool → Type 0) → ℕ → Arrivals → Type 0
MayRefuseOne answers threads arrivals =
    (k : ℕ) × (k < threads) × MayRefuseTurn (answers k) arrivals

-- why a worker ended: memory was refused, or it was the gate, which may have refused
abbrev pub EndedBy : Type 0 → SimFault → Type 0
EndedBy may_refuse fault = (fault ≡ Memory) ⊎ ((fault ≡ Gate) × may_refuse)

-- so many kernel threads may fail by this fault: it is the gate's only where the gate may answer no
-- before one of their turns
abbrev pub MayFailTurns : (ℕ → ℕ → Bool → Type 0) → ℕ → Arrivals → SimFault → Type 0
MayFailTurns turns threads arrivals fault = fault ≡ Gate → MayRefuseOne turns threads arrivals

-- a run of so many kernel threads may fail by this fault: it is the gate's only where the gate may
-- answer no before a pass or before one of their turns
abbrev pub MayFailRun : (ℕ → Bool → Type 0) → (ℕ → ℕ → Bool → Type 0) → ℕ → Arrivals →
    SimFault → Type 0
MayFailRun passes turns threads arrivals fault =
    fault ≡ Gate → MayRefusePass passes arrivals ⊎ MayRefuseOne turns threads arrivals
