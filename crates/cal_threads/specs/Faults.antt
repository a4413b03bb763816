-- The numbers of faults, by which one is answered of several.
use Rattle.std.specs.Prelude.{◌≡◌, ◌≤◌, ℕ, ◌⊎◌, List, min, Result, Ok, Err}
use Rattle.std.specs.List.{Contains}
use Rattle.cal_run.specs.declared.fault.SimFault.{SimFault}
use Rattle.cal_run.specs.declared.fault.SimFault.TheVariants.{Memory, Spawn, Gate}

abbrev pub fault_number : SimFault → ℕ
fault_number Memory = 1
fault_number Spawn = 2
fault_number Gate = 3

-- the one of these two that has the least number
abbrev pub IsLeast : SimFault → SimFault → SimFault → Type 0
IsLeast a b least = ((least ≡ a) ⊎ (least ≡ b))
    × (fault_number least ≡ min (fault_number a) (fault_number b))

-- the fault of these two results, or the least of their faults; there is none where both have a
-- value
abbrev pub IsFaultOf : {A B : Type 0} → Result A SimFault → Result B SimFault → SimFault →
    Type 0
IsFaultOf (Ok a) (Ok b) fault = ⊥
IsFaultOf (Ok a) (Err e) fault = fault ≡ e
IsFaultOf (Err e) (Ok b) fault = fault ≡ e
IsFaultOf (Err e) (Err f) fault = IsLeast e f fault

-- one of these results failed so, and none failed by a fault with a lesser number
pub record IsLeastOfAll {A : Type 0} (results : List (Result A SimFault)) (fault : SimFault) :
    Type 0 where
  pub one : Contains results (Err fault)
  pub none_less : (other : SimFault) → Contains results (Err other) →
      fault_number fault ≤ fault_number other
