-- Checks one after the other, of which the first that fails is the fault.
use Rattle.std.specs.Prelude.{◌≡◌, Option, Some, None, Result, Ok, Err, ⊤}
use Rattle.cal_machine.specs.declared.fault.ConfigFault.{ConfigFault}
use Rattle.cal_machine.specs.declared.fault.ConfigFault.TheVariants.{Memory}

-- One check and then the next, which is told what the first one found.
infixl 10 ◌>>=◌
abbrev pub ◌>>=◌ : {A B : Type 0} → Result A ConfigFault → (A → Result B ConfigFault) →
    Result B ConfigFault
(Ok x) >>= f = f x
(Err e) >>= f = Err e

-- What is there, or else this fault.
abbrev pub or_fault : {A : Type 0} → ConfigFault → Option A → Result A ConfigFault
or_fault fault (Some x) = Ok x
or_fault fault None = Err fault

-- The checks fail with this fault. Out of memory says nothing of them: it may come at any place.
abbrev pub Fails : {A : Type 0} → ConfigFault → Result A ConfigFault → Type 0
Fails Memory checks = ⊤
Fails fault checks = checks ≡ Err fault

-- What a function returned, seen by `view`, is what the checks give, unless memory was refused.
abbrev pub Gives : {A B : Type 0} → (A → B) → Result A ConfigFault → Result B ConfigFault → Type 0
Gives view (Ok x) checks = checks ≡ Ok (view x)
Gives view (Err fault) checks = Fails fault checks
