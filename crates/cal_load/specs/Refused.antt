-- Why a word is refused.
use Rattle.std.specs.Prelude.{◌≡◌, ℕ, List, ⊤}
use Rattle.cal_load.specs.declared.fault.LoadFault.{LoadFault}
use Rattle.cal_load.specs.declared.fault.LoadFault.TheVariants.{Memory, Word}
use Rattle.cal_load.specs.declared.fault.Why.{Why}

-- the fault is that of this word after this flag, for this reason; or Memory, which may come at any
-- place
abbrev pub IsRefusedFor : List ℕ → List ℕ → Why → LoadFault → Type 0
IsRefusedFor flag word why Memory = ⊤
IsRefusedFor flag word why (Word fault) =
    (fault.flag.now ≡ flag) × (fault.word.now ≡ word) × (fault.why ≡ why)
