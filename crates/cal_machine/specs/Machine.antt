-- A machine and the siblings of its cores.
use Rattle.std.specs.Prelude.{◌≡◌, ◌≤◌, ◌+◌, ◌-◌, ◌%◌, ◌==◌, ◌&&◌, nat_le, ℕ, Bool, if◌then◌else◌}
use Rattle.cal_machine.specs.declared.machine.TheConstants.{MOST_CORES}

-- A number of cores that a machine may have: even, 2 to MOST_CORES. Doranjei's own limit.
pub record IsMachine (cores : ℕ) : Type 0 where
  pub even : cores % 2 ≡ 0
  pub least : 2 ≤ cores
  pub most : cores ≤ MOST_CORES

-- The same as a test.
abbrev pub is_machine : ℕ → Bool
is_machine cores = cores % 2 == 0 && nat_le 2 cores && nat_le cores MOST_CORES

-- The sibling of a core, the other hyperthread of its pair: the next core of an even one, the one
-- before of an odd one.
abbrev pub sibling_of : ℕ → ℕ
sibling_of core = if core % 2 == 0 then core + 1 else core - 1
