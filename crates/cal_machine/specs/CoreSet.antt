-- Definitions over a set of cores.
use Rattle.std.specs.Prelude.{◌≡◌, ◌<◌, ◌≤◌, ◌==◌, ◌+◌, ℕ, zero, suc, Bool, true, false, if◌then◌else◌}
use Rattle.std.specs.Int.{bit_at}
use Rattle.cal_machine.specs.declared.core_set.CoreSet.{CoreSet}
use Rattle.cal_machine.specs.declared.machine.TheConstants.{MOST_CORES}

-- Whether the set has a core.
unfoldable pub has : CoreSet → ℕ → Bool
has set core = bit_at set.bits core == 1

-- how many cores below n the set has
unfoldable pub count_below : CoreSet → ℕ → ℕ
count_below set zero = 0
count_below set (suc n) = count_below set n + (if has set n then 1 else 0)

-- This core is in the set, and none below it is.
pub record IsLeastOf (set : CoreSet) (core : ℕ) : Type 0 where
  pub within : core < MOST_CORES
  pub member : has set core ≡ true
  pub none_below : (c : ℕ) → c < core → has set c ≡ false

-- This core is in the set from the first one on, and none between them is.
pub record IsLeastFrom (set : CoreSet) (first core : ℕ) : Type 0 where
  pub from : first ≤ core
  pub within : core < MOST_CORES
  pub member : has set core ≡ true
  pub none_between : (c : ℕ) → first ≤ c → c < core → has set c ≡ false

-- This core is in the set, and none above it is.
pub record IsGreatestOf (set : CoreSet) (core : ℕ) : Type 0 where
  pub within : core < MOST_CORES
  pub member : has set core ≡ true
  pub none_above : (c : ℕ) → core < c → has set c ≡ false
