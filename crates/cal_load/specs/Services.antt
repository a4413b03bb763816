-- How many turns requests take.
use Rattle.std.specs.Prelude.{◌≡◌, ◌≤◌, ℕ, List, All, sum_by}
use Rattle.cal_load.specs.declared.service.ServicePart.{ServicePart}

-- a request takes so many turns, which are 1 to 1,000,000
abbrev pub IsWork : ℕ → Type 0
IsWork turns = (1 ≤ turns) × (turns ≤ 1_000_000)

-- the shares of some parts, all of them together
abbrev pub shares_in : List ServicePart → ℕ
shares_in parts = sum_by (λ part. part.share) parts

-- in each of these parts requests take turns
abbrev pub AreWork : List ServicePart → Type 0
AreWork parts = All (λ part. IsWork part.turns) parts

-- the parts have 100% of all requests, in thousandths of a percent, and in each they take turns
pub record IsService (parts : List ServicePart) : Type 0 where
  pub whole : shares_in parts ≡ 100_000
  pub works : AreWork parts
