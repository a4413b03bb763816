-- Which cores are in which of the sets that a board keeps.
use Rattle.std.specs.Prelude.{◌≡◌, ℕ, ◌<◌, not, List}
use Rattle.cal_machine.specs.declared.core_set.CoreSet.{CoreSet}
use Rattle.cal_machine.specs.CoreSet.{has}
use Rattle.cal_machine.specs.declared.machine.TheConstants.{MOST_CORES}
use Rattle.cal_policy.specs.declared.history.action.Action.{Action}
use Rattle.cal_policy.specs.declared.board.holders.Holder.{Holder}
use Rattle.cal_policy.specs.declared.board.core_sets.CoreSets.{CoreSets}
use Rattle.cal_policy.specs.History.{is_banned}
use Rattle.cal_policy.specs.Board.Counts.{is_free}

-- the core is among the taken ones where its holder says that it is not free
pub record IsSorted (core : ℕ) (holder : Holder) (sets : CoreSets) : Type 0 where
  pub taken : has sets.taken core ≡ not (is_free holder)

-- where `holder` says who has each core, each is in the sets that its holder says
abbrev pub Sorts : (ℕ → Holder) → CoreSets → Type 0
Sorts holder sets = (c : ℕ) → c < MOST_CORES → IsSorted c (holder c) sets

-- the set has the cores that are banned after the actions x
pub record IsSetOfBanned (set : CoreSet) (x : List Action) : Type 0 where
  pub banned : (c : ℕ) → c < MOST_CORES → has set c ≡ is_banned x c
