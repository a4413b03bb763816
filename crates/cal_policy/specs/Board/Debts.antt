-- To which tasks free cores are owed, as it is kept.
use Rattle.std.specs.Prelude.{◌≡◌, ℕ, ◌<◌, List, None, slice_index_or}
use Rattle.cal_machine.specs.declared.machine.TheConstants.{MOST_CORES}
use Rattle.cal_policy.specs.declared.history.action.Action.{Action}
use Rattle.cal_policy.specs.declared.board.debts.Debts.{Debts}
use Rattle.cal_policy.specs.Assured.Owed.{owed_to}

-- debts are as the actions x say
pub record DebtsAgree (d : Debts) (x : List Action) : Type 0 where
  pub owed : (c : ℕ) → c < MOST_CORES → slice_index_or d.owed c None ≡ owed_to x c
