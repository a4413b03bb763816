-- Runs that were sent, and what becomes of their cores.
use Rattle.std.specs.Prelude.{◌≡◌, ℕ, ◌+◌, ◌<◌, ◌≤◌, ◌⊎◌, List, ◌∷◌, ◌++◌, Some, slice_get}
use Rattle.cal_machine.specs.declared.command.Command.TheVariants.{Run}
use Rattle.cal_machine.specs.Table.{Table}
use Rattle.cal_policy.specs.declared.history.action.Action.{Action}
use Rattle.cal_policy.specs.declared.history.action.Action.TheVariants.{Free}
use Rattle.cal_policy.specs.declared.history.entry.PassEntry.{PassEntry}
use Rattle.cal_policy.specs.History.{holder_of, commands_to}
use Rattle.cal_policy.specs.Board.{placement_of}
use Rattle.cal_policy.specs.Setting.{kept_now}
use Rattle.cal_laws.specs.Point.{Point, point_at, setting_at, actions_at, next_at}

-- command number `number` to thread k is a Run of core c; commands are numbered from 1
pub record IsRunOf (x : List Action) (k number c : ℕ) : Type 0 where
  pub place : ℕ
  pub numbered : number ≡ place + 1
  pub sent : slice_get (commands_to x k) place ≡ Some (Run c)

-- thread k holds or leaves core c, by its command of this number
abbrev pub IsThereBy : List Action → ℕ → ℕ → ℕ → Type 0
IsThereBy x k number c = placement_of (holder_of x c)
    ≡ Some (record { thread = k; number = number })

-- at this point thread k is on core c by that Run, the next action frees the core, and the thread's
-- kept record has taken the Run and shows no core
pub record IsLeft (here : Point) (k number c : ℕ) : Type 0 where
  pub there : IsThereBy (actions_at here) k number c
  pub frees : next_at here ≡ Some (Free c)
  pub taken : number ≤ (kept_now (setting_at here) k).taken
  pub on_none : (kept_now (setting_at here) k).running ≡ 0

-- so it was at a point of the history
pub record WasLeft (table : Table) (history : List PassEntry) (x : List Action)
    (k number c : ℕ) : Type 0 where
  -- in this pass, after so many of its actions
  pub pass : ℕ
  pub entry : PassEntry
  pub made : ℕ
  pub is_pass : slice_get history pass ≡ Some entry
  pub left : IsLeft (point_at table history pass entry made) k number c
  -- the actions up to that point and that Free are the first of the actions x
  pub after : List Action
  pub earlier : x ≡ actions_at (point_at table history pass entry made) ++ Free c ∷ after

-- after the actions x of the history each Run that was sent is of a core of the machine, and
-- stands, or was left
pub record RunsStand (table : Table) (history : List PassEntry) (x : List Action) : Type 0 where
  pub own : (k number c : ℕ) → IsRunOf x k number c → c < table.cores
  pub stand : (k number c : ℕ) → IsRunOf x k number c →
      IsThereBy x k number c ⊎ WasLeft table history x k number c
