-- What is known of the commands sent, after the actions x.
use Rattle.std.specs.Prelude.{◌≡◌, ℕ, ◌<◌, ◌≤◌, List, length, Option, Some, None}
use Rattle.std.specs.Prelude.{slice_get, slice_index_or}
use Rattle.cal_policy.specs.declared.history.action.Action.{Action}
use Rattle.cal_policy.specs.History.{commands_to, last_thread}
use Rattle.cal_world.specs.World.Outbox.{Outbox}

-- each list of commands is that of the thread at its place
abbrev pub AreSent : List Outbox → List Action → Type 0
AreSent sent x =
    (k : ℕ) (outbox : Outbox) → slice_get sent k ≡ Some outbox → outbox.commands ≡ commands_to x k

-- each has room for so many more
abbrev pub HaveRoom : List Outbox → ℕ → Type 0
HaveRoom sent n = (k : ℕ) (outbox : Outbox) → slice_get sent k ≡ Some outbox → n ≤ outbox.room

-- the thread of each core's last grant
pub record AreGranted (granted : List (Option ℕ)) (x : List Action) : Type 0 where
  pub size : length granted ≡ 256
  pub each : (c : ℕ) → c < 256 → slice_index_or granted c None ≡ last_thread x c
