-- Which cores grants and bans go over.
use Rattle.std.specs.Prelude.{◌≡◌, ◌≢◌, ℕ, ◌<◌, ◌&&◌, Bool, not, Option, Some, None}
use Rattle.cal_machine.specs.declared.core_set.CoreSet.{CoreSet}
use Rattle.cal_machine.specs.CoreSet.{has}
use Rattle.cal_machine.specs.Machine.{sibling_of}
use Rattle.cal_machine.specs.declared.machine.TheConstants.{MOST_CORES}
use Rattle.cal_policy.specs.declared.history.action.Action.{Action}
use Rattle.cal_policy.specs.declared.history.action.Action.TheVariants.{Free, Unban, Ban}
use Rattle.cal_policy.specs.declared.history.action.Action.TheVariants.{Revoke, Cap, Grant}
use Rattle.cal_policy.specs.declared.board.holders.Holder.{Holder}
use Rattle.cal_policy.specs.declared.board.open_cores.OpenCores.{OpenCores}
use Rattle.cal_policy.specs.Board.Counts.{is_free, is_held}

-- the core that an action names
abbrev pub core_named : Action → Option ℕ
core_named (Free core) = Some core
core_named (Unban core) = Some core
core_named (Ban core thread started) = Some core
core_named (Revoke core cause) = Some core
core_named (Grant core thread class) = Some core
core_named (Cap task cap) = None

-- nobody has core c, and it is not banned
abbrev pub is_idle_by : (ℕ → Holder) → CoreSet → ℕ → Bool
is_idle_by holder banned c = is_free (holder c) && not (has banned c)

-- core c is held and its sibling is not, and neither is banned
abbrev pub is_alone_by : (ℕ → Holder) → CoreSet → ℕ → Bool
is_alone_by holder banned c =
    is_held (holder c) && not (is_held (holder (sibling_of c))) && not (has banned c)
    && not (has banned (sibling_of c))

-- core c is idle, and its sibling is held
abbrev pub is_beside_held_by : (ℕ → Holder) → CoreSet → ℕ → Bool
is_beside_held_by holder banned c = is_idle_by holder banned c && is_held (holder (sibling_of c))

-- where `holder` says who has each core, and `banned` which are banned, the sets are those of them
pub record Opens (holder : ℕ → Holder) (banned : CoreSet) (cores : OpenCores) : Type 0 where
  pub idle : (c : ℕ) → c < MOST_CORES → has cores.idle c ≡ is_idle_by holder banned c
  pub alone : (c : ℕ) → c < MOST_CORES → has cores.alone c ≡ is_alone_by holder banned c
  pub beside : (c : ℕ) → c < MOST_CORES →
      has cores.beside_held c ≡ is_beside_held_by holder banned c

-- holders and bans are the same but for the core that the action names
pub record IsSameElsewhere (action : Action) (holder : ℕ → Holder) (banned : CoreSet)
    (holder2 : ℕ → Holder) (banned2 : CoreSet) : Type 0 where
  pub holders : (c : ℕ) → core_named action ≢ Some c → holder2 c ≡ holder c
  pub bans : (c : ℕ) → core_named action ≢ Some c → has banned2 c ≡ has banned c
