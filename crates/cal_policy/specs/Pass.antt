-- A pass, and legal histories.
pub mod Among
pub mod AtHand
pub mod Bandwidth
pub mod Bans
pub mod BansBy
pub mod Choice
pub mod Counted
pub mod Coupled
pub mod Frees
pub mod Grants
pub mod Made
pub mod Steady
pub mod ToBan
use Rattle.std.specs.Prelude.{◌≡◌, ℕ, List, [], ◌++◌, take, Some, slice_get}
use Rattle.cal_machine.specs.declared.task.Kind.TheVariants as kinds
use Rattle.cal_machine.specs.Table.{Table}
use Rattle.cal_policy.specs.declared.history.action.Action.{Action}
use Rattle.cal_policy.specs.declared.history.entry.PassEntry.{PassEntry}
use Rattle.cal_policy.specs.Setting.{Setting}
use Rattle.cal_policy.specs.Pass.Frees.{frees}
use Rattle.cal_policy.specs.Pass.Bans.{unbans, bans}
use Rattle.cal_policy.specs.Pass.Bandwidth.{bandwidth_part}
use Rattle.cal_policy.specs.Pass.Grants.{grants_of_kind}
use Rattle.cal_policy.specs.Judgement.Judging.{IsInput}

-- the actions so far, and then what a part makes after them
abbrev pub followed : List Action → (List Action → List Action) → List Action
followed acts part = acts ++ part acts

-- the actions of a pass: its parts, end to end, each judged after all actions before it
abbrev pub pass_of : Setting → List Action
pass_of s =
    let freed = followed [] (frees s) in
    let unbanned = followed freed (unbans s) in
    let banned = followed unbanned (bans s) in
    let bounded = followed banned (bandwidth_part s) in
    let granted = followed bounded (grants_of_kind kinds.LatencyCritical s) in
    followed granted (grants_of_kind kinds.BestEffort s)

-- an entry is a pass after these: its input is one that it may be given, and its actions are the
-- pass's
pub record IsPass (table : Table) (before : List PassEntry) (entry : PassEntry) : Type 0 where
  pub input : IsInput table before entry.input
  pub actions : entry.actions ≡ pass_of (record {
    table = table;
    history = before;
    input = entry.input;
  })

-- a legal history: each entry is a pass after those before it
pub record IsLegal (table : Table) (history : List PassEntry) : Type 0 where
  pub passes : (p : ℕ) (entry : PassEntry) → slice_get history p ≡ Some entry →
      IsPass table (take p history) entry
