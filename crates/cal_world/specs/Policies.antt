-- What holds of every legal list of events, by policy. By Policy::Caladan these are the definitions
-- of the other pages.
use Rattle.std.specs.Prelude.{◌≡◌, ℕ, ◌≤◌, List, length, take}
use Rattle.cal_machine.specs.Table.{Table, IsTable}
use Rattle.cal_policy.specs.declared.history.entry.PassEntry.{PassEntry}
use Rattle.cal_policy.specs.declared.policy.Policy.{Policy}
use Rattle.cal_policy.specs.Policies.{pass_by, IsLegalBy}
use Rattle.cal_policy.specs.Setting.{setting_of}
use Rattle.cal_laws.specs.Point.{Point, setting_at, made_at}
use Rattle.cal_laws.specs.Policies.{IsPointBy, HasCauseBy}
use Rattle.cal_world.specs.declared.event.Event.{Event}
use Rattle.cal_world.specs.declared.event.Event.TheVariants.{Decide}
use Rattle.cal_world.specs.Projections.{history_in}
use Rattle.cal_world.specs.Reads.{AllSkipsAreBusy, IsOnReads}
use Rattle.cal_world.specs.Safe.{IsSafeList}
use Rattle.cal_world.specs.Schedules.{IsIn, AtRevocations}
use Rattle.cal_world.specs.World.{IsAllowedBy, IsLegalListBy}

-- each legal list is safe
abbrev pub LegalListsAreSafeBy : Type 0
LegalListsAreSafeBy = (policy : Policy) (table : Table) (events : List Event) → IsTable table →
    IsLegalListBy policy table events → IsSafeList table events

-- P holds of the events so far, at every point of every legal list of every policy
abbrev pub OfLegalListsBy : (Policy → Table → List Event → Type 0) → Type 0
OfLegalListsBy P = (policy : Policy) (table : Table) (events : List Event) → IsTable table →
    IsLegalListBy policy table events →
    (n : ℕ) → n ≤ length events → P policy table (take n events)

-- the passes so far are a history of the policy
abbrev pub HistoryIsLegalBy : Policy → Table → List Event → Type 0
HistoryIsLegalBy policy table events = IsLegalBy policy table (history_in events)

-- a point in a pass of the history so far is one of a history of the policy
abbrev pub PointsAreLegalBy : Policy → Table → List Event → Type 0
PointsAreLegalBy policy table events =
    (here : Point) → IsIn table events here → IsPointBy policy here

-- each revocation has a cause of the policy's
abbrev pub RevocationsHaveCauseBy : Policy → Table → List Event → Type 0
RevocationsHaveCauseBy policy = AtRevocations
    (λ here core cause. HasCauseBy policy (setting_at here) (made_at here) core cause)

-- a Decide on Reads, with the actions of the policy's pass, is allowed
abbrev pub PassesOnReadsAreAllowedBy : Type 0
PassesOnReadsAreAllowedBy = (policy : Policy) (table : Table) (events : List Event) →
    IsTable table → IsLegalListBy policy table events → AllSkipsAreBusy events →
    (entry : PassEntry) → IsOnReads table events entry →
    entry.actions ≡ pass_by policy (setting_of table (history_in events) entry) →
    IsAllowedBy policy table events (Decide entry)
