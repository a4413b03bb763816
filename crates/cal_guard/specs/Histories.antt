-- Which histories are permitted, and what is so of each: laws over whole histories.
use Rattle.std.specs.Prelude.{◌≡◌, ℕ, ◌≤◌, List, [], ◌∷◌, ◌++◌, length, take, Some, slice_get}
use Rattle.cal_machine.specs.Table.{Table, IsTable}
use Rattle.cal_policy.specs.declared.history.input.Input.{Input}
use Rattle.cal_policy.specs.declared.history.entry.PassEntry.{PassEntry}
use Rattle.cal_policy.specs.declared.policy.Policy.{Policy}
use Rattle.cal_policy.specs.History.{actions_of}
use Rattle.cal_policy.specs.Setting.{setting}
use Rattle.cal_policy.specs.Judgement.Orderly.{IsOrderly}
use Rattle.cal_policy.specs.Pass.Steady.{IsSteady}
use Rattle.cal_policy.specs.Pass.{IsLegal}
use Rattle.cal_policy.specs.Policies.{IsLegalBy}
use Rattle.cal_laws.specs.Point.{Point}
use Rattle.cal_laws.specs.Safe.{IsSafeHistory}
use Rattle.cal_guard.specs.Permitted.{ArePermitted, IsPermittedPass, IsPermittedHistory}

-- the point lies in a pass of a permitted history: before its first action, between two, or after
-- its last
pub record IsPermittedPoint (here : Point) : Type 0 where
  pub permitted : IsPermittedHistory here.table here.history
  pub entry : slice_get here.history here.pass ≡ Some here.entry
  pub made : here.made ≤ length here.entry.actions

-- a permitted history is safe
abbrev pub PermittedIsSafe : Type 0
PermittedIsSafe = (table : Table) (history : List PassEntry) → IsPermittedHistory table history →
    IsSafeHistory table history

-- after each number of its passes a permitted history is steady
abbrev pub PermittedIsSteady : Type 0
PermittedIsSteady = (table : Table) (history : List PassEntry) → IsPermittedHistory table history →
    (p : ℕ) → p ≤ length history → IsSteady table (actions_of (take p history))

-- a permitted history is orderly: so what asks for an orderly history may be called on it
abbrev pub PermittedIsOrderly : Type 0
PermittedIsOrderly = (table : Table) (history : List PassEntry) → IsPermittedHistory table history →
    IsOrderly table history

-- a legal history is permitted
abbrev pub LegalIsPermitted : Type 0
LegalIsPermitted = (table : Table) (history : List PassEntry) → IsTable table →
    IsLegal table history → IsPermittedHistory table history

-- and so is a history of any policy
abbrev pub EachPolicyIsPermitted : Type 0
EachPolicyIsPermitted = (policy : Policy) (table : Table) (history : List PassEntry) →
    IsTable table → IsLegalBy policy table history → IsPermittedHistory table history

-- a pass that does nothing is permitted
abbrev pub DoingNothingIsPermitted : Type 0
DoingNothingIsPermitted = (table : Table) (history : List PassEntry) (input : Input) →
    IsPermittedHistory table history →
    ArePermitted (setting table history input) []

-- a permitted history, one permitted pass more, is permitted
abbrev pub PermittedGoesOn : Type 0
PermittedGoesOn = (table : Table) (history : List PassEntry) (entry : PassEntry) →
    IsPermittedHistory table history →
    IsPermittedPass table history entry → IsPermittedHistory table (history ++ entry ∷ [])
