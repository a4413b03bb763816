-- Safe histories, whoever chose their actions: what exclusion and the truth of kept records rest
-- on.
use Rattle.std.specs.Prelude.{◌≡◌, ℕ, ◌≤◌, true, List, length, take, Some, slice_get}
use Rattle.cal_machine.specs.Table.{Table, IsTable}
use Rattle.cal_policy.specs.declared.history.action.Action.{Action}
use Rattle.cal_policy.specs.declared.history.action.Action.TheVariants.{Free, Unban, Ban}
use Rattle.cal_policy.specs.declared.history.action.Action.TheVariants.{Revoke, Cap, Grant}
use Rattle.cal_policy.specs.declared.history.entry.PassEntry.{PassEntry}
use Rattle.cal_policy.specs.History.{holder_of}
use Rattle.cal_policy.specs.Setting.{Setting, setting_of, so_far, kept_now}
use Rattle.cal_policy.specs.Pass.Frees.{shows_left}
use Rattle.cal_policy.specs.Judgement.Judging.{IsInput}
use Rattle.cal_policy.specs.Judgement.Orderly.{fits_state}
use Rattle.cal_policy.specs.Pass.{IsLegal}
use Rattle.cal_policy.specs.Pass.Steady.{IsSteady}
use Rattle.cal_laws.specs.Point.{Point}

-- a core that the action frees was shown to be left
abbrev pub FreesWhatWasLeft : Setting → List Action → Action → Type 0
FreesWhatWasLeft s acts (Free core) =
    shows_left (kept_now s) (holder_of (so_far s acts) core) ≡ true
FreesWhatWasLeft s acts (Unban core) = Unit {0}
FreesWhatWasLeft s acts (Ban core thread started) = Unit {0}
FreesWhatWasLeft s acts (Revoke core cause) = Unit {0}
FreesWhatWasLeft s acts (Cap task cap) = Unit {0}
FreesWhatWasLeft s acts (Grant core thread class) = Unit {0}

-- after the actions acts of the pass the state is steady, and the action fits it and frees no core
-- that was not left
pub record IsSafe (s : Setting) (acts : List Action) (a : Action) : Type 0 where
  pub steady : IsSteady s.table (so_far s acts)
  pub fits : fits_state s.table (so_far s acts) a ≡ true
  pub left : FreesWhatWasLeft s acts a

-- R holds of each action of each pass, at its own place
pub record EachAction (R : Setting → List Action → Action → Type 0) (table : Table)
    (history : List PassEntry) : Type 0 where
  pub at : (p : ℕ) (entry : PassEntry) → slice_get history p ≡ Some entry → (i : ℕ) (a : Action) →
      slice_get entry.actions i ≡ Some a →
      R (setting_of table (take p history) entry) (take i entry.actions) a

-- each pass has an input that it may be given, and each action is safe at its own place
pub record IsSafeHistory (table : Table) (history : List PassEntry) : Type 0 where
  pub inputs : (p : ℕ) (entry : PassEntry) → slice_get history p ≡ Some entry →
      IsInput table (take p history) entry.input
  pub actions : EachAction IsSafe table history

-- the point lies in a pass of a safe history
pub record IsSafePoint (here : Point) : Type 0 where
  pub history : IsSafeHistory here.table here.history
  pub entry : slice_get here.history here.pass ≡ Some here.entry
  pub made : here.made ≤ length here.entry.actions

-- a legal history is safe
abbrev pub LegalIsSafe : Type 0
LegalIsSafe = (table : Table) (history : List PassEntry) → IsTable table → IsLegal table history →
    IsSafeHistory table history
