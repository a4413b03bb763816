-- A pass of this policy, and its legal histories.
use Rattle.std.specs.Prelude.{◌≡◌, ℕ, List, [], ◌∷◌, ◌++◌, take, Some, slice_get}
use Rattle.cal_machine.specs.Table.{Table, IsTable}
use Rattle.cal_policy.specs.declared.history.action.Action.{Action}
use Rattle.cal_policy.specs.declared.history.entry.PassEntry.{PassEntry}
use Rattle.cal_policy.specs.Setting.{Setting, setting_of}
use Rattle.cal_policy.specs.Pass.{followed}
use Rattle.cal_policy.specs.Pass.Frees.{frees}
use Rattle.cal_policy.specs.Pass.Bandwidth.{bandwidth_part}
use Rattle.cal_policy.specs.Assured.Hyperthreads.{unbans, bans}
use Rattle.cal_policy.specs.Assured.Grants.{grants}
use Rattle.cal_policy.specs.Judgement.Judging.{IsInput}

-- the pass up to the end of its second part, and up to where its grants begin
abbrev pub unbanned_of : Setting → List Action
unbanned_of s = followed (followed [] (frees s)) (unbans s)

abbrev pub bounded_of : Setting → List Action
bounded_of s = followed (followed (unbanned_of s) (bans s)) (bandwidth_part s)

-- the actions of a pass: its parts, end to end, each judged after all actions before it
abbrev pub pass_of : Setting → List Action
pass_of s = followed (bounded_of s) (grants s)

-- an entry is a pass after these: its input is one that it may be given, and its actions are the
-- pass's
pub record IsPass (table : Table) (before : List PassEntry) (entry : PassEntry) : Type 0 where
  pub input : IsInput table before entry.input
  pub actions : entry.actions ≡ pass_of (setting_of table before entry)

-- a legal history: each entry is a pass after those before it
pub record IsLegal (table : Table) (history : List PassEntry) : Type 0 where
  pub passes : (p : ℕ) (entry : PassEntry) → slice_get history p ≡ Some entry →
      IsPass table (take p history) entry

-- the pass of this setting comes to this place: its history is legal, its input may be given, and of
-- its actions `acts` are made and `next` comes next
pub record ComesTo (s : Setting) (acts : List Action) (next : Action) : Type 0 where
  pub table : IsTable s.table
  pub legal : IsLegal s.table s.history
  pub input : IsInput s.table s.history s.input
  pub rest : List Action
  pub pass : pass_of s ≡ acts ++ next ∷ rest
