-- Idle passes: nothing is done in them, and none of their looks tells anything new. A history says the
-- same with and without them.
use Rattle.std.specs.Prelude.{◌≡◌, ℕ, ◌↔◌, List, [], ◌∷◌, ◌++◌, Some, slice_get}
use Rattle.std.specs.Option.{IfSome}
use Rattle.cal_machine.specs.Table.{Table}
use Rattle.cal_policy.specs.declared.history.entry.PassEntry.{PassEntry}
use Rattle.cal_policy.specs.declared.history.input.Input.{Input}
use Rattle.cal_policy.specs.declared.history.look.Seen.{Seen}
use Rattle.cal_policy.specs.declared.policy.Policy.{Policy}
use Rattle.cal_policy.specs.History.{actions_of, looks_of}
use Rattle.cal_policy.specs.History.Looks.{kept_by, last_shown, record_to_keep, shown_by}
use Rattle.cal_policy.specs.Policies.{pass_by, IsPassBy, IsLegalBy}
use Rattle.cal_policy.specs.Setting.{setting}

-- after these looks one more look at thread k tells nothing new: what it showed, if it carried a
-- record, is what the thread showed last, and what it lets be kept, if it does, is what is kept
pub record TellsNothingNew (looks : List (List Seen)) (k : ℕ) (seen : Seen) : Type 0 where
  pub shown : IfSome (shown_by seen) (λ shown. shown ≡ last_shown looks k)
  pub kept : IfSome (record_to_keep seen) (λ rec. rec ≡ kept_by looks k)

-- idle, of a pass after these: it has no action, and none of its looks tells anything new. Its clock,
-- its bandwidth figure and which rings have room may be any
pub record IsIdle (before : List PassEntry) (entry : PassEntry) : Type 0 where
  pub nothing_done : entry.actions ≡ []
  pub nothing_new : (k : ℕ) (seen : Seen) → slice_get entry.input.seen k ≡ Some seen →
      TellsNothingNew (looks_of before) k seen

-- two histories leave the same: the same was done in both, and of each thread the same is kept and was
-- shown last
pub record LeaveTheSame (one other : List PassEntry) : Type 0 where
  pub done : actions_of one ≡ actions_of other
  pub kept : (k : ℕ) → kept_by (looks_of one) k ≡ kept_by (looks_of other) k
  pub shown : (k : ℕ) → last_shown (looks_of one) k ≡ last_shown (looks_of other) k

-- what a policy makes of an input goes by what the passes before left, and by nothing else of them
abbrev pub GoesByWhatIsLeft : Policy → Type 0
GoesByWhatIsLeft policy = (table : Table) (one other : List PassEntry) (input : Input) →
    LeaveTheSame one other →
    pass_by policy (setting table one input) ≡ pass_by policy (setting table other input)

-- with and without an idle pass a history leaves the same
abbrev pub IdlePassesLeaveTheSame : Type 0
IdlePassesLeaveTheSame = (before : List PassEntry) (entry : PassEntry) (after : List PassEntry) →
    IsIdle before entry → LeaveTheSame (before ++ entry ∷ after) (before ++ after)

-- a history with an idle pass is legal exactly where it is legal without, and the idle pass is one of
-- the policy at its place
abbrev pub IdlePassesChangeNothing : Type 0
IdlePassesChangeNothing = (policy : Policy) (table : Table) (before : List PassEntry)
    (entry : PassEntry) (after : List PassEntry) → IsIdle before entry →
    IsLegalBy policy table (before ++ entry ∷ after)
    ↔ (IsPassBy policy table before entry × IsLegalBy policy table (before ++ after))
