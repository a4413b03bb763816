-- A record that leaves idle passes out: many at once, at any places.
use Rattle.std.specs.Prelude.{◌≡◌, ℕ, Bool, false, List, [], ◌∷◌, map, take, Some, slice_get}
use Rattle.std.specs.Prelude.{if◌then◌else◌}
use Rattle.std.specs.List.{flat_map}
use Rattle.cal_machine.specs.Table.{Table}
use Rattle.cal_policy.specs.declared.history.entry.PassEntry.{PassEntry}
use Rattle.cal_policy.specs.declared.policy.Policy.{Policy}
use Rattle.cal_policy.specs.Policies.{IsPassBy, IsLegalBy}
use Rattle.cal_idle.specs.Idle.{IsIdle, LeaveTheSame}

-- a pass that was made, and whether it is written
pub record Noted : Type 0 where
  pub entry : PassEntry
  pub is_written : Bool

-- all passes of a run
abbrev pub passes_of : List Noted → List PassEntry
passes_of run = map (λ noted. noted.entry) run

-- those that are written
abbrev pub written_of : List Noted → List PassEntry
written_of run = flat_map (λ noted. if noted.is_written then noted.entry ∷ [] else []) run

-- each pass that is not written is idle after all passes before it, be they written or not
pub record LeavesOutIdleOnes (run : List Noted) : Type 0 where
  pub idle : (p : ℕ) (noted : Noted) → slice_get run p ≡ Some noted → noted.is_written ≡ false →
      IsIdle (passes_of (take p run)) noted.entry

-- and is one of the policy at its place
pub record LeavesOutOwnOnes (policy : Policy) (table : Table) (run : List Noted) : Type 0 where
  pub own : (p : ℕ) (noted : Noted) → slice_get run p ≡ Some noted → noted.is_written ≡ false →
      IsPassBy policy table (passes_of (take p run)) noted.entry

-- what is written leaves the same as all passes
abbrev pub RecordsLeaveTheSame : Type 0
RecordsLeaveTheSame = (run : List Noted) → LeavesOutIdleOnes run →
    LeaveTheSame (passes_of run) (written_of run)

-- of a legal history what is written is a legal history
abbrev pub RecordsAreLegal : Type 0
RecordsAreLegal = (policy : Policy) (table : Table) (run : List Noted) → LeavesOutIdleOnes run →
    IsLegalBy policy table (passes_of run) → IsLegalBy policy table (written_of run)

-- and where what is written is legal, all passes are, if those that are left out are the policy's
abbrev pub IdlePassesMayBePutIn : Type 0
IdlePassesMayBePutIn = (policy : Policy) (table : Table) (run : List Noted) →
    LeavesOutIdleOnes run → LeavesOutOwnOnes policy table run →
    IsLegalBy policy table (written_of run) → IsLegalBy policy table (passes_of run)
