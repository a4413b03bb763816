-- What a walk answers at a turn of a pass of the second policy: each number is the one that its rules
-- speak of.
use Rattle.std.specs.Prelude.{◌≡◌, ℕ, Bool, true, false, List, Some}
use Rattle.cal_policy.specs.declared.history.action.Action.{Action}
use Rattle.cal_policy.specs.declared.explain.claims.Claim.{Claim}
use Rattle.cal_policy.specs.declared.explain.claims.Lateness.{Lateness}
use Rattle.cal_policy.specs.declared.explain.claims.Shortage.{Shortage}
use Rattle.cal_policy.specs.declared.explain.keeping.Keeping.{Keeping}
use Rattle.cal_policy.specs.declared.explain.keeping.Keeping.TheVariants as keepings
use Rattle.cal_policy.specs.Assured.Acted.{has_acted}
use Rattle.cal_policy.specs.Assured.InFlight as flight
use Rattle.cal_policy.specs.Assured.Owed.{owed_to}
use Rattle.cal_policy.specs.Assured.Short as short
use Rattle.cal_policy.specs.Assured.Taking as taking
use Rattle.cal_policy.specs.Setting.{Setting, so_far}

-- a thread after the actions x
pub record IsLateness (s : Setting) (x : List Action) (k : ℕ) (state : Lateness) : Type 0 where
  pub is_late : state.is_late ≡ flight.is_late s k
  pub is_in_flight : state.is_in_flight ≡ flight.is_in_flight s x k

-- a task after the actions acts of the pass
pub record IsClaim (s : Setting) (acts : List Action) (t : ℕ) (claim : Claim) : Type 0 where
  pub is_short : claim.is_short ≡ short.is_short s.table (so_far s acts) t
  pub lacks : claim.lacks ≡ short.lacks s.table (so_far s acts) t
  pub needs : claim.needs ≡ short.needs s (so_far s acts) t
  pub pressing : claim.pressing ≡ flight.pressing s (so_far s acts) t
  pub helpers : claim.helpers ≡ flight.helpers s (so_far s acts) t
  pub surplus : claim.surplus ≡ short.surplus s (so_far s acts) t
  pub coming : claim.coming ≡ flight.coming s (so_far s acts) t
  pub waits : claim.waits ≡ short.waits s (so_far s acts) t
  pub has_acted : claim.has_acted ≡ has_acted s.table acts t
  pub may_revoke : claim.may_revoke ≡ taking.may_preempt s acts t

-- all tasks and cores after the actions x
pub record IsShortage (s : Setting) (x : List Action) (state : Shortage) : Type 0 where
  pub some_waits : state.some_waits ≡ short.some_waits_short s x
  pub open_cores : state.open_cores ≡ short.open_cores s.table x
  pub lacking : state.lacking ≡ short.lacking s x
  pub are_lacked : state.are_lacked ≡ short.are_lacked s x
  pub are_wanted : state.are_wanted ≡ short.are_wanted s x

-- the answer says that the core is kept
abbrev pub keeps : Keeping → Bool
keeps keepings.NotKept = false
keeps (keepings.OwedTo task) = true

-- what holds of core c and task t by this answer
abbrev pub KeptBy : Setting → List Action → ℕ → ℕ → Keeping → Type 0
KeptBy s x t c keepings.NotKept = Unit {0}
KeptBy s x t c (keepings.OwedTo task) = owed_to x c ≡ Some task

-- the answer says whether core c, if it is open, is kept from task t, and why
pub record IsKeeping (s : Setting) (x : List Action) (t c : ℕ) (keeping : Keeping) : Type 0 where
  pub kept : taking.is_kept s x t c ≡ keeps keeping
  pub fact : KeptBy s x t c keeping
