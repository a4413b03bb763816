-- Where the bans of a pass are made: no ban is left due.
use Rattle.std.specs.Prelude.{◌≡◌, ℕ, ◌<◌, Bool, true, false, Some, slice_get}
use Rattle.cal_machine.specs.Machine.{sibling_of}
use Rattle.cal_policy.specs.declared.history.action.Action.{Action}
use Rattle.cal_policy.specs.declared.history.action.Action.TheVariants.{Free, Unban, Ban}
use Rattle.cal_policy.specs.declared.history.action.Action.TheVariants.{Revoke, Cap, Grant}
use Rattle.cal_policy.specs.declared.history.action.Cause.TheVariants as causes
use Rattle.cal_policy.specs.History.{holder_of, is_banned}
use Rattle.cal_laws.specs.Point.{Point, IsPoint, setting_at, actions_at, next_at}
use Rattle.cal_laws.specs.Bans.{MayBeEmpty, RunsTooLong, IsDue}

-- an action of the first three parts of a pass: a core is freed, a ban ends, or a core is banned,
-- and revoked for its ban
abbrev pub is_up_to_bans : Action → Bool
is_up_to_bans (Free core) = true
is_up_to_bans (Unban core) = true
is_up_to_bans (Ban core thread started) = true
is_up_to_bans (Revoke core (causes.Ban by)) = true
is_up_to_bans (Revoke core causes.Bandwidth) = false
is_up_to_bans (Revoke core (causes.Preempt task)) = false
is_up_to_bans (Cap task cap) = false
is_up_to_bans (Grant core thread class) = false

-- the third part of a pass ends at this point: all actions made of the pass are of its first three
-- parts, and the next, where there is one, is not
pub record BansAreMade (here : Point) : Type 0 where
  pub made : (i : ℕ) (action : Action) → i < here.made →
      slice_get here.entry.actions i ≡ Some action → is_up_to_bans action ≡ true
  pub next : (action : Action) → next_at here ≡ Some action → is_up_to_bans action ≡ false

-- the point of the same pass where this many of its actions are made
abbrev pub with_made : Point → ℕ → Point
with_made here made = record here { made = made }

-- the pass of this point comes to such an end
pub record ComesToBans (here : Point) : Type 0 where
  pub made : ℕ
  pub point : IsPoint (with_made here made)
  pub bans : BansAreMade (with_made here made)

-- in every pass the third part ends somewhere
abbrev pub BansEndInEachPass : Type 0
BansEndInEachPass = (here : Point) → IsPoint here → ComesToBans here

-- where it ends no ban is due: of no core, for no thread
abbrev pub NoBanIsLeftDue : Type 0
NoBanIsLeftDue = (here : Point) → IsPoint here → BansAreMade here → (c thread : ℕ) →
    ¬ IsDue (setting_at here) (actions_at here) c thread

-- so where it ends, beside each core on which a request runs too long stands a banned one, if that
-- one may be kept empty
abbrev pub LongRequestsHaveBannedSiblings : Type 0
LongRequestsHaveBannedSiblings = (here : Point) → IsPoint here → BansAreMade here →
    (c thread : ℕ) → RunsTooLong (setting_at here) (actions_at here) c thread →
    MayBeEmpty (setting_at here) (actions_at here) (holder_of (actions_at here) (sibling_of c)) →
    is_banned (actions_at here) (sibling_of c) ≡ true
