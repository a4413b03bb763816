-- A late request of a guaranteed task, in a lockstep run.
use Rattle.std.specs.Prelude.{◌≡◌, ℕ, ◌+◌, ◌<◌, ◌≤◌, true, length, take, Some, slice_get}
use Rattle.cal_machine.specs.Table.{Table}
use Rattle.cal_machine.specs.TableTasks.{owner_of, delay_of, threads_of_table}
use Rattle.cal_policy.specs.declared.history.entry.PassEntry.{PassEntry}
use Rattle.cal_policy.specs.declared.policy.Policy.TheVariants.{Assured}
use Rattle.cal_policy.specs.Assured.Pass.{bounded_of}
use Rattle.cal_policy.specs.Assured.Short.{is_short}
use Rattle.cal_policy.specs.Board.Counts.{cores_of_thread}
use Rattle.cal_policy.specs.Setting.{Setting, setting_of, so_far, kept_now}
use Rattle.cal_assured.specs.Guarantee.{IsGiven}
use Rattle.cal_guarantee.specs.Honest.{ShowsSince}
use Rattle.cal_trace.specs.declared.arrivals.Arrivals.{Arrivals}
use Rattle.cal_run.specs.declared.outcome.Outcome.{Outcome}
use Rattle.cal_lockstep.specs.Lockstep.{IsLockstepBy}

-- where the grants of the pass begin, thread k is on no core, its kept record shows a request that waits
-- since this tick, and its task books fewer cores than it is guaranteed
pub record WaitsBelowGuarantee (s : Setting) (k came : ℕ) : Type 0 where
  pub off : cores_of_thread s.table (so_far s (bounded_of s)) k ≡ 0
  pub shows : ShowsSince (kept_now s k) came
  pub short : is_short s.table (so_far s (bounded_of s)) (owner_of s.table k) ≡ true

-- In passes p and p + 1 of a lockstep run by the second policy thread k waits so. Its request is late in
-- pass p, and the clock of pass p + 1 is no lower. A turn follows pass p and each pass before it.
pub record IsLateInLockstep (table : Table) (arrivals : Arrivals) (outcome : Outcome)
    (k came p : ℕ) : Type 0 where
  pub lockstep : IsLockstepBy Assured table arrivals outcome
  pub thread : k < threads_of_table table
  pub passes : p + 1 < length outcome.history
  pub turned : p < length arrivals.turns
  pub late : (one : PassEntry) → slice_get outcome.history p ≡ Some one →
      came + delay_of table (owner_of table k) < one.input.now
  pub clock : (one next : PassEntry) → slice_get outcome.history p ≡ Some one →
      slice_get outcome.history (p + 1) ≡ Some next → one.input.now ≤ next.input.now
  pub waits : (q : ℕ) (entry : PassEntry) → p ≤ q → q ≤ p + 1 →
      slice_get outcome.history q ≡ Some entry →
      WaitsBelowGuarantee (setting_of table (take q outcome.history) entry) k came

-- then one of the two grants a core to a thread of its task
abbrev pub LateRequestsAreHelpedInLockstep : Type 0
LateRequestsAreHelpedInLockstep = (table : Table) (arrivals : Arrivals) (outcome : Outcome)
    (k came p : ℕ) → IsLateInLockstep table arrivals outcome k came p →
    IsGiven table outcome.history (owner_of table k) 1 p
