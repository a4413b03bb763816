-- A history of a policy that a file can hold is in range.
use Rattle.cal_trace.proofs.Common.{◌≡◌, ◌≤◌, ◌==◌, not, ℕ, List, ◌++◌, length, take, true, Some, nat_lt, nat_le, slice_get, refl, ap, ◌∙◌, arith, and_parts, ltb-true, leb-true, no_task, Seen, Shown, Action, Free, Unban, Ban, Revoke, Cap, Grant, Cause, PassEntry, extent_of, IsLookInRange, IsCauseInRange, IsActionInRange, IsEntryInRange, IsInRange, HasWords, IsSized}
use Rattle.cal_machine.specs.Machine.{sibling_of}
use Rattle.cal_machine.specs.Table.{Table, IsTable}
use Rattle.cal_machine.specs.TableTasks.{limit_of, threads_of_table}
use Rattle.cal_policy.specs.Board.Counts.{is_free, is_held, cores_of_thread}
use Rattle.cal_policy.specs.History.{actions_of, holder_of, is_banned}
use Rattle.cal_policy.specs.Judgement.Judging.{IsFitLook}
use Rattle.cal_policy.specs.Judgement.Orderly.{fits_state, names_table}
use Rattle.cal_policy.specs.Policies.{IsLegalBy}
use Rattle.cal_policy.specs.declared.history.look.Seen.TheVariants as seen
use Rattle.cal_policy.specs.declared.history.action.Cause.TheVariants as causes
use Rattle.cal_policy.specs.declared.policy.Policy.{Policy}
use Rattle.cal_policy.proofs.PolicyLemmas.{orderly_by, short_by, class_by}
use Rattle.cal_trace.proofs.RowLemmas.Conjunctions.{and_three, and_four}

-- a look that fits
look_ranges : (last : Shown) (look : Seen) → IsFitLook last look → IsLookInRange look
look_ranges last (seen.Whole number rec) h = h.0
look_ranges last (seen.Ahead number rec) h = h.0
look_ranges last (seen.Foreign number rec) h = h.0
look_ranges last (seen.Busy first second) h = h

cause_ranges : (table : Table) (cause : Cause) → names_table table cause ≡ true → IsCauseInRange (extent_of table) cause
cause_ranges table (causes.Ban by) h = ltb-true by table.cores h
cause_ranges table causes.Bandwidth h = tt
cause_ranges table (causes.Preempt task) h = ltb-true task (length table.tasks) h

-- a grant's class is one of five
abbrev ClassInRange : Action → Type 0
ClassInRange action = (core thread class : ℕ) → action ≡ Grant core thread class → (1 ≤ class) × (class ≤ 5)

-- an action that fits the state at its place
action_ranges : (table : Table) (x : List Action) (action : Action) → IsTable table → fits_state table x action ≡ true → ClassInRange action → IsActionInRange (extent_of table) action
action_ranges table x (Free core) ok fits ranged = ltb-true core table.cores (and_parts (nat_lt core table.cores) (not (is_free (holder_of x core))) fits).0
action_ranges table x (Unban core) ok fits ranged = ltb-true core table.cores (and_parts (nat_lt core table.cores) (is_banned x core) fits).0
action_ranges table x (Ban core thread started) ok fits ranged =
    let p = and_four (nat_lt core table.cores) (nat_lt thread (threads_of_table table)) (not (is_banned x core)) (not (is_banned x (sibling_of core))) fits in
    (ltb-true core table.cores p.0, ltb-true thread (threads_of_table table) p.1)
action_ranges table x (Revoke core cause) ok fits ranged =
    let p = and_three (nat_lt core table.cores) (names_table table cause) (is_held (holder_of x core)) fits in
    (ltb-true core table.cores p.0, cause_ranges table cause p.1)
action_ranges table x (Cap task cap) ok fits ranged =
    let p = and_parts (nat_lt task (length table.tasks)) (nat_le cap (limit_of table task)) fits in
    let lt = ltb-true task (length table.tasks) p.0 in
    let within = leb-true cap (limit_of table task) p.1 in
    let limit : limit_of table task ≤ 16 = (ok.each task no_task lt).limit in
    (lt, omega arith)
action_ranges table x (Grant core thread class) ok fits ranged =
    let p = and_four (nat_lt core table.cores) (nat_lt thread (threads_of_table table)) (is_free (holder_of x core)) (cores_of_thread table x thread == 0) fits in
    let c = ranged core thread class refl in
    (ltb-true core table.cores p.0, ltb-true thread (threads_of_table table) p.1, c.0, c.1)

entry_ranges : (policy : Policy) (table : Table) (history : List PassEntry) → IsTable table → IsLegalBy policy table history → (p : ℕ) (entry : PassEntry)
    → slice_get history p ≡ Some entry → HasWords entry → IsEntryInRange (extent_of table) entry
entry_ranges policy table history ok legal p entry is words =
    let orderly = (orderly_by policy table history ok legal).entries p entry is in
    let looks = orderly.looks in
    record {
      looks = looks.looks;
      rooms = looks.rooms;
      most = short_by policy table history ok legal p entry is;
      words = words;
      seen = record { at = λ k look e. look_ranges _ look (looks.fit k look e) };
      actions = record {
        at = λ i action e. action_ranges table (actions_of (take p history) ++ take i entry.actions) action ok (orderly.actions i action e)
            (λ core thread class same. class_by policy table history ok legal p entry is i core thread class (e ∙ ap Some same));
      };
    }

-- a history of the policy that a file can hold is in range
pub legal_in_range : (policy : Policy) (table : Table) (history : List PassEntry) → IsTable table → IsLegalBy policy table history → IsSized history
    → IsInRange (extent_of table) history
legal_in_range policy table history ok legal sized = record {
  passes = sized.passes;
  each = record { at = λ p entry is. entry_ranges policy table history ok legal p entry is (sized.words.at p entry is) };
}
