-- Each action of a pass of the second policy fits the state at its place, and leaves a steady one.
use Rattle.cal_policy.proofs.Common.{◌≡◌, ℕ, ◌<◌, Bool, true, ◌&&◌, ◌||◌, not, cond, eqb, ltb, nat_lt, None, List, [], ◌∷◌, ◌++◌, length, Some, refl, sym, ap, ◌∙◌, subst, is_some, lt-ltb, and_parts, and_from, IsTable, owner_of, threads_of_table, limit_of, is_latency_critical, some_else, Action, Free, Unban, Ban, Revoke, Cap, Grant, CoreClass, Holder, is_open, surplus, pressing, is_kept, held_class, holder_of, is_banned, is_free, is_held, booked_by, cores_of_thread, cap_of, fits_state, ban_due, may_book, thread_choice, IsSteady, Setting, so_far}
use Rattle.cal_policy.specs.declared.history.action.Cause.TheVariants as causes
use Rattle.cal_policy.specs.declared.board.holders.Holder.TheVariants as holders
use Rattle.cal_policy.specs.Assured.Cause.{IsForBan, IsForTask}
use Rattle.cal_policy.specs.Pass.Made as made
use Rattle.cal_policy.proofs.PassLemmas.Fits.{made_fits, revoke_fits, revoke_steady, thread_facts, below_true}
use Rattle.cal_policy.proofs.PassLemmas.Steady.{Shrinks_ban, Shrinks_unban, Shrinks_cap, Shrinks_free, Steady_shrinks, Steady_grant}
use Rattle.cal_policy.proofs.AssuredLemmas.Done.{IsDone, IsBanned, IsGranted, open_taken, held_taken}

-- a ban that is due is due by the other policy too
due_so : (s : Setting) (acts : List Action) (by thread : ℕ) (lacked : Bool) → by < s.table.cores → cond lacked None (ban_due s (so_far s acts) by) ≡ Some thread → made.IsBanDue s acts by thread
due_so s acts by thread lacked lt e = let due = some_else lacked (ban_due s (so_far s acts) by) thread e in record { core = lt; due = due.1 }

ban_so : (s : Setting) (acts : List Action) (core thread started : ℕ) → IsBanned s acts core thread started → made.IsBanned s acts core thread started
ban_so s acts core thread started m = record {
  by = m.by;
  beside = m.beside;
  start = m.start;
  due = due_so s acts m.by thread _ m.low m.due;
}

for_ban_so : (s : Setting) (acts : List Action) (core by : ℕ) → IsForBan s acts core by → made.IsRevokedForBan s acts core by
for_ban_so s acts core by m = record {
  earlier = m.earlier;
  thread = m.thread;
  just_before = m.just_before;
  beside = m.beside;
  due = due_so s m.earlier by m.thread _ m.own m.due;
  held = m.held;
}

classed_held : (s : Setting) (acts : List Action) (t core : ℕ) (class : CoreClass) (h : Holder) → held_class s acts t core h ≡ Some class → is_held h ≡ true
classed_held s acts t core class holders.Free e = cc
classed_held s acts t core class (holders.Held p) e = refl
classed_held s acts t core class (holders.Leaving p cause) e = cc

task_fits : (s : Setting) (acts : List Action) (core t : ℕ) → IsForTask s acts core t → fits_state s.table (so_far s acts) (Revoke core (causes.Preempt t)) ≡ true
task_fits s acts core t m =
    let taken = held_taken s acts t (record { rank = m.class; number = core }) m.least in
    revoke_fits s.table (so_far s acts) core (causes.Preempt t) taken.low (lt-ltb t (length s.table.tasks) m.own)
    (classed_held s acts t core m.class (holder_of (so_far s acts) core) taken.classed)

grant_fits : (s : Setting) (acts : List Action) (core thread class : ℕ) → IsGranted s acts core thread class → fits_state s.table (so_far s acts) (Grant core thread class) ≡ true
grant_fits s acts core thread class m =
    let x : List Action = so_far s acts in
    let taken = open_taken s x m.task m.choice m.least in
    let open_now = and_parts (is_open x m.choice.number) (not (is_kept s x m.task m.choice.number)) taken.may in
    let free_now = and_parts (is_free (holder_of x m.choice.number)) (not (is_banned x m.choice.number)) open_now.0 in
    let low : core < s.table.cores = (let P : ℕ → Type 0 = λ n. n < s.table.cores in subst P (sym m.core_chosen) taken.low) in
    let free : is_free (holder_of x core) ≡ true = ap (λ n. is_free (holder_of x n)) m.core_chosen ∙ free_now.0 in
    let own = thread_facts s x m.task m.chosen_thread m.own m.longest in
    let lowk : thread < threads_of_table s.table = (let P : ℕ → Type 0 = λ n. n < threads_of_table s.table in subst P (sym m.thread_chosen) own.low) in
    let none : eqb (cores_of_thread s.table x thread) 0 ≡ true = ap (λ n. eqb (cores_of_thread s.table x n) 0) m.thread_chosen ∙ own.on_none in
    and_from (ltb core s.table.cores && ltb thread (threads_of_table s.table) && is_free (holder_of x core)) (eqb (cores_of_thread s.table x thread) 0)
    (and_from (ltb core s.table.cores && ltb thread (threads_of_table s.table)) (is_free (holder_of x core))
    (and_from (ltb core s.table.cores) (ltb thread (threads_of_table s.table)) (lt-ltb core s.table.cores low) (lt-ltb thread (threads_of_table s.table) lowk)) free)
    none

grant_steady : (s : Setting) (acts : List Action) (core thread class : ℕ) → IsSteady s.table (so_far s acts) → IsGranted s acts core thread class →
    IsSteady s.table (so_far s acts ++ Grant core thread class ∷ [])
grant_steady s acts core thread class steady m =
    let x : List Action = so_far s acts in
    let own = thread_facts s x m.task m.chosen_thread m.own m.longest in
    let lowk : thread < threads_of_table s.table = (let P : ℕ → Type 0 = λ n. n < threads_of_table s.table in subst P (sym m.thread_chosen) own.low) in
    let owner : owner_of s.table thread ≡ m.task = ap (owner_of s.table) m.thread_chosen ∙ own.owner in
    let outer = and_parts (nat_lt (surplus s x m.task) (pressing s x m.task) && may_book s x m.task) (is_some (thread_choice s x m.task)) m.waiting in
    let inner = and_parts (nat_lt (surplus s x m.task) (pressing s x m.task)) (may_book s x m.task) outer.0 in
    let first = and_parts (nat_lt (booked_by s.table x m.task) (limit_of s.table m.task)) (is_latency_critical s.table m.task || nat_lt (booked_by s.table x m.task) (cap_of s.table x m.task)) inner.1 in
    let room = below_true (booked_by s.table x m.task) (limit_of s.table m.task) first.0 in
    let P : ℕ → Type 0 = λ n. booked_by s.table x n < limit_of s.table n in
    Steady_grant s.table x core thread class lowk (subst P (sym owner) room) steady

pub done_fits : (s : Setting) (acts : List Action) (a : Action) → IsTable s.table → IsSteady s.table (so_far s acts) → IsDone s acts a → fits_state s.table (so_far s acts) a ≡ true
done_fits s acts (Free core) table steady m = made_fits s acts (Free core) table steady m
done_fits s acts (Unban core) table steady m = and_from (ltb core s.table.cores) (is_banned (so_far s acts) core) (lt-ltb core s.table.cores m.low) m.banned
done_fits s acts (Ban core thread started) table steady m = made_fits s acts (Ban core thread started) table steady (ban_so s acts core thread started m)
done_fits s acts (Revoke core (causes.Ban by)) table steady m = made_fits s acts (Revoke core (causes.Ban by)) table steady (for_ban_so s acts core by m)
done_fits s acts (Revoke core causes.Bandwidth) table steady m = made_fits s acts (Revoke core causes.Bandwidth) table steady m
done_fits s acts (Revoke core (causes.Preempt task)) table steady m = task_fits s acts core task m
done_fits s acts (Cap task cap) table steady m = made_fits s acts (Cap task cap) table steady m
done_fits s acts (Grant core thread class) table steady m = grant_fits s acts core thread class m

pub done_steady : (s : Setting) (acts : List Action) (a : Action) → IsTable s.table → IsSteady s.table (so_far s acts) → IsDone s acts a → IsSteady s.table (so_far s acts ++ a ∷ [])
done_steady s acts (Free core) table steady m = Steady_shrinks s.table (so_far s acts) _ (Shrinks_free (so_far s acts) core) steady
done_steady s acts (Unban core) table steady m = Steady_shrinks s.table (so_far s acts) _ (Shrinks_unban (so_far s acts) core) steady
done_steady s acts (Ban core thread started) table steady m = Steady_shrinks s.table (so_far s acts) _ (Shrinks_ban (so_far s acts) core thread started) steady
done_steady s acts (Cap task cap) table steady m = Steady_shrinks s.table (so_far s acts) _ (Shrinks_cap (so_far s acts) task cap) steady
done_steady s acts (Revoke core cause) table steady m = revoke_steady s.table (so_far s acts) core cause steady (done_fits s acts (Revoke core cause) table steady m)
done_steady s acts (Grant core thread class) table steady m = grant_steady s acts core thread class steady m
