-- What stands where a core is granted: its thread is one of the task's, and its ring has room.
use Rattle.cal_laws.proofs.Common.{◌≡◌, ℕ, ◌<◌, Bool, true, false, ◌&&◌, ◌||◌, eqb, ltb, nat_lt, List, Some, ap, ◌∙◌, and_parts, ltb-true, eqb-true, Table, ThreadsAreOfTheirTask, owner_of, limit_of, threads_of_table, is_latency_critical, Action, Grant, Holder, holder_of, is_free, cores_of_thread, booked_by, cap_of, placement_of, Setting, so_far, has_room, may_book, fits_state, IsGranted, ChosenHasWaitedLongest, MayBookMore}
use Rattle.cal_policy.specs.declared.board.holders.Placement as placements
use Rattle.cal_policy.specs.declared.board.holders.Holder.TheVariants as holders
use Rattle.cal_laws.proofs.ChoiceLemmas.Chosen.{longest, greatest_delay, chosen_owner}

-- the thread is one of the task's, and its ring has room
pub record GrantFacts (s : Setting) (t thread : ℕ) : Type 0 where
  pub owner : owner_of s.table thread ≡ t
  pub room : has_room s thread ≡ true

-- a grant that fits gives a free core to a thread of the table that is on none
pub record GivesFree (table : Table) (x : List Action) (core thread : ℕ) : Type 0 where
  pub low : core < table.cores
  pub own : thread < threads_of_table table
  pub free : is_free (holder_of x core) ≡ true
  pub on_none : cores_of_thread table x thread ≡ 0

pub gives_free : (table : Table) (x : List Action) (core thread class : ℕ) → fits_state table x (Grant core thread class) ≡ true → GivesFree table x core thread
gives_free table x core thread class fits =
    let third = and_parts (ltb core table.cores && ltb thread (threads_of_table table) && is_free (holder_of x core)) (eqb (cores_of_thread table x thread) 0) fits in
    let second = and_parts (ltb core table.cores && ltb thread (threads_of_table table)) (is_free (holder_of x core)) third.0 in
    let first = and_parts (ltb core table.cores) (ltb thread (threads_of_table table)) second.0 in
    record { low = ltb-true _ _ first.0; own = ltb-true _ _ first.1; free = second.1; on_none = eqb-true _ _ third.1 }

-- nobody is on a free core
pub free_nobody : (h : Holder) (p : placements.Placement) → is_free h ≡ true → placement_of h ≡ Some p → ⊥
free_nobody holders.Free p e is = cc
free_nobody (holders.Held q) p e is = cc
free_nobody (holders.Leaving q cause) p e is = cc

pub grant_facts : ThreadsAreOfTheirTask → ChosenHasWaitedLongest → (s : Setting) (acts : List Action) (core thread class : ℕ) → (m : IsGranted s acts core thread class) →
    GrantFacts s m.task thread
grant_facts numbered waited s acts core thread class m =
    let x : List Action = so_far s acts in
    let best = greatest_delay s x m.task m.chosen_thread (longest waited s x m.task m.chosen_thread m.chosen.longest) in
    record {
      owner = ap (owner_of s.table) m.thread_chosen ∙ chosen_owner numbered waited s x m.task m.chosen_thread m.chosen.task m.chosen.longest;
      room = ap (has_room s) m.thread_chosen ∙ best.candidate.room;
    }

or_second : (a b : Bool) → (a || b) ≡ true → a ≡ false → b ≡ true
or_second true b e f = cc
or_second false b e f = e

-- the task for which a core is granted may book one more
pub books : (s : Setting) (x : List Action) (t : ℕ) → may_book s x t ≡ true → MayBookMore s.table x t
books s x t e =
    let both = and_parts (nat_lt (booked_by s.table x t) (limit_of s.table t)) (is_latency_critical s.table t || nat_lt (booked_by s.table x t) (cap_of s.table x t)) e in
    record { limit = ltb-true _ _ both.0; cap = λ best. ltb-true _ _ (or_second (is_latency_critical s.table t) (nat_lt (booked_by s.table x t) (cap_of s.table x t)) both.1 best) }
