-- What the invariant says of the threads that run.
use Rattle.cal_world.proofs.Common.{◌≡◌, ℕ, ◌+◌, ◌<◌, true, eqb, leb, List, length, take, Option, Some, None, refl, sym, ap, ◌∙◌, arith, subst, is_some, unwrap_or, take-length, and_parts, leb-true, eqb-true, Table, IsTable, Holder, holder_of, actions_of, commands_to, placement_of, has_left, PassEntry, IsPermittedHistory, owner_of, threads_of_table, PermittedIsSteady, commands_of, Event, history_in, actions_in, journal_in, state_in, running_on, last_run, runs_for, record_at, IsByItsLastRun, RunsWithinLimit}
use Rattle.cal_policy.specs.declared.board.holders.Placement as placements
use Rattle.cal_policy.specs.declared.board.holders.Holder.TheVariants as holders
use Rattle.cal_policy.specs.Board.Counts.{is_booked_for}
use Rattle.cal_policy.specs.Pass.Steady.{IsSteady}
use Rattle.cal_world.proofs.ScheduleLemmas.Invariant.{Holds, unleft_in}
use Rattle.cal_world.proofs.ScheduleLemmas.Walk.{by_run}
use Rattle.cal_world.proofs.ListLemmas.Counted.{count_put}

-- a thread on a core has it by its last Run
pub by_last_run : (table : Table) (events : List Event) → Holds table events → (k c : ℕ) → running_on events k ≡ Some c → IsByItsLastRun table events k c
by_last_run table events inv k c on =
    let run = (inv.stands k).runs c on in
    let some : is_some (running_on events k) ≡ true = ap is_some on in
    let live : unleft_in events k run.place = λ i low left. unleft run.place some run.last i left in
    record {
      low = inv.runs.low k run.place c run.command live;
      place = by_run k run.place;
      there = inv.runs.there k run.place c run.command live;
      thread = refl;
      number = run.last;
    }
  where
    unleft : (place : ℕ) → is_some (running_on events k) ≡ true → last_run events k ≡ Some (place + 1) → (i : ℕ) → has_left (record_at events k i) (place + 1) ≡ true → ⊥
    unleft place some last i left =
        let both = and_parts (leb (place + 1) (record_at events k i).taken) (eqb (record_at events k i).running 0) left in
        ((inv.stands k).page i).on (place + 1) some last (leb-true _ _ both.0) (eqb-true _ _ both.1)

-- what was taken is the first part of what was sent
pub taken_first : (table : Table) (events : List Event) → Holds table events → (k : ℕ) → commands_of (journal_in events k) ≡ take (state_in events k).taken (commands_to (actions_in events) k)
taken_first table events inv k = (inv.stands k).first ∙ ap (λ n. take n (commands_to (actions_in events) k)) (sym (inv.stands k).count)

-- no two threads have one core
pub only_one : (table : Table) (events : List Event) (j k c : ℕ) → IsByItsLastRun table events j c → IsByItsLastRun table events k c → j ≡ k
only_one table events j k c by_j by_k =
    let a = by_j.there in
    let b = by_k.there in
    let same : by_j.place ≡ by_k.place = cc in
    sym by_j.thread ∙ ap (λ (p : placements.Placement). p.thread) same ∙ by_k.thread

-- a running thread's core is booked for its task
booked_for : (table : Table) (t : ℕ) (h : Holder) (p : placements.Placement) → placement_of h ≡ Some p → eqb (owner_of table p.thread) t ≡ true → is_booked_for table t h ≡ true
booked_for table t holders.Free p e is = cc
booked_for table t (holders.Held q) p e is = let same : q ≡ p = cc in ap (λ (q : placements.Placement). eqb (owner_of table q.thread) t) same ∙ is
booked_for table t (holders.Leaving q cause) p e is = let same : q ≡ p = cc in ap (λ (q : placements.Placement). eqb (owner_of table q.thread) t) same ∙ is

some_is : (o : Option ℕ) → is_some o ≡ true → o ≡ Some (unwrap_or o 0)
some_is None e = cc
some_is (Some c) e = refl

pub within_limit : PermittedIsSteady → (table : Table) (events : List Event) → IsTable table → IsPermittedHistory table (history_in events) →
    ((k c : ℕ) → running_on events k ≡ Some c → IsByItsLastRun table events k c) → (t : ℕ) → t < length table.tasks → RunsWithinLimit table events t
within_limit steady table events ok legal by t low = record {
  running = count_put (runs_for table events t) (threads_of_table table) (λ c. is_booked_for table t (holder_of (actions_in events) c)) table.cores core_of (record {
    low = λ k lt is. (by k (core_of k) (on k is)).low;
    passes = λ k lt is. booked_for table t (holder_of (actions_in events) (core_of k)) (by k (core_of k) (on k is)).place (by k (core_of k) (on k is)).there
        (ap (λ n. eqb (owner_of table n) t) (by k (core_of k) (on k is)).thread ∙ (parts k is).0);
    apart = λ j k low1 low2 a b same. only_one table events j k (core_of k) (subst (λ c. IsByItsLastRun table events j c) same (by j (core_of j) (on j a))) (by k (core_of k) (on k b));
  });
  booked = let P : List PassEntry → Type 0 = λ history. IsSteady table (actions_of history) in
      (subst P (take-length (history_in events)) (steady table (history_in events) legal (length (history_in events)) (omega arith))).limits t low;
}
  where
    core_of : ℕ → ℕ
    core_of k = unwrap_or (running_on events k) 0

    parts : (k : ℕ) → runs_for table events t k ≡ true → (eqb (owner_of table k) t ≡ true) × (is_some (running_on events k) ≡ true)
    parts k is = and_parts (eqb (owner_of table k) t) (is_some (running_on events k)) is

    on : (k : ℕ) → runs_for table events t k ≡ true → running_on events k ≡ Some (core_of k)
    on k is = some_is (running_on events k) (parts k is).1
