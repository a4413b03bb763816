-- What the events say of a thread is a journal.
use Rattle.cal_world.proofs.Common.{◌≡◌, ℕ, ◌+◌, Bool, true, false, cond, eqb, List, [], ◌∷◌, ◌++◌, length, length-append, take, Option, Some, None, refl, sym, ap, ◌∙◌, ◌≤◌, arith, subst, IsSome, eqb-true, append-nil, Command, Table, IsTable, Record, zero_record, MayFollow, Chain, ActionIsOneMore, LookIsOneMore, PermittedIsSafe, each_of_push, Entry, Took, Yielded, Published, records_of, MayStand, StandAfter, IsJournal, Event, Take, Yield, Publish, Read, Skip, Decide, Watch, entries_for, journal_in, takes_in, publishes_in, is_publish_by, next_command, took, running_on, published_by, IsItsState, IsSafeEvent, IsSafeList}
use Rattle.std.proofs.lemmas.List.Sums.{sum_by-append}
use Rattle.cal_world.specs.declared.illegal.Illegal.TheVariants as causes
use Rattle.cal_world.proofs.ListLemmas.OneMore.{of_each_part}
use Rattle.cal_world.proofs.ScheduleLemmas.Floors.{published_more}
use Rattle.cal_world.proofs.ScheduleLemmas.Invariant.{Holds, holds_first, holds_more}
use Rattle.cal_world.proofs.ScheduleLemmas.Reading.{order_more}
use Rattle.cal_kthread.proofs.JournalLemmas.OneEntryMore.{stand-push}

-- an event that adds nothing to a journal, and one that adds an entry which may stand there
nothing : (before : List Event) (event : Event) (k : ℕ) → entries_for k before event ≡ [] → StandAfter [] (journal_in before k) → StandAfter [] (journal_in before k ++ entries_for k before event)
nothing before event k e was = subst (λ es. StandAfter [] (journal_in before k ++ es)) (sym e) (subst (StandAfter []) (sym (append-nil (journal_in before k))) was)

one_entry : (before : List Event) (event : Event) (k : ℕ) (entry : Entry) → entries_for k before event ≡ entry ∷ [] → MayStand (journal_in before k) entry → StandAfter [] (journal_in before k) →
    StandAfter [] (journal_in before k ++ entries_for k before event)
one_entry before event k entry e may was = subst (λ es. StandAfter [] (journal_in before k ++ es)) (sym e) (stand-push [] (journal_in before k) entry was may)

takes_well : (table : Table) (before : List Event) (thread k : ℕ) → Holds table before → (b : Bool) → eqb thread k ≡ b → (o : Option Command) → next_command before k ≡ o → StandAfter [] (journal_in before k) →
    StandAfter [] (journal_in before k ++ entries_for k before (Take thread))
takes_well table before thread k held false is o next was = nothing before (Take thread) k (ap (λ (b : Bool). cond b (took (takes_in before k + 1) (next_command before k)) []) is) was
takes_well table before thread k held true is None next was =
    nothing before (Take thread) k (ap (λ (b : Bool). cond b (took (takes_in before k + 1) (next_command before k)) []) is ∙ ap (took (takes_in before k + 1)) next) was
takes_well table before thread k held true is (Some command) next was =
    let count = (held.stands k).count in
    one_entry before (Take thread) k (Took (takes_in before k + 1) command)
    (ap (λ (b : Bool). cond b (took (takes_in before k + 1) (next_command before k)) []) is ∙ ap (took (takes_in before k + 1)) next) (omega arith) was

yields_well : (before : List Event) (thread k : ℕ) (b : Bool) → eqb thread k ≡ b → IsSome (running_on before thread) → StandAfter [] (journal_in before k) →
    StandAfter [] (journal_in before k ++ entries_for k before (Yield thread))
yields_well before thread k false is on was = nothing before (Yield thread) k (ap (λ (b : Bool). cond b (Yielded ∷ []) []) is) was
yields_well before thread k true is on was =
    let P : ℕ → Type 0 = λ n. IsSome (running_on before n) in
    one_entry before (Yield thread) k Yielded (ap (λ (b : Bool). cond b (Yielded ∷ []) []) is) (subst P (eqb-true thread k is) on) was

publishes_well : (before : List Event) (thread k : ℕ) (rec : Record) (b : Bool) → eqb thread k ≡ b → IsItsState before (Publish thread rec) → publishes_in before k ≡ length (published_by before k) →
    StandAfter [] (journal_in before k) → StandAfter [] (journal_in before k ++ entries_for k before (Publish thread rec))
publishes_well before thread k rec false is shows count was = nothing before (Publish thread rec) k (ap (λ (b : Bool). cond b (Published (publishes_in before k + 1) rec ∷ []) []) is) was
publishes_well before thread k rec true is shows count was =
    let P : ℕ → Type 0 = λ n. IsItsState before (Publish n rec) in
    let shown = subst P (eqb-true thread k is) shows in
    one_entry before (Publish thread rec) k (Published (publishes_in before k + 1) rec) (ap (λ (b : Bool). cond b (Published (publishes_in before k + 1) rec ∷ []) []) is)
    (ap (λ n. n + 1) count, shown.taken, shown.running) was

stands_after : (table : Table) (before : List Event) (event : Event) → IsSafeEvent table before event → Holds table before → (k : ℕ) → publishes_in before k ≡ length (published_by before k) →
    StandAfter [] (journal_in before k) → StandAfter [] (journal_in before k ++ entries_for k before event)
stands_after table before (Take thread) allowed held k count was = takes_well table before thread k held (eqb thread k) refl (next_command before k) refl was
stands_after table before (Yield thread) allowed held k count was = yields_well before thread k (eqb thread k) refl (allowed causes.NotOn) was
stands_after table before (Publish thread rec) allowed held k count was = publishes_well before thread k rec (eqb thread k) refl (allowed causes.NotItsState) count was
stands_after table before (Read thread number) allowed held k count was = nothing before (Read thread number) k refl was
stands_after table before (Skip thread seen) allowed held k count was = nothing before (Skip thread seen) k refl was
stands_after table before (Decide entry) allowed held k count was = nothing before (Decide entry) k refl was
stands_after table before (Watch thread number) allowed held k count was = nothing before (Watch thread number) k refl was

-- as many Publishes as records
added : (before : List Event) (event : Event) (k : ℕ) → cond (is_publish_by k event) 1 0 ≡ length (records_of (entries_for k before event))
added before (Take thread) k = taken (eqb thread k) (takes_in before k + 1) (next_command before k)
  where
    taken : (b : Bool) (n : ℕ) (o : Option Command) → 0 ≡ length (records_of (cond b (took n o) []))
    taken true n None = refl
    taken true n (Some command) = refl
    taken false n o = refl
added before (Yield thread) k = yielded (eqb thread k)
  where
    yielded : (b : Bool) → 0 ≡ length (records_of (cond b (Yielded ∷ []) []))
    yielded true = refl
    yielded false = refl
added before (Publish thread rec) k = shown (eqb thread k) (publishes_in before k + 1)
  where
    shown : (b : Bool) (n : ℕ) → cond b 1 0 ≡ length (records_of (cond b (Published n rec ∷ []) []))
    shown true n = refl
    shown false n = refl
added before (Read thread number) k = refl
added before (Skip thread seen) k = refl
added before (Decide entry) k = refl
added before (Watch thread number) k = refl

count_after : (before : List Event) (event : Event) (k : ℕ) → publishes_in before k ≡ length (published_by before k) →
    publishes_in (before ++ event ∷ []) k ≡ length (published_by (before ++ event ∷ []) k)
count_after before event k was =
    let n = sum_by-append (λ e. cond (is_publish_by k e) 1 0) before (event ∷ []) in
    let more = ap length (published_more before event k) in
    let sum = length-append (published_by before k) (records_of (entries_for k before event)) in
    let one = added before event k in omega arith

pub record Journalled (events : List Event) : Type 0 where
  pub stand : (k : ℕ) → StandAfter [] (journal_in events k)
  pub count : (k : ℕ) → publishes_in events k ≡ length (published_by events k)
  pub order : (k : ℕ) → Chain MayFollow zero_record (published_by events k)

journalled_after : (table : Table) (before : List Event) (event : Event) → IsSafeEvent table before event → Holds table before → Journalled before → Journalled (before ++ event ∷ [])
journalled_after table before event allowed held was = record {
  stand = λ k. subst (StandAfter []) (sym (each_of_push (entries_for k) before event)) (stands_after table before event allowed held k (was.count k) (was.stand k));
  count = λ k. count_after before event k (was.count k);
  order = λ k. order_more table before event allowed k (was.order k);
}

pub journals : PermittedIsSafe → ActionIsOneMore → LookIsOneMore → (table : Table) (events : List Event) → IsTable table → IsSafeList table events → (n : ℕ) → n ≤ length events →
    (k : ℕ) → IsJournal (journal_in (take n events) k)
journals sound more one table events ok is n le k =
    let P : List Event → Type 0 = λ part. Holds table part × Journalled part in
    let all = (of_each_part events P (holds_first table, record { stand = λ k. tt; count = λ k. refl; order = λ k. tt })
    (λ i event e was. (holds_more sound more one table ok (take i events) event (is.each i event e) was.0, journalled_after table (take i events) event (is.each i event e) was.0 was.1)) n le).1 in
    record { each = all.stand k; page = (refl, all.order k) }
