-- Requests with more at their end, and the counts of what came to some tasks with one more.
use Rattle.cal_load.proofs.Common.{◌≡◌, ◌≢◌, ◌<◌, ◌≤◌, ◌+◌, ◌∙◌, ◌⊎◌, inl, inr, ℕ, List, [], ◌∷◌, ◌++◌, All, length, Some, slice_get, refl, ap, sym, subst, append_assoc, arith, length-append, append-nil, sum_by_push, slice_get_within, AreBuilt, HasMoreFor, IsComingTo, IsQueue, came_in, count_of, AreCountedBy, AreCountsOf, AreGathered, HasCount, IsCountOf, IsLoadCount, IsLoadOf, IsPut, Count, Gathered, MOST_REQUESTS, Coming, TaskLoad, Table, first_thread, task_at, threads_in, slice_get-last, slice_get-other, Each, Arrival, each_first, each_other, each_cons, each_push}
use Rattle.std.proofs.lemmas.Bool.{cases_eq}
use Rattle.cal_machine.proofs.ThreadNumbers.{first_next, next_le, task_there}
use Rattle.cal_trace.proofs.ListLemmas.EachLater.{later_push}
use Rattle.cal_load.proofs.Built.{built_from}

each_append : {X : Type 0} (P : X → Type 0) (xs ys : List X) → Each P xs → Each P ys → Each P (xs ++ ys)
each_append P [] ys h k = k
each_append P (x ∷ xs) ys h k = each_cons P x (xs ++ ys) (each_first P x xs h) (each_append P xs ys (each_other P x xs h) k)

pub more_push : (first after misses : ℕ) (old mid new : List Arrival) (x : Arrival) → HasMoreFor first after misses old mid → new ≡ mid ++ x ∷ [] → first ≤ x.thread
    → x.thread < after → x.request.misses ≡ misses → HasMoreFor first after misses old new
more_push first after misses old mid new x h is le lt missed = record {
  own = h.own ++ x ∷ [];
  more = is ∙ ap (λ l. l ++ x ∷ []) h.more ∙ append_assoc old h.own (x ∷ []);
  each = each_push (λ a. (first ≤ a.thread) × (a.thread < after)) h.own x h.each (le, lt);
  missed = each_push (λ a. a.request.misses ≡ misses) h.own x h.missed missed;
}

pub more_on : (first middle after misses : ℕ) (old mid new : List Arrival) → HasMoreFor first middle misses old mid → HasMoreFor middle after misses mid new → first ≤ middle
    → middle ≤ after → HasMoreFor first after misses old new
more_on first middle after misses old mid new a b le lt =
    let P : Arrival → Type 0 = λ a. (first ≤ a.thread) × (a.thread < after) in
    let early : Each P a.own = record { at = λ k x e. let own = a.each.at k x e in let is = own.1 in (own.0, omega (arith, is, lt)) } in
    let late : Each P b.own = record { at = λ k x e. let own = b.each.at k x e in let is = own.0 in (omega (arith, is, le), own.1) } in
    record {
      own = a.own ++ b.own;
      more = b.more ∙ ap (λ l. l ++ b.own) a.more ∙ append_assoc old a.own b.own;
      each = each_append P a.own b.own early late;
      missed = each_append (λ x. x.request.misses ≡ misses) a.own b.own a.missed b.missed;
    }

pub counted_push : (P : Count → List Arrival → Type 0) (counts : List Count) (count : Count) (requests own : List Arrival) → AreCountedBy P counts requests → P count own
    → AreCountedBy P (counts ++ count ∷ []) (requests ++ own)
counted_push P [] count requests own none is = (own, [], rw none (sym (append-nil own)), is, refl)
counted_push P (c ∷ counts) count requests own h is = (h.0, h.1 ++ own, ap (λ l. l ++ own) h.2 ∙ append_assoc h.0 h.1 own, h.3, counted_push P counts count h.1 own h.4 is)

has_more : (counts : List Count) (count : Count) (task : ℕ) → HasCount counts task → HasCount (counts ++ count ∷ []) task
has_more counts count task h =
    let within = slice_get_within counts h.place h.count h.at in
    record {
      place = h.place;
      count = h.count;
      at = slice_get-other counts count h.place (λ e. omega (arith, within, e)) ∙ h.at;
      is_of = h.is_of;
    }

counts_push : (loads : List TaskLoad) (n : ℕ) (counts : List Count) (count : Count) → AreCountsOf loads n counts → count.task ≡ n → AreCountsOf loads (n + 1) (counts ++ count ∷ [])
counts_push loads n counts count h is = record {
  below = each_push (λ c. c.task < n + 1) counts count (record { at = λ k c e. let lt = h.below.at k c e in omega (arith, lt) }) (omega (arith, is));
  rising = later_push (λ c later. c.task < later.task) counts count h.rising (record { at = λ k c e. let lt = h.below.at k c e in omega (arith, lt, is) });
  all = record { at = λ k load e lt. go k load e lt (cases_eq load.task n) };
}
  where
    go : (k : ℕ) (load : TaskLoad) → slice_get loads k ≡ Some load → load.task < n + 1 → (load.task ≡ n) ⊎ (load.task ≡ n → ⊥) → HasCount (counts ++ count ∷ []) load.task
    go k load e lt (inl same) = record { place = length counts; count = count; at = slice_get-last counts count; is_of = is ∙ sym same }
    go k load e lt (inr other) = has_more counts count load.task (h.all.at k load e (omega (arith, lt, other)))

counts_skip : (loads : List TaskLoad) (n : ℕ) (counts : List Count) → AreCountsOf loads n counts → Each (λ load. load.task ≢ n) loads → AreCountsOf loads (n + 1) counts
counts_skip loads n counts h none = record {
  below = record { at = λ k c e. let lt = h.below.at k c e in omega (arith, lt) };
  rising = h.rising;
  all = record { at = λ k load e lt. let other = none.at k load e in h.all.at k load e (omega (arith, lt, other)) };
}

-- nothing comes to the next task
pub gathered_skip : (table : Table) (loads : List TaskLoad) (turns n : ℕ) (gathered : Gathered) → n < length table.tasks → AreGathered table loads turns n gathered
    → Each (λ load. load.task ≢ n) loads → AreGathered table loads turns (n + 1) gathered
gathered_skip table loads turns n gathered lt h none = record {
  built = built_from (threads_in table.tasks) turns (first_thread table.tasks n) (first_thread table.tasks (n + 1)) gathered.requests.items
      (let next = first_next table.tasks n lt in omega (arith, next)) h.built;
  counts = counts_skip loads n gathered.counts.items h.counts none;
  counted = h.counted;
  few = h.few;
}

-- what comes to the next task is put
pub task_put : (table : Table) (turns n misses first : ℕ) (coming : Coming) (old new : Gathered) → n < length table.tasks → first ≡ first_thread table.tasks n
    → IsComingTo (task_at table.tasks n).limit turns coming → AreBuilt (threads_in table.tasks) turns (first_thread table.tasks n) old.requests.items
    → (put : IsPut n misses first coming old new)
    → AreBuilt (threads_in table.tasks) turns (first_thread table.tasks (n + 1)) new.requests.items × IsCountOf table misses (count_of n coming) put.own.own
task_put table turns n misses first coming old new lt at comes built put =
    let threads = threads_in table.tasks in
    let many = comes.queues in
    let next : first + length coming.queues.items ≡ first_thread table.tasks (n + 1) = let e = first_next table.tasks n lt in omega (arith, e, at, many) in
    let room : first + length coming.queues.items ≤ threads = let e = next_le table.tasks n lt in omega (arith, e, at, many) in
    let all = subst (λ (m : ℕ). All (IsQueue m) coming.queues.items) comes.ends comes.is.queues in
    let before = subst (λ (m : ℕ). AreBuilt threads turns m old.requests.items) (sym at) built in
    let few = comes.few in
    let limit : MOST_REQUESTS ≡ 1000000 = refl in
    let counted = comes.is.counted (omega (arith, few, limit)) in
    let long = ap (λ (l : List Arrival). length l) put.own.more ∙ length-append old.requests.items put.own.own in
    let more = put.many in (
      subst (λ (m : ℕ). AreBuilt threads turns m new.requests.items) next (put.built threads turns before room all),
      record {
        counted = omega (arith, long, more, counted);
        own = record {
          at = λ k a e.
              let within = put.own.each.at k a e in
              let from = within.0 in
              let below = within.1 in
              task_there table.tasks n a.thread lt (omega (arith, from, at)) (omega (arith, below, at, many));
        };
        missed = put.own.missed;
      },
    )

-- what comes to the next task by its load is put, where it is not too much
pub gathered_more : (table : Table) (loads : List TaskLoad) (turns n first : ℕ) (load : TaskLoad) (coming : Coming) (old new : Gathered) → n < length table.tasks
    → first ≡ first_thread table.tasks n → IsLoadOf loads n load → IsComingTo (task_at table.tasks n).limit turns coming → AreGathered table loads turns n old
    → IsPut n load.misses first coming old new → came_in old.counts.items + coming.came ≤ MOST_REQUESTS
    → AreGathered table loads turns (n + 1) new × (came_in new.counts.items ≡ came_in old.counts.items + coming.came)
gathered_more table loads turns n first load coming old new lt at asked comes h put few =
    let now = task_put table turns n load.misses first coming old new lt at comes h.built put in
    let count : Count = count_of n coming in
    let of : IsLoadCount table loads count put.own.own = record { load = load; asked = asked; of = now.1 } in
    let pushed = counted_push (IsLoadCount table loads) old.counts.items count old.requests.items put.own.own h.counted of in
    let came : came_in new.counts.items ≡ came_in old.counts.items + coming.came = ap came_in put.counts ∙ sum_by_push (λ (c : Count). c.came) old.counts.items count in (
      record {
        built = now.0;
        counts = subst (λ (l : List Count). AreCountsOf loads (n + 1) l) (sym put.counts) (counts_push loads n old.counts.items count h.counts refl);
        counted = rw (put.counts, put.own.more) pushed;
        few = omega (arith, came, few);
      },
      came,
    )
