use Rattle.cal_kthread.proofs.Common.{◌≡◌, ◌++◌, length, map, into_iter_items, into_iter_len, KeepsItsWork, HandedOutNothing, EndView, Each, place_of, place_of_rest, KernelView}
use Rattle.cal_kthread.proofs.end.ending.end_all.Given as goal

abbrev pub invariant-loop-thread : goal.invariant-loop-thread
invariant-loop-thread l = record {
  whole : l.yielded ++ into_iter_items l.thread-iterator ≡ into_iter_items l.initial.thread-iterator;
  places : map (λ (e : EndView). place_of_rest e.rest) l.ends.items ≡ map (λ (t : KernelView). place_of t.thread) l.yielded;
  journals : map (λ (e : EndView). e.journal) l.ends.items ≡ map (λ (t : KernelView). t.journal) l.yielded;
  work : Each KeepsItsWork l.ends.items;
  untouched : Each HandedOutNothing l.ends.items;
  len : into_iter_len l.thread-iterator ≡ length (into_iter_items l.thread-iterator);
}
