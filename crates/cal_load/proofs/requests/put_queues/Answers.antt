use Rattle.cal_load.proofs.Common.{◌≡◌, ◌<◌, ◌+◌, ℕ, length, get_or, ap, sym, subst, arith, All-get_or, sum_by_more, AreBuilt, HasMoreFor, IsQueue, Queue}
use Rattle.cal_load.proofs.Counted.{more_on}
use Rattle.cal_load.proofs.requests.put_queues.Goals as goal

pub loop-place-preserved : goal.loop-place-preserved
loop-place-preserved c =
    let first = c.args.first in
    let queues = c.args.queues.now in
    let i = c.loop-place.place in
    let new = c.put_queue.new.requests.items in
    let queue : Queue = c.index-queues-place.result in
    let is : queue ≡ get_or queues i queue = c.index-queues-place.is in
    let lt : i < length queues = let test = c.loop-place-test.true in omega (arith, test) in
    let next : first + i + 1 ≡ first + (i + 1) = omega arith in
    record {
      built = λ threads turns b below all.
          let of = subst (λ (q : Queue). IsQueue turns q) (sym is) (All-get_or (IsQueue turns) queues i queue lt all) in
          subst (λ (n : ℕ). AreBuilt threads turns n new) next
          (c.in_ok-put_queue.ensures.put threads turns (c.loop-place.invariant.built threads turns b below all) (omega (arith, lt, below)) of);
      own = more_on first (first + i) (first + (i + 1)) c.args.misses c.args.requests.now.items c.loop-place.requests.items new c.loop-place.invariant.own
          (subst (λ (n : ℕ). HasMoreFor (first + i) n c.args.misses c.loop-place.requests.items new) next c.in_ok-put_queue.ensures.own) (omega arith) (omega arith);
      many =
          let long = c.in_ok-put_queue.ensures.many in
          let before = c.loop-place.invariant.many in
          let size = ap (λ (q : Queue). length q.slots.items) is in
          let sum = sum_by_more (λ (q : Queue). length q.slots.items) queues i queue lt in
          omega (arith, long, before, size, sum);
    }
