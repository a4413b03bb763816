use Rattle.cal_load.proofs.Common.{◌≡◌, ◌<◌, length, get_or, ap, sym, subst, arith, All-get_or, All-set, sum_by-set, IsQueue, taken_in, Queue}
use Rattle.cal_load.proofs.making.Coming.give.Goals as goal

pub returns-in-None-clause-is : goal.returns-in-None-clause-is
returns-in-None-clause-is c =
    let old = c.args.self.now in
    let queues = old.queues.items in
    let place = c.args.thread in
    let queue : Queue = c.index_mut.result.now in
    let more : Queue = c.take.new.self in
    let lt : place < length queues = c.requires.thread in
    let is : queue ≡ get_or queues place queue = c.index_mut.ensures.value in
    let was = subst (λ (q : Queue). IsQueue old.turns q) (sym is) (All-get_or (IsQueue old.turns) queues place queue lt c.requires.is.queues) in
    record {
      queues = All-set (IsQueue old.turns) queues place more (c.in_ok-taken.ensures.kept was c.requires.work) c.requires.is.queues;
      counted = λ low.
          let came = c.saturating_add-self.ensures in
          let out = c.saturating_add-self-in-None.ensures in
          let before = c.requires.is.counted (omega (arith, came, low)) in
          let none = ap taken_in c.in-None.is in
          let many = c.in_ok-taken.ensures.many in
          let sum = sum_by-set (λ (q : Queue). length q.slots.items) queues place more queue lt in
          let same = ap (λ (q : Queue). length q.slots.items) is in
          omega (arith, came, out, low, before, none, many, sum, same);
    }

pub returns-in-Some-clause-is : goal.returns-in-Some-clause-is
returns-in-Some-clause-is c =
    let old = c.args.self.now in
    let queues = old.queues.items in
    let place = c.args.thread in
    let queue : Queue = c.index_mut.result.now in
    let more : Queue = c.take.new.self in
    let lt : place < length queues = c.requires.thread in
    let is : queue ≡ get_or queues place queue = c.index_mut.ensures.value in
    let was = subst (λ (q : Queue). IsQueue old.turns q) (sym is) (All-get_or (IsQueue old.turns) queues place queue lt c.requires.is.queues) in
    record {
      queues = All-set (IsQueue old.turns) queues place more (c.in_ok-taken.ensures.kept was c.requires.work) c.requires.is.queues;
      counted = λ low.
          let came = c.saturating_add-self.ensures in
          let before = c.requires.is.counted (omega (arith, came, low)) in
          let one = ap taken_in c.in-Some.is in
          let many = c.in_ok-taken.ensures.many in
          let sum = sum_by-set (λ (q : Queue). length q.slots.items) queues place more queue lt in
          let same = ap (λ (q : Queue). length q.slots.items) is in
          omega (arith, came, low, before, one, many, sum, same);
    }
