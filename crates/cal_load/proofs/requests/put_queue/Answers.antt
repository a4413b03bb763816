use Rattle.cal_load.proofs.Common.{◌≡◌, ◌<◌, ◌≤◌, ◌+◌, ◌++◌, ◌∷◌, [], List, length, length-append, ap, sym, arith, append-nil, Arrival, each_none}
use Rattle.cal_load.specs.declared.making.Slot.{Slot}
use Rattle.cal_load.proofs.Built.{put_more}
use Rattle.cal_load.proofs.Counted.{more_push}
use Rattle.cal_load.proofs.requests.put_queue.Goals as goal

pub loop-place-init : goal.loop-place-init
loop-place-init c = record {
  built = λ threads turns b below queue. b;
  own = record { own = []; more = sym (append-nil c.args.requests.now.items); each = each_none (λ a. (c.args.thread ≤ a.thread) × (a.thread < c.args.thread + 1)); missed = each_none (λ a. a.request.misses ≡ c.args.misses) };
  many = omega arith;
}

pub loop-place-preserved : goal.loop-place-preserved
loop-place-preserved c =
    let thread = c.args.thread in
    let slots = c.args.queue.now.slots.items in
    let i = c.loop-place.place in
    let old = c.loop-place.requests.items in
    let new = c.push.new.self.items in
    let arrival : Arrival = c.arrival_of.result in
    let same : c.as_slice-slots.result.now ≡ slots = c.as_slice-slots.ensures.value in
    let size = ap (λ (l : List Slot). length l) same in
    let lt : i < length slots = let test = c.loop-place-test.true in let len = c.as_slice-slots.ensures.len in omega (arith, test, len, size) in
    let more : new ≡ old ++ arrival ∷ [] = c.in_ok-push.ensures.items in
    let of_thread = ap (λ (a : Arrival). a.thread) c.arrival_of.ensures.is in
    let id = ap (λ (a : Arrival). a.request.id) c.arrival_of.ensures.is in
    let missed = ap (λ (a : Arrival). a.request.misses) c.arrival_of.ensures.is in
    let count = c.len.ensures in
    record {
      built = λ threads turns b below queue.
          put_more threads turns thread i slots c.as_slice-slots.result.now _ old new arrival same lt below queue.each queue.rising of_thread
          (ap (λ (a : Arrival). a.turn) c.arrival_of.ensures.is) (ap (λ (a : Arrival). a.request.work) c.arrival_of.ensures.is) (let few = c.arrival_of.ensures.few in omega (arith, missed, few))
          (omega (arith, id, count)) (let word = c.arrival_of.ensures.word in omega (arith, id, word)) more (c.loop-place.invariant.built threads turns b below queue);
      own = more_push thread (thread + 1) c.args.misses c.args.requests.now.items old new arrival c.loop-place.invariant.own more (omega (arith, of_thread)) (omega (arith, of_thread)) missed;
      many = let long = ap (λ (l : List Arrival). length l) more in let before = c.loop-place.invariant.many in omega (arith, long, before, length-append old (arrival ∷ []));
    }
