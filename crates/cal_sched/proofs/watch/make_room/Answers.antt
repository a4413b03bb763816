use Rattle.cal_sched.proofs.Common.{◌≡◌, inl, inr, [], ◌∷◌, ◌++◌, length, arith, rules, length-append, last_or_before}
use Rattle.cal_sched.proofs.watch.make_room.Goals as goal

pub loop-init : goal.loop-init
loop-init c =
    let none : c.in_ok-spare.spare.items ≡ [] = c.in_ok-spare.ensures.items in
    record {
      count = rw none (search rules);
      room = c.in_ok-spare.ensures.capacity;
      each = rw none (λ i list e. absurd (cc));
    }

pub loop-preserved : goal.loop-preserved
loop-preserved c =
    let spare = c.loop.spare.items in
    let looks = c.in_ok-looks.looks in
    let items : c.push_reserved.new.self.items ≡ spare ++ looks ∷ [] = c.push_reserved.ensures.items in
    let count : length spare ≡ c.loop.counter = c.loop.invariant.count in
    record {
      count = rw items (omega (arith, length-append spare (looks ∷ [])));
      room = omega (arith, c.loop.invariant.room, c.push_reserved.ensures.capacity);
      each = rw items (λ i list e. elim (last_or_before spare looks list i e) [
        | inl h ↦ c.loop.invariant.each i list h.1
        | inr h ↦ rw (← h.1) (c.in_ok-looks.ensures.items, c.in_ok-looks.ensures.capacity)
      ]);
    }
