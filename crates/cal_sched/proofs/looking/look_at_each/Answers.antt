use Rattle.cal_sched.proofs.Common.{◌≡◌, ◌<◌, Some, slice_get, refl, sym, ◌∙◌, length, arith, slice_get_read, ObserverView, HasLooked, some_same}
use Rattle.cal_sched.proofs.Below.{Below-none, Below-more}
use Rattle.cal_sched.proofs.looking.look_at_each.Goals as goal

pub loop-k-init : goal.loop-k-init
loop-k-init c = record {
  below = rw c.requires.empty (Below-none HasLooked c.args.observers.now);
  room = c.requires.room;
  same = refl;
}

pub loop-k-preserved : goal.loop-k-preserved
loop-k-preserved c =
    let before = c.args.observers.now in
    let now = c.loop-k.observers in
    let k = c.loop-k.k in
    let within : k < length now = omega arith in
    let was : ObserverView = c.index-observers-k.result in
    let at : slice_get now k ≡ Some was = slice_get_read now (length now) k was refl within c.index-observers-k.is in
    let looked : HasLooked was c.observe-look.new.self c.observe-look.result = rw c.index-observers-k.is (record {
      page = c.observe-look.ensures.page;
      looks = c.observe-look.ensures.looks;
      found = c.observe-look.ensures.found;
    }) in
    record {
      below = rw c.push_reserved.ensures.items (Below-more HasLooked k before now c.loop-k.looks.items c.observe-look.new.self c.observe-look.result c.loop-k-test.true c.loop-k.invariant.below
          (λ one e. rw (some_same one was (sym e ∙ at)) looked));
      room = omega (arith, c.loop-k.invariant.room, c.push_reserved.ensures.capacity);
      same = c.push_reserved.ensures.capacity ∙ c.loop-k.invariant.same;
    }

pub returns : goal.returns
returns c =
    let below = c.loop-k.invariant.below in
    let count : length c.loop-k.looks.items ≡ c.loop-k.k = below.count in
    let ge = c.loop-k-test.false in
    record {
      looked = record { observers = below.same_many; one_each = omega arith; each = below.each };
      capacity = c.loop-k.invariant.same;
    }
