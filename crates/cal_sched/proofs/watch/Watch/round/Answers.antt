use Rattle.cal_sched.proofs.Common.{rules, ◌≡◌, ◌≤◌, ◌+◌, [], length, List, ◌∷◌, ◌++◌, ap, ◌∙◌, arith, take, drop, length-append, vec_capacity, Look, WatchView, HaveWatched}
use Rattle.std.specs.declared.vec.Vec.{Vec}
use Rattle.std.specs.declared.alloc.Global.{Global}
use Rattle.cal_sched.proofs.Lists.{taken_off, written_whole}
use Rattle.cal_sched.proofs.Watched.{HaveWatched-more}
use Rattle.cal_sched.proofs.watch.Watch.round.Goals as goal

pub look_at_each-requires : goal.look_at_each-requires
look_at_each-requires c =
    let pages = length c.self.inside.observers.items in
    let P = λ (list : Vec Look Global). (list.items ≡ []) × (pages ≤ vec_capacity list) in
    let items : c.self.inside.spare.items ≡ c.pop.new.self.items ++ c.in-Some.looks ∷ [] = c.in-Some.ensures.items in
    let off = taken_off P c.self.inside.spare.items c.pop.new.self.items c.in-Some.looks items c.self.invariant.1 in
    record { empty = off.0.0; room = rw c.as_mut_slice.ensures.value off.0.1 }

pub invariant_of-self : goal.invariant_of-self
invariant_of-self c =
    let old = c.self.inside.observers in
    let new = c.look_at_each.new.observers in
    let pages = length old.items in
    let same : c.as_mut_slice.result.now ≡ old.items = c.as_mut_slice.ensures.value in
    let many : length new ≡ length old.items = c.look_at_each.ensures.looked.observers ∙ ap length same in
    let whole : take old.len (new ++ drop (length new) old.items) ≡ new = written_whole old.len new old.items old.ok.0 many in
    let P = λ (list : Vec Look Global). (list.items ≡ []) × (pages ≤ vec_capacity list) in
    let items : c.self.inside.spare.items ≡ c.pop.new.self.items ++ c.in-Some.looks ∷ [] = c.in-Some.ensures.items in
    let off = taken_off P c.self.inside.spare.items c.pop.new.self.items c.in-Some.looks items c.self.invariant.1 in
    let round = c.look_at_each.new.looks.items in
    let rounds : c.push_reserved.new.self.items ≡ c.self.inside.rounds.items ++ round ∷ [] =
    c.push_reserved.ensures.items ∙ ap (λ (r : List Look). c.self.inside.rounds.items ++ r ∷ []) c.new.ensures in
    let watched : HaveWatched c.self.inside.given.value.items new (c.self.inside.rounds.items ++ round ∷ []) =
    HaveWatched-more c.self.inside.given.value.items old.items new c.self.inside.rounds.items round c.self.invariant.0 (rw same at c.look_at_each.ensures.looked) in
    let fewer : length c.self.inside.spare.items ≡ length c.pop.new.self.items + 1 = ap length items ∙ length-append c.pop.new.self.items (c.in-Some.looks ∷ []) in
    let more : length c.push_reserved.new.self.items ≡ length c.self.inside.rounds.items + 1 = ap length rounds ∙ length-append c.self.inside.rounds.items (round ∷ []) in
    let room : length c.self.inside.rounds.items + length c.self.inside.spare.items ≤ vec_capacity c.self.inside.rounds = c.self.invariant.2 in
    let capacity : vec_capacity c.push_reserved.new.self ≡ vec_capacity c.self.inside.rounds = c.push_reserved.ensures.capacity in (
      rw (whole, rounds) watched,
      (λ i list e. let l = off.1 i list e in (l.0, rw (whole, many) l.1)),
      omega (arith, fewer, more, room, capacity),
    )

pub returns-in-Some : goal.returns-in-Some
returns-in-Some c =
    let is : ◌≡◌ {A = WatchView} (record {
      given = c.self.inside.given.value.items;
      observers = c.self.inside.observers.items;
      rounds = c.self.inside.rounds.items;
      most = length c.self.inside.rounds.items + length c.self.inside.spare.items;
    }) c.args.self.now = c.self.view_is in
    let items : c.self.inside.spare.items ≡ c.pop.new.self.items ++ c.in-Some.looks ∷ [] = c.in-Some.ensures.items in
    let round = c.look_at_each.new.looks.items in
    let rounds : c.push_reserved.new.self.items ≡ c.self.inside.rounds.items ++ round ∷ [] =
    c.push_reserved.ensures.items ∙ ap (λ (r : List Look). c.self.inside.rounds.items ++ r ∷ []) c.new.ensures in
    let fewer : length c.self.inside.spare.items ≡ length c.pop.new.self.items + 1 = ap length items ∙ length-append c.pop.new.self.items (c.in-Some.looks ∷ []) in
    let more : length c.push_reserved.new.self.items ≡ length c.self.inside.rounds.items + 1 = ap length rounds ∙ length-append c.self.inside.rounds.items (round ∷ []) in
    let old = c.self.inside.observers in
    let new = c.look_at_each.new.observers in
    let same : c.as_mut_slice.result.now ≡ old.items = c.as_mut_slice.ensures.value in
    let many : length new ≡ length old.items = c.look_at_each.ensures.looked.observers ∙ ap length same in
    let whole : take old.len (new ++ drop (length new) old.items) ≡ new = written_whole old.len new old.items old.ok.0 many in
    let was_rounds : c.self.inside.rounds.items ≡ c.args.self.now.rounds = ap (λ (w : WatchView). w.rounds) is in
    let was_most : length c.self.inside.rounds.items + length c.self.inside.spare.items ≡ c.args.self.now.most = ap (λ (w : WatchView). w.most) is in
    let was_many : length c.self.inside.rounds.items ≡ length c.args.self.now.rounds = ap length was_rounds in
    let was_observers : old.items ≡ c.args.self.now.observers = ap (λ (w : WatchView). w.observers) is in
    record {
      exactly = (λ _. omega (arith, fewer, was_most, was_many), λ _. search rules);
      round = record {
        round = round;
        rounds = rounds ∙ ap (λ (w : WatchView). w.rounds ++ round ∷ []) is;
        looked = rw (whole, ← was_observers, ← same) c.look_at_each.ensures.looked;
        given = ap (λ (w : WatchView). w.given) is;
        most = omega (arith, fewer, more, was_most);
      };
    }
