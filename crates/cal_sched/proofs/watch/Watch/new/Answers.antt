use Rattle.cal_sched.proofs.Common.{◌≡◌, ◌≤◌, [], length, arith, ◌∙◌, ap, vec_capacity, HaveWatched}
use Rattle.cal_sched.proofs.Watched.{HaveWatched-none}
use Rattle.cal_sched.proofs.watch.Watch.new.Goals as goal

pub invariant_of-result : goal.invariant_of-result
invariant_of-result c =
    let given : c.of-given.result.value ≡ c.args.observers = c.of-given.ensures in
    let len : c.len.result ≡ length c.args.observers.items = c.len.ensures ∙ c.args.observers.ok.0 in
    let none : c.in-Ok.rounds.items ≡ [] = c.in-Ok.ensures.none in
    let watched : HaveWatched c.of-given.result.value.items c.args.observers.items c.in-Ok.rounds.items =
    rw (given, none) (HaveWatched-none c.args.observers.items) in
    let count : length c.in-Ok.spare.items ≡ c.args.rounds = c.in-Ok.ensures.count in
    let room : c.args.rounds ≤ vec_capacity c.in-Ok.rounds = c.in-Ok.ensures.list in
    let zero : length c.in-Ok.rounds.items ≡ 0 = ap length none in
    (watched, rw (← len) c.in-Ok.ensures.each, omega (arith, count, room, zero))
