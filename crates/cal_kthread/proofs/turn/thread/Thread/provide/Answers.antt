use Rattle.cal_kthread.proofs.Common.{◌≡◌, ◌<◌, ◌∙◌, sym, subst, ap, not, length, get_or, Some, arith, ThreadView, provided}
use Rattle.cal_kthread.specs.contracts.turn.thread.Thread.{the_view}
use Rattle.cal_kthread.proofs.TurnLemmas.Robbing.{length-robbed, number-robbed}
use Rattle.cal_kthread.proofs.TurnLemmas.Stepping.{providing-stolen}
use Rattle.cal_kthread.proofs.turn.thread.Thread.provide.Goals as goal

pub index-requires : goal.index-requires
index-requires c =
    let within = c.in_ok-place.ensures.0 in
    let same : length c.steal_first.new.sources.items ≡ length c.self.inside.sources.items = ap length c.in_ok-place.ensures.1 ∙ length-robbed c.self.inside.sources.items c.in_ok-place.place c.in_ok-place.waiting in
    let counted = c.steal_first.new.sources.ok.0 in omega arith

pub returns-clause-provided : goal.returns-clause-provided
returns-clause-provided c =
    let within = c.in_ok-place.ensures.0 in
    let robbery = c.in_ok-place.ensures.1 in
    let next = c.in_default.ensures in (
      next.0,
      Some (c.in_ok-place.place, c.in_ok-place.waiting),
      subst (λ (t : ThreadView). c.in_ok-place.place < length t.sources) c.self.view_is within,
      providing-stolen c.args.now (the_view c.self.inside) next.0 (c.is_none.ensures ∙ ap not c.if-is_none.false) (sym c.is_some.ensures ∙ c.if-is_some.false) c.next.new.front c.next.new.queue next.1 next.2
          c.begin-2.result c.in_ok-place.place c.in_ok-place.waiting c.steal_first.new.sources.items c.index.result.now.number next.3 robbery c.begin-2.ensures
          (number-robbed c.self.inside.sources.items c.in_ok-place.place c.index.result.now c.in_ok-place.waiting within
          (c.index.ensures ∙ ap (λ vs. get_or vs c.in_ok-place.place c.index.result.now) robbery))
          ∙ ap (provided c.args.now next.0 (Some (c.in_ok-place.place, c.in_ok-place.waiting))) c.self.view_is,
    )
