use Rattle.cal_kthread.proofs.Common.{rules, ◌<◌, length, set, ap, ◌∙◌, robbed}
use Rattle.cal_kthread.proofs.TurnLemmas.Robbing.{robbed-is}
use Rattle.cal_kthread.proofs.turn.sources.steal_first.Goals as goal

pub returns-in-Some : goal.returns-in-Some
returns-in-Some c =
    let within : c.loop-place.place < length c.loop-place.sources.items = search rules in
    let stolen = c.in-Some.ensures in (
      search rules,
      ap (λ z. set c.loop-place.sources.items c.loop-place.place (record { number = c.index_mut-source.result.now.number; thief = z })) stolen
          ∙ (robbed-is c.loop-place.sources.items c.loop-place.place c.index_mut-source.result.now c.in-Some.waiting within c.index_mut-source.ensures.value
          ∙ ap (λ z. robbed z c.loop-place.place c.in-Some.waiting) c.loop-place.invariant),
    )
