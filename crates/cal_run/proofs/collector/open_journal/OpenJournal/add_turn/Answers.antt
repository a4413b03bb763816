use Rattle.std.proofs.Common.{◌≡◌, Some, ap, ◌∙◌}
use Rattle.cal_kthread.specs.Turn.{noted}
use Rattle.cal_kthread.proofs.TurnLemmas.Turns.{noted-turn}
use Rattle.cal_run.proofs.collector.open_journal.OpenJournal.add_turn.Goals as goal

pub returns : goal.returns
returns c =
    let view = c.self.view_is in
    let seen : c.self.inside.entries.items ≡ c.add_step-4.new.self = cc in
    let first = c.in_ok-add_step.ensures in
    let second = c.in_ok-add_step-2.ensures ∙ ap (λ l. noted l c.taking.result) first in
    let third = c.in_ok-add_step-3.ensures ∙ ap (λ l. noted l c.theft.result) second in
    let fourth = c.in_ok-add_step-4.ensures ∙ ap (λ l. noted l c.work.result) third in
    c.in_ok-push.ensures.items ∙ ap (λ l. noted l (Some c.publication.result)) (seen ∙ fourth)
    ∙ noted-turn c.args.self.now c.args.entries.now c.arrival.ensures c.taking.ensures c.theft.ensures c.work.ensures c.publication.ensures
