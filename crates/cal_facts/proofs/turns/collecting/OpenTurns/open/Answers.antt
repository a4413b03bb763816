use Rattle.std.proofs.Common.{◌∙◌, sym}
use Rattle.cal_run.proofs.CollectorLemmas.Opened.{all_empty}
use Rattle.cal_facts.proofs.turns.collecting.OpenTurns.open.Goals as goal

pub returns : goal.returns
returns c =
    let kept = c.in_ok-kept.kept in
    sym (all_empty kept.journals.items _ (c.in_ok-kept.ensures.count ∙ c.threads.ensures.count) c.in_ok-kept.ensures.empty)
