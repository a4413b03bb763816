use Rattle.cal_run.proofs.Common.{List, ap, length, ◌∙◌, arith, Look, rounds_of}
use Rattle.cal_run.proofs.OutcomeLemmas.Filled.{filled_whole}
use Rattle.cal_run.proofs.RoundsLemmas.Rounds.{may_be_ended}
use Rattle.cal_run.proofs.closing.end_parts.Goals as goal

pub end_run-requires-clause-made : goal.end_run-requires-clause-made
end_run-requires-clause-made c =
    let arrivals = c.args.arrivals.now in
    may_be_ended c.args.config.now arrivals (rounds_of arrivals) c.args.parts (omega arith) c.requires.parts

-- all rounds were made
pub returns-clause-run : goal.returns-clause-run
returns-clause-run c =
    let collected = c.requires.collected in
    let end = c.in_ok-left.ensures in
    let whole = filled_whole c.args.config.now c.args.arrivals.now c.in_ok-left.field-0.watched (ap (λ (l : List (List Look)). length l) end.watched ∙ c.requires.parts.rounds) in
    rw (c.new.ensures, c.new-2.ensures, collected.history, collected.journals, ← whole) end.run
