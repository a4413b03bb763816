-- The record is on a core of the machine.
use Rattle.std.proofs.Common.{◌≤◌, ◌<◌, ◌^◌, ◌∙◌, ap, not, arith}
use Rattle.cal_policy.proofs.HistoryLemmas.Acknowledged.{foreign_on}
use Rattle.cal_policy.proofs.judgement.judging.is_elsewhere.Goals as goal

pub returns : goal.returns
returns c = λ x a.
    let lt : c.args.rec.taken < 2 ^ 64 = omega arith in
    let within : c.args.rec.running ≤ c.args.cores = omega arith in
    ap not c.is_acknowledged.ensures
    ∙ foreign_on c.args.cores x c.args.k c.args.rec _ lt c.if-rec-eq0.false within (a.holders _ (omega arith))
