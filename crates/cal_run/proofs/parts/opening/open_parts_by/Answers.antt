use Rattle.cal_run.proofs.Common.{◌≡◌, List, length, ap, ◌∙◌, arith, IfOk-weaker, GivenPass, rounds_of, Parts}
use Rattle.cal_run.proofs.parts.opening.open_parts_by.Goals as goal

pub returns-clause-most : goal.returns-clause-most
returns-clause-most c =
    let arrivals = c.args.arrivals.now in
    let passes = ap (λ (l : List GivenPass). length l) c.as_slice.ensures in
    let rounds : c.min-rounds.result ≡ rounds_of arrivals = omega (arith, passes, c.min-rounds.ensures) in
    IfOk-weaker c.open_parts_for.result _ (λ (parts : Parts). parts.watch.most ≡ rounds_of arrivals) (λ parts most. most ∙ rounds) c.open_parts_for.ensures.most
