use Rattle.std.proofs.Common.{◌<◌, sym, ◌∙◌, arith}
use Rattle.cal_policy.proofs.PassLemmas.Bandwidth.{lowest_none, lowest_found}
use Rattle.cal_view.specs.Guarantees.{waits_behind}
use Rattle.cal_view.proofs.jobs.checking.guarantees.least_before.Goals as goal

pub loop-u-preserved : goal.loop-u-preserved
loop-u-preserved c =
    lowest_none (waits_behind c.args.config.now c.args.t) c.loop-u.u c.loop-u.invariant
    (sym c.waits_behind.ensures ∙ c.if-waits_behind.false)

pub returns-then-waits_behind-clause-least : goal.returns-then-waits_behind-clause-least
returns-then-waits_behind-clause-least c =
    let lt : c.loop-u.u < c.args.t = omega arith in
    sym (lowest_found (waits_behind c.args.config.now c.args.t) c.loop-u.u c.args.t lt
    c.loop-u.invariant (sym c.waits_behind.ensures ∙ c.if-waits_behind.true))
