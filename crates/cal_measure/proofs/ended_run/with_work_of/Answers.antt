use Rattle.cal_measure.proofs.Common.{◌<◌, sym, subst, arith, AreTotalsOf, journal_of, stolen_at, suspensions_at, worked_at, ThreadTotals}
use Rattle.cal_machine.specs.Limits.{most_threads-is}
use Rattle.cal_measure.proofs.TotalsOfEach.{more_within, more_work, no_totals, none_more, totals_at}
use Rattle.cal_measure.proofs.ended_run.with_work_of.Goals as goal

pub returns-in-Some-clause-work : goal.returns-in-Some-clause-work
returns-in-Some-clause-work c = λ last journals n times stolen stamps each low within are.
    let k = c.args.thread in
    let more = c.in-Some.totals.now in
    let found = c.in-Some.ensures.lookup in
    let told : AreTotalsOf last (journal_of journals k) more =
    subst (λ (totals : ThreadTotals). AreTotalsOf last (journal_of journals k) totals) (sym found.1) (totals_at last journals c.args.threads.now k more each found.3.0) in
    let few : n < 128 = let most = most_threads-is in omega (arith, low, most) in
    more_work n times stolen stamps (worked_at last journals k) (stolen_at journals k) (suspensions_at journals k) c.args.work more.work _ few within told.within are told.work
    (λ fits. let e = c.saturating_add.ensures in omega (arith, e, fits))
    (λ fits. let e = c.saturating_add-in-Some.ensures in omega (arith, e, fits))
    (λ fits. let e = c.saturating_add-in-Some-2.ensures in omega (arith, e, fits))

pub returns-in-Some-clause-within : goal.returns-in-Some-clause-within
returns-in-Some-clause-within c = λ last journals n each low within.
    let k = c.args.thread in
    let more = c.in-Some.totals.now in
    let found = c.in-Some.ensures.lookup in
    let told : AreTotalsOf last (journal_of journals k) more =
    subst (λ (totals : ThreadTotals). AreTotalsOf last (journal_of journals k) totals) (sym found.1) (totals_at last journals c.args.threads.now k more each found.3.0) in
    more_within n c.args.work more.work _ within told.within
    (let e = c.saturating_add.ensures in omega (arith, e))
    (let e = c.saturating_add-in-Some.ensures in omega (arith, e))
    (let e = c.saturating_add-in-Some-2.ensures in omega (arith, e))

pub returns-in-None-clause-work : goal.returns-in-None-clause-work
returns-in-None-clause-work c = λ last journals n times stolen stamps each low within are.
    none_more last (journal_of journals c.args.thread) times stolen stamps c.args.work (no_totals last journals c.args.threads.now c.args.thread each c.in-None.ensures.lookup.3) are
