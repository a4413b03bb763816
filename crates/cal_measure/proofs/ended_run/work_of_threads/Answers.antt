use Rattle.cal_measure.proofs.Common.{◌≡◌, ◌<◌, ◌+◌, ◌++◌, ◌∙◌, ℕ, List, length, ap, subst, arith, sum, limit_of, thread_of, joined_below, IsWorkOf, stolen_at, suspensions_at, worked_at}
use Rattle.cal_machine.specs.declared.numbering.TheConstants.{MOST_THREADS}
use Rattle.cal_measure.proofs.Steps.{joined_more}
use Rattle.cal_measure.proofs.TotalsOfEach.{same_work}
use Rattle.cal_measure.proofs.ended_run.work_of_threads.Goals as goal

pub loop-j-preserved : goal.loop-j-preserved
loop-j-preserved c = λ last journals each.
    let table = c.args.config.now in
    let t = c.args.task in
    let j = c.loop-j.j in
    let times : ℕ → List ℕ = λ i. worked_at last journals (thread_of table t i) in
    let stolen : ℕ → List ℕ = λ i. stolen_at journals (thread_of table t i) in
    let stamps : ℕ → List ℕ = λ i. suspensions_at journals (thread_of table t i) in
    let all = c.with_work_of-work.result in
    let before = c.loop-j.invariant last journals each in
    let low : j < MOST_THREADS =
    let here = c.loop-j-test.true in let within = c.threads_of-first.ensures.within in let few = c.limits.ensures.threads in omega (arith, here, within, few) in
    let P : ℕ → Type 0 = λ k. IsWorkOf (joined_below times j ++ worked_at last journals k) (joined_below stolen j ++ stolen_at journals k) (joined_below stamps j ++ suspensions_at journals k) all in
    let now : P (thread_of table t j) =
    subst P (ap (λ n. n + j) c.threads_of-first.ensures.first)
    (c.with_work_of-work.ensures.work last journals j (joined_below times j) (joined_below stolen j) (joined_below stamps j) each low before.0 before.1) in (
      c.with_work_of-work.ensures.within last journals j each low before.0,
      same_work _ _ _ _ _ _ all (joined_more times j) (joined_more stolen j) (joined_more stamps j) now,
    )

pub returns : goal.returns
returns c = λ last journals each.
    let table = c.args.config.now in
    let t = c.args.task in
    let times : ℕ → List ℕ = λ i. worked_at last journals (thread_of table t i) in
    let stolen : ℕ → List ℕ = λ i. stolen_at journals (thread_of table t i) in
    let stamps : ℕ → List ℕ = λ i. suspensions_at journals (thread_of table t i) in
    let are = (c.loop-j.invariant last journals each).1 in
    let same : c.loop-j.j ≡ limit_of table t =
    let past = c.loop-j-test.false in let count = c.threads_of-first.ensures.count in let end = c.loop-j.auto.j-end in omega (arith, past, count, end) in
    record {
      worked = are.worked ∙ ap (λ n. sum (joined_below times n)) same;
      thefts = are.thefts ∙ ap (λ n. length (joined_below stolen n)) same;
      suspensions = are.suspensions ∙ ap (λ n. length (joined_below stamps n)) same;
    }
