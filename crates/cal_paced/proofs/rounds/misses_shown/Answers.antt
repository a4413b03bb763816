use Rattle.cal_paced.proofs.Common.{◌+◌, ℕ, take, sym, ap, ◌∙◌, arith, take_all, sum_by_more, Worker, Record, misses_of, last_record}
use Rattle.cal_paced.proofs.rounds.misses_shown.Goals as goal

pub loop-worker-preserved : goal.loop-worker-preserved
loop-worker-preserved c =
    let workers = c.args.workers.now in
    let i : ℕ = c.loop-worker.worker-index in
    let w : Worker = c.worker-item.result in
    let low = c.loop-worker-test.true in
    let last = ap (λ (r : Record). r.misses) c.last_record-misses.ensures.last in
    let so_far = c.loop-worker.invariant.shown in
    let few = c.loop-worker.invariant.few in
    let shaped = c.last_record-misses.ensures.shaped.1 in
    record {
      shown = (λ k. so_far k + last k) ∙ ap (λ (v : Worker). misses_of (take i workers) + (last_record v.thread).misses) c.worker-item.is
          ∙ sym (sum_by_more (λ (v : Worker). (last_record v.thread).misses) workers i w (omega (arith, low)));
      few = omega (arith, few, shaped);
    }

pub returns : goal.returns
returns c =
    let end = c.loop-worker-test.false in
    c.loop-worker.invariant.shown ∙ ap misses_of (take_all c.loop-worker.worker-index c.args.workers.now (omega (arith, end)))
