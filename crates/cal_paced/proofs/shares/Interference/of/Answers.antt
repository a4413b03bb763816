use Rattle.cal_paced.proofs.Common.{◌≡◌, ◌<◌, ◌+◌, ◌&&◌, not, ℕ, List, length, map, take, get_or, refl, sym, ap, ◌∙◌, if◌then◌else◌, arith, nat_lt, get_or-map, length-map, take_all, would_bring, KernelView, has, MOST_CORES, Worker, Record, all_bring, brings, is_at_work, is_at_work_on, is_beside_work, last_record, memory_part}
use Rattle.cal_machine.specs.Machine.{sibling_of}
use Rattle.cal_paced.proofs.Beside.{and-true, beside-more, bring-more}
use Rattle.cal_paced.proofs.shares.Interference.of.Goals as goal

pub loop-worker-init : goal.loop-worker-init
loop-worker-init c = record {
  clear = λ core. c.requires core ∙ sym (and-true (nat_lt core MOST_CORES));
  brought = refl;
  few = omega arith;
}

pub loop-worker-preserved : goal.loop-worker-preserved
loop-worker-preserved c =
    let workers = c.args.workers.now in
    let threads : List KernelView = map (λ (w : Worker). w.thread) workers in
    let i : ℕ = c.loop-worker.worker-index in
    let w : Worker = c.worker-item.result in
    let t : KernelView = w.thread in
    let low = c.loop-worker-test.true in
    let many = length-map workers (λ (v : Worker). v.thread) in
    let within : i < length threads = omega (arith, low, many) in
    let at : get_or threads i t ≡ t = get_or-map (λ (v : Worker). v.thread) workers i w t (omega (arith, low)) ∙ ap (λ (v : Worker). v.thread) (sym c.worker-item.is) in
    let last : c.last_record-shows.result ≡ last_record t = c.last_record-shows.ensures.last in
    let taken = (λ (core : ℕ) (less : core < MOST_CORES). c.take_beside.ensures.taken core less ∙ ap (λ (r : Record). has c.loop-worker.clear core && not (is_at_work_on (sibling_of core) r)) last) in
    let brought : c.brings.result ≡ brings t = c.brings.ensures ∙ ap (λ (r : Record). if is_at_work r then would_bring t.thread else 0) last in
    let so_far = c.loop-worker.invariant.brought in
    record {
      clear = beside-more threads i t (has c.loop-worker.clear) (has c.take_beside.new.clear) within at c.loop-worker.invariant.clear taken c.take_beside.ensures.no_more;
      brought = (λ k. so_far k + brought k) ∙ sym (bring-more threads i t within at);
      few = omega arith;
    }

pub returns : goal.returns
returns c =
    let workers = c.args.workers.now in
    let threads : List KernelView = map (λ (w : Worker). w.thread) workers in
    let many = length-map workers (λ (v : Worker). v.thread) in
    let end = c.loop-worker-test.false in
    let all : take c.loop-worker.worker-index threads ≡ threads = take_all c.loop-worker.worker-index threads (omega (arith, many, end)) in
    record {
      all = c.requires;
      clear = λ core. c.loop-worker.invariant.clear core ∙ ap (λ (l : List KernelView). nat_lt core MOST_CORES && not (is_beside_work l core)) all;
      memory = c.memory_part.ensures.part ∙ ap (memory_part c.args.plan.now.memory) (c.loop-worker.invariant.brought ∙ ap all_bring all);
      beside = refl;
    }
