use Rattle.std.proofs.Common.{◌≡◌, ◌+◌, List, [], ◌∷◌, ◌++◌, rules, ap, subst, sym, ◌∙◌, length}
use Rattle.std.specs.Prelude.{vec_len}
use Rattle.std.proofs.iter.Serving.{serving}
use Rattle.cal_run.specs.Workers.{HasMade}
use Rattle.cal_run.specs.declared.workers.worker.Worker.{Worker}
use Rattle.cal_threads.specs.Promises.{IsOf}
use Rattle.cal_threads.proofs.Pairs.{pairs_pushed}
use Rattle.cal_threads.proofs.Workers.{HaveMadeFrom, first_of_rest, from_the_first, rest_of_rest}
use Rattle.cal_threads.proofs.kernel_threads.start_workers.Goals as goal

-- No thread is started yet.
pub loop-worker-init : goal.loop-worker-init
loop-worker-init g c =
    let arrivals = c.args.arrivals.now in
    let all = c.into_iter-worker-iterator.ensures.into_iter_gives.0 in
    let none : vec_len c.args.threads ≡ 0 = c.args.threads.ok.0 ∙ ap (λ l. length l) c.requires.empty in
    let P : List Worker → Type 0 = λ ws. HaveMadeFrom arrivals (vec_len c.args.threads) 0 ws in (
      rw c.requires.empty tt,
      subst P (sym all) (from_the_first arrivals (vec_len c.args.threads) 0 c.args.workers.items none c.requires.none),
      search rules,
      search rules,
    )

-- The kernel thread that was taken is next, and made no turn yet.
pub new-worker-requires : goal.new-worker-requires
new-worker-requires g c = (first_of_rest _ _ _ _ _ _ c.in-Some.ensures.steps.0 c.loop-worker.invariant.1).turns

pub spawn_with-requires-clause-runs : goal.spawn_with-requires-clause-runs
spawn_with-requires-clause-runs g c =
    let first = first_of_rest _ _ _ _ _ _ c.in-Some.ensures.steps.0 c.loop-worker.invariant.1 in
    let P : Worker → Type 0 = λ w. HasMade c.args.arrivals.now (vec_len c.loop-worker.threads) 0 w in
    let none = subst P (sym c.new-worker.ensures) first in
    grind serving

-- The kernel thread that was taken stood first among the rest, and the thread that was started is of it.
pub loop-worker-preserved : goal.loop-worker-preserved
loop-worker-preserved g c =
    let was = c.loop-worker.invariant in
    let steps = c.in-Some.ensures.steps.0 in
    let more : vec_len c.push.new.self ≡ vec_len c.loop-worker.threads + 1 = search rules in
    let number = (first_of_rest _ _ _ _ _ _ steps was.1).number in
    let items : c.push.new.self.items ≡ c.loop-worker.threads.items ++ c.in-Ok.thread ∷ [] = search rules in
    let one : IsOf (vec_len c.args.workers) c.args.arrivals.now c.args.gate.now c.in-Some.worker c.in-Ok.thread.promise = record {
      worker_is = search rules;
      number = search rules;
      place = search rules;
      arrivals_are = search rules;
      gate_is = search rules;
    } in (
      pairs_pushed _ _ _ _ _ _ was.0 one items,
      rest_of_rest _ _ _ _ _ _ _ steps more was.1,
      search rules,
      search rules,
    )
