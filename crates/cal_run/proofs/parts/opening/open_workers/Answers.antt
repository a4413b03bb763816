use Rattle.cal_run.proofs.Common.{◌≡◌, ◌∷◌, ℕ, List, length, subst, arith, into_iter_items, KernelView, HasMade}
use Rattle.cal_run.proofs.PartsLemmas.Opened.{HaveWorkers, next_is_fresh, worker_more}
use Rattle.cal_run.proofs.parts.opening.open_workers.Goals as goal

pub new-requires-clause-fresh : goal.new-requires-clause-fresh
new-requires-clause-fresh c =
    let threads = c.args.threads.items in
    let workers = c.loop-thread.workers.items in
    let rest = into_iter_items c.next.new.self in
    let thread = c.in-Some.thread in
    let steps : into_iter_items c.loop-thread.thread-iterator ≡ thread ∷ rest = c.in-Some.ensures.steps.0 in
    let P : List KernelView → Type 0 = λ l. HaveWorkers c.args.arrivals.now threads l workers in
    next_is_fresh c.args.arrivals.now threads rest thread workers (subst P steps c.loop-thread.invariant) c.requires.fresh

pub loop-thread-preserved : goal.loop-thread-preserved
loop-thread-preserved c =
    let threads = c.args.threads.items in
    let workers = c.loop-thread.workers.items in
    let rest = into_iter_items c.next.new.self in
    let thread = c.in-Some.thread in
    let steps : into_iter_items c.loop-thread.thread-iterator ≡ thread ∷ rest = c.in-Some.ensures.steps.0 in
    let number : c.len-number.result ≡ length workers = omega (arith, c.len-number.ensures, c.loop-thread.workers.ok.0) in
    let P : List KernelView → Type 0 = λ l. HaveWorkers c.args.arrivals.now threads l workers in
    let Q : ℕ → Type 0 = λ n. HasMade c.args.arrivals.now n 0 c.new.result in
    rw c.in_ok-push.ensures.items
    (worker_more c.args.arrivals.now threads rest thread workers c.new.result (subst P steps c.loop-thread.invariant) c.new.ensures.thread (subst Q number c.new.ensures.made))
