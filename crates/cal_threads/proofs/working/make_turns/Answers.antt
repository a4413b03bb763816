use Rattle.std.proofs.Common.{◌≡◌, ℕ, List, length, ap, subst, arith}
use Rattle.cal_run.specs.Workers.{HasMade}
use Rattle.cal_threads.proofs.working.make_turns.Goals as goal

-- All turns are made.
pub returns-clause-made : goal.returns-clause-made
returns-clause-made g c =
    let arrivals = c.args.arrivals.now in
    let all = ap (λ (l : List ℕ). length l) c.as_slice-j-end.ensures in
    let a = c.loop-j-test.false in
    let b = c.loop-j.auto in
    let end : c.loop-j.j ≡ length arrivals.turns = omega (arith, a, b, all) in
    let P : ℕ → Type 0 = λ n. HasMade arrivals c.args.k n c.loop-j.worker in
    subst P end c.loop-j.invariant.0
