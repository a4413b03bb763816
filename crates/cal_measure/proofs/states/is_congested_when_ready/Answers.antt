-- A task of whose threads none waits has no delay.
use Rattle.cal_measure.proofs.Common.{◌≡◌, ◌<◌, ◌∙◌, ℕ, false, ap, sym, arith, nat_lt, nat_tests, delay_of, limit_of, thread_of, kept_by, greatest_below, record_delay, greatest_past, delay_after}
use Rattle.cal_policy.specs.Board.KeepingSets.{kept_in}
use Rattle.cal_policy.proofs.PassLemmas.NothingDue.{no_delay_shown}
use Rattle.cal_measure.proofs.states.is_congested_when_ready.Goals as goal

pub returns-in-None : goal.returns-in-None
returns-in-None c = λ looks agrees.
    let table = c.args.config.now in
    let t = c.args.task in
    let keeping = c.args.board.now.keeping in
    let own = c.threads_of-first.ensures in
    let delay : ℕ → ℕ = λ j. record_delay c.args.clock (kept_by looks (thread_of table t j)) in
    let n = limit_of table t in
    let none : delay_after table looks c.args.clock t ≡ 0 = ap (greatest_below delay) (omega arith) ∙ greatest_past delay 0 n (λ j from below.
    let k = thread_of table t j in
    let low : k < 128 = omega (arith, own.first, own.within, own.count, below) in
    ap (record_delay c.args.clock) (sym (agrees.kept k low))
    ∙ no_delay_shown c.args.clock (kept_in keeping k) (sym (c.requires.ready.keeping.waiting k low) ∙ c.in-None.ensures.none k (omega (arith, own.first, from)) (omega (arith, own.first, own.count, below)))) in
    let never : nat_lt (delay_of table t) 0 ≡ false = grind (arith, nat_tests) in
    sym (ap (nat_lt (delay_of table t)) none ∙ never)
