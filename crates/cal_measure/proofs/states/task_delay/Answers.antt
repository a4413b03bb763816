use Rattle.cal_measure.proofs.Common.{◌+◌, ◌∙◌, ℕ, ap, arith, thread_of, kept_by, greatest_below, record_delay, greatest_more}
use Rattle.cal_measure.proofs.states.task_delay.Goals as goal

pub loop-j-preserved : goal.loop-j-preserved
loop-j-preserved c = λ looks a.
    let f : ℕ → ℕ = λ j. record_delay c.args.clock (kept_by looks (thread_of c.args.config.now c.args.task j)) in
    c.max-greatest.ensures ∙ greatest_more f c.loop-j.j _ _ (c.loop-j.invariant looks a)
    (c.thread_delay-delay.ensures looks a ∙ ap (λ (first : ℕ). record_delay c.args.clock (kept_by looks (first + c.loop-j.j))) c.threads_of-first.ensures.first)

pub returns : goal.returns
returns c = λ looks a.
    let f : ℕ → ℕ = λ j. record_delay c.args.clock (kept_by looks (thread_of c.args.config.now c.args.task j)) in
    c.loop-j.invariant looks a ∙ ap (greatest_below f) (omega arith)
