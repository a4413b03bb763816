use Rattle.cal_engine.proofs.Common.{◌≡◌, ℕ, List, Err, Result, rules, run_input_of, RunInput, RunFault, answered, FailedInThreads, RunsInThreads}
use Rattle.cal_engine.proofs.WrittenRuns.{runs_in_threads}
use Rattle.cal_engine.proofs.jobs.simulating.run_sim_by.Goals as goal

pub returns-in_err-text-clause-exact : goal.returns-in_err-text-clause-exact
returns-in_err-text-clause-exact g c =
    let fault : c.from_residual-in_err-text.result ≡ Err c.in_err-text.field-0.0 = search rules in
    rw fault (answered (λ (given : List ℕ) (outcome : Result RunInput RunFault). FailedInThreads c.in_err-text.field-0.0 outcome)
    (g.R.Read.remaining c.args.reader) (g.R.Read.remaining c.read_input.new.reader) c.in_ok-input.input.items run_input_of
    c.in_ok-input.ensures.all c.in_ok-input.ensures.end c.in_ok-input.ensures.short (rw c.as_slice.ensures.value at c.in_err-text.ensures.fault))

pub returns-clause-exact : goal.returns-clause-exact
returns-clause-exact g c =
    let input = c.in_ok-input.input.items in
    answered (λ (given : List ℕ) (outcome : Result RunInput RunFault). RunsInThreads c.args.policy c.args.answer c.write_after_front.result given outcome (g.W.Write.contents c.args.writer.now) (g.W.Write.contents c.write_after_front.new.writer))
    (g.R.Read.remaining c.args.reader) (g.R.Read.remaining c.read_input.new.reader) input run_input_of
    c.in_ok-input.ensures.all c.in_ok-input.ensures.end c.in_ok-input.ensures.short
    (runs_in_threads c.args.policy c.args.answer c.write_after_front.result input (run_input_of input) _ _ c.in_ok-text.text.items (rw c.as_slice.ensures.value at c.in_ok-text.ensures.text)
    (rw (c.as_slice-2.ensures.value, c.as_slice-3.ensures.value, c.run_front.ensures) at c.write_after_front.ensures.bytes) c.write_after_front.ensures.kind)
