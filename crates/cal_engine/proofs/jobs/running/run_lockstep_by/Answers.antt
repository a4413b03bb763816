use Rattle.cal_engine.proofs.Common.{◌≡◌, ℕ, List, true, Err, Result, sym, ◌∙◌, rules, false≢true, IfErr-weaker, run_input_of, RunInput, RunFault, answered, refused, is_told, run_front, Begins, Runs, front_of}
use Rattle.cal_engine.proofs.WrittenRuns.{runs, second, told_alone, told_runs}
use Rattle.cal_engine.proofs.jobs.running.run_lockstep_by.Goals as goal

pub returns-then-is_told-clause-exact : goal.returns-then-is_told-clause-exact
returns-then-is_told-clause-exact g c =
    let input = c.in_ok-input.input.items in
    answered (λ (given : List ℕ) (outcome : Result RunInput RunFault). Runs c.args.policy c.args.answer c.told_input.result given outcome (g.W.Write.contents c.args.writer.now) (g.W.Write.contents c.told_input.new.writer))
    (g.R.Read.remaining c.args.reader) (g.R.Read.remaining c.read_input.new.reader) input run_input_of
    c.in_ok-input.ensures.all c.in_ok-input.ensures.end c.in_ok-input.ensures.short
    (told_runs c.args.policy c.args.answer c.told_input.result input (run_input_of input) _ _ (sym c.is_told.ensures ∙ c.if-is_told.true)
    (rw (c.as_slice-given.ensures.value, c.run_front-front.ensures) at c.told_input.ensures.told) (rw c.as_slice-given.ensures.value at c.told_input.ensures.fault))

-- the answer is told, so memory was not refused
pub returns-then-is_told-clause-untouched : goal.returns-then-is_told-clause-untouched
returns-then-is_told-clause-untouched g c =
    let told : is_told c.args.answer ≡ true = sym c.is_told.ensures ∙ c.if-is_told.true in
    IfErr-weaker c.told_input.result _ _ (λ f untouched unwritten only. untouched unwritten (λ is. false≢true (sym (only is) ∙ told))) c.told_input.ensures.untouched

pub returns-then-is_told-clause-alone : goal.returns-then-is_told-clause-alone
returns-then-is_told-clause-alone g c = IfErr-weaker c.told_input.result _ _ (λ f failed. told_alone f _ failed) c.told_input.ensures.fault

pub returns-then-is_told-clause-begun : goal.returns-then-is_told-clause-begun
returns-then-is_told-clause-begun g c =
    let old = g.W.Write.contents c.args.writer.now in
    let new = g.W.Write.contents c.told_input.new.writer in
    IfErr-weaker c.told_input.result _ _ (λ f h is. second (λ told. answered (λ (given : List ℕ) (outcome : Result RunInput RunFault). Begins c.args.policy (front_of (run_front c.args.answer) given) outcome old new)
    (g.R.Read.remaining c.args.reader) (g.R.Read.remaining c.read_input.new.reader) c.in_ok-input.input.items run_input_of
    c.in_ok-input.ensures.all c.in_ok-input.ensures.end c.in_ok-input.ensures.short told) (h is))
    (rw (c.as_slice-given.ensures.value, c.run_front-front.ensures) at c.told_input.ensures.begun)

pub returns-in_err-text-clause-exact : goal.returns-in_err-text-clause-exact
returns-in_err-text-clause-exact g c =
    let fault : c.from_residual-in_err-text.result ≡ Err c.in_err-text.field-0.0 = search rules in
    rw fault (refused (g.R.Read.remaining c.args.reader) (g.R.Read.remaining c.read_input.new.reader) c.in_ok-input.input.items run_input_of c.in_err-text.field-0.0
    c.in_ok-input.ensures.all c.in_ok-input.ensures.end c.in_ok-input.ensures.short (rw c.as_slice-given.ensures.value at c.in_err-text.ensures.fault))

pub returns-clause-exact : goal.returns-clause-exact
returns-clause-exact g c =
    let input = c.in_ok-input.input.items in
    answered (λ (given : List ℕ) (outcome : Result RunInput RunFault). Runs c.args.policy c.args.answer c.write_after_front.result given outcome (g.W.Write.contents c.args.writer.now) (g.W.Write.contents c.write_after_front.new.writer))
    (g.R.Read.remaining c.args.reader) (g.R.Read.remaining c.read_input.new.reader) input run_input_of
    c.in_ok-input.ensures.all c.in_ok-input.ensures.end c.in_ok-input.ensures.short
    (runs c.args.policy c.args.answer c.write_after_front.result input (run_input_of input) _ _ c.in_ok-text.text.items (rw c.as_slice-given.ensures.value at c.in_ok-text.ensures.text)
    (rw (c.as_slice-given.ensures.value, c.as_slice.ensures.value, c.run_front-front.ensures) at c.write_after_front.ensures.bytes) c.write_after_front.ensures.kind)
