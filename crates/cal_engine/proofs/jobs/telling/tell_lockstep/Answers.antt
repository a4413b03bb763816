use Rattle.cal_engine.proofs.Common.{◌≡◌, OnOk, IfErr, ◌⊎◌, inr, length, sym, ap, subst, ◌∙◌, rules, length-map, on_ok_weaker, IfErr-weaker, figures_of, RunInput, front_of, IsTold, IsBegunTold}
use Rattle.std.proofs.KnownBytes.{Appends-nil}
use Rattle.cal_input.specs.declared.fault.RunFault.TheVariants as fault
use Rattle.cal_engine.proofs.Telling.{at_ok, begun, ended, in_any_case}
use Rattle.cal_engine.proofs.jobs.telling.tell_lockstep.Goals as goal

-- what is so of the writer that was lent is so of it once it is given back
moved : {A : Type 0} (P : A → Type 0) (a b : A) → P a → a ≡ b → P b
moved P a b own same = subst P same own

pub returns-clause-told : goal.returns-clause-told
returns-clause-told g c =
    let front = front_of c.args.front c.args.accepted.now.input.now in
    let input : RunInput = record { table = c.args.accepted.now.config.now; arrivals = c.args.accepted.now.arrivals.now } in
    moved (λ w. OnOk c.tell_end.result (IsTold c.args.accepted.now.policy front input (g.W.Write.contents c.args.writer.now) (g.W.Write.contents w))) c.tell_end.new.writer _
    (on_ok_weaker c.tell_end.result (λ last.
    let run = (at_ok c.lockstep_collected_by.result _ (sym c.is_ok-made.ensures.value ∙ last.0) (c.lockstep_collected_by.ensures.wrote (λ unfailed. Appends-nil _))).1 in
    let history = run.outcome.history in
    let before = begun front _ _ _ c.in_ok-head.head.items history c.in_ok-head.ensures.text (rw c.as_slice.ensures.value at c.in_ok-write_answer.ensures.bytes) (run.collected.1 last.1) in
    let many = sym (length-map history figures_of) ∙ ap (λ l. length l) run.run.passes ∙ sym (ap (λ l. length l) c.as_slice-passes.ensures) in
    record { outcome = run.outcome; run = run.run; written = ended front _ _ _ history _ many before last.2 })
    c.tell_end.ensures.ended) (search rules)

pub returns-clause-begun : goal.returns-clause-begun
returns-clause-begun g c =
    let made = c.lockstep_collected_by in
    let told = in_any_case made.result _ (λ left run. record { history = run.outcome.history; first = run.collected.0; written = run.collected.1 }) (made.ensures.wrote (λ unfailed. Appends-nil _)) (made.ensures.stopped (λ unfailed. Appends-nil _)) in
    let front = front_of c.args.front c.args.accepted.now.input.now in
    let input : RunInput = record { table = c.args.accepted.now.config.now; arrivals = c.args.accepted.now.arrivals.now } in
    moved (λ w. IfErr c.tell_end.result (λ f. f ≡ fault.Memory → (w ≡ c.args.writer.now)
    ⊎ IsBegunTold c.args.accepted.now.policy front input (g.W.Write.contents c.args.writer.now) (g.W.Write.contents w))) c.tell_end.new.writer _
    (IfErr-weaker c.tell_end.result _ _ (λ f unwritten is.
    let same = unwritten is in
    inr (record {
      history = told.history;
      first = told.first;
      written = rw same.1 (begun front _ _ _ c.in_ok-head.head.items told.history c.in_ok-head.ensures.text (rw c.as_slice.ensures.value at c.in_ok-write_answer.ensures.bytes) (told.written same.0));
    }))
    c.tell_end.ensures.unwritten) (search rules)
