use Rattle.cal_engine.proofs.Common.{List, sym, subst, ◌∙◌, Table, PassEntry, Policy, IsRunEndBy, outcome_of, HasLines}
use Rattle.cal_run.specs.Parts.{AreParts, filled}
use Rattle.cal_run.specs.Workers.{journals_of}
use Rattle.cal_run.specs.declared.outcome.RunEnd.{RunEnd}
use Rattle.cal_run.proofs.CollectorLemmas.Opened.{no_pass_yet}
use Rattle.cal_run.proofs.RoundsLemmas.Rounds.{unwatched_end}
use Rattle.cal_engine.proofs.jobs.running.lockstep_report.Goals as goal

pub make_rounds-requires-clause-opened : goal.make_rounds-requires-clause-opened
make_rounds-requires-clause-opened c =
    let parts = c.in_ok-parts.parts in
    let P : Table → Type 0 = λ t. AreParts t c.args.accepted.now.arrivals.now 0 0 0 parts in
    subst P (sym c.in_ok-parts.ensures.parts.together.same_table) c.in_ok-parts.ensures.parts

pub end_run-requires-clause-made : goal.end_run-requires-clause-made
end_run-requires-clause-made c =
    let opened = c.in_ok-parts.ensures in
    let made = c.in_ok-make_rounds.ensures in
    unwatched_end _ c.args.accepted.now.config.now c.args.accepted.now.arrivals.now c.make_rounds.new.parts opened.parts.together.same_table (made.most ∙ opened.most) made.made

pub returns-clause-text : goal.returns-clause-text
returns-clause-text c =
    let table = c.args.accepted.now.config.now in
    let arrivals = c.args.accepted.now.arrivals.now in
    let opened = c.in_ok-parts.ensures in
    let made = c.make_rounds.new.parts in
    let rounds = c.in_ok-make_rounds.ensures in
    let P : List PassEntry → Type 0 = λ h. HasLines h c.new-lines.result in
    let lines = rounds.collected (subst P (sym (no_pass_yet arrivals c.in_ok-parts.parts.scheduler opened.parts.passes)) c.new-lines.ensures) in
    let end : RunEnd = record { history = made.scheduler.history; journals = journals_of made.workers.items; left = c.in_ok-end_run.field-0.left; watched = filled table arrivals c.in_ok-end_run.field-0.watched } in
    let R : Policy → Type 0 = λ p. IsRunEndBy p table arrivals end in
    record {
      outcome = outcome_of end;
      run = subst R (rounds.policy ∙ opened.policy) c.in_ok-end_run.ensures.run;
      made = c.in_ok-text.ensures.text made.scheduler.history lines c.board.ensures.agrees;
    }
