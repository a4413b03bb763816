use Rattle.cal_engine.proofs.Common.{sym, ◌∙◌, on_ok_weaker, IfErr-weaker}
use Rattle.cal_engine.proofs.Telling.{told_more}
use Rattle.cal_engine.proofs.jobs.telling.TellingCollector.make_pass.Goals as goal

pub returns-clause-wrote : goal.returns-clause-wrote
returns-clause-wrote g c = λ first held.
    on_ok_weaker c.tell.result (λ told unfailed. told_more _ _ _ c.args.scheduler.now.history c.pass_given.new.scheduler.history c.in_ok-entry.entry c.in_ok-entry.ensures.entered (held (sym told.0 ∙ unfailed)) told.1)
    c.tell.ensures.bytes

pub returns-clause-stopped : goal.returns-clause-stopped
returns-clause-stopped g c = λ first held.
    IfErr-weaker c.tell.result _ _ (λ f unwritten unfailed. let same = unwritten unfailed in rw same.1 (held same.0)) c.tell.ensures.unwritten
