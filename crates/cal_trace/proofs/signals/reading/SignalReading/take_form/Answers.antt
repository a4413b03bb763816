use Rattle.cal_trace.proofs.Common.{refl, fields_of, so_far, SignalReading}
use Rattle.cal_trace.proofs.GivenSignals.{kept-closed, shown-added, shown-ended}
use Rattle.cal_trace.proofs.signals.reading.SignalReading.take_form.Goals as goal

pub returns-in-Pass-clause-kept : goal.returns-in-Pass-clause-kept
returns-in-Pass-clause-kept c = λ given kept.
    let old = c.args.self.now in
    let new : SignalReading = record old { passes = c.take_pass.new.self } in
    kept-closed given c.take_pass.result _ old new kept (λ k next e. shown-added old.threads k (so_far given old) next (fields_of c.args.row.now) e)
    (c.take_pass.ensures.takes given kept.counted) (c.take_pass.ensures.counted given kept.counted) refl refl

pub returns-in-End-clause-kept : goal.returns-in-End-clause-kept
returns-in-End-clause-kept c = λ given kept.
    let old = c.args.self.now in
    let new : SignalReading = record old { passes = c.take_end.new.self } in
    kept-closed given c.take_end.result _ old new kept (λ k next e. shown-ended old.threads k (so_far given old) next (fields_of c.args.row.now) e)
    (c.take_end.ensures.takes given kept.counted) (c.take_end.ensures.counted given kept.counted) refl refl
