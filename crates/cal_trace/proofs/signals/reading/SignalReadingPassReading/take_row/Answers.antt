use Rattle.csv.specs.Records.{fields_of}
use Rattle.cal_trace.proofs.GivenSignals.{kept_fitting}
use Rattle.cal_trace.proofs.signals.reading.SignalReadingPassReading.take_row.Goals as goal

pub returns-in-Some-clause-kept : goal.returns-in-Some-clause-kept
returns-in-Some-clause-kept c = λ given kept.
    let old = c.args.self.now in
    kept_fitting c.in-Some.form given (fields_of c.args.row.now) c.take_form.result old c.take_form.new.self kept.1 c.take_form.ensures.file
    (c.take_form.ensures.takes given kept.0) (c.take_form.ensures.kept given kept.0)
