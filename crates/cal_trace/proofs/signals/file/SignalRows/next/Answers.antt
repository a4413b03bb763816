use Rattle.cal_trace.proofs.Common.{◌≡◌, ◌∙◌, ℕ, ap, KeepsFittingSignals, Version}
use Rattle.cal_trace.specs.Signals.Reading.{still_gives, HasGiven}
use Rattle.cal_trace.specs.declared.signals.file.SignalRows.{SignalRows}
use Rattle.cal_trace.proofs.RowLemmas.Passes.{given_next}
use Rattle.cal_trace.proofs.signals.file.SignalRows.next.Goals as goal

pub returns-clause-gives : goal.returns-clause-gives
returns-clause-gives c = λ threads text given has.
    let new : SignalRows = record { rows = c.next_pass.new.rows; reading = c.next_pass.new.reading } in
    let extent = ap (λ (f : ℕ × Version). f.0) c.next_pass.ensures.file ∙ has.extent in
    given_next (λ all. KeepsFittingSignals all new.reading × (still_gives all new ≡ still_gives given c.args.self.now)) (λ all. HasGiven threads text all new) _ _ given c.next_pass.result
    (λ all next. record { extent = extent; kept = next.0.0; fit = rw extent at next.0.1; same = next.1 ∙ has.same }) has.same
    (c.next_pass.ensures.gives given (has.kept, rw has.extent has.fit))
