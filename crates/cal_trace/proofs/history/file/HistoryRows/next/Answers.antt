use Rattle.cal_trace.proofs.Common.{◌≡◌, ◌∙◌, ap, still_gives, HasGiven, KeepsHistory, Extent, Version}
use Rattle.cal_trace.specs.declared.history.file.HistoryRows.{HistoryRows}
use Rattle.cal_trace.proofs.RowLemmas.Passes.{given_next}
use Rattle.cal_trace.proofs.history.file.HistoryRows.next.Goals as goal

pub returns-clause-gives : goal.returns-clause-gives
returns-clause-gives c = λ extent text given has.
    let new : HistoryRows = record { rows = c.next_pass.new.rows; reading = c.next_pass.new.reading } in
    given_next (λ all. KeepsHistory all new.reading × (still_gives all new ≡ still_gives given c.args.self.now)) (λ all. HasGiven extent text all new) _ _ given c.next_pass.result
    (λ all next. record { of = ap (λ (f : Extent × Version). f.0) c.next_pass.ensures.file ∙ has.of; kept = next.0; same = next.1 ∙ has.same }) has.same (c.next_pass.ensures.gives given has.kept)
