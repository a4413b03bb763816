use Rattle.cal_laws.proofs.one_each.passes_are_short.Goals as goal

pub returns : goal.returns
returns c = λ here is. c.legal_is_short.ensures here.table here.history is.table is.legal here.pass here.entry is.entry
