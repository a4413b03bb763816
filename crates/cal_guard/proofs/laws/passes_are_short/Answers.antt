use Rattle.cal_guard.proofs.laws.passes_are_short.Goals as goal

pub returns : goal.returns
returns c = λ here is. (is.permitted.passes here.pass here.entry is.entry).actions.short
