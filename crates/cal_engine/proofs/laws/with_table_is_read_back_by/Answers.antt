use Rattle.cal_engine.proofs.Common.{refl, history_text}
use Rattle.cal_machine.proofs.Accepted.{accepted_text}
use Rattle.cal_engine.proofs.FrontReadBack.{parts_read, table_read}
use Rattle.cal_engine.proofs.laws.with_table_is_read_back_by.Goals as goal

pub returns : goal.returns
returns c = λ policy given table trace history parts legal sized.
    let text = table_read given table trace parts in
    let ok = accepted_text text.0 table text.1 in
    rw (parts_read given (history_text history) table trace parts, c.legal_is_read_back_by.ensures policy table history ok legal sized) refl
