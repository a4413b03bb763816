use Rattle.cal_world.proofs.Common.{List, sym, subst, Table, IsTable, PassEntry, IsLegalBy}
use Rattle.cal_laws.proofs.PolicyLemmas.{is_point_by}
use Rattle.cal_world.proofs.schedules.points_are_legal_by.Goals as goal

pub returns : goal.returns
returns c = λ policy table events ok list n le here is.
    let P : Table → Type 0 = λ t. IsLegalBy policy t here.history in
    let Q : List PassEntry → Type 0 = λ history. IsLegalBy policy table history in
    let legal = subst P (sym is.its_table) (subst Q (sym is.its_history) (c.histories_are_legal_by.ensures policy table events ok list n le)) in
    is_point_by policy here (subst IsTable (sym is.its_table) ok) legal is.entry is.made
