use Rattle.cal_world.proofs.Common.{List, sym, subst, Table, PassEntry, IsPermittedHistory}
use Rattle.cal_world.proofs.schedules.points_are_permitted.Goals as goal

pub returns : goal.returns
returns c = λ table events ok list n le here is.
    let P : Table → Type 0 = λ t. IsPermittedHistory t here.history in
    let Q : List PassEntry → Type 0 = λ history. IsPermittedHistory table history in
    record {
      permitted = subst P (sym is.its_table) (subst Q (sym is.its_history) (c.histories_are_permitted.ensures table events ok list n le));
      entry = is.entry;
      made = is.made;
    }
