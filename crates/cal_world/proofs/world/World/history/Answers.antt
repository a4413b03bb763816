use Rattle.cal_world.proofs.Common.{List, length, sym, subst, ◌∙◌, arith, take-length, PassEntry, IsLegalBy, Event, history_in, Past}
use Rattle.cal_world.proofs.world.World.history.Goals as goal

pub returns-clause-legal : goal.returns-clause-legal
returns-clause-legal c =
    let policy = c.self.inside.policy in
    let table = c.self.inside.config in
    let events : List Event = c.self.inside.events.items in
    let is = c.self.invariant in
    let P : List Event → Type 0 = λ part. IsLegalBy policy table (history_in part) in
    let Q : List PassEntry → Type 0 = λ history. IsLegalBy policy table history in
    let R : Past → Type 0 = λ past. IsLegalBy past.policy past.table c.as_slice.result.now in
    let legal = subst P (take-length events) (c.histories_are_legal_by.ensures policy table events is.ok is.legal (length events) (omega arith)) in
    subst R c.self.view_is (subst Q (sym (c.as_slice.ensures.value ∙ is.kept.history)) legal)
