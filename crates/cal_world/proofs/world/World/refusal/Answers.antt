use Rattle.cal_world.proofs.Common.{List, length, sym, subst, arith, Option, take-length, PassEntry, IsLegalBy, Event, IsRefusalBy, Past, history_in}
use Rattle.std.specs.Prelude.{IfOk}
use Rattle.std.proofs.lemmas.Result.{IfOk-weaker}
use Rattle.cal_world.specs.declared.illegal.Illegal.{Illegal}
use Rattle.cal_world.proofs.world.World.refusal.Goals as goal

pub refusal-requires-clause-legal : goal.refusal-requires-clause-legal
refusal-requires-clause-legal c =
    let policy = c.self.inside.policy in
    let table = c.self.inside.config in
    let events : List Event = c.self.inside.events.items in
    let is = c.self.invariant in
    let P : List Event → Type 0 = λ part. IsLegalBy policy table (history_in part) in
    let Q : List PassEntry → Type 0 = λ history. IsLegalBy policy table history in
    subst Q (sym is.kept.history) (subst P (take-length events) (c.histories_are_legal_by.ensures policy table events is.ok is.legal (length events) (omega arith)))

pub returns-clause-refusal : goal.returns-clause-refusal
returns-clause-refusal c =
    let s = c.self.inside in
    let P : Past → Type 0 = λ past. IfOk c.refusal.result (λ (refusal : Option Illegal). IsRefusalBy past.policy past.table past.events c.args.event.now refusal) in
    subst P c.self.view_is
    (IfOk-weaker c.refusal.result _ (λ (refusal : Option Illegal). IsRefusalBy s.policy s.config s.events.items c.args.event.now refusal)
    (λ refusal all. all s.events.items c.self.invariant.kept) c.refusal.ensures)
