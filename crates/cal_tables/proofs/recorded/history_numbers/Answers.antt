use Rattle.cal_tables.proofs.Common.{◌∙◌, List, arith, sym, Table, IsOpenFor, IsWalkOf, PassEntry, AreHistoryNumbers}
use Rattle.std.proofs.lemmas.Result.{IfOk-weaker}
use Rattle.cal_laws.specs.Point.{Point}
use Rattle.cal_tables.specs.declared.recorded.HistoryNumbers.{HistoryNumbers}
use Rattle.cal_tables.proofs.recorded.history_numbers.Goals as goal

pub walked-requires-clause-orderly : goal.walked-requires-clause-orderly
walked-requires-clause-orderly c =
    let of = c.requires.legal in
    c.permitted_is_orderly.ensures c.args.config.now c.args.history.now
    (c.each_policy_is_permitted.ensures of.policy c.args.config.now c.args.history.now c.limits.ensures of.legal)

pub walked-requires-clause-short : goal.walked-requires-clause-short
walked-requires-clause-short c = λ p entry at.
    let table = c.args.config.now in
    let h = c.args.history.now in
    let of = c.requires.legal in
    let permitted = c.each_policy_is_permitted.ensures of.policy table h c.limits.ensures of.legal in
    let here : Point = record { table = table; history = h; pass = p; entry = entry; made = 0 } in
    c.passes_are_short.ensures here (record { permitted = permitted; entry = at; made = omega arith })

pub numbers_of_walk-requires : goal.numbers_of_walk-requires
numbers_of_walk-requires c = let ready = c.in_ok-walk.ensures.open in ready.times ∙ sym ready.actions

pub returns : goal.returns
returns c =
    let walk = c.in_ok-walk.walk in
    IfOk-weaker c.numbers_of_walk.result
    (λ (numbers : HistoryNumbers). (table : Table) (history : List PassEntry) → IsOpenFor table walk → IsWalkOf table history walk → AreHistoryNumbers table history numbers)
    (AreHistoryNumbers c.args.config.now c.args.history.now)
    (λ numbers are. are c.args.config.now c.args.history.now c.in_ok-walk.ensures.open c.in_ok-walk.ensures.walk)
    c.numbers_of_walk.ensures
