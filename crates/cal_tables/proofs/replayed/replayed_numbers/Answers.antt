use Rattle.std.proofs.Common.{◌∙◌, arith, refl, subst, sym}
use Rattle.cal_laws.specs.Point.{Point}
use Rattle.cal_machine.specs.Table.{Table}
use Rattle.cal_measure.specs.Walk.{IsOpenFor, IsWalkOf}
use Rattle.cal_measure.specs.declared.walk.Walk.{Walk}
use Rattle.cal_replay.specs.Replays.{ended}
use Rattle.cal_run.specs.declared.outcome.Outcome.{Outcome}
use Rattle.cal_tables.specs.Measured.{AreRunNumbers}
use Rattle.cal_trace.specs.Arrivals.FitsTable.{FitsTable}
use Rattle.cal_tables.proofs.replayed.replayed_numbers.Goals as goal

pub walked-requires-clause-orderly : goal.walked-requires-clause-orderly
walked-requires-clause-orderly c = c.permitted_is_orderly.ensures c.args.config.now c.args.history.now c.in_ok-left.ensures.replay.replay.permitted

pub walked-requires-clause-short : goal.walked-requires-clause-short
walked-requires-clause-short c = λ p entry at.
    let here : Point = record { table = c.args.config.now; history = c.args.history.now; pass = p; entry = entry; made = 0 } in
    c.passes_are_short.ensures here (record { permitted = c.in_ok-left.ensures.replay.replay.permitted; entry = at; made = omega arith })

pub numbers_of_run-requires-clause-fits : goal.numbers_of_run-requires-clause-fits
numbers_of_run-requires-clause-fits c =
    subst (λ (t : Table). FitsTable t c.replayed_by.new.given) (sym (c.in_ok-ended.ensures.table ∙ (c.in_ok-left.ensures.suits c.args.config.now (c.in_ok-numbers.ensures.table, c.in_ok-numbers.ensures.open)).0)) c.in_ok-left.ensures.fits

pub numbers_of_run-requires-clause-open : goal.numbers_of_run-requires-clause-open
numbers_of_run-requires-clause-open c =
    let suits = c.in_ok-left.ensures.suits c.args.config.now (c.in_ok-numbers.ensures.table, c.in_ok-numbers.ensures.open) in
    subst (λ (t : Table). IsOpenFor t c.in_ok-ended.ended.walk) (sym (c.in_ok-ended.ensures.table ∙ suits.0))
    (subst (λ (w : Walk). IsOpenFor c.args.config.now w) (sym c.in_ok-ended.ensures.walk) c.in_ok-numbers-2.ensures.open)

pub returns-clause-numbers : goal.returns-clause-numbers
returns-clause-numbers c =
    let run = c.in_ok-left.ensures.replay in
    let outcome : Outcome = ended c.args.history.now run.journals c.in_ok-left.left in
    let suits = c.in_ok-left.ensures.suits c.args.config.now (c.in_ok-numbers.ensures.table, c.in_ok-numbers.ensures.open) in
    let table = c.in_ok-ended.ensures.table ∙ suits.0 in
    let at_end = c.in_ok-ended.ensures.ended outcome (record { walk = subst (λ (t : Table). IsWalkOf t c.args.history.now c.in_ok-numbers-2.field-0) (sym suits.0) c.in_ok-numbers-2.ensures.walk; threads = run.collected.threads }) refl in
    record {
      journals = run.journals;
      left = c.in_ok-left.left;
      replay = run.replay;
      are = subst (λ (t : Table). AreRunNumbers t c.replayed_by.new.given c.args.counted.now outcome c.in_ok-numbers_of_run.field-0) table
          (c.in_ok-numbers_of_run.ensures outcome at_end);
    }
