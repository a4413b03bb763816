use Rattle.cal_measure.proofs.Common.{◌≡◌, ◌++◌, ◌∙◌, take, ap, [], served_since, turn_by}
use Rattle.cal_measure.proofs.Steps.{each_grown, grown}
use Rattle.cal_measure.proofs.turns.turns_of.Goals as goal

pub loop-entry-preserved : goal.loop-entry-preserved
loop-entry-preserved c =
    let xs = c.args.journal.now in
    let i = c.loop-entry.entry-index in
    let now = c.loop-entry.invariant in
    record {
      turns = each_grown turn_by [] xs i _ c.loop-entry.turns.items _ c.loop-entry-test.true now.turns
          (c.in_ok-put_one.ensures ∙ ap (λ l. c.loop-entry.turns.items ++ l) (c.turn_by.ensures (take i xs) now.served));
      served = grown (λ l. c.served_after-served.result ≡ served_since l) xs i _ c.loop-entry-test.true (c.served_after-served.ensures (take i xs) now.served);
    }
