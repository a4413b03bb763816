use Rattle.std.proofs.Common.{◌∷◌, [], arith, length-append}
use Rattle.cal_run.proofs.CollectorLemmas.Opened.{none_empty, one_empty_more}
use Rattle.cal_run.proofs.collector.collected.OpenCollection.new.Goals as goal

pub loop-init : goal.loop-init
loop-init c = record {
  count = (let none = c.new-journals.ensures.items in rw none (omega arith));
  empty = rw c.new-journals.ensures.items none_empty;
}

pub loop-preserved : goal.loop-preserved
loop-preserved c =
    let journals = c.loop.journals.items in
    let many = length-append journals (c.new.result ∷ []) in
    let count = c.loop.invariant.count in
    record {
      count = rw c.in_ok-push.ensures.items (omega (arith, many, count));
      empty = rw c.in_ok-push.ensures.items (one_empty_more journals c.new.result c.loop.invariant.empty c.new.ensures);
    }
