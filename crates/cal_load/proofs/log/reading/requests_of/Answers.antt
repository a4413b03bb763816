use Rattle.cal_load.proofs.Common.{◌∷◌, [], List, length, length-append, ap, sym, subst, arith, IsLogRow, LogRow, Each, each_push}
use Rattle.cal_load.proofs.log.reading.requests_of.Goals as goal

pub loop-k-preserved : goal.loop-k-preserved
loop-k-preserved c =
    let tasks = c.args.terms.now.tasks in
    let old = c.loop-k.reading.requests.items in
    let one = c.in_ok-take.ensures in
    record {
      each = subst (λ (l : List LogRow). Each (IsLogRow tasks) l) (sym one.more) (each_push (IsLogRow tasks) old one.row c.loop-k.invariant.each one.is);
      few = let long = ap (λ (l : List LogRow). length l) one.more in let before = c.loop-k.invariant.few in omega (arith, long, before, length-append old (one.row ∷ []));
    }
