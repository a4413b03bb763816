use Rattle.cal_measure.proofs.Common.{◌≡◌, ◌++◌, ◌∷◌, [], ℕ, List, length, length-append, ap, subst, sym, arith, EachTask, IsTimeOf, TaskTime}
use Rattle.cal_measure.proofs.EachTaskLemmas.{each_more}
use Rattle.cal_measure.proofs.walk.no_times.Goals as goal

pub loop-task-preserved : goal.loop-task-preserved
loop-task-preserved c =
    let table = c.args.config.now in
    let before = c.loop-task.rows.items in
    let now = c.none.result in
    let P : ℕ → TaskTime → Type 0 = IsTimeOf table [] in
    let more : c.push.new.self.items ≡ before ++ now ∷ [] = c.in_ok-push.ensures.items in
    record {
      many = let many = c.loop-task.invariant.many in let e = ap (λ (l : List TaskTime). length l) more in omega (arith, e, many, length-append before (now ∷ []));
      each = subst (λ (l : List TaskTime). EachTask P l) (sym more) (each_more P before now c.loop-task.invariant.each (c.none.ensures table (length before)));
    }
