use Rattle.cal_tables.proofs.Common.{◌≡◌, ◌++◌, ◌∷◌, [], ℕ, List, Some, slice_get, length, length-append, ap, subst, sym, ⊎_elim, arith, last_or_before}
use Rattle.cal_machine.specs.declared.request.Request.{Request}
use Rattle.cal_measure.specs.Requests.{AreRequestsOf}
use Rattle.cal_measure.specs.declared.requests.TaskRequests.{TaskRequests}
use Rattle.cal_tables.proofs.measuring.numbers_of.Goals as goal

pub loop-task-preserved : goal.loop-task-preserved
loop-task-preserved c =
    let before = c.loop-task.numbers.items in
    let now = c.in_ok-of_task.of_task in
    let table = c.args.ended.now.config in
    let arrivals = c.args.arrivals.now in
    let counted = c.args.counted.now in
    let more : c.push.new.self.items ≡ before ++ now ∷ [] = c.in_ok-push.ensures.items in
    let many = c.loop-task.invariant.many in
    record {
      many = let e = ap (λ (l : List TaskRequests). length l) more in omega (arith, many, e, length-append before (now ∷ []));
      each = λ outcome are t n at.
          let Q : ℕ → TaskRequests → Type 0 = λ k m. AreRequestsOf table arrivals counted outcome.journals outcome.left k m in
          let here : Q c.loop-task.task now =
          subst (λ (l : List (List Request)). AreRequestsOf table arrivals counted outcome.journals l c.loop-task.task now) (sym are.left) (c.in_ok-of_task.ensures outcome.journals are.threads) in
          ⊎_elim
          (λ was. c.loop-task.invariant.each outcome are t n was.1)
          (λ last. subst (λ m. Q t m) last.1 (subst (λ k. Q k now) (sym (let p = last.0 in omega (arith, many, p))) here))
          (last_or_before before now n t (subst (λ (l : List TaskRequests). slice_get l t ≡ Some n) more at));
    }

pub returns : goal.returns
returns c = λ outcome are.
    let many = c.loop-task.invariant.many in
    let past = c.loop-task-test.false in
    let end = c.loop-task.auto.task-end in
    let tasks = c.tasks-task-end.ensures.count in
    record {
      many = omega (arith, many, past, end, tasks);
      each = c.loop-task.invariant.each outcome are;
    }
