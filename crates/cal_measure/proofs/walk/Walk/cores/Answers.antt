use Rattle.cal_measure.proofs.Common.{◌≡◌, ◌∙◌, ◌<◌, ◌∷◌, [], ℕ, List, Some, slice_get, length, length-append, ap, refl, subst, sym, arith, slice_get_read, Table, PassEntry, AreCoresOf, EachTask, IsWalkOf, TaskTime}
use Rattle.cal_measure.specs.declared.cores.TaskCores.{TaskCores}
use Rattle.cal_measure.specs.declared.walk.Walk.{Walk}
use Rattle.cal_measure.proofs.EachTaskLemmas.{each_more}
use Rattle.cal_measure.proofs.walk.Walk.cores.Goals as goal

-- a task's numbers are those that stand in a walk at its place
taken : (table : Table) (h : List PassEntry) (walk : Walk) (n t : ℕ) (now : TaskCores) (time : TaskTime) → IsWalkOf table h walk → n ≡ t →
    slice_get walk.actions.items t ≡ Some now.actions → slice_get walk.times.items t ≡ Some time → now.most ≡ time.most → now.held ≡ time.held →
    now.leaving ≡ time.leaving → now.congested ≡ time.congested → AreCoresOf table h n now
taken table h walk n t now time is place actions at most held leaving congested =
    let of_task = is.times t time at in
    subst (λ k. AreCoresOf table h k now) (sym place) (record {
      actions = is.actions t now.actions actions;
      most = most ∙ of_task.most;
      held = held ∙ of_task.held;
      leaving = leaving ∙ of_task.leaving;
      congested = congested ∙ of_task.congested;
      few_held = let all = of_task.few_held in let few = is.few in omega (arith, held, all, few);
      few_leaving = let all = of_task.few_leaving in let few = is.few in omega (arith, leaving, all, few);
    })

pub loop-task-preserved : goal.loop-task-preserved
loop-task-preserved c =
    let walk = c.args.self.now in
    let before = c.loop-task.cores.items in
    let t = c.loop-task.task in
    let more = c.in_ok-push.ensures.items in
    let many : length before ≡ t = c.loop-task.invariant.many in
    let low : t < length walk.times.items = let lt = c.loop-task-test.true in let size = c.len-task-end.ensures in omega (arith, lt, size) in
    let same : length walk.times.items ≡ length walk.actions.items = c.requires in
    let time = c.index-time.result.now in
    let now : TaskCores = record { actions = c.index.result.now; most = time.most; held = time.held; leaving = time.leaving; congested = time.congested } in
    record {
      many = let e = ap (λ (l : List TaskCores). length l) more in omega (arith, e, many, length-append before (now ∷ []));
      each = λ table h is. subst (λ (l : List TaskCores). EachTask (AreCoresOf table h) l) (sym more)
          (each_more (AreCoresOf table h) before now (c.loop-task.invariant.each table h is)
          (taken table h walk (length before) t now time is many
          (slice_get_read walk.actions.items (length walk.actions.items) t c.index.result.now refl (omega (arith, low, same)) c.index.ensures)
          (slice_get_read walk.times.items (length walk.times.items) t time refl low c.index-time.ensures)
          refl refl refl refl));
    }

pub returns : goal.returns
returns c = λ table h ready is.
    let many : length c.loop-task.cores.items ≡ c.loop-task.task = c.loop-task.invariant.many in
    let size = c.len-task-end.ensures in
    let least = c.loop-task-test.false in
    let most = c.loop-task.auto.task-end in
    let rows = ready.times in
    record {
      many = omega (arith, many, size, least, most, rows);
      each = c.loop-task.invariant.each table h is;
    }
