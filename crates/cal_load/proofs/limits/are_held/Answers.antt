use Rattle.cal_load.proofs.Common.{◌<◌, ℕ, All, List, length, take, take_all, refl, sym, subst, arith, take_more, All-push, TaskLoad}
use Rattle.cal_load.specs.Loads.{AreHeld, IsHeld, limit_of}
use Rattle.cal_load.proofs.limits.are_held.Goals as goal

pub returns-then-not-is_held-clause-fault : goal.returns-then-not-is_held-clause-fault
returns-then-not-is_held-clause-fault c = (c.word_of.result.now, c.limit_of-threads.result, rw c.refused.ensures (refl, refl, refl))

pub loop-place-preserved : goal.loop-place-preserved
loop-place-preserved c =
    let loads = c.args.loads.now in
    let i = c.loop-place.place in
    let load : TaskLoad = c.index-loads-place.result in
    let lt : i < length loads = let test = c.loop-place-test.true in omega (arith, test) in
    let P : TaskLoad → Type 0 = λ one. IsHeld one.measure one.load (limit_of one.task c.args.table.now) in
    let here : P load = subst (λ (n : ℕ). IsHeld load.measure load.load n) c.limit_of-threads.ensures (c.is_held.ensures.held c.if-not-is_held.false) in
    subst (λ (l : List TaskLoad). All P l) (sym (take_more loads i load lt)) (All-push P (take i loads) _ c.loop-place.invariant (subst P c.index-loads-place.is here))

pub returns-clause-held : goal.returns-clause-held
returns-clause-held c = subst (λ (ls : List TaskLoad). AreHeld c.args.table.now ls) (take_all c.loop-place.place c.args.loads.now (omega arith)) c.loop-place.invariant
