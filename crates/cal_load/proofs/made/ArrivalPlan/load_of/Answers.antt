use Rattle.cal_load.proofs.Common.{◌≡◌, ◌≢◌, ◌<◌, ◌∙◌, List, take, length, Some, slice_get, get_or, ap, sym, subst, arith, take_more, slice_get-get_or, TaskLoad, Each, each_push}
use Rattle.cal_load.proofs.made.ArrivalPlan.load_of.Goals as goal

pub returns-then-self-place-clause-some : goal.returns-then-self-place-clause-some
returns-then-self-place-clause-some c =
    let xs = c.args.self.now.loads.now in
    let i = c.loop-place.place in
    let first : TaskLoad = c.index-self-place.result in
    let last : TaskLoad = c.index-self-place-then-self-place.result in
    let lt : i < length xs = let test = c.loop-place-test.true in omega (arith, test) in
    let one : slice_get xs i ≡ Some (get_or xs i first) = slice_get-get_or xs i first lt in
    let two : slice_get xs i ≡ Some (get_or xs i last) = slice_get-get_or xs i last lt in
    let same : get_or xs i last ≡ get_or xs i first = cc in
    record { place = i; at = two; is_for = ap (λ (l : TaskLoad). l.task) same ∙ c.if-self-place.true }

pub loop-place-preserved : goal.loop-place-preserved
loop-place-preserved c =
    let xs = c.args.self.now.loads.now in
    let i = c.loop-place.place in
    let first : TaskLoad = c.index-self-place.result in
    let lt : i < length xs = let test = c.loop-place-test.true in omega (arith, test) in
    let P : TaskLoad → Type 0 = λ load. load.task ≢ c.args.task in
    let other : P (get_or xs i first) = c.if-self-place.false in
    subst (λ (l : List TaskLoad). Each P l) (sym (take_more xs i first lt)) (each_push P (take i xs) (get_or xs i first) c.loop-place.invariant other)
