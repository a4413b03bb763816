use Rattle.cal_measure.proofs.Common.{◌≡◌, ◌∙◌, ℕ, nat_eq, cond, List, [], ◌∷◌, ◌++◌, Option, Some, take, ap, sym, last_of, last_of_push, or_if, Came}
use Rattle.std.specs.HashMap.{get}
use Rattle.cal_came.specs.Came.{of_name, told_of}
use Rattle.cal_measure.proofs.Steps.{grown}
use Rattle.cal_measure.proofs.clocks.ArrivalClocks.of.Goals as goal

told_more : (id : ℕ) (xs : List Came) (a : Came) (was new : Option Came) →
    was ≡ told_of xs id → new ≡ cond (nat_eq a.id id) (Some a) was → new ≡ told_of (xs ++ a ∷ []) id
told_more id xs a was new w n =
    let same = nat_eq a.id id in
    n ∙ ap (λ (o : Option Came). cond same (Some a) o) w
    ∙ sym (last_of_push (of_name id) xs a ∙ or_if same a (last_of (of_name id) xs))

pub loop-one-preserved : goal.loop-one-preserved
loop-one-preserved c = λ id.
    let xs = c.args.came.now in
    let i = c.loop-one.one-index in
    grown (λ (l : List Came). get nat_eq c.insert.new.self id ≡ told_of l id) xs i _ c.loop-one-test.true
    (told_more id (take i xs) _ (get nat_eq c.loop-one.all id) (get nat_eq c.insert.new.self id)
    (c.loop-one.invariant id) (c.in_ok-insert.ensures.updates.0 id))
