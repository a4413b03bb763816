use Rattle.caladan_c.proofs.Common.{rules, ◌≡◌, ◌++◌, ◌∷◌, [], refl, slice_get-get_or, told_of}
use Rattle.caladan_c.proofs.NoneSuch.{none_such}
use Rattle.caladan_c.proofs.OneMore.{taken_more}
use Rattle.caladan_c.proofs.recorded.read_actions.Goals as goal

pub loop-one-preserved : goal.loop-one-preserved
loop-one-preserved c =
    let pushed : c.push.new.self.items ≡ c.loop-one.actions.items ++ c.in-Some.action ∷ [] = search rules in
    record {
      actions = taken_more told_of c.args.told.now c.loop-one.one-index _ _ _ c.in-Some.action c.loop-one-test.true c.loop-one.invariant.actions c.in-Some.ensures.some pushed;
    }

-- src/recorded.rt:149:21
pub returns-in-None-clause-none : goal.returns-in-None-clause-none
returns-in-None-clause-none c = λ _ actions e.
    none_such told_of actions c.args.told.now c.loop-one.one-index _ (slice_get-get_or c.args.told.now c.loop-one.one-index _ c.loop-one-test.true) (c.in-None.ensures.none refl) e
