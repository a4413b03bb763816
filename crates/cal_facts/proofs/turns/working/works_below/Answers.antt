use Rattle.cal_facts.proofs.Common.{◌++◌, ◌∙◌, ℕ, List, Option, ap, joined_more, works_by, works_of, WorkTurn}
use Rattle.cal_measure.specs.Joined.{joined_below}
use Rattle.cal_measure.specs.Work.{turns_at}
use Rattle.cal_measure.specs.declared.ends.TimedTurn.{TimedTurn}
use Rattle.cal_facts.proofs.turns.working.works_below.Goals as goal

pub loop-thread-preserved : goal.loop-thread-preserved
loop-thread-preserved c =
    let k = c.loop-thread.thread in
    let f = works_by c.args.last c.args.journals.now c.args.left.now in
    c.in_ok-put_works.ensures
    ∙ ap (λ (l : List WorkTurn). l ++ works_of k c.as_slice.result.now c.first_left-first.result) c.loop-thread.invariant
    ∙ ap (λ (l : List TimedTurn). joined_below f k ++ works_of k l c.first_left-first.result) (c.as_slice.ensures.value ∙ c.in_ok-turns.ensures)
    ∙ ap (λ (o : Option ℕ). joined_below f k ++ works_of k (turns_at c.args.last c.args.journals.now k) o) c.first_left-first.ensures
    ∙ joined_more f k
