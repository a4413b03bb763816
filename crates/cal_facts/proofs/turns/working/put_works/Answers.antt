use Rattle.cal_facts.proofs.Common.{◌≡◌, ◌≤◌, ◌<◌, ◌+◌, ◌^◌, ◌∙◌, ◌++◌, ℕ, List, Option, Some, None, length, take, slice_get, ap, sym, arith, length-take, each_of_push, each_grown, grown, all_served, first_unserved, served_in, work_in, WorkTurn}
use Rattle.cal_measure.proofs.AtMostOne.{each_few}
use Rattle.cal_measure.specs.Turns.{one_of}
use Rattle.cal_measure.specs.declared.ends.TimedTurn.{TimedTurn}
use Rattle.cal_facts.proofs.turns.working.put_works.Goals as goal

one_few : (o : Option ℕ) → length (one_of o) ≤ 1
one_few None = omega arith
one_few (Some x) = omega arith

served_few : (turns : List TimedTurn) → length (all_served turns) ≤ length turns
served_few turns = each_few served_in (λ before turn. one_few turn.served) turns

pub loop-turn-preserved : goal.loop-turn-preserved
loop-turn-preserved c =
    let xs = c.args.turns.now in
    let i = c.loop-turn.turn-index in
    let before = take i xs in
    let now = c.loop-turn.invariant in
    let requests = c.in_ok-requests.requests.items in
    let low = c.loop-turn-test.true in
    let first : c.request_at-request.result ≡ first_unserved requests before =
    c.request_at-request.ensures ∙ ap (λ (l : List ℕ). slice_get l c.loop-turn.served) c.as_slice.ensures.value ∙ ap (λ (n : ℕ). slice_get requests n) now.served in
    let few = served_few before in
    let taken = length-take i xs in
    let room : length (all_served before) + 1 < 2 ^ 64 = omega (arith, few, taken, low) in
    record {
      works = each_grown (work_in c.args.thread requests) c.args.works.now.items xs i _ c.loop-turn.works.items _ low now.works
          (c.in_ok-put_one.ensures ∙ ap (λ (l : List WorkTurn). c.loop-turn.works.items ++ l) (rw first at c.work_of.ensures));
      served = grown (λ (l : List TimedTurn). c.with_served-served.result ≡ length (all_served l)) xs i _ low
          (c.with_served-served.ensures (all_served before) room now.served ∙ ap (λ (l : List ℕ). length l) (sym (each_of_push served_in before _)));
    }
